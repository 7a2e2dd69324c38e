use Rattle.std.proofs.Common.{◌≡◌}
use Rattle.search.specs.Indexing.{indexed}
use Rattle.search.proofs.index.index_rows.Given as goal

abbrev pub invariant-loop-i : goal.invariant-loop-i
invariant-loop-i l = l.rows ≡ indexed l.initial.rows l.i
