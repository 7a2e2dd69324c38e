use Rattle.std.proofs.Common.{◌≡◌, ◌+◌, drop}
use Rattle.std.proofs.lemmas.List.Edits.{sets}
use Rattle.ast.proofs.words.put_all.Given as goal

abbrev pub invariant-loop-k : goal.invariant-loop-k
invariant-loop-k l = sets l.fn.words l.fn.i l.fn.values ≡ sets l.words (l.i + l.k) (drop l.k l.fn.values)
