use Rattle.std.specs.Prelude.{◌≡◌, drop}
use Rattle.producer.specs.Machine.{refs_of}
use Rattle.producer.proofs.rows.cite.Given as goal

abbrev pub invariant-loop-i : goal.invariant-loop-i
invariant-loop-i g l = l.refs ≡ refs_of (drop l.i l.rows)
