use Rattle.std.proofs.Common.{◌≡◌, ◌-◌}
use Rattle.link.specs.Asked.{marked}
use Rattle.run.proofs.entry.mark.Given as goal

abbrev pub invariant-loop-i : goal.invariant-loop-i
invariant-loop-i l = marked (l.to - l.from) l.initial.rows l.from l.call ≡ marked (l.to - l.i) l.rows l.i l.call
