use Rattle.run.specs.Run.{turned, turned_by}
use Rattle.run.proofs.At as law
use Rattle.run.proofs.Steps.{steps}
use Rattle.run.proofs.entry.step.Goals as goal

pub returns-in-Ok : goal.returns-in-Ok
unfolding turned turned_by steps
returns-in-Ok c = rw (← c.plan_next-size.ensures, c.in-Ok.is, ← c.begin-s.ensures, ← c.low-from.ensures, ← c.low-type_at.ensures, ← c.of-head.ensures, ← c.after.ensures, ← c.call.ensures, c.answered.ensures)
    (rw (law.told_end _ _ _ _))
