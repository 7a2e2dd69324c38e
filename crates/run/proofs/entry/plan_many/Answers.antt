use Rattle.run.specs.Run.{planned_many, planned_by, planned_checks}
use Rattle.run.proofs.entry.plan_many.Goals as goal

pub returns-in-Some : goal.returns-in-Some
unfolding planned_many planned_by planned_checks
returns-in-Some c = rw (c.plan_type.ensures, c.sent_at.auto.stack, ← c.sent_at.ensures, c.in-Ok.is, c.in-Some.is)

pub returns-in-None : goal.returns-in-None
unfolding planned_many planned_by planned_checks
returns-in-None c = rw (c.alone.ensures, ← c.sent_at.ensures, c.in-Ok.is, c.in-None.is)
