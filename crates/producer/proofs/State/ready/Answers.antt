use Rattle.producer.proofs.At as law
use Rattle.producer.proofs.Steps.{steps}
use Rattle.producer.proofs.State.ready.Goals as goal

pub returns-then-left-eq0 : goal.returns-then-left-eq0
unfolding steps
returns-then-left-eq0 c = rw (law.ready_none _ _ c.if-left-eq0.true, c.refused.ensures)

pub returns : goal.returns
unfolding steps
returns c = rw (law.ready_in _ _ c.if-left-eq0.false, ← c.deeper.ensures)
