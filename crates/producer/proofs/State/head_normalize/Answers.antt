use Rattle.producer.specs.Equality.{normal_by}
use Rattle.producer.specs.Heads.{head_normalize_body}
use Rattle.producer.proofs.At as law
use Rattle.producer.proofs.Steps.{steps, stated}
use Rattle.producer.proofs.State.head_normalize.Goals as goal

pub returns-then-left-eq0 : goal.returns-then-left-eq0
unfolding head_normalize_body normal_by steps stated
returns-then-left-eq0 c = rw (law.head_normalize_none _ _ _ _ _ _ c.if-left-eq0.true, c.refused.ensures)

pub returns-in_err-s1 : goal.returns-in_err-s1
unfolding head_normalize_body normal_by steps stated
returns-in_err-s1 c = rw (law.head_normalize_in _ _ _ _ _ _ c.if-left-eq0.false, ← c.deeper-s0.ensures, law.residual _ _ c.from_residual.ensures.1, ← c.in_err-s1.ensures)

pub returns-in_err-s2 : goal.returns-in_err-s2
unfolding head_normalize_body normal_by steps stated
returns-in_err-s2 c = rw (law.head_normalize_in _ _ _ _ _ _ c.if-left-eq0.false, ← c.deeper-s0.ensures, ← c.in_ok-s1.ensures, ← c.cite.ensures, law.residual _ _ c.from_residual-in_err-s2.ensures.1, ← c.in_err-s2.ensures)

pub returns : goal.returns
unfolding head_normalize_body normal_by steps stated
returns c = rw (law.head_normalize_in _ _ _ _ _ _ c.if-left-eq0.false, ← c.deeper-s0.ensures, ← c.in_ok-s1.ensures, ← c.cite.ensures, ← c.in_ok-s2.ensures, ← c.head_turns.ensures)
