use Rattle.std.proofs.Common.{arith}
use Rattle.producer.proofs.At as law
use Rattle.producer.proofs.Steps.{steps, stated}
use Rattle.producer.proofs.State.head_turns.Goals as goal

pub returns-in_err-s1 : goal.returns-in_err-s1
unfolding steps stated
returns-in_err-s1 c = rw (c.loop.invariant.1, law.rounds_turn _ _ _ _ _ _ _ _ _ _ c.loop-test.true, law.residual _ _ c.from_residual.ensures.1, ← c.in_err-s1.ensures)

pub returns-in_default : goal.returns-in_default
unfolding steps stated
returns-in_default c = rw (c.loop.invariant.1, law.rounds_turn _ _ _ _ _ _ _ _ _ _ c.loop-test.true, ← c.in_ok-s1.ensures, c.in_default.is)

pub loop-preserved : goal.loop-preserved
unfolding steps stated
loop-preserved c = (omega arith, rw (c.loop.invariant.1, law.rounds_turn _ _ _ _ _ _ _ _ _ _ c.loop-test.true, ← c.in_ok-s1.ensures, c.in-Some.is))

pub returns-in_err-s1-2 : goal.returns-in_err-s1-2
unfolding steps stated
returns-in_err-s1-2 c = rw (c.loop.invariant.1, law.rounds_over _ _ _ _ _ _ _ _ _ _ c.loop-test.false, law.residual _ _ c.from_residual-in_err-s1-2.ensures.1, ← c.in_err-s1-2.ensures)

pub returns-in-Some-further : goal.returns-in-Some-further
unfolding steps stated
returns-in-Some-further c = rw (c.loop.invariant.1, law.rounds_over _ _ _ _ _ _ _ _ _ _ c.loop-test.false, ← c.in_ok-s1-2.ensures, c.in-Some-further.is, c.refused.ensures)

pub returns-in-None : goal.returns-in-None
unfolding steps stated
returns-in-None c = rw (c.loop.invariant.1, law.rounds_over _ _ _ _ _ _ _ _ _ _ c.loop-test.false, ← c.in_ok-s1-2.ensures, c.in-None.is)
