use Rattle.run.proofs.At as law
use Rattle.run.proofs.entry.play.Goals as goal

pub loop-i-preserved : goal.loop-i-preserved
loop-i-preserved c =
    rw (c.loop-i.invariant, law.played_next _ _ _ _ _ _ _ _ _ c.ranges.calls.fits c.loop-i.auto.stack c.step-turn.ensures c.loop-i-test.true, ← c.put_answer.ensures, ← c.mark.ensures)
