use Rattle.run.proofs.At as law
use Rattle.run.proofs.entry.mark.Goals as goal

pub loop-i-preserved : goal.loop-i-preserved
loop-i-preserved c = rw (c.loop-i.invariant, law.marked_next _ _ _ _ c.loop-i-test.true, ← c.put.ensures)

pub returns : goal.returns
returns c = rw (c.loop-i.invariant, law.marked_none _ _ _ _ c.loop-i-test.false)
