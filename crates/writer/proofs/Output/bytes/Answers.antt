-- Each turn puts the byte at the index, and after the last one nothing is left.
use Rattle.std.proofs.Common.{sym, ◌∙◌}
use Rattle.writer.proofs.Laws.{written_next, written_past}
use Rattle.writer.proofs.Output.bytes.Goals as goal

pub loop-b-preserved : goal.loop-b-preserved
loop-b-preserved c = rw c.put.ensures (written_next c.args.s.now c.loop-b.b-index c.loop-b.self c.loop-b-test.true) ∙ c.loop-b.invariant

pub returns : goal.returns
returns c = sym (written_past c.args.s.now c.loop-b.b-index c.loop-b.self c.loop-b-test.false) ∙ c.loop-b.invariant
