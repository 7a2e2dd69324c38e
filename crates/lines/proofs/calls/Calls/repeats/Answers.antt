-- A call more is counted, where it repeats one.
use Rattle.std.proofs.Common.{zero-add, ◌∙◌, sym, arith}
use Rattle.lines.specs.Counting.{counted_turn, counted_start}
use Rattle.lines.proofs.calls.Calls.repeats.Goals.{then-is_repeat, else-is_repeat}
use Rattle.lines.proofs.calls.Calls.repeats.Goals as goal

pub loop-i-init : goal.loop-i-init
loop-i-init c = (omega arith, zero-add _ ∙ counted_start _ _ _)

pub loop-i-preserved : goal.loop-i-preserved
loop-i-preserved c =
    let codes = c.args.self.now.codes.now in
    let answers = c.args.self.now.answers.now in
    elim c.if-is_repeat.branch [
      | then-is_repeat w ↦ (omega (arith, w.n-is), omega (arith, w.n-is, rw (sym c.is_repeat.ensures ∙ w.if-is_repeat.true) at (counted_turn codes answers c.args.calls c.loop-i.i c.loop-i-test.true)))
      | else-is_repeat w ↦ (omega (arith, w.n-is), omega (arith, w.n-is, rw (sym c.is_repeat.ensures ∙ w.if-is_repeat.false) at (counted_turn codes answers c.args.calls c.loop-i.i c.loop-i-test.true)))
    ]
