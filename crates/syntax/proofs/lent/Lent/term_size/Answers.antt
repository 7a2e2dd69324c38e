use Rattle.std.proofs.Common.{refl, ◌∙◌, sym, length-set, get_or-set_same, arith}
use Rattle.syntax.specs.Parts.{part}
use Rattle.syntax.proofs.Stack.{piled}
use Rattle.syntax.proofs.Measure.{tells_term}
use Rattle.syntax.proofs.Depths.{means, turn_done, turn_end, turn_index_over, turn_index, turn_over, turn_bad, turn_on}
use Rattle.syntax.proofs.lent.Lent.term_size.Goals as goal

pub loop-height-init : goal.loop-height-init
unfolding piled means part
loop-height-init c = (omega arith, simp length-set c.args.self.now.room, rw (get_or-set_same c.args.self.now.stack.now 0 c.word.result 0 (omega arith), c.word.ensures) refl)

pub returns-then-s-at : goal.returns-then-s-at
returns-then-s-at c = record { same = refl; size = tells_term c.args.self.now.bytes.now c.args.«before» c.args.from (c.loop-height.invariant.2 ∙ turn_end _ _ _ _ _ c.loop-height-test.true c.if-s-at.true) }

pub returns-then-b-gt32 : goal.returns-then-b-gt32
returns-then-b-gt32 c = record { same = refl; size = tells_term c.args.self.now.bytes.now c.args.«before» c.args.from (c.loop-height.invariant.2 ∙ turn_index_over _ _ _ _ _ c.loop-height-test.true c.if-s-at.false (sym c.of-due.ensures.0 ∙ c.in-Index.is) c.if-b-gt32.true) }

pub loop-height-preserved-in-Index : goal.loop-height-preserved-in-Index
loop-height-preserved-in-Index c = (omega arith, omega arith, c.loop-height.invariant.2 ∙ turn_index _ _ _ _ _ c.loop-height-test.true c.if-s-at.false (sym c.of-due.ensures.0 ∙ c.in-Index.is) c.if-b-gt32.false)

pub returns-then-limits : goal.returns-then-limits
returns-then-limits c = record { same = refl; size = tells_term c.args.self.now.bytes.now c.args.«before» c.args.from (c.loop-height.invariant.2 ∙ turn_over _ _ _ _ _ c.loop-height-test.true c.if-s-at.false (λ e. c.in_default.not-Index (c.of-due.ensures.0 ∙ e)) (rw c.of-due.ensures.1 at (sym c.if-limits.ensures))) }

pub returns-in_default-after : goal.returns-in_default-after
returns-in_default-after c = record { same = refl; size = tells_term c.args.self.now.bytes.now c.args.«before» c.args.from (c.loop-height.invariant.2 ∙ turn_bad _ _ _ _ _ c.loop-height-test.true c.if-s-at.false (λ e. c.in_default.not-Index (c.of-due.ensures.0 ∙ e)) (rw c.of-due.ensures.1 at (sym c.if-limits.ensures)) (rw c.of-due.ensures.0 at c.in_default-after.ensures)) }

pub loop-height-preserved : goal.loop-height-preserved
loop-height-preserved c =
    let e = c.in-Some.ensures in
    (omega (arith, c.push-height.ensures.0, e.1), omega arith, rw (c.push-height.ensures.0, c.push-height.ensures.1, c.of-due.ensures.1) (c.loop-height.invariant.2 ∙ turn_on _ _ _ _ _ c.loop-height-test.true c.if-s-at.false (λ e. c.in_default.not-Index (c.of-due.ensures.0 ∙ e)) (rw c.of-due.ensures.1 at (sym c.if-limits.ensures)) _ (rw c.of-due.ensures.0 at e.0) (omega (arith, e.1))))

pub returns : goal.returns
returns c = record { same = refl; size = tells_term c.args.self.now.bytes.now c.args.«before» c.args.from (c.loop-height.invariant.2 ∙ turn_done _ _ _ _ _ c.loop-height-test.false) }
