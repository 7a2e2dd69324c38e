use Rattle.std.proofs.Common.{refl, ◌∙◌, sym, length-set, length-drop, get_or-set_same, arith}
use Rattle.syntax.specs.Parts.{term}
use Rattle.syntax.specs.Told.{next_of}
use Rattle.syntax.proofs.Over.{over_term}
use Rattle.syntax.proofs.Stack.{piled, part_word, turn_done, turn_end, turn_bad, turn}
use Rattle.syntax.proofs.lent.Lent.term.Goals as goal

pub loop-height-init : goal.loop-height-init
unfolding piled
loop-height-init c = (omega arith, simp length-set c.args.self.now.room, rw (get_or-set_same c.args.self.now.stack.now 0 c.word.result 0 (omega arith), c.word.ensures, part_word term) (sym (over_term _ _ _ (simp length-drop (omega arith)))))

pub returns-then-s-at : goal.returns-then-s-at
unfolding next_of
returns-then-s-at c = record { same = refl; value = rw (c.loop-height.invariant.2, turn_end _ _ _ _ c.loop-height-test.true c.if-s-at.true) }

pub returns-in_default : goal.returns-in_default
unfolding next_of
returns-in_default c = record { same = refl; value = rw (c.loop-height.invariant.2, turn_bad _ _ _ _ c.loop-height-test.true c.if-s-at.false (rw c.of-due.ensures at c.in_default.ensures)) }

pub loop-height-preserved : goal.loop-height-preserved
loop-height-preserved c =
    let e = c.in-Some.ensures in
    (omega (arith, c.push-height.ensures.0, e.1), omega arith, rw (c.push-height.ensures.0, c.push-height.ensures.1) (c.loop-height.invariant.2 ∙ turn _ _ _ _ c.loop-height-test.true c.if-s-at.false _ (rw c.of-due.ensures at e.0) (omega (arith, e.1))))

pub returns : goal.returns
unfolding next_of
returns c = record { same = refl; value = rw (c.loop-height.invariant.2, turn_done _ _ _ _ c.loop-height-test.false) }
