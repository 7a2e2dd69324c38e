use Rattle.std.proofs.Common.{refl, [], ◌∷◌, arith}
use Rattle.syntax.proofs.Stack.{all_left, one_less, none_left}
use Rattle.syntax.proofs.parts.push.Goals as goal

pub loop-part-init : goal.loop-part-init
loop-part-init c = ([], rw (c.into_iter-part-iterator.ensures.into_iter_gives, c.rev-part-items.ensures.source, c.iter.ensures.rest) (all_left c.args.parts.now), omega arith, refl)

pub bounds-stack-height : goal.bounds-stack-height
bounds-stack-height c =
    let i = c.loop-part.invariant in
    let l = one_less c.args.parts.now c.loop-part.part-iterator.iter.rest.now c.next.new.self.iter.rest.now i.0 c.in-Some.part.now i.1 c.in-Some.ensures.steps in
    omega (arith, l.1, i.2, c.loop-part.auto.stack, c.requires.0)

pub overflow_add-height : goal.overflow_add-height
overflow_add-height c =
    let i = c.loop-part.invariant in
    let l = one_less c.args.parts.now c.loop-part.part-iterator.iter.rest.now c.next.new.self.iter.rest.now i.0 c.in-Some.part.now i.1 c.in-Some.ensures.steps in
    omega (arith, l.1, i.2, c.loop-part.auto.stack, c.requires.0)

pub loop-part-preserved : goal.loop-part-preserved
loop-part-preserved c =
    let i = c.loop-part.invariant in
    let l = one_less c.args.parts.now c.loop-part.part-iterator.iter.rest.now c.next.new.self.iter.rest.now i.0 c.in-Some.part.now i.1 c.in-Some.ensures.steps in
    (c.in-Some.part.now ∷ i.0, l.0, omega (arith, i.2), rw (c.word.ensures, i.3, i.2) refl)

pub returns : goal.returns
returns c =
    let i = c.loop-part.invariant in
    let e = none_left c.args.parts.now c.loop-part.part-iterator.iter.rest.now i.0 i.1 c.in-None.ensures.steps.0 in
    rw e (i.2, i.3)
