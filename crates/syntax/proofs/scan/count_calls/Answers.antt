use Rattle.std.proofs.Common.{refl, ◌∙◌, ℕ, length, arith}
use Rattle.std.proofs.lemmas.List.{length-replicate}
use Rattle.syntax.specs.declared.lent.TheConstants.{STACK}
use Rattle.syntax.proofs.Runs.{passed, calls_on}
use Rattle.syntax.proofs.scan.count_calls.Goals as goal

pub loop-at-init : goal.loop-at-init
loop-at-init c = (omega arith, length-replicate {A = ℕ} STACK 0, (length c.args.s.now, omega arith, refl))

pub overflow_add-calls : goal.overflow_add-calls
overflow_add-calls c =
    let p = passed _ c.args.s.now c.loop-at.at _ c.in_ok-sent.ensures in
    omega (arith, p.few, p.here.inside, c.requires, c.calls-calls.ensures, c.loop-at.invariant.0)

pub loop-at-preserved : goal.loop-at-preserved
loop-at-preserved c =
    let p = passed _ c.args.s.now c.loop-at.at _ c.in_ok-sent.ensures in
    let on = calls_on c.args.s.now c.args.limit c.loop-at.invariant.2.0 c.loop-at.calls c.loop-at.at c.in_ok-sent.sent c.loop-at-test.true c.loop-at.invariant.2.1 p in
    (omega (arith, p.few, c.calls-calls.ensures), omega arith, (on.0, on.1, rw c.calls-calls.ensures (c.loop-at.invariant.2.2 ∙ on.2)))
