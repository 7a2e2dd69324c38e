use Rattle.std.proofs.Common.{arith, le-ltb}
use Rattle.syntax.proofs.Coded.{turn_one, turn_many, no_fault, many_sent, all_stored}
use Rattle.syntax.proofs.Runs.{passed, room}
use Rattle.syntax.proofs.codes.put_codes.Goals.{in-Some, in-None}
use Rattle.syntax.proofs.codes.put_codes.Goals as goal

pub returns-in_default : goal.returns-in_default
returns-in_default c = absurd (no_fault _ c.args.s.now _ _ _ _ c.loop-at.invariant.2 c.loop-at-test.true (le-ltb _ _ (room _ _ c.requires.few c.loop-at.invariant.0)) _ c.in_default.not-Ok c.sent_at.ensures)

pub put_checks-requires : goal.put_checks-requires
put_checks-requires c =
    let p = passed _ c.args.s.now c.loop-at.at _ c.in-Ok.ensures in
    omega (arith, p.few, p.here.inside, c.requires.few, c.loop-at.invariant.1, many_sent c.in-Ok.sent c.in-Some.checks c.in-Some.is)

pub overflow_add-i : goal.overflow_add-i
overflow_add-i c =
    let p = passed _ c.args.s.now c.loop-at.at _ c.in-Ok.ensures in
    omega (arith, p.few, p.here.inside, c.requires.few, c.calls-i.ensures, c.loop-at.invariant.1)

pub loop-at-preserved : goal.loop-at-preserved
loop-at-preserved c =
    let p = passed _ c.args.s.now c.loop-at.at _ c.in-Ok.ensures in (
      omega arith,
      omega (arith, p.few, c.calls-i.ensures, c.loop-at.invariant.1),
      elim c.match-sent.branch [
        | in-Some w ↦ rw (w.codes-is, w.put_checks.ensures, c.calls-i.ensures) (turn_many _ c.args.s.now _ _ _ _ c.in-Ok.sent w.in-Some.checks c.loop-at.invariant.2 c.loop-at-test.true c.in-Ok.ensures w.in-Some.is)
        | in-None w ↦ rw (w.codes-is, w.put.ensures, c.calls-i.ensures) (turn_one _ c.args.s.now _ _ _ _ c.in-Ok.sent c.loop-at.invariant.2 c.loop-at-test.true c.in-Ok.ensures w.in-None.is)
      ],
    )

pub returns : goal.returns
returns c = all_stored c.args.s.now _ _ _ _ c.loop-at.invariant.2 c.loop-at-test.false
