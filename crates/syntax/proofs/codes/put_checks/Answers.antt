use Rattle.std.proofs.Common.{◌∙◌}
use Rattle.syntax.proofs.Coded.{check_turn}
use Rattle.syntax.proofs.codes.put_checks.Goals as goal

pub loop-i-preserved : goal.loop-i-preserved
loop-i-preserved c = rw (c.put.ensures, c.number.ensures) (c.loop-i.invariant ∙ check_turn _ c.args.from c.loop-i.i c.args.count _ c.loop-i-test.true)
