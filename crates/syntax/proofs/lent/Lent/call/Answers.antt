-- The head, then the terms.
use Rattle.std.proofs.Common.{arith}
use Rattle.syntax.proofs.Terms.{inside}
use Rattle.syntax.proofs.lent.Lent.call.Goals as goal

pub overflow_add-from : goal.overflow_add-from
overflow_add-from c = omega (arith, inside c.args.self.now.bytes.now c.args.from _ c.in_ok-head.ensures)
