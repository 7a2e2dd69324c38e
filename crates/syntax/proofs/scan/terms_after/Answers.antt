-- Few terms follow any code, so the sum fits.
use Rattle.std.proofs.Common.{arith}
use Rattle.std.proofs.Math.Option.{some}
use Rattle.syntax.specs.Told.{code_of, terms_in}
use Rattle.syntax.specs.Heads.{few_terms}
use Rattle.syntax.proofs.scan.terms_after.Goals as goal

pub overflow_add-result : goal.overflow_add-result
unfolding terms_in
overflow_add-result c = omega (arith, few_terms (some (code_of c.args.head.code)))
