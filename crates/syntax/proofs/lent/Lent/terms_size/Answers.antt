use Rattle.std.proofs.Common.{◌∙◌, arith}
use Rattle.std.proofs.lemmas.Result.{err_from_is_err_and}
use Rattle.syntax.proofs.Counts.{terms_on, terms_stop, terms_done}
use Rattle.syntax.proofs.lent.Lent.terms_size.Goals as goal

pub returns-in_err-counted-clause-size : goal.returns-in_err-counted-clause-size
returns-in_err-counted-clause-size c =
    let p = err_from_is_err_and c.from_residual.result c.from_residual.ensures.1 in
    rw (p.1, p.2) (c.loop.invariant.1 _ (terms_stop c.args.self.now.bytes.now _ _ _ _ (omega arith) (rw c.loop.invariant.0 at c.in_err-counted.ensures.size)))

pub loop-preserved : goal.loop-preserved
loop-preserved c = (c.term_size.ensures.same ∙ c.loop.invariant.0, λ r d. c.loop.invariant.1 r (terms_on c.args.self.now.bytes.now _ c.loop.counter _ _ _ r c.loop-test.true (rw c.loop.invariant.0 at c.in_ok-counted.ensures.size) d))

pub returns-clause-size : goal.returns-clause-size
returns-clause-size c = c.loop.invariant.1 _ (terms_done c.args.self.now.bytes.now _ _ _ (omega arith))
