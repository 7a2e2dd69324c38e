use Rattle.std.proofs.Common.{◌∙◌, sym, arith}
use Rattle.std.proofs.lemmas.Result.{err_from_is_err_and}
use Rattle.syntax.proofs.Terms.{terms_on, terms_stop}
use Rattle.syntax.proofs.lent.Lent.terms.Goals as goal

pub returns-in_err-at-clause-value : goal.returns-in_err-at-clause-value
returns-in_err-at-clause-value c =
    let p = err_from_is_err_and c.from_residual.result c.from_residual.ensures.1 in
    rw (p.1, p.2) (terms_stop c.args.self.now.bytes.now _ c.loop.at _ (omega arith) (rw c.loop.invariant.0 at c.in_err-at.ensures.value) ∙ sym c.loop.invariant.1)

pub loop-preserved : goal.loop-preserved
loop-preserved c = (c.term.ensures.same ∙ c.loop.invariant.0, c.loop.invariant.1 ∙ terms_on c.args.self.now.bytes.now _ c.loop.counter _ _ c.loop-test.true (rw c.loop.invariant.0 at c.in_ok-at.ensures.value))
