-- Its nodes are counted on, and where it is refused its end is found.
use Rattle.std.proofs.lemmas.Result.{err_from_is_err_and}
use Rattle.syntax.specs.Told.{term_at}
use Rattle.syntax.proofs.Drafts.{type_fits, type_bad, type_refused, type_unread}
use Rattle.syntax.proofs.lent.Lent.type_fitting.Goals as goal

pub returns-in-Ok : goal.returns-in-Ok
returns-in-Ok c = type_fits c.args.head c.args.nodes _ _ _ c.in-Ok.ensures.size

pub returns-in-Err-Bad : goal.returns-in-Err-Bad
returns-in-Err-Bad c = rw c.in-Err-Bad.place-is (type_bad c.args.head c.args.nodes (term_at c.args.self.now.bytes.now c.args.ty) _ (rw c.in-Err-Bad.field-0-is at c.in-Err-Bad.ensures.size))

pub returns-in_ok-next-in-Err-Refused : goal.returns-in_ok-next-in-Err-Refused
returns-in_ok-next-in-Err-Refused c = rw c.in-Err-Refused.refusal-is (type_refused c.args.head c.args.nodes (term_at c.args.self.now.bytes.now c.args.ty) _ (rw c.in-Err-Refused.field-0-is at c.in-Err-Refused.ensures.size) _ (rw c.term_size.ensures.same at c.in_ok-next-in-Err-Refused.ensures.value))

pub returns-in_err-next-in-Err-Refused : goal.returns-in_err-next-in-Err-Refused
returns-in_err-next-in-Err-Refused c =
    let p = err_from_is_err_and c.from_residual.result c.from_residual.ensures.1 in
    rw (p.1, p.2) (type_unread c.args.head c.args.nodes (term_at c.args.self.now.bytes.now c.args.ty) _ (rw c.in-Err-Refused.field-0-is at c.in-Err-Refused.ensures.size) _ (rw c.term_size.ensures.same at c.in_err-next-in-Err-Refused.ensures.value))
