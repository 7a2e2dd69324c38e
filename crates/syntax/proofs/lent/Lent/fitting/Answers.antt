-- Its limits are counted, and where one is passed its end is found.
use Rattle.std.proofs.Common.{◌∙◌}
use Rattle.std.proofs.lemmas.Result.{err_from_is_err_and}
use Rattle.syntax.specs.Told.{call_at}
use Rattle.syntax.proofs.Counts.{size_fits, size_refused, size_unread}
use Rattle.syntax.proofs.lent.Lent.fitting.Goals as goal

pub returns-in-Ok : goal.returns-in-Ok
returns-in-Ok c = record { same = c.call_size.ensures.same; value = size_fits c.args.self.now.bytes.now c.args.from _ c.in_ok-head.ensures _ _ c.in-Ok.ensures.size }

pub returns-in_ok-next-in-Err-Refused : goal.returns-in_ok-next-in-Err-Refused
returns-in_ok-next-in-Err-Refused c = record { same = c.call.ensures.same ∙ c.call_size.ensures.same; value = rw c.in-Err-Refused.refusal-is (size_refused (call_at c.args.self.now.bytes.now c.args.from) _ (rw c.in-Err-Refused.field-0-is at c.in-Err-Refused.ensures.size) _ (rw c.call_size.ensures.same at c.in_ok-next-in-Err-Refused.ensures.value)) }

pub returns-in_err-next-in-Err-Refused : goal.returns-in_err-next-in-Err-Refused
returns-in_err-next-in-Err-Refused c =
    let p = err_from_is_err_and c.from_residual-in_err-next-in-Err-Refused.result c.from_residual-in_err-next-in-Err-Refused.ensures.1 in
    record { same = c.call.ensures.same ∙ c.call_size.ensures.same; value = rw (p.1, p.2) (size_unread (call_at c.args.self.now.bytes.now c.args.from) _ (rw c.in-Err-Refused.field-0-is at c.in-Err-Refused.ensures.size) _ (rw c.call_size.ensures.same at c.in_err-next-in-Err-Refused.ensures.value)) }
