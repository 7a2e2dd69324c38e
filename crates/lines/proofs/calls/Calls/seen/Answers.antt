-- The call before j is such, or is not.
use Rattle.std.proofs.Common.{sym, ◌∙◌}
use Rattle.lines.specs.Counting.{seen_yes, seen_no}
use Rattle.lines.proofs.calls.Calls.seen.Goals as goal

pub returns-then-is_call : goal.returns-then-is_call
returns-then-is_call c = sym (c.loop-j.invariant ∙ seen_yes _ _ _ _ _ c.loop-j-test.true (sym c.is_call.ensures ∙ c.if-is_call.true))

pub loop-j-preserved : goal.loop-j-preserved
loop-j-preserved c = c.loop-j.invariant ∙ seen_no _ _ _ _ _ c.loop-j-test.true (sym c.is_call.ensures ∙ c.if-is_call.false)
