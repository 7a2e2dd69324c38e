-- A turn of the loop for what is sent with each code.
use Rattle.std.proofs.Common.{◌≡◌, ◌-◌, ◌≤◌, length}
use Rattle.std.proofs.lemmas.List.Edits.{sets}
use Rattle.syntax.specs.Codes.{call_codes}
use Rattle.syntax.proofs.Coded.{Left}
use Rattle.syntax.specs.declared.lent.TheConstants.{STACK}
use Rattle.syntax.proofs.codes.put_codes.Given as goal

abbrev pub invariant-loop-at : goal.invariant-loop-at
invariant-loop-at l = (length l.stack ≡ STACK) × (l.i ≤ l.at) × Left l.s (sets l.fn.codes 0 (call_codes l.s)) l.codes l.at l.i

abbrev pub decreases-loop-at : goal.decreases-loop-at
decreases-loop-at l = length l.s - l.at
