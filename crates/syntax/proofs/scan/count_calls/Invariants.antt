-- A turn of the loop for each call.
use Rattle.std.proofs.Common.{◌≡◌, ℕ, ◌+◌, ◌-◌, ◌≤◌, length, drop}
use Rattle.walk.specs.Reader.{read_calls}
use Rattle.syntax.specs.Told.{counted}
use Rattle.syntax.specs.declared.lent.TheConstants.{STACK}
use Rattle.syntax.proofs.scan.count_calls.Given as goal

abbrev pub invariant-loop-at : goal.invariant-loop-at
invariant-loop-at l = (l.calls ≤ l.at) × (length l.stack ≡ STACK) × ((m : ℕ) × (length l.s ≤ l.at + m) × (counted l.limit 0 (read_calls (length l.s) (length l.s) (drop 2 l.s) 2) ≡ counted l.limit l.calls (read_calls (length l.s) m (drop l.at l.s) l.at)))

abbrev pub decreases-loop-at : goal.decreases-loop-at
decreases-loop-at l = length l.s - l.at
