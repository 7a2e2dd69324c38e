-- Each turn of the loop is a step of the scan.
use Rattle.std.proofs.Common.{◌≡◌, ◌+◌, ◌-◌, ◌*◌, ◌≤◌, length, drop}
use Rattle.syntax.specs.Told.{term_at, next_of}
use Rattle.syntax.specs.Parts.{part}
use Rattle.syntax.proofs.Over.{over}
use Rattle.syntax.proofs.Stack.{piled}
use Rattle.syntax.proofs.lent.Lent.term.Given as goal

abbrev pub invariant-loop-height : goal.invariant-loop-height
invariant-loop-height l = (l.height ≤ 1 + 2 * l.at) × (2 * length l.s + 1 ≤ length l.stack) × (next_of (term_at l.s l.from) ≡ over (drop l.at l.s) (piled part l.stack l.height) l.at)

abbrev pub decreases-loop-height : goal.decreases-loop-height
decreases-loop-height l = length l.s - l.at
