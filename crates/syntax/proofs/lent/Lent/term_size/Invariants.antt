-- Each turn of the loop is a step of the measure.
use Rattle.std.proofs.Common.{◌≡◌, ◌+◌, ◌-◌, ◌*◌, ◌≤◌, [], ◌∷◌, length, drop}
use Rattle.syntax.specs.Parts.{term}
use Rattle.syntax.proofs.Stack.{piled}
use Rattle.syntax.proofs.Measure.{deep, measure}
use Rattle.syntax.proofs.Depths.{means}
use Rattle.syntax.proofs.lent.Lent.term_size.Given as goal

abbrev pub invariant-loop-height : goal.invariant-loop-height
invariant-loop-height l = (l.height ≤ 1 + 2 * l.at) × (2 * length l.s + 1 ≤ length l.stack) × (measure (drop l.from l.s) (deep term 0 ∷ []) l.«before» l.from ≡ measure (drop l.at l.s) (piled means l.stack l.height) l.nodes l.at)

abbrev pub decreases-loop-height : goal.decreases-loop-height
decreases-loop-height l = length l.s - l.at
