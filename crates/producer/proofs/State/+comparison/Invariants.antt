-- The nesting left falls.
use Rattle.producer.proofs.State.+comparison.Given as goal

abbrev pub decreases-comparison : goal.decreases-comparison
decreases-comparison l = l.left
