-- The nesting left falls.
use Rattle.producer.proofs.State.+max.Given as goal

abbrev pub decreases-max : goal.decreases-max
decreases-max l = l.left
