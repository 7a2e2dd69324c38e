-- The nesting left falls.
use Rattle.producer.proofs.State.+lookup.Given as goal

abbrev pub decreases-lookup : goal.decreases-lookup
decreases-lookup l = l.left
