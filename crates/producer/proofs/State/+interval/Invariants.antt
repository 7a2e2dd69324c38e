-- The nesting left falls at each function that is entered; between two entries, the second number of a member does.
use Rattle.std.proofs.Common.{◌*◌, ◌+◌}
use Rattle.producer.proofs.State.+interval.Given as goal

abbrev pub decreases-interval : goal.decreases-interval
decreases-interval l = 2 * l.left

abbrev pub decreases-interval_parts : goal.decreases-interval_parts
decreases-interval_parts l = 2 * l.left + 1
