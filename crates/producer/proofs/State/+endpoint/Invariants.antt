-- The nesting left falls at each function that is entered; between two entries, the second number of a member does.
use Rattle.std.proofs.Common.{◌*◌, ◌+◌}
use Rattle.producer.proofs.State.+endpoint.Given as goal

abbrev pub decreases-endpoint : goal.decreases-endpoint
decreases-endpoint l = 4 * l.left

abbrev pub decreases-right_part : goal.decreases-right_part
decreases-right_part l = 4 * l.left + 1

abbrev pub decreases-two_parts : goal.decreases-two_parts
decreases-two_parts l = 4 * l.left + 2
