-- The nesting left falls at each step; within one, the second number of a member does.
use Rattle.std.proofs.Common.{◌*◌, ◌+◌}
use Rattle.producer.proofs.State.+heads.Given as goal

abbrev pub decreases-app_cong : goal.decreases-app_cong
decreases-app_cong l = 4 * l.left + 2

abbrev pub decreases-at_head : goal.decreases-at_head
decreases-at_head l = 4 * l.left + 3

abbrev pub decreases-head_goes : goal.decreases-head_goes
decreases-head_goes l = 4 * l.left + 1

abbrev pub decreases-head_step : goal.decreases-head_step
decreases-head_step l = 4 * l.left

abbrev pub decreases-papp_cong : goal.decreases-papp_cong
decreases-papp_cong l = 4 * l.left + 2
