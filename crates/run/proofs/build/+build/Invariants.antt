-- The depth left falls at each cell that is entered.
use Rattle.std.proofs.Common.{◌*◌, ◌+◌}
use Rattle.run.proofs.build.+build.Given as goal

abbrev pub decreases-build : goal.decreases-build
decreases-build l = 2 * l.left

abbrev pub decreases-one : goal.decreases-one
decreases-one l = 2 * l.left + 1

abbrev pub decreases-two : goal.decreases-two
decreases-two l = 2 * l.left + 1

abbrev pub decreases-three : goal.decreases-three
decreases-three l = 2 * l.left + 1
