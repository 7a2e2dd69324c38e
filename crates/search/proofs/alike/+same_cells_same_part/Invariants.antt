-- The number of the first cell falls: twice that number, and one more for the cell itself.
use Rattle.std.proofs.Common.{◌+◌}
use Rattle.search.proofs.alike.+same_cells_same_part.Given as goal

abbrev pub decreases-same_cells : goal.decreases-same_cells
decreases-same_cells l = l.i + l.i + 1

abbrev pub decreases-same_part : goal.decreases-same_part
decreases-same_part l = l.i + l.i
