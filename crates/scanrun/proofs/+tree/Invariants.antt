-- The depth falls.
use Rattle.scanrun.proofs.+tree.Given as goal

abbrev pub decreases-tree : goal.decreases-tree
decreases-tree l = l.depth
