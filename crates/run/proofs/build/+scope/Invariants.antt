-- The types that are left fall.
use Rattle.run.proofs.build.+scope.Given as goal

abbrev pub decreases-scope : goal.decreases-scope
decreases-scope l = l.left
