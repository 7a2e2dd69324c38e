-- The nesting left falls at each function that is entered; between two entries, the second number of a member does.
use Rattle.std.proofs.Common.{◌*◌, ◌+◌}
use Rattle.producer.proofs.State.+transform.Given as goal

abbrev pub decreases-compound : goal.decreases-compound
decreases-compound l = 3 * l.left + 2

abbrev pub decreases-tapp : goal.decreases-tapp
decreases-tapp l = 3 * l.left + 1

abbrev pub decreases-tbinder : goal.decreases-tbinder
decreases-tbinder l = 3 * l.left + 1

abbrev pub decreases-tlam : goal.decreases-tlam
decreases-tlam l = 3 * l.left + 1

abbrev pub decreases-tpair : goal.decreases-tpair
decreases-tpair l = 3 * l.left + 1

abbrev pub decreases-tpapp : goal.decreases-tpapp
decreases-tpapp l = 3 * l.left + 1

abbrev pub decreases-tpath : goal.decreases-tpath
decreases-tpath l = 3 * l.left + 1

abbrev pub decreases-tplam : goal.decreases-tplam
decreases-tplam l = 3 * l.left + 1

abbrev pub decreases-tproject : goal.decreases-tproject
decreases-tproject l = 3 * l.left + 1

abbrev pub decreases-transform : goal.decreases-transform
decreases-transform l = 3 * l.left

abbrev pub decreases-under : goal.decreases-under
decreases-under l = 3 * l.left

abbrev pub decreases-under_subst : goal.decreases-under_subst
decreases-under_subst l = 3 * l.left + 1
