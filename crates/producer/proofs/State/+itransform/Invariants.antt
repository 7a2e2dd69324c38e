-- The nesting left falls at each function that is entered; between two entries, the second number of a member does.
use Rattle.std.proofs.Common.{◌*◌, ◌+◌}
use Rattle.producer.proofs.State.+itransform.Given as goal

abbrev pub decreases-ineg : goal.decreases-ineg
decreases-ineg l = 2 * l.left + 1

abbrev pub decreases-ipair : goal.decreases-ipair
decreases-ipair l = 2 * l.left + 1

abbrev pub decreases-itransform : goal.decreases-itransform
decreases-itransform l = 2 * l.left
