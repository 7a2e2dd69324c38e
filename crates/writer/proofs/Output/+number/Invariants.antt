-- The number falls at each call.
use Rattle.writer.proofs.Output.+number.Given as goal

abbrev pub decreases-number : goal.decreases-number
decreases-number l = l.n
