-- The nesting left falls.
use Rattle.producer.proofs.State.+dshiftctx.Given as goal

abbrev pub decreases-dshiftctx : goal.decreases-dshiftctx
decreases-dshiftctx l = l.left
