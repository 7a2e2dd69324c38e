-- The largest numbers of a call of a transform. That what a transform gives keeps below them is proved in proofs/Tops.
use Rattle.std.specs.Prelude.{ℕ, max}
use Rattle.walk.specs.Syntax.{Interval, Term}
use Rattle.walk.specs.Walk.Reference.{Op, IOp}
use Rattle.order.specs.Numbers.{interval_top, term_top}
use Rattle.order.specs.Bound.{op_cutoff, op_top, iop_cutoff, iop_top}

-- the largest number that is handed over: the place, or one of what is put in; and one of what is transformed
abbrev pub place_top : Op → ℕ
place_top op = max (op_cutoff op) (op_top op)

abbrev pub call_top : Term → Op → ℕ
call_top t op = max (place_top op) (term_top t)

abbrev pub icall_top : Interval → IOp → ℕ
icall_top r op = max (max (iop_cutoff op) (iop_top op)) (interval_top r)
