-- How large the numbers get: what moves under a binder has none more than one above what it had.
use Rattle.std.specs.Prelude.{ℕ, suc, ◌≤◌, Bool, true, false}
use Rattle.std.proofs.Common.{arith}
use Rattle.walk.specs.Syntax.{Interval, I0, I1, Dim, Neg, Meet, Join, Term, Universe, Var, Nat, Zero, Pi, Lam, App, Path, PathLam, PathApp, Sigma, Pair, Fst, Snd}
use Rattle.walk.specs.Walk.Reference.{Op, Shift, Subst, DShift, DSubst, IShift}
use Rattle.order.specs.Numbers.{interval_top, term_top}
use Rattle.laws.proofs.Indices.{up_low}
use Rattle.laws.specs.Transforms.{itransform, at_var, at_interval, under_with, transform_with, lifted, under}
use Rattle.laws.specs.Squares.{Shifts, vars, dims}
use Rattle.laws.proofs.Squares.{shifts_under}
use Rattle.laws.specs.Tops.{place_top}

ishift_top : (k : ℕ) (r : Interval) → interval_top (itransform (IShift k) r) ≤ suc (interval_top r)
unfolding itransform
-- written by tools/written.py: an interval
ishift_top k I0 = omega arith
ishift_top k I1 = omega arith
ishift_top k (Dim n) = up_low k n
ishift_top k (Neg a) = let x = ishift_top k a in omega arith
ishift_top k (Meet a b) = let x = ishift_top k a in let y = ishift_top k b in omega arith
ishift_top k (Join a b) = let x = ishift_top k a in let y = ishift_top k b in omega arith

-- end of an interval

-- of a variable, and of the interval of a papp
var_shift_top : {op : Op} → Shifts op → (n : ℕ) → term_top (at_var op n) ≤ suc n
var_shift_top (vars {k = k}) n = up_low k n
var_shift_top dims n = omega arith

interval_shift_top : {op : Op} → Shifts op → (r : Interval) → interval_top (at_interval op r) ≤ suc (interval_top r)
interval_shift_top vars r = omega arith
interval_shift_top (dims {k = k}) r = ishift_top k r

module _ (f : Bool → Term → Term) where
  shift_top : {op : Op} → Shifts op → (t : Term) → term_top (transform_with f op t) ≤ suc (term_top t)
  unfolding transform_with
  -- written by tools/written.py: a term
  shift_top h (Universe n) = omega arith
  shift_top h (Var n) = var_shift_top h n
  shift_top h Nat = omega arith
  shift_top h Zero = omega arith
  shift_top {op = op} h (Pi a b) = let x = shift_top h a in let y = shift_top {op = under_with f op false} (shifts_under f h false) b in omega arith
  shift_top {op = op} h (Lam a b) = let x = shift_top h a in let y = shift_top {op = under_with f op false} (shifts_under f h false) b in omega arith
  shift_top h (App a b) = let x = shift_top h a in let y = shift_top h b in omega arith
  shift_top {op = op} h (Path a b c) = let x = shift_top {op = under_with f op true} (shifts_under f h true) a in let y = shift_top h b in let z = shift_top h c in omega arith
  shift_top {op = op} h (PathLam a b) = let x = shift_top {op = under_with f op true} (shifts_under f h true) a in let y = shift_top {op = under_with f op true} (shifts_under f h true) b in omega arith
  shift_top h (PathApp a b) = let x = shift_top h a in let y = interval_shift_top h b in omega arith
  shift_top {op = op} h (Sigma a b) = let x = shift_top h a in let y = shift_top {op = under_with f op false} (shifts_under f h false) b in omega arith
  shift_top h (Pair a b c) = let x = shift_top h a in let y = shift_top h b in let z = shift_top h c in omega arith
  shift_top h (Fst a) = let x = shift_top h a in omega arith
  shift_top h (Snd a) = let x = shift_top h a in omega arith
  -- end of a term

lifted_top : (d : Bool) (t : Term) → term_top (lifted d t) ≤ suc (term_top t)
unfolding lifted
lifted_top false t = shift_top _ vars t
lifted_top true t = shift_top _ dims t

pub under_top : (op : Op) (d : Bool) → place_top (under op d) ≤ suc (place_top op)
under_top (Shift k) false = omega arith
under_top (Shift k) true = omega arith
under_top (Subst k a) false = let x = lifted_top false a in omega arith
under_top (Subst k a) true = let x = lifted_top true a in omega arith
under_top (DShift k) false = omega arith
under_top (DShift k) true = omega arith
under_top (DSubst k s) false = omega arith
under_top (DSubst k s) true = let x = ishift_top 0 s in omega arith
