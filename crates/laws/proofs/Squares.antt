-- Two transforms, one after the other: that they undo each other, or may change places, is to be seen at variables, at intervals
-- and under binders. Here is the way through the kinds of terms, once for all laws.
use Rattle.std.specs.Prelude.{ℕ, suc, ◌≡◌, Bool, false}
use Rattle.std.proofs.Math.Path.{refl}
use Rattle.std.proofs.Common.{ap}
use Rattle.std.proofs.Math.Bool.{true}
use Rattle.walk.specs.Syntax.{Interval, I0, I1, Dim, Neg, Meet, Join, Term, Universe, Var, Nat, Zero, Pi, Lam, App, Path, PathLam, PathApp, Sigma, Pair, Fst, Snd}
use Rattle.walk.specs.Walk.Reference.{Op, Shift, Subst, DShift, IOp}
use Rattle.laws.specs.Transforms.{itransform, at_dim, under_with, transform_with, lifted, transform, under}
use Rattle.laws.specs.Squares.{Cancels, Commutes, Shifts, vars, dims, lift}

-- of an interval

module _ (p q : IOp) (dim : (n : ℕ) → itransform q (at_dim p n) ≡ Dim n) where
  pub icancel : (r : Interval) → itransform q (itransform p r) ≡ r
  unfolding itransform
  -- written by tools/written.py: cancel, an interval
  icancel I0 = refl
  icancel I1 = refl
  icancel (Dim n) = dim n
  icancel (Neg a) = cc (icancel a)
  icancel (Meet a b) = cc (icancel a, icancel b)
  icancel (Join a b) = cc (icancel a, icancel b)
  -- end of cancel, an interval

module _ (p q p' q' : IOp) (dim : (n : ℕ) → itransform q (at_dim p n) ≡ itransform q' (at_dim p' n)) where
  pub icommute : (r : Interval) → itransform q (itransform p r) ≡ itransform q' (itransform p' r)
  unfolding itransform
  -- written by tools/written.py: commute, an interval
  icommute I0 = refl
  icommute I1 = refl
  icommute (Dim n) = dim n
  icommute (Neg a) = cc (icommute a)
  icommute (Meet a b) = cc (icommute a, icommute b)
  icommute (Join a b) = cc (icommute a, icommute b)
  -- end of commute, an interval

module _ {R : Op → Op → Type 0} (C : Cancels R) where
  pub cancel : {p q : Op} → R p q → (t : Term) → transform q (transform p t) ≡ t
  unfolding transform_with
  -- written by tools/written.py: cancel, a term
  cancel h (Universe n) = refl
  cancel h (Var n) = C.var h n
  cancel h Nat = refl
  cancel h Zero = refl
  cancel {p = p} h (Pi a b) = cc (cancel h a, cancel {p = under p false} (C.binder h false) b)
  cancel {p = p} h (Lam a b) = cc (cancel h a, cancel {p = under p false} (C.binder h false) b)
  cancel h (App a b) = cc (cancel h a, cancel h b)
  cancel {p = p} h (Path a b c) = cc (cancel {p = under p true} (C.binder h true) a, cancel h b, cancel h c)
  cancel {p = p} h (PathLam a b) = cc (cancel {p = under p true} (C.binder h true) a, cancel {p = under p true} (C.binder h true) b)
  cancel h (PathApp a b) = cc (cancel h a, C.interval h b)
  cancel {p = p} h (Sigma a b) = cc (cancel h a, cancel {p = under p false} (C.binder h false) b)
  cancel h (Pair a b c) = cc (cancel h a, cancel h b, cancel h c)
  cancel h (Fst a) = cc (cancel h a)
  cancel h (Snd a) = cc (cancel h a)
  -- end of cancel, a term

module _ {R : Op → Op → Op → Op → Type 0} (C : Commutes R) where
  pub commute : {p q p' q' : Op} → R p q p' q' → (t : Term) → transform q (transform p t) ≡ transform q' (transform p' t)
  unfolding transform_with
  -- written by tools/written.py: commute, a term
  commute h (Universe n) = refl
  commute h (Var n) = C.var h n
  commute h Nat = refl
  commute h Zero = refl
  commute {p = p} h (Pi a b) = cc (commute h a, commute {p = under p false} (C.binder h false) b)
  commute {p = p} h (Lam a b) = cc (commute h a, commute {p = under p false} (C.binder h false) b)
  commute h (App a b) = cc (commute h a, commute h b)
  commute {p = p} h (Path a b c) = cc (commute {p = under p true} (C.binder h true) a, commute h b, commute h c)
  commute {p = p} h (PathLam a b) = cc (commute {p = under p true} (C.binder h true) a, commute {p = under p true} (C.binder h true) b)
  commute h (PathApp a b) = cc (commute h a, C.interval h b)
  commute {p = p} h (Sigma a b) = cc (commute h a, commute {p = under p false} (C.binder h false) b)
  commute h (Pair a b c) = cc (commute h a, commute h b, commute h c)
  commute h (Fst a) = cc (commute h a)
  commute h (Snd a) = cc (commute h a)
  -- end of commute, a term

module _ (f : Bool → Term → Term) where
  pub shifts_under : {op : Op} → Shifts op → (d : Bool) → Shifts (under_with f op d)
  shifts_under vars false = vars
  shifts_under vars true = vars
  shifts_under dims false = dims
  shifts_under dims true = dims

module _ (f g : Bool → Term → Term) where
  alike_under : {op : Op} → Shifts op → (d : Bool) → under_with f op d ≡ under_with g op d
  alike_under vars false = refl
  alike_under vars true = refl
  alike_under dims false = refl
  alike_under dims true = refl

  alike : {op : Op} → Shifts op → (t : Term) → transform_with f op t ≡ transform_with g op t
  unfolding transform_with
  -- written by tools/written.py: alike
  alike h (Universe n) = refl
  alike h (Var n) = refl
  alike h Nat = refl
  alike h Zero = refl
  alike {op = op} h (Pi a b) = cc (alike h a, alike {op = under_with f op false} (shifts_under f h false) b, alike_under h false)
  alike {op = op} h (Lam a b) = cc (alike h a, alike {op = under_with f op false} (shifts_under f h false) b, alike_under h false)
  alike h (App a b) = cc (alike h a, alike h b)
  alike {op = op} h (Path a b c) = cc (alike {op = under_with f op true} (shifts_under f h true) a, alike_under h true, alike h b, alike h c)
  alike {op = op} h (PathLam a b) = cc (alike {op = under_with f op true} (shifts_under f h true) a, alike_under h true, alike {op = under_with f op true} (shifts_under f h true) b, alike_under h true)
  alike h (PathApp a b) = cc (alike h a)
  alike {op = op} h (Sigma a b) = cc (alike h a, alike {op = under_with f op false} (shifts_under f h false) b, alike_under h false)
  alike h (Pair a b c) = cc (alike h a, alike h b, alike h c)
  alike h (Fst a) = cc (alike h a)
  alike h (Snd a) = cc (alike h a)
  -- end of alike

pub lifted_is : (d : Bool) (t : Term) → lifted d t ≡ transform (lift d) t
unfolding lifted
lifted_is false t = alike _ lifted vars t
lifted_is true t = alike _ lifted dims t

-- so what is put in goes under a binder as the rules have it
pub under_var : (k : ℕ) (a : Term) → under (Subst k a) false ≡ Subst (suc k) (transform (Shift 0) a)
under_var k a = ap (λ (t : Term). Subst (suc k) t) (lifted_is false a)

pub under_dim : (k : ℕ) (a : Term) → under (Subst k a) true ≡ Subst k (transform (DShift 0) a)
under_dim k a = ap (λ (t : Term). Subst k t) (lifted_is true a)
