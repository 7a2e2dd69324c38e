-- Substitutions: one undoes the shift that made its place free, and two of them change places.
use Rattle.std.specs.Prelude.{ℕ, suc, ◌≤◌, ◌≡◌, refl, Bool, true, false}
use Rattle.std.proofs.Common.{zero-le, suc-le-suc}
use Rattle.walk.specs.Syntax.{Interval, Dim, Term, Var}
use Rattle.walk.specs.Walk.Reference.{Op, Shift, Subst, DSubst, IShift, ISubst}
use Rattle.laws.proofs.Indices.{put_up, map_put, put_put}
use Rattle.laws.specs.Transforms.{itransform, at_var, at_interval, transform_with, transform, under, ishift, isubst, shift, subst, dshift, dsubst}
use Rattle.laws.specs.Squares.{Cancels, Commutes}
use Rattle.laws.proofs.Squares.{icancel, icommute, cancel, commute}
use Rattle.laws.proofs.Shifts.{ishift_ishift, ishift_isubst, lifts}
use Rattle.laws.specs.Substs.{AfterShift, vars, dims, SubstSubst, vars, dims, both}

-- of intervals

pub isubst_ishift : (k : ℕ) (s r : Interval) → isubst k s (ishift k r) ≡ r
unfolding itransform
isubst_ishift k s = icancel (IShift k) (ISubst k s) λ n. put_up Dim k s n

pub isubst_isubst :
    (i k : ℕ) → i ≤ k → (q s r : Interval) →
    isubst k s (isubst i q r) ≡ isubst i (isubst k s q) (isubst (suc k) (ishift i s) r)
unfolding itransform
isubst_isubst i k l q s =
    let q' = isubst k s q in
    icommute (ISubst i q) (ISubst k s) (ISubst (suc k) (ishift i s)) (ISubst i q')
    (put_put Dim (isubst k s) (isubst i q') i k l q s q' (ishift i s) (λ _. refl) (λ _. refl) refl (isubst_ishift i q' s))

undo_binder : {p q : Op} → AfterShift p q → (d : Bool) → AfterShift (under p d) (under q d)
undo_binder vars false = vars
undo_binder vars true = vars
undo_binder dims false = dims
undo_binder dims true = dims

undo_var : {p q : Op} → AfterShift p q → (n : ℕ) → transform q (at_var p n) ≡ Var n
unfolding transform_with
undo_var (vars {k = k} {a = a}) n = put_up Var k a n
undo_var dims n = refl

undo_interval : {p q : Op} → AfterShift p q → (r : Interval) → at_interval q (at_interval p r) ≡ r
undo_interval vars r = refl
undo_interval (dims {k = k} {s = s}) r = isubst_ishift k s r

undo : Cancels AfterShift
undo = record { binder = undo_binder; var = undo_var; interval = undo_interval }

pub subst_shift : (k : ℕ) (a t : Term) → subst k a (shift k t) ≡ t
subst_shift k a = cancel undo vars

pub dsubst_dshift : (k : ℕ) (s : Interval) (t : Term) → dsubst k s (dshift k t) ≡ t
dsubst_dshift k s = cancel undo dims

swap_binder : {p q p' q' : Op} → SubstSubst p q p' q' → (d : Bool) → SubstSubst (under p d) (under q d) (under p' d) (under q' d)
swap_binder (vars {i = i} {k = k} {a = a} {b = b} l) false =
    rw (lifts (Shift i) false b, lifts (Subst k b) false a) (vars (suc-le-suc l))
swap_binder (vars {i = i} {k = k} {a = a} {b = b} l) true =
    rw (lifts (Shift i) true b, lifts (Subst k b) true a) (vars l)
swap_binder (dims l) false = dims l
swap_binder (dims {i = i} {k = k} {r = r} {s = s} l) true =
    rw (ishift_ishift 0 i zero-le s, ishift_isubst 0 k zero-le s r) (dims (suc-le-suc l))
swap_binder (both {j = j} {a = a} {s = s}) false = rw (lifts (DSubst j s) false a) both
swap_binder (both {j = j} {a = a} {s = s}) true = rw (lifts (DSubst j s) true a) both

swap_var : {p q p' q' : Op} → SubstSubst p q p' q' → (n : ℕ) → transform q (at_var p n) ≡ transform q' (at_var p' n)
unfolding transform_with
swap_var (vars {i = i} {k = k} {a = a} {b = b} l) n =
    let a' = subst k b a in
    put_put Var (subst k b) (subst i a') i k l a b a' (shift i b) (λ _. refl) (λ _. refl) refl (subst_shift i a' b) n
swap_var (dims l) n = refl
swap_var (both {j = j} {k = k} {a = a} {s = s}) n = map_put Var (dsubst j s) (λ _. refl) k a n

swap_interval :
    {p q p' q' : Op} → SubstSubst p q p' q' → (r : Interval) →
    at_interval q (at_interval p r) ≡ at_interval q' (at_interval p' r)
swap_interval (vars l) r = refl
swap_interval (dims {i = i} {k = k} {r = q} {s = s} l) r = isubst_isubst i k l q s r
swap_interval both r = refl

swap : Commutes SubstSubst
swap = record { binder = swap_binder; var = swap_var; interval = swap_interval }

pub subst_subst : (i k : ℕ) → i ≤ k → (a b t : Term) → subst k b (subst i a t) ≡ subst i (subst k b a) (subst (suc k) (shift i b) t)
subst_subst i k l a b = commute swap (vars l)

pub dsubst_dsubst :
    (i k : ℕ) → i ≤ k → (r s : Interval) (t : Term) →
    dsubst k s (dsubst i r t) ≡ dsubst i (isubst k s r) (dsubst (suc k) (ishift i s) t)
dsubst_dsubst i k l r s = commute swap (dims l)

pub dsubst_subst : (j k : ℕ) (s : Interval) (a t : Term) → dsubst j s (subst k a t) ≡ subst k (dsubst j s a) (dsubst j s t)
dsubst_subst j k s a = commute swap both
