-- Shifts change places with shifts and with substitutions. So a transform goes under a binder with what is lifted there: `lifts`.
use Rattle.std.specs.Prelude.{ℕ, suc, ◌≤◌, ◌≡◌, refl, Bool, true, false}
use Rattle.std.proofs.Common.{zero-le, suc-le-suc, sym, ap}
use Rattle.walk.specs.Syntax.{Interval, Dim, Term, Var}
use Rattle.walk.specs.Walk.Reference.{Op, Shift, Subst, DShift, DSubst, IShift, ISubst}
use Rattle.laws.proofs.Indices.{up_up, map_put, up_put}
use Rattle.laws.specs.Transforms.{itransform, at_var, at_interval, transform_with, lifted, transform, under, ishift, isubst, shift, subst, dshift, dsubst}
use Rattle.laws.specs.Squares.{Commutes}
use Rattle.laws.proofs.Squares.{icommute, commute, lifted_is}
use Rattle.laws.specs.Shifts.{ShiftShift, vars, dims, both, SubstShift, vars, dims, dims_past, vars_past}

-- of intervals

pub ishift_ishift : (i k : ℕ) → i ≤ k → (r : Interval) → ishift i (ishift k r) ≡ ishift (suc k) (ishift i r)
unfolding itransform
ishift_ishift i k l = icommute (IShift k) (IShift i) (IShift i) (IShift (suc k)) λ n. ap Dim (up_up i k n l)

pub ishift_isubst : (i k : ℕ) → i ≤ k → (s r : Interval) → ishift i (isubst k s r) ≡ isubst (suc k) (ishift i s) (ishift i r)
unfolding itransform
ishift_isubst i k l s =
    icommute (ISubst k s) (IShift i) (IShift i) (ISubst (suc k) (ishift i s)) λ n.
    up_put Dim (itransform (IShift i)) i (λ _. refl) k s n l

exchange_binder : {p q p' q' : Op} → ShiftShift p q p' q' → (d : Bool) → ShiftShift (under p d) (under q d) (under p' d) (under q' d)
exchange_binder (vars l) false = vars (suc-le-suc l)
exchange_binder (vars l) true = vars l
exchange_binder (dims l) false = dims l
exchange_binder (dims l) true = dims (suc-le-suc l)
exchange_binder both false = both
exchange_binder both true = both

exchange_var : {p q p' q' : Op} → ShiftShift p q p' q' → (n : ℕ) → transform q (at_var p n) ≡ transform q' (at_var p' n)
unfolding transform_with
exchange_var (vars {i = i} {k = k} l) n = ap Var (up_up i k n l)
exchange_var (dims l) n = refl
exchange_var both n = refl

exchange_interval :
    {p q p' q' : Op} → ShiftShift p q p' q' → (r : Interval) →
    at_interval q (at_interval p r) ≡ at_interval q' (at_interval p' r)
exchange_interval (vars l) r = refl
exchange_interval (dims {i = i} {k = k} l) r = ishift_ishift i k l r
exchange_interval both r = refl

exchange : Commutes ShiftShift
exchange = record { binder = exchange_binder; var = exchange_var; interval = exchange_interval }

pub shift_shift : (i k : ℕ) → i ≤ k → (t : Term) → shift i (shift k t) ≡ shift (suc k) (shift i t)
shift_shift i k l = commute exchange (vars l)

pub dshift_dshift : (i k : ℕ) → i ≤ k → (t : Term) → dshift i (dshift k t) ≡ dshift (suc k) (dshift i t)
dshift_dshift i k l = commute exchange (dims l)

pub dshift_shift : (i k : ℕ) (t : Term) → dshift i (shift k t) ≡ shift k (dshift i t)
dshift_shift i k = commute exchange both

-- a shift goes under a binder with what is lifted there

lifts_shift : (k : ℕ) (d : Bool) (t : Term) → lifted d (shift k t) ≡ transform (under (Shift k) d) (lifted d t)
lifts_shift k false t = rw (lifted_is false (shift k t), lifted_is false t) (shift_shift 0 k zero-le t)
lifts_shift k true t = rw (lifted_is true (shift k t), lifted_is true t) (dshift_shift 0 k t)

lifts_dshift : (k : ℕ) (d : Bool) (t : Term) → lifted d (dshift k t) ≡ transform (under (DShift k) d) (lifted d t)
lifts_dshift k false t = rw (lifted_is false (dshift k t), lifted_is false t) (sym (dshift_shift k 0 t))
lifts_dshift k true t = rw (lifted_is true (dshift k t), lifted_is true t) (dshift_dshift 0 k zero-le t)

pass_binder : {p q p' q' : Op} → SubstShift p q p' q' → (d : Bool) → SubstShift (under p d) (under q d) (under p' d) (under q' d)
pass_binder (vars {i = i} {a = a} l) false = rw (lifts_shift i false a) (vars (suc-le-suc l))
pass_binder (vars {i = i} {a = a} l) true = rw (lifts_shift i true a) (vars l)
pass_binder (dims l) false = dims l
pass_binder (dims {i = i} {s = s} l) true = rw (ishift_ishift 0 i zero-le s) (dims (suc-le-suc l))
pass_binder (dims_past {i = i} {a = a}) false = rw (lifts_dshift i false a) dims_past
pass_binder (dims_past {i = i} {a = a}) true = rw (lifts_dshift i true a) dims_past
pass_binder vars_past false = vars_past
pass_binder vars_past true = vars_past

pass_var : {p q p' q' : Op} → SubstShift p q p' q' → (n : ℕ) → transform q (at_var p n) ≡ transform q' (at_var p' n)
unfolding transform_with
pass_var (vars {i = i} {k = k} {a = a} l) n = up_put Var (transform (Shift i)) i (λ _. refl) k a n l
pass_var (dims l) n = refl
pass_var (dims_past {i = i} {k = k} {a = a}) n = map_put Var (transform (DShift i)) (λ _. refl) k a n
pass_var vars_past n = refl

pass_interval :
    {p q p' q' : Op} → SubstShift p q p' q' → (r : Interval) →
    at_interval q (at_interval p r) ≡ at_interval q' (at_interval p' r)
pass_interval (vars l) r = refl
pass_interval (dims {i = i} {k = k} {s = s} l) r = ishift_isubst i k l s r
pass_interval dims_past r = refl
pass_interval vars_past r = refl

pass : Commutes SubstShift
pass = record { binder = pass_binder; var = pass_var; interval = pass_interval }

pub shift_subst : (i k : ℕ) → i ≤ k → (a t : Term) → shift i (subst k a t) ≡ subst (suc k) (shift i a) (shift i t)
shift_subst i k l a = commute pass (vars l)

pub dshift_dsubst : (i k : ℕ) → i ≤ k → (s : Interval) (t : Term) → dshift i (dsubst k s t) ≡ dsubst (suc k) (ishift i s) (dshift i t)
dshift_dsubst i k l s = commute pass (dims l)

pub dshift_subst : (i k : ℕ) (a t : Term) → dshift i (subst k a t) ≡ subst k (dshift i a) (dshift i t)
dshift_subst i k a = commute pass dims_past

pub shift_dsubst : (i k : ℕ) (s : Interval) (t : Term) → shift i (dsubst k s t) ≡ dsubst k s (shift i t)
shift_dsubst i k s = commute pass vars_past

-- any transform goes under a binder with what is lifted there

pub lifts : (op : Op) (d : Bool) (t : Term) → lifted d (transform op t) ≡ transform (under op d) (lifted d t)
lifts (Shift k) d t = lifts_shift k d t
lifts (Subst k a) false t =
    rw (lifted_is false (subst k a t), lifted_is false t, lifted_is false a) (shift_subst 0 k zero-le a t)
lifts (Subst k a) true t =
    rw (lifted_is true (subst k a t), lifted_is true t, lifted_is true a) (dshift_subst 0 k a t)
lifts (DShift k) d t = lifts_dshift k d t
lifts (DSubst k s) false t = rw (lifted_is false (dsubst k s t), lifted_is false t) (shift_dsubst 0 k s t)
lifts (DSubst k s) true t = rw (lifted_is true (dsubst k s t), lifted_is true t) (dshift_dsubst 0 k zero-le s t)
