-- transform, under: producer.rs, `transform` and `under`.
use Rattle.std.specs.Prelude.{ℕ, suc, List, [], ◌∷◌, ◌++◌, Bool, true, false}
use Rattle.std.proofs.Math.Decide.{ℕ_discrete, dec_lt}
use Rattle.walk.specs.Syntax.{Interval, Term, Universe, Var, Nat, Zero, Pi, Lam, App, Path, PathLam, PathApp, Sigma, Pair, Fst, Snd, quote}
use Rattle.walk.specs.Judgment.{Judgment, shift, subst, dshift, dsubst}
use Rattle.walk.specs.Rule as R
use Rattle.walk.specs.Refusal as Refusal
use Rattle.walk.specs.State.{M, ◌>>=◌, pure, refuse, choose◌then◌else◌, of_term, count_all, emit}
use Rattle.walk.specs.Walk.Reference.{Op, Shift, Subst, DShift, DSubst, IShift, ISubst, Callees}

-- under a binder, of a variable (false) or of a dimension (true); with the rows that this cites
unfoldable pub under_body : Callees → Op → Bool → M (Op × List ℕ)
under_body c (Shift k) false = do
  k' ← c.more k
  pure (Shift k', [])
under_body c (Shift k) true = pure (Shift k, [])
under_body c (Subst k r) false = do
  (r', x) ← c.transform r (Shift 0)
  k' ← c.more k
  pure (Subst k' r', x ∷ [])
under_body c (Subst k r) true = do
  (r', x) ← c.transform r (DShift 0)
  pure (Subst k r', x ∷ [])
under_body c (DShift k) false = pure (DShift k, [])
under_body c (DShift k) true = do
  k' ← c.more k
  pure (DShift k', [])
under_body c (DSubst k r) false = pure (DSubst k r, [])
under_body c (DSubst k r) true = do
  (r', x) ← c.itransform r (IShift 0)
  k' ← c.more k
  pure (DSubst k' r', x ∷ [])

abbrev pub transformed : Term → Op → Term → Judgment
transformed t (Shift k) out = shift (quote t) k (quote out)
transformed t (Subst k r) out = subst (quote t) k (quote r) (quote out)
transformed t (DShift k) out = dshift (quote t) k (quote out)
transformed t (DSubst k r) out = dsubst (quote t) k r (quote out)

abbrev pub by_op : Op → ℕ → ℕ → ℕ → ℕ → ℕ
by_op (Shift k) a b c d = a
by_op (Subst k r) a b c d = b
by_op (DShift k) a b c d = c
by_op (DSubst k r) a b c d = d

-- the rule for each operation, of each kind that has one for it
-- written by tools/written.py: rules of a kind
abbrev pub u_rule : Op → ℕ
u_rule op = by_op op R.shift_u R.subst_u R.dshift_u R.dsubst_u

abbrev pub nat_rule : Op → ℕ
nat_rule op = by_op op R.shift_nat R.subst_nat R.dshift_nat R.dsubst_nat

abbrev pub zero_rule : Op → ℕ
zero_rule op = by_op op R.shift_zero R.subst_zero R.dshift_zero R.dsubst_zero

abbrev pub pi_rule : Op → ℕ
pi_rule op = by_op op R.shift_pi R.subst_pi R.dshift_pi R.dsubst_pi

abbrev pub lam_rule : Op → ℕ
lam_rule op = by_op op R.shift_lam R.subst_lam R.dshift_lam R.dsubst_lam

abbrev pub app_rule : Op → ℕ
app_rule op = by_op op R.shift_app R.subst_app R.dshift_app R.dsubst_app

abbrev pub path_rule : Op → ℕ
path_rule op = by_op op R.shift_path R.subst_path R.dshift_path R.dsubst_path

abbrev pub plam_rule : Op → ℕ
plam_rule op = by_op op R.shift_plam R.subst_plam R.dshift_plam R.dsubst_plam

abbrev pub papp_rule : Op → ℕ
papp_rule op = by_op op R.shift_papp R.subst_papp R.dshift_papp R.dsubst_papp

abbrev pub sigma_rule : Op → ℕ
sigma_rule op = by_op op R.shift_sigma R.subst_sigma R.dshift_sigma R.dsubst_sigma

abbrev pub pair_rule : Op → ℕ
pair_rule op = by_op op R.shift_pair R.subst_pair R.dshift_pair R.dsubst_pair

abbrev pub fst_rule : Op → ℕ
fst_rule op = by_op op R.shift_fst R.subst_fst R.dshift_fst R.dsubst_fst

abbrev pub snd_rule : Op → ℕ
snd_rule op = by_op op R.shift_snd R.subst_snd R.dshift_snd R.dsubst_snd

-- end of rules of a kind

unfoldable pub finish : Term → Op → Term → ℕ → List ℕ → M (Term × ℕ)
finish t op out rule refs = do
  _ ← count_all (of_term out)
  row ← emit rule refs (transformed t op out)
  pure (out, row)

-- a variable above k (so not 0: this refusal is never met; `refusals` of `order`)
unfoldable pub tvar_above : Callees → ℕ → ℕ → Term → M (Term × ℕ)
tvar_above c ℕ.zero k r = refuse Refusal.dimension
tvar_above c (ℕ.suc n) k r = do
  x ← c.comparison k (suc n) true
  finish (Var (suc n)) (Subst k r) (Var n) R.subst_v_gt (x ∷ [])

unfoldable pub tvar : Callees → ℕ → Op → M (Term × ℕ)
tvar c n (Shift k) =
    choose dec_lt n k
    then (c.comparison n k true >>= λ x. finish (Var n) (Shift k) (Var n) R.shift_v_lt (x ∷ []))
    else (c.comparison k n false >>= λ x. c.more n >>= λ n'. finish (Var n) (Shift k) (Var n') R.shift_v_ge (x ∷ []))
tvar c n (Subst k r) =
    choose ℕ_discrete n k
    then finish (Var n) (Subst k r) r R.subst_v_hit []
    else
    (choose dec_lt n k
    then (c.comparison n k true >>= λ x. finish (Var n) (Subst k r) (Var n) R.subst_v_lt (x ∷ []))
    else tvar_above c n k r)
tvar c n (DShift k) = finish (Var n) (DShift k) (Var n) R.dshift_v []
tvar c n (DSubst k r) = finish (Var n) (DSubst k r) (Var n) R.dsubst_v []

-- the interval of a papp, with the rows that this cites
unfoldable pub tinterval : Callees → Interval → Op → M (Interval × List ℕ)
tinterval c r (Shift k) = pure (r, [])
tinterval c r (Subst k x) = pure (r, [])
tinterval c r (DShift k) = do
  (r', x) ← c.itransform r (IShift k)
  pure (r', x ∷ [])
tinterval c r (DSubst k q) = do
  (r', x) ← c.itransform r (ISubst k q)
  pure (r', x ∷ [])

-- two parts, the second under a variable, and both shown: a pi, a sigma
unfoldable pub tbinder : Callees → (Term → Term → Term) → (Op → ℕ) → Term → Term → Op → M (Term × ℕ)
tbinder c node rule a b op = do
  (a', x) ← c.transform a op
  (inner, refs) ← c.under op false
  (b', y) ← c.transform b inner
  finish (node a b) op (node a' b') (rule op) (x ∷ refs ++ y ∷ [])

-- one part: a projection
unfoldable pub tprojection : Callees → (Term → Term) → (Op → ℕ) → Term → Op → M (Term × ℕ)
tprojection c node rule p op = do
  (p', x) ← c.transform p op
  finish (node p) op (node p') (rule op) (x ∷ [])

unfoldable pub transform_body : Callees → Term → Op → M (Term × ℕ)
transform_body c (Universe l) op = finish (Universe l) op (Universe l) (u_rule op) []
transform_body c (Var n) op = tvar c n op
transform_body c Nat op = finish Nat op Nat (nat_rule op) []
transform_body c Zero op = finish Zero op Zero (zero_rule op) []
transform_body c (Pi a b) op = tbinder c Pi pi_rule a b op
transform_body c (Lam a b) op = do
  (a', _) ← c.transform a op
  (inner, refs) ← c.under op false
  (b', y) ← c.transform b inner
  finish (Lam a b) op (Lam a' b') (lam_rule op) (refs ++ y ∷ [])
transform_body c (App f a) op = do
  (f', x) ← c.transform f op
  (a', y) ← c.transform a op
  finish (App f a) op (App f' a') (app_rule op) (x ∷ y ∷ [])
transform_body c (Path a b e) op = do
  (inner, refs) ← c.under op true
  (a', x) ← c.transform a inner
  (b', y) ← c.transform b op
  (e', z) ← c.transform e op
  finish (Path a b e) op (Path a' b' e') (path_rule op) (refs ++ x ∷ y ∷ z ∷ [])
transform_body c (PathLam a b) op = do
  (inner, refs) ← c.under op true
  (a', _) ← c.transform a inner
  (b', y) ← c.transform b inner
  finish (PathLam a b) op (PathLam a' b') (plam_rule op) (refs ++ y ∷ [])
transform_body c (PathApp p r) op = do
  (p', x) ← c.transform p op
  (r', refs) ← tinterval c r op
  finish (PathApp p r) op (PathApp p' r') (papp_rule op) (x ∷ refs)
transform_body c (Sigma a b) op = tbinder c Sigma sigma_rule a b op
transform_body c (Pair ty a b) op = do
  (ty', _) ← c.transform ty op
  (a', x) ← c.transform a op
  (b', y) ← c.transform b op
  finish (Pair ty a b) op (Pair ty' a' b') (pair_rule op) (x ∷ y ∷ [])
transform_body c (Fst p) op = tprojection c Fst fst_rule p op
transform_body c (Snd p) op = tprojection c Snd snd_rule p op
