-- interval, itransform: producer.rs, `interval` and `itransform`.
use Rattle.std.specs.Prelude.{ℕ, suc, List, [], ◌∷◌, true, false}
use Rattle.std.proofs.Math.Decide.{ℕ_discrete, dec_lt}
use Rattle.walk.specs.Syntax.{Interval, I0, I1, Dim, Neg, Meet, Join}
use Rattle.walk.specs.Judgment.{Judgment, interval, ishift, isubst}
use Rattle.walk.specs.Rule as R
use Rattle.walk.specs.Refusal as Refusal
use Rattle.walk.specs.State.{M, ◌>>=◌, pure, refuse, choose◌then◌else◌, of_interval, count_all, emit}
use Rattle.walk.specs.Walk.Reference.{IOp, IShift, ISubst, Callees}

abbrev pub itransformed : Interval → IOp → Interval → Judgment
itransformed r (IShift k) out = ishift r k out
itransformed r (ISubst k q) out = isubst r k q out

-- a rule for each kind of operation
abbrev pub by_iop : IOp → ℕ → ℕ → ℕ
by_iop (IShift k) a b = a
by_iop (ISubst k q) a b = b

-- the end of a transform: its result is counted, then the row is made
unfoldable pub ifinish : Interval → IOp → Interval → ℕ → List ℕ → M (Interval × ℕ)
ifinish r op out rule refs = do
  _ ← count_all (of_interval out)
  row ← emit rule refs (itransformed r op out)
  pure (out, row)

-- a dimension above k (so not 0: this refusal is never met; `refusals` of `order`)
unfoldable pub idim_above : Callees → ℕ → ℕ → Interval → M (Interval × ℕ)
idim_above c ℕ.zero k q = refuse Refusal.dimension
idim_above c (ℕ.suc n) k q = do
  x ← c.comparison k (suc n) true
  ifinish (Dim (suc n)) (ISubst k q) (Dim n) R.isubst_dim_gt (x ∷ [])

unfoldable pub idim : Callees → ℕ → IOp → M (Interval × ℕ)
idim c n (IShift k) =
    choose dec_lt n k
    then (c.comparison n k true >>= λ x. ifinish (Dim n) (IShift k) (Dim n) R.ishift_dim_lt (x ∷ []))
    else (c.comparison k n false >>= λ x. c.more n >>= λ n'. ifinish (Dim n) (IShift k) (Dim n') R.ishift_dim_ge (x ∷ []))
idim c n (ISubst k q) =
    choose ℕ_discrete n k
    then ifinish (Dim n) (ISubst k q) q R.isubst_dim_hit []
    else
    (choose dec_lt n k
    then (c.comparison n k true >>= λ x. ifinish (Dim n) (ISubst k q) (Dim n) R.isubst_dim_lt (x ∷ []))
    else idim_above c n k q)

unfoldable pub itransform_body : Callees → Interval → IOp → M (Interval × ℕ)
itransform_body c I0 op = ifinish I0 op I0 (by_iop op R.ishift_0 R.isubst_0) []
itransform_body c I1 op = ifinish I1 op I1 (by_iop op R.ishift_1 R.isubst_1) []
itransform_body c (Dim n) op = idim c n op
itransform_body c (Neg a) op = do
  (a', x) ← c.itransform a op
  ifinish (Neg a) op (Neg a') (by_iop op R.ishift_neg R.isubst_neg) (x ∷ [])
itransform_body c (Meet a b) op = do
  (a', x) ← c.itransform a op
  (b', y) ← c.itransform b op
  ifinish (Meet a b) op (Meet a' b') (by_iop op R.ishift_meet R.isubst_meet) (x ∷ y ∷ [])
itransform_body c (Join a b) op = do
  (a', x) ← c.itransform a op
  (b', y) ← c.itransform b op
  ifinish (Join a b) op (Join a' b') (by_iop op R.ishift_join R.isubst_join) (x ∷ y ∷ [])

unfoldable pub interval_body : Callees → ℕ → Interval → M ℕ
interval_body c d I0 = emit R.interval_0 [] (interval d I0)
interval_body c d I1 = emit R.interval_1 [] (interval d I1)
interval_body c d (Dim n) = do
  x ← c.comparison n d true
  emit R.interval_dim (x ∷ []) (interval d (Dim n))
interval_body c d (Neg a) = do
  x ← c.interval d a
  emit R.interval_neg (x ∷ []) (interval d (Neg a))
interval_body c d (Meet a b) = do
  x ← c.interval d a
  y ← c.interval d b
  emit R.interval_meet (x ∷ y ∷ []) (interval d (Meet a b))
interval_body c d (Join a b) = do
  x ← c.interval d a
  y ← c.interval d b
  emit R.interval_join (x ∷ y ∷ []) (interval d (Join a b))
