-- Intervals: the judgment, shifts and substitutions of dimensions. Assumes nothing.
use Rattle.std.specs.Prelude.{ℕ, ◌-◌, true, false, ltb, eqb}
use Rattle.ast.specs.Words.{up}
use Rattle.producer.specs.declared.rows.Refs.{Refs}
use Rattle.producer.specs.declared.intervals.IOp.{IOp}
use Rattle.producer.specs.declared.intervals.IOp.TheVariants.{IShift, ISubst}
use Rattle.walk.specs.Rule as R
use Rattle.producer.specs.Machine.{W, ◌>>=◌, give, when◌then◌else◌, open_cell, lowest, intern, make_dim, make_neg, emit, no_refs, refs_1, refs_2}
use Rattle.producer.specs.Callees.{Callees}

-- a meet or a join
unfoldable pub interval_parts : Callees → (d q a b rule : ℕ) → W ℕ
interval_parts c d q a b rule = c.interval d a >>= λ x. c.interval d b >>= λ y. emit rule (refs_2 x y) 6 2 d q 0 0 0

unfoldable pub interval_body : Callees → (d r : ℕ) → W ℕ
interval_body c d r =
    open_cell r λ w.
    when eqb w.kind 16 then emit R.interval_0 no_refs 6 2 d w.quote 0 0 0
    else
    (when eqb w.kind 17 then emit R.interval_1 no_refs 6 2 d w.quote 0 0 0
    else
    (when eqb w.kind 18 then (c.comparison w.a d true >>= λ x. emit R.interval_dim (refs_1 x) 6 2 d w.quote 0 0 0)
    else
    (when eqb w.kind 19 then (c.interval d w.a >>= λ x. emit R.interval_neg (refs_1 x) 6 2 d w.quote 0 0 0)
    else
    (when eqb w.kind 20 then interval_parts c d w.quote w.a w.b R.interval_meet
    else interval_parts c d w.quote w.a w.b R.interval_join))))

unfoldable pub by_iop : IOp → (a b : ℕ) → ℕ
by_iop (IShift k) a b = a
by_iop (ISubst k r) a b = b

unfoldable pub iemit : IOp → ℕ → Refs → (p q : ℕ) → W ℕ
iemit (IShift k) rule l p q = emit rule l 7 3 p k q 0 0
iemit (ISubst k r) rule l p q = lowest r λ s. emit rule l 8 4 p k s q 0

-- the row, once the result is there
unfoldable pub ifinished : ℕ → IOp → (out rule : ℕ) → Refs → W (ℕ × ℕ)
ifinished i op out rule l = lowest i λ p. lowest out λ q. iemit op rule l p q >>= λ row. give (out, row)

-- the result is made, then the row
unfoldable pub ifinish : ℕ → IOp → W ℕ → ℕ → Refs → W (ℕ × ℕ)
ifinish i op make rule l = make >>= λ out. ifinished i op out rule l

unfoldable pub idim_shift : Callees → (i n k : ℕ) → W (ℕ × ℕ)
idim_shift c i n k =
    when ltb n k
    then (c.comparison n k true >>= λ x. ifinished i (IShift k) i R.ishift_dim_lt (refs_1 x))
    else (c.comparison k n false >>= λ x. ifinish i (IShift k) (make_dim (up n)) R.ishift_dim_ge (refs_1 x))

unfoldable pub idim_subst : Callees → (i n k r : ℕ) → W (ℕ × ℕ)
idim_subst c i n k r =
    when eqb n k
    then ifinished i (ISubst k r) r R.isubst_dim_hit no_refs
    else
    (when ltb n k
    then (c.comparison n k true >>= λ x. ifinished i (ISubst k r) i R.isubst_dim_lt (refs_1 x))
    else (c.comparison k n true >>= λ x. ifinish i (ISubst k r) (make_dim (n - 1)) R.isubst_dim_gt (refs_1 x)))

unfoldable pub idim : Callees → (i n : ℕ) → IOp → W (ℕ × ℕ)
idim c i n (IShift k) = idim_shift c i n k
idim c i n (ISubst k r) = idim_subst c i n k r

unfoldable pub ineg : Callees → ℕ → IOp → ℕ → W (ℕ × ℕ)
ineg c i op a = do
  (a', x) ← c.itransform a op
  ifinish i op (make_neg a') (by_iop op R.ishift_neg R.isubst_neg) (refs_1 x)

-- a meet or a join
unfoldable pub ipair : Callees → ℕ → IOp → (kind a b rule : ℕ) → W (ℕ × ℕ)
ipair c i op kind a b rule = do
  (a', x) ← c.itransform a op
  (b', y) ← c.itransform b op
  ifinish i op (intern kind a' b' 0) rule (refs_2 x y)

unfoldable pub itransform_body : Callees → ℕ → IOp → W (ℕ × ℕ)
itransform_body c i op =
    open_cell i λ w.
    when eqb w.kind 16 then ifinished i op i (by_iop op R.ishift_0 R.isubst_0) no_refs
    else
    (when eqb w.kind 17 then ifinished i op i (by_iop op R.ishift_1 R.isubst_1) no_refs
    else
    (when eqb w.kind 18 then idim c i w.a op
    else
    (when eqb w.kind 19 then ineg c i op w.a
    else
    (when eqb w.kind 20 then ipair c i op 20 w.a w.b (by_iop op R.ishift_meet R.isubst_meet)
    else ipair c i op 21 w.a w.b (by_iop op R.ishift_join R.isubst_join)))))
