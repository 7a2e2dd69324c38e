-- Transforms of terms: shifts and substitutions, of variables and of dimensions. Assumes nothing.
use Rattle.std.specs.Prelude.{ℕ, ◌-◌, Bool, true, false, ltb, eqb}
use Rattle.ast.specs.Words.{ifb, up}
use Rattle.ast.specs.declared.cells.Cell.{Cell}
use Rattle.producer.specs.declared.rows.Refs.{Refs}
use Rattle.producer.specs.declared.intervals.IOp.TheVariants.{IShift, ISubst}
use Rattle.producer.specs.declared.transforms.Op.{Op}
use Rattle.producer.specs.declared.transforms.Op.TheVariants.{Shift, Subst, DShift, DSubst}
use Rattle.walk.specs.Rule as R
use Rattle.producer.specs.Machine.{W, ◌>>=◌, give, when◌then◌else◌, open_cell, lowest, intern, make_var, make_lam, make_app, make_path, make_plam, make_papp, make_pair, emit, no_refs, refs_1, refs_2, refs_3, cons_refs, join_refs}
use Rattle.producer.specs.Callees.{Callees}

unfoldable pub by_op : Op → (a b c d : ℕ) → ℕ
by_op (Shift k) a b c d = a
by_op (Subst k r) a b c d = b
by_op (DShift k) a b c d = c
by_op (DSubst k r) a b c d = d

-- of a term of a kind: a variable has several rules, and what is no term has none
unfoldable pub rule_of : Op → ℕ → ℕ
-- written by tools/written.py: rules of a kind
rule_of op k = ifb (eqb k 1) (by_op op R.shift_u R.subst_u R.dshift_u R.dsubst_u) (ifb (eqb k 3) (by_op op R.shift_nat R.subst_nat R.dshift_nat R.dsubst_nat) (ifb (eqb k 4) (by_op op R.shift_zero R.subst_zero R.dshift_zero R.dsubst_zero) (ifb (eqb k 5) (by_op op R.shift_pi R.subst_pi R.dshift_pi R.dsubst_pi) (ifb (eqb k 6) (by_op op R.shift_lam R.subst_lam R.dshift_lam R.dsubst_lam) (ifb (eqb k 7) (by_op op R.shift_app R.subst_app R.dshift_app R.dsubst_app) (ifb (eqb k 8) (by_op op R.shift_path R.subst_path R.dshift_path R.dsubst_path) (ifb (eqb k 9) (by_op op R.shift_plam R.subst_plam R.dshift_plam R.dsubst_plam) (ifb (eqb k 10) (by_op op R.shift_papp R.subst_papp R.dshift_papp R.dsubst_papp) (ifb (eqb k 11) (by_op op R.shift_sigma R.subst_sigma R.dshift_sigma R.dsubst_sigma) (ifb (eqb k 12) (by_op op R.shift_pair R.subst_pair R.dshift_pair R.dsubst_pair) (ifb (eqb k 13) (by_op op R.shift_fst R.subst_fst R.dshift_fst R.dsubst_fst) (ifb (eqb k 14) (by_op op R.shift_snd R.subst_snd R.dshift_snd R.dsubst_snd) 0))))))))))))

-- end of rules of a kind

unfoldable pub temit : Op → ℕ → Refs → (p q : ℕ) → W ℕ
temit (Shift k) rule l p q = emit rule l 9 3 p k q 0 0
temit (Subst k r) rule l p q = lowest r λ s. emit rule l 10 4 p k s q 0
temit (DShift k) rule l p q = emit rule l 11 3 p k q 0 0
temit (DSubst k r) rule l p q = lowest r λ s. emit rule l 12 4 p k s q 0

-- the row, once the result is there
unfoldable pub finished : ℕ → Op → (out rule : ℕ) → Refs → W (ℕ × ℕ)
finished i op out rule l = lowest i λ p. lowest out λ q. temit op rule l p q >>= λ row. give (out, row)

-- the result is made, then the row
unfoldable pub finish : ℕ → Op → W ℕ → ℕ → Refs → W (ℕ × ℕ)
finish i op make rule l = make >>= λ out. finished i op out rule l

unfoldable pub tvar_shift : Callees → (i n k : ℕ) → W (ℕ × ℕ)
tvar_shift c i n k =
    when ltb n k
    then (c.comparison n k true >>= λ x. finished i (Shift k) i R.shift_v_lt (refs_1 x))
    else (c.comparison k n false >>= λ x. finish i (Shift k) (make_var (up n)) R.shift_v_ge (refs_1 x))

unfoldable pub tvar_subst : Callees → (i n k r : ℕ) → W (ℕ × ℕ)
tvar_subst c i n k r =
    when eqb n k
    then finished i (Subst k r) r R.subst_v_hit no_refs
    else
    (when ltb n k
    then (c.comparison n k true >>= λ x. finished i (Subst k r) i R.subst_v_lt (refs_1 x))
    else (c.comparison k n true >>= λ x. finish i (Subst k r) (make_var (n - 1)) R.subst_v_gt (refs_1 x)))

unfoldable pub tvar : Callees → (i n : ℕ) → Op → W (ℕ × ℕ)
tvar c i n (Shift k) = tvar_shift c i n k
tvar c i n (Subst k r) = tvar_subst c i n k r
tvar c i n (DShift k) = finished i (DShift k) i R.dshift_v no_refs
tvar c i n (DSubst k r) = finished i (DSubst k r) i R.dsubst_v no_refs

-- the interval of a papp, with the rows that this cites
unfoldable pub tinterval : Callees → ℕ → Op → W (ℕ × Refs)
tinterval c r (Shift k) = give (r, no_refs)
tinterval c r (Subst k x) = give (r, no_refs)
tinterval c r (DShift k) = do
  (r', x) ← c.itransform r (IShift k)
  give (r', refs_1 x)
tinterval c r (DSubst k q) = do
  (r', x) ← c.itransform r (ISubst k q)
  give (r', refs_1 x)

-- each kind of term with parts

-- two parts, the second under a variable, and both shown
unfoldable pub transform_binder : Callees → ℕ → Op → (kind a b : ℕ) → W (ℕ × ℕ)
transform_binder c i op kind a b = do
  (a', x) ← c.transform a op
  (inner, refs) ← c.under op false
  (b', y) ← c.transform b inner
  finish i op (intern kind a' b' 0) (rule_of op kind) (cons_refs x (join_refs refs (refs_1 y)))

unfoldable pub transform_lam : Callees → ℕ → Op → (a b : ℕ) → W (ℕ × ℕ)
transform_lam c i op a b = do
  (a', _) ← c.transform a op
  (inner, refs) ← c.under op false
  (b', y) ← c.transform b inner
  finish i op (make_lam a' b') (rule_of op 6) (join_refs refs (refs_1 y))

unfoldable pub transform_app : Callees → ℕ → Op → (f a : ℕ) → W (ℕ × ℕ)
transform_app c i op f a = do
  (f', x) ← c.transform f op
  (a', y) ← c.transform a op
  finish i op (make_app f' a') (rule_of op 7) (refs_2 x y)

unfoldable pub transform_path : Callees → ℕ → Op → (a b e : ℕ) → W (ℕ × ℕ)
transform_path c i op a b e = do
  (inner, refs) ← c.under op true
  (a', x) ← c.transform a inner
  (b', y) ← c.transform b op
  (e', z) ← c.transform e op
  finish i op (make_path a' b' e') (rule_of op 8) (join_refs refs (refs_3 x y z))

unfoldable pub transform_plam : Callees → ℕ → Op → (a b : ℕ) → W (ℕ × ℕ)
transform_plam c i op a b = do
  (inner, refs) ← c.under op true
  (a', _) ← c.transform a inner
  (b', y) ← c.transform b inner
  finish i op (make_plam a' b') (rule_of op 9) (join_refs refs (refs_1 y))

unfoldable pub transform_papp : Callees → ℕ → Op → (p r : ℕ) → W (ℕ × ℕ)
transform_papp c i op p r = do
  (p', x) ← c.transform p op
  (r', refs) ← tinterval c r op
  finish i op (make_papp p' r') (rule_of op 10) (cons_refs x refs)

unfoldable pub transform_pair : Callees → ℕ → Op → (ty a b : ℕ) → W (ℕ × ℕ)
transform_pair c i op ty a b = do
  (ty', _) ← c.transform ty op
  (a', x) ← c.transform a op
  (b', y) ← c.transform b op
  finish i op (make_pair ty' a' b') (rule_of op 12) (refs_2 x y)

-- one part
unfoldable pub transform_projection : Callees → ℕ → Op → (kind p : ℕ) → W (ℕ × ℕ)
transform_projection c i op kind p = do
  (p', x) ← c.transform p op
  finish i op (intern kind p' 0 0) (rule_of op kind) (refs_1 x)

-- a term that is no variable: as it is where it has no parts
unfoldable pub compound : Callees → ℕ → Op → Cell → W (ℕ × ℕ)
compound c i op w =
    when eqb w.kind 5 then transform_binder c i op 5 w.a w.b
    else
    (when eqb w.kind 6 then transform_lam c i op w.a w.b
    else
    (when eqb w.kind 7 then transform_app c i op w.a w.b
    else
    (when eqb w.kind 8 then transform_path c i op w.a w.b w.c
    else
    (when eqb w.kind 9 then transform_plam c i op w.a w.b
    else
    (when eqb w.kind 10 then transform_papp c i op w.a w.b
    else
    (when eqb w.kind 11 then transform_binder c i op 11 w.a w.b
    else
    (when eqb w.kind 12 then transform_pair c i op w.a w.b w.c
    else
    (when eqb w.kind 13 then transform_projection c i op 13 w.a
    else
    (when eqb w.kind 14 then transform_projection c i op 14 w.a
    else finished i op i (rule_of op w.kind) no_refs)))))))))

unfoldable pub transform_body : Callees → ℕ → Op → W (ℕ × ℕ)
transform_body c i op = open_cell i λ w. when eqb w.kind 2 then tvar c i w.a op else compound c i op w

-- under a binder, of a variable (false) or of a dimension (true); with the rows that this cites

unfoldable pub under_subst : Callees → (k r : ℕ) → Bool → W (Op × Refs)
under_subst c k r dimension =
    when dimension
    then (do
      (r', x) ← c.transform r (DShift 0)
      give (Subst k r', refs_1 x))
    else (do
      (r', x) ← c.transform r (Shift 0)
      give (Subst (up k) r', refs_1 x))

unfoldable pub under_body : Callees → Op → Bool → W (Op × Refs)
under_body c (Shift k) dimension = when dimension then give (Shift k, no_refs) else give (Shift (up k), no_refs)
under_body c (Subst k r) dimension = under_subst c k r dimension
under_body c (DShift k) dimension = when dimension then give (DShift (up k), no_refs) else give (DShift k, no_refs)
under_body c (DSubst k r) dimension =
    when dimension
    then (do
      (r', x) ← c.itransform r (IShift 0)
      give (DSubst (up k) r', refs_1 x))
    else give (DSubst k r, no_refs)
