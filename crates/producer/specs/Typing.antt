-- Typing: contexts, inference, universes, checks, exposed types. Assumes nothing.
use Rattle.std.specs.Prelude.{ℕ, eqb}
use Rattle.ast.specs.Words.{up, greater_of}
use Rattle.ast.specs.declared.cells.Cell.{Cell}
use Rattle.producer.specs.declared.rows.Refs.{Refs}
use Rattle.producer.specs.declared.transforms.Op.TheVariants.{Subst, DSubst}
use Rattle.walk.specs.Rule as R
use Rattle.walk.specs.Refusal as Refusal
use Rattle.producer.specs.Machine.{W, Finding, ◌>>=◌, give, stop, when◌then◌else◌, open_cell, same_quote, at_universe, at_pi, at_lam, at_path, at_plam, at_sigma, at_pair, intern, make_universe, make_pi, make_path, make_fst, make_i0, make_i1, make_cons, emit, emit_has, known_row, recall_or, remember, converting, no_refs, refs_1, refs_2, refs_3, refs_4, refs_6, refs_7, refs_10}
use Rattle.producer.specs.Callees.{Callees, for_call}

-- a longer context
unfoldable pub ctx_cons : Callees → (d q a g : ℕ) → W ℕ
ctx_cons c d q a g = do
  tail ← c.ctx d g
  (_, head) ← c.universe d g a
  emit R.ctx_cons (refs_2 tail head) 0 2 d q 0 0 0

unfoldable pub ctx_by : Callees → ℕ → Cell → W ℕ
ctx_by c d w =
    when eqb w.kind 32 then emit R.ctx_nil no_refs 0 2 d w.quote 0 0 0
    else ctx_cons c d w.quote w.a w.b

unfoldable pub ctx_body : Callees → (d g : ℕ) → W ℕ
ctx_body c d g = open_cell g λ w. known_row 0 d w.quote 0 0 0 (ctx_by c d w)

-- the term has the exposed type too
unfoldable pub retyped : Callees → (d g t l normal typed equality : ℕ) → W (ℕ × ℕ)
retyped c d g t l normal typed equality = do
  formed ← for_call c (make_universe l) λ u. c.check d g normal u
  row ← emit_has R.type_conv (refs_3 typed equality formed) d g t normal
  give (normal, row)

unfoldable pub expose_body : Callees → (d g t ty typed : ℕ) → W (ℕ × ℕ)
expose_body c d g t ty typed = do
  (l, _) ← c.universe d g ty
  (normal, equality) ← for_call c (make_universe l) λ u. c.normalize d g ty u
  same_quote normal ty (give (normal, typed)) (retyped c d g t l normal typed equality)

-- the level of a type that has its universe only once exposed
unfoldable pub exposed : Callees → (d g t ty row : ℕ) → W (ℕ × ℕ)
exposed c d g t ty row = do
  (normal, row') ← c.expose d g t ty row
  at_universe normal (λ l. give (l, row')) (stop Refusal.no_type)

unfoldable pub universe_body : Callees → (d g t : ℕ) → W (ℕ × ℕ)
universe_body c d g t = do
  (ty, row) ← c.infer d g t
  at_universe ty (λ l. give (l, row)) (converting (exposed c d g t ty row))

-- a term of the one type has the other too
unfoldable pub converted : Callees → (d g t actual expected row : ℕ) → W ℕ
converted c d g t actual expected row = do
  (i, _) ← c.universe d g actual
  (j, formed) ← c.universe d g expected
  when eqb i j
      then (do
        equality ← for_call c (make_universe i) λ u. c.equal d g actual expected u
        emit_has R.type_conv (refs_3 row equality formed) d g t expected)
      else stop Refusal.levels

unfoldable pub check_body : Callees → (d g t ty : ℕ) → W ℕ
check_body c d g t expected = do
  (actual, row) ← c.infer d g t
  same_quote actual expected (give row) (converting (converted c d g t actual expected row))

-- the type of a term, its head exposed, as a conversion, where it is not of the kind wanted, and the row that the term has it
unfoldable pub headed : Callees → (kind d g t : ℕ) → W (ℕ × ℕ)
headed c kind d g t = do
  (ty, row) ← c.infer d g t
  open_cell ty λ w. when eqb w.kind kind then give (ty, row) else converting (c.expose d g t ty row)

-- that type taken apart

unfoldable pub as_pi : Callees → (d g f : ℕ) → W (ℕ × ℕ × ℕ)
as_pi c d g f = do
  (ty, row) ← headed c 5 d g f
  at_pi ty (λ a b. give (a, b, row)) (stop Refusal.no_function)

unfoldable pub as_path : Callees → (d g p : ℕ) → W (ℕ × ℕ × ℕ × ℕ)
as_path c d g p = do
  (ty, row) ← headed c 8 d g p
  at_path ty (λ a b e. give (a, b, e, row)) (stop Refusal.no_path)

unfoldable pub as_sigma : Callees → (d g p : ℕ) → W (ℕ × ℕ × ℕ)
as_sigma c d g p = do
  (ty, row) ← headed c 11 d g p
  at_sigma ty (λ a b. give (a, b, row)) (stop Refusal.no_sigma)

unfoldable pub found : W ℕ → Refs → ℕ → W Finding
found make refs rule = do
  ty ← make
  give (record { type = ty; refs = refs; rule = rule })

-- the type of a universe, of nat, of zero: made in any context
unfoldable pub find_atom : Callees → (d g kind n rule : ℕ) → W Finding
find_atom c d g kind n rule = do
  x ← c.ctx d g
  found (intern kind n 0 0) (refs_1 x) rule

unfoldable pub find_var : Callees → (d g n : ℕ) → W Finding
find_var c d g n = do
  x ← c.ctx d g
  (ty, y) ← c.lookup g n
  found (give ty) (refs_2 x y) R.type_v

-- two types, the second under a variable of the first: a pi, a sigma
unfoldable pub find_binder : Callees → (d g a b rule : ℕ) → W Finding
find_binder c d g a b rule = do
  (i, x) ← c.universe d g a
  (j, y) ← for_call c (make_cons a g) λ h. c.universe d h b
  z ← c.max i j
  found (make_universe (greater_of i j)) (refs_3 x y z) rule

unfoldable pub find_lam : Callees → (d g a body : ℕ) → W Finding
find_lam c d g a body = do
  (_, x) ← c.universe d g a
  (b, y) ← for_call c (make_cons a g) λ h. c.infer d h body
  (_, z) ← for_call c (make_cons a g) λ h. c.universe d h b
  found (make_pi a b) (refs_3 x y z) R.type_lam

unfoldable pub find_app : Callees → (d g f a : ℕ) → W Finding
find_app c d g f a = do
  (domain, codomain, x) ← as_pi c d g f
  y ← c.check d g a domain
  (out, z) ← c.transform codomain (Subst 0 a)
  found (give out) (refs_3 x y z) R.type_app

-- both ends of a term: at i0, and at i1
unfoldable pub ends : Callees → ℕ → W (ℕ × ℕ × ℕ × ℕ)
ends c t = do
  (t0, x) ← for_call c make_i0 λ r. c.transform t (DSubst 0 r)
  (t1, y) ← for_call c make_i1 λ r. c.transform t (DSubst 0 r)
  give (t0, t1, x, y)

unfoldable pub path_ends : Callees → (d g a b e l x₀ x₁ x₂ : ℕ) → W Finding
path_ends c d g a b e l x₀ x₁ x₂ = do
  (a0, a1, x₃, x₄) ← ends c a
  x₅ ← c.check d g b a0
  x₆ ← c.check d g e a1
  found (make_universe l) (refs_7 x₀ x₁ x₂ x₃ x₄ x₅ x₆) R.type_path

unfoldable pub find_path : Callees → (d g a b e : ℕ) → W Finding
find_path c d g a b e = do
  x₀ ← c.ctx d g
  (inner, x₁) ← c.dshiftctx g
  (l, x₂) ← c.universe (up d) inner a
  path_ends c d g a b e l x₀ x₁ x₂

unfoldable pub plam_ends : Callees → (d g a body x₀ x₁ x₂ x₃ : ℕ) → W Finding
plam_ends c d g a body x₀ x₁ x₂ x₃ = do
  (a0, a1, x₄, x₅) ← ends c a
  (t0, t1, x₆, x₇) ← ends c body
  x₈ ← c.check d g t0 a0
  x₉ ← c.check d g t1 a1
  found (make_path a t0 t1) (refs_10 x₀ x₁ x₂ x₃ x₄ x₅ x₆ x₇ x₈ x₉) R.type_plam

unfoldable pub find_plam : Callees → (d g a body : ℕ) → W Finding
find_plam c d g a body = do
  x₀ ← c.ctx d g
  (inner, x₁) ← c.dshiftctx g
  (_, x₂) ← c.universe (up d) inner a
  x₃ ← c.check (up d) inner body a
  plam_ends c d g a body x₀ x₁ x₂ x₃

unfoldable pub find_papp : Callees → (d g p r : ℕ) → W Finding
find_papp c d g p r = do
  (a, _, _, x) ← as_path c d g p
  y ← c.interval d r
  (out, z) ← c.transform a (DSubst 0 r)
  (_, u) ← c.universe d g out
  found (give out) (refs_4 x y z u) R.type_papp

unfoldable pub pair_typed : Callees → (d g ty ta tb a b : ℕ) → W Finding
pair_typed c d g ty ta tb a b = do
  (_, x₀) ← c.universe d g ta
  (j, x₁) ← for_call c (make_cons ta g) λ h. c.universe d h tb
  x₂ ← c.check d g a ta
  (out, x₃) ← c.transform tb (Subst 0 a)
  x₄ ← for_call c (make_universe j) λ u. c.check d g out u
  x₅ ← c.check d g b out
  found (give ty) (refs_6 x₀ x₁ x₂ x₃ x₄ x₅) R.type_pair

unfoldable pub find_pair : Callees → (d g ty a b : ℕ) → W Finding
find_pair c d g ty a b = at_sigma ty (λ ta tb. pair_typed c d g ty ta tb a b) (stop Refusal.annotation)

unfoldable pub find_fst : Callees → (d g p : ℕ) → W Finding
find_fst c d g p = do
  (ta, _, x) ← as_sigma c d g p
  (_, y) ← c.universe d g ta
  found (give ta) (refs_2 x y) R.type_fst

unfoldable pub find_snd : Callees → (d g p : ℕ) → W Finding
find_snd c d g p = do
  (_, tb, x) ← as_sigma c d g p
  (out, y) ← for_call c (make_fst p) λ f. c.transform tb (Subst 0 f)
  (_, z) ← c.universe d g out
  found (give out) (refs_3 x y z) R.type_snd

-- a term that has parts
unfoldable pub find_compound : Callees → (d g : ℕ) → Cell → W Finding
find_compound c d g w =
    when eqb w.kind 5 then find_binder c d g w.a w.b R.type_pi
    else
    (when eqb w.kind 6 then find_lam c d g w.a w.b
    else
    (when eqb w.kind 7 then find_app c d g w.a w.b
    else
    (when eqb w.kind 8 then find_path c d g w.a w.b w.c
    else
    (when eqb w.kind 9 then find_plam c d g w.a w.b
    else
    (when eqb w.kind 11 then find_binder c d g w.a w.b R.type_sigma
    else
    (when eqb w.kind 12 then find_pair c d g w.a w.b w.c
    else
    (when eqb w.kind 13 then find_fst c d g w.a
    else
    (when eqb w.kind 14 then find_snd c d g w.a
    else find_papp c d g w.a w.b))))))))

unfoldable pub find : Callees → (d g t : ℕ) → W Finding
find c d g t =
    open_cell t λ w.
    when eqb w.kind 1 then find_atom c d g 1 (up w.a) R.type_u
    else
    (when eqb w.kind 2 then find_var c d g w.a
    else
    (when eqb w.kind 3 then find_atom c d g 1 0 R.type_nat
    else
    (when eqb w.kind 4 then find_atom c d g 3 0 R.type_zero
    else find_compound c d g w)))

unfoldable pub new_infer : Callees → (d g t : ℕ) → W (ℕ × ℕ)
new_infer c d g t = do
  it ← find c d g t
  row ← emit_has it.rule it.refs d g t it.type
  _ ← remember d g t it.type row
  give (it.type, row)

unfoldable pub infer_body : Callees → (d g t : ℕ) → W (ℕ × ℕ)
infer_body c d g t = recall_or d g t (new_infer c d g t)
