-- infer, universe, check, expose: producer.rs, `infer`, `universe`, `check` and `expose`; pairs: sigma.rs.
use Rattle.std.specs.Prelude.{ℕ, List, [], ◌∷◌}
use Rattle.std.proofs.Math.Option.{Option, none, some}
use Rattle.std.proofs.Math.Decide.{ℕ_discrete}
use Rattle.walk.specs.Syntax.{I0, I1, Dim, Neg, Meet, Join, Term, Universe, Var, Nat, Zero, Pi, Lam, App, Path, PathLam, PathApp, Sigma, Pair, Fst, Snd, Context, Cons, quote, quotes, quote?}
use Rattle.walk.specs.Judgment.{Judgment, has}
use Rattle.walk.specs.Reader.{Kind, KindDiscrete, k_u, k_v, k_nat, k_zero, k_pi, k_lam, k_app, k_path, k_plam, k_papp, k_sigma, k_pair, k_fst, k_snd}
use Rattle.walk.specs.Rule as R
use Rattle.walk.specs.Refusal as Refusal
use Rattle.walk.specs.State.{M, looking, ◌>>=◌, pure, refuse, choose◌then◌else◌, from◌get◌or◌, of_term, key, count_all, emit, recall, remember, converting}
use Rattle.walk.specs.Walk.Reference.{Subst, DSubst, Found, Callees}
use Rattle.walk.specs.Walk.Numbers.{larger}

-- t has the type ty
abbrev pub typing : ℕ → Context → Term → Term → Judgment
typing d g t ty = has d (quotes g) (quote t) (quote ty)

-- A term by its kind, with its number and its parts by place; 0 and nat where it has none.
pub record View : Type 0 where
  pub kind : Kind
  pub number : ℕ
  pub one : Term
  pub two : Term
  pub three : Term

abbrev seen : Kind → ℕ → Term → Term → Term → View
seen k n a b c = record { kind = k; number = n; one = a; two = b; three = c }

abbrev pub view : Term → View
-- written by tools/written.py: view
view (Universe n) = seen k_u n Nat Nat Nat
view (Var n) = seen k_v n Nat Nat Nat
view Nat = seen k_nat 0 Nat Nat Nat
view Zero = seen k_zero 0 Nat Nat Nat
view (Pi a b) = seen k_pi 0 a b Nat
view (Lam a b) = seen k_lam 0 a b Nat
view (App a b) = seen k_app 0 a b Nat
view (Path a b c) = seen k_path 0 a b c
view (PathLam a b) = seen k_plam 0 a b Nat
view (PathApp a b) = seen k_papp 0 a Nat Nat
view (Sigma a b) = seen k_sigma 0 a b Nat
view (Pair a b c) = seen k_pair 0 a b c
view (Fst a) = seen k_fst 0 a Nat Nat
view (Snd a) = seen k_snd 0 a Nat Nat

-- end of view

-- what a term has, where it is of a kind
abbrev pub if_so : {P A : Type 0} → Dec P → A → Option A
if_so (yes h) a = some a
if_so (no h) a = none

abbrev pub of_kind : {A : Type 0} → Kind → View → A → Option A
of_kind k v a = if_so (KindDiscrete v.kind k) a

-- written by tools/written.py: parts of a kind
abbrev pub level : Term → Option ℕ
level t = of_kind k_u (view t) (view t).number

abbrev pub pi_parts : Term → Option (Term × Term)
pi_parts t = of_kind k_pi (view t) ((view t).one, (view t).two)

abbrev pub lam_parts : Term → Option (Term × Term)
lam_parts t = of_kind k_lam (view t) ((view t).one, (view t).two)

abbrev pub path_parts : Term → Option (Term × Term × Term)
path_parts t = of_kind k_path (view t) ((view t).one, (view t).two, (view t).three)

abbrev pub plam_parts : Term → Option (Term × Term)
plam_parts t = of_kind k_plam (view t) ((view t).one, (view t).two)

abbrev pub sigma_parts : Term → Option (Term × Term)
sigma_parts t = of_kind k_sigma (view t) ((view t).one, (view t).two)

abbrev pub pair_parts : Term → Option (Term × Term × Term)
pair_parts t = of_kind k_pair (view t) ((view t).one, (view t).two, (view t).three)

-- end of parts of a kind

unfoldable pub expose_body : Callees → ℕ → Context → Term → Term → ℕ → M (Term × ℕ)
expose_body c d g t ty typed = do
  (l, _) ← c.universe d g ty
  (normal, equality) ← c.normalize d g ty (Universe l)
  choose quote? (quote normal) (quote ty)
      then pure (normal, typed)
      else do
        formed ← c.check d g normal (Universe l)
        row ← emit R.type_conv (typed ∷ equality ∷ formed ∷ []) (typing d g t normal)
        pure (normal, row)

unfoldable pub universe_body : Callees → ℕ → Context → Term → M (ℕ × ℕ)
universe_body c d g t = do
  (ty, row) ← c.infer d g t
  from level ty
      get (λ l. pure (l, row))
      or (converting do
        (normal, row') ← c.expose d g t ty row
        from level normal get (λ l. pure (l, row')) or refuse Refusal.no_type)

unfoldable pub check_body : Callees → ℕ → Context → Term → Term → M ℕ
check_body c d g t expected = do
  (actual, row) ← c.infer d g t
  choose quote? (quote actual) (quote expected)
      then pure row
      else converting do
        (i, _) ← c.universe d g actual
        (j, formed) ← c.universe d g expected
        choose ℕ_discrete i j
            then (do
              equality ← c.equal d g actual expected (Universe i)
              emit R.type_conv (row ∷ equality ∷ formed ∷ []) (typing d g t expected))
            else refuse Refusal.levels

-- the type of a term, its head exposed where it is not written as the kind wanted, and the row that the term has it
unfoldable pub headed : Kind → Callees → ℕ → Context → Term → M (Term × ℕ)
headed k c d g t = do
  (ty, row) ← c.infer d g t
  choose KindDiscrete (view ty).kind k then pure (ty, row) else converting (c.expose d g t ty row)

-- that type taken apart: its parts, and the row; refused where it is not of the kind even then
unfoldable pub as_parts : {A : Type 0} → Kind → (Term → Option A) → ℕ → Callees → ℕ → Context → Term → M (A × ℕ)
as_parts k parts refusal c d g t = do
  (ty, row) ← headed k c d g t
  from parts ty get (λ of. pure (of, row)) or refuse refusal

abbrev pub as_pi : Callees → ℕ → Context → Term → M ((Term × Term) × ℕ)
as_pi c d g f = as_parts k_pi pi_parts Refusal.no_function c d g f

abbrev pub as_path : Callees → ℕ → Context → Term → M ((Term × Term × Term) × ℕ)
as_path c d g p = as_parts k_path path_parts Refusal.no_path c d g p

-- sigma.rs, `subject`: the subject of a projection
abbrev pub as_sigma : Callees → ℕ → Context → Term → M ((Term × Term) × ℕ)
as_sigma c d g p = as_parts k_sigma sigma_parts Refusal.no_sigma c d g p

-- what is found: its type takes cells at once
unfoldable pub found : Term → List ℕ → ℕ → M Found
found ty refs rule = do
  _ ← count_all (of_term ty)
  pure (record { type = ty; refs = refs; rule = rule })

-- two parts that are types, the second under a variable: a pi, a sigma
unfoldable pub find_binder : Callees → ℕ → Context → Term → Term → ℕ → M Found
find_binder c d g a b rule = do
  (i, x) ← c.universe d g a
  (j, y) ← c.universe d (Cons a g) b
  z ← c.max i j
  found (Universe (larger i j)) (x ∷ y ∷ z ∷ []) rule

-- a pair at the sigma type with the parts ta and tb, which it is annotated with
unfoldable pub find_pair : Callees → ℕ → Context → Term → Term → Term → Term → Term → M Found
find_pair c d g ty ta tb a b = do
  (_, x₀) ← c.universe d g ta
  (j, x₁) ← c.universe d (Cons ta g) tb
  x₂ ← c.check d g a ta
  (out, x₃) ← c.transform tb (Subst 0 a)
  x₄ ← c.check d g out (Universe j)
  x₅ ← c.check d g b out
  found ty (x₀ ∷ x₁ ∷ x₂ ∷ x₃ ∷ x₄ ∷ x₅ ∷ []) R.type_pair

unfoldable pub find : Callees → ℕ → Context → Term → M Found
find c d g (Universe l) = do
  x ← c.ctx d g
  l' ← c.more l
  found (Universe l') (x ∷ []) R.type_u
find c d g Nat = do
  x ← c.ctx d g
  found (Universe 0) (x ∷ []) R.type_nat
find c d g Zero = do
  x ← c.ctx d g
  found Nat (x ∷ []) R.type_zero
find c d g (Var n) = do
  x ← c.ctx d g
  (ty, y) ← c.lookup g n
  found ty (x ∷ y ∷ []) R.type_v
find c d g (Pi a b) = find_binder c d g a b R.type_pi
find c d g (Lam a body) = do
  (_, x) ← c.universe d g a
  (b, y) ← c.infer d (Cons a g) body
  (_, z) ← c.universe d (Cons a g) b
  found (Pi a b) (x ∷ y ∷ z ∷ []) R.type_lam
find c d g (App f a) = do
  (pi, x) ← as_pi c d g f
  y ← c.check d g a pi.0
  (out, z) ← c.transform pi.1 (Subst 0 a)
  found out (x ∷ y ∷ z ∷ []) R.type_app
find c d g (Path a b e) = do
  x₀ ← c.ctx d g
  (inner, x₁) ← c.dshiftctx g
  d' ← c.more d
  (l, x₂) ← c.universe d' inner a
  (a0, x₃) ← c.transform a (DSubst 0 I0)
  (a1, x₄) ← c.transform a (DSubst 0 I1)
  x₅ ← c.check d g b a0
  x₆ ← c.check d g e a1
  found (Universe l) (x₀ ∷ x₁ ∷ x₂ ∷ x₃ ∷ x₄ ∷ x₅ ∷ x₆ ∷ []) R.type_path
find c d g (PathLam a body) = do
  x₀ ← c.ctx d g
  (inner, x₁) ← c.dshiftctx g
  d' ← c.more d
  (_, x₂) ← c.universe d' inner a
  x₃ ← c.check d' inner body a
  (a0, x₄) ← c.transform a (DSubst 0 I0)
  (a1, x₅) ← c.transform a (DSubst 0 I1)
  (t0, x₆) ← c.transform body (DSubst 0 I0)
  (t1, x₇) ← c.transform body (DSubst 0 I1)
  x₈ ← c.check d g t0 a0
  x₉ ← c.check d g t1 a1
  found (Path a t0 t1) (x₀ ∷ x₁ ∷ x₂ ∷ x₃ ∷ x₄ ∷ x₅ ∷ x₆ ∷ x₇ ∷ x₈ ∷ x₉ ∷ []) R.type_plam
find c d g (PathApp p r) = do
  (path, x) ← as_path c d g p
  y ← c.interval d r
  (out, z) ← c.transform path.0 (DSubst 0 r)
  (_, w) ← c.universe d g out
  found out (x ∷ y ∷ z ∷ w ∷ []) R.type_papp
find c d g (Sigma a b) = find_binder c d g a b R.type_sigma
find c d g (Pair ty a b) = from sigma_parts ty get (λ of. find_pair c d g ty of.0 of.1 a b) or refuse Refusal.annotation
find c d g (Fst p) = do
  (sigma, x) ← as_sigma c d g p
  (_, y) ← c.universe d g sigma.0
  found sigma.0 (x ∷ y ∷ []) R.type_fst
find c d g (Snd p) = do
  (sigma, x) ← as_sigma c d g p
  (out, y) ← c.transform sigma.1 (Subst 0 (Fst p))
  (_, z) ← c.universe d g out
  found out (x ∷ y ∷ z ∷ []) R.type_snd

unfoldable pub new_infer : Callees → ℕ → Context → Term → M (Term × ℕ)
new_infer c d g t = do
  it ← find c d g t
  row ← emit it.rule it.refs (typing d g t it.type)
  _ ← remember (key d g t) it.type row
  pure (it.type, row)

unfoldable pub infer_body : Callees → ℕ → Context → Term → M (Term × ℕ)
infer_body c d g t = looking λ s. from recall (key d g t) s.memory get pure or new_infer c d g t
