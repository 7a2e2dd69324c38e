-- Where a value is an instance at all, it is the instance at the fillings taken from it; so it is decided whether it is one.
use Rattle.std.specs.Prelude.{ℕ, suc, ◌≡◌, refl, Bool, true, false, cond, eqb}
use Rattle.std.proofs.Common.{ap, eqb-true, eq-eqb}
use Rattle.schemas.specs.Tree.{leaf, word, ◌·◌, Value, value?, Hole, any, number, after, nought, Pattern, Env, fill, instance}
use Rattle.schemas.specs.Match.{set, empty, bind, extract, fillings, Keeps}

set_keeps : {A : Type 0} (e f : ℕ → A) (x y : ℕ) → f y ≡ e y → set x (e x) f y ≡ e y
set_keeps {A} e f x y h = go (eqb x y) refl
  where
    go : (b : Bool) → eqb x y ≡ b → cond {A = A} b (e x) (f y) ≡ e y
    go true q = ap e (eqb-true x y q)
    go false q = h

set_same : {A : Type 0} (a : A) (f : ℕ → A) (x : ℕ) → set x a f x ≡ a
set_same a f x = rw (eq-eqb x x refl)

module _ (e : Env) where
  bind_keeps : (h : Hole) (f : Env) → Keeps e f (bind h (fill e h) f)
  bind_keeps (any x) f = record { numbers = λ y k. k; parts = set_keeps e.parts f.parts x }
  bind_keeps (number x) f = record { numbers = set_keeps e.numbers f.numbers x; parts = λ y k. k }
  bind_keeps (after x) f = record { numbers = set_keeps e.numbers f.numbers x; parts = λ y k. k }
  bind_keeps nought f = record { numbers = λ y k. k; parts = λ y k. k }

  keeps_trans : {f g h : Env} → Keeps e f g → Keeps e g h → Keeps e f h
  keeps_trans a b = record { numbers = λ x k. b.numbers x (a.numbers x k); parts = λ x k. b.parts x (a.parts x k) }

  extract_keeps : (p : Pattern) (f : Env) → Keeps e f (extract p (instance e p) f)
  extract_keeps (leaf h) f = bind_keeps h f
  extract_keeps (word w) f = record { numbers = λ y k. k; parts = λ y k. k }
  extract_keeps (p · q) f = keeps_trans (extract_keeps p f) (extract_keeps q (extract p (instance e p) f))

  bound : (h : Hole) (f f' : Env) → Keeps e (bind h (fill e h) f) f' → fill f' h ≡ fill e h
  bound (any x) f f' k = k.parts x (set_same (e.parts x) f.parts x)
  bound (number x) f f' k = ap leaf (k.numbers x (set_same (e.numbers x) f.numbers x))
  bound (after x) f f' k = ap (λ (n : ℕ). leaf (suc n)) (k.numbers x (set_same (e.numbers x) f.numbers x))
  bound nought f f' k = refl

  settled : (p : Pattern) (f f' : Env) → Keeps e (extract p (instance e p) f) f' → instance f' p ≡ instance e p
  settled (leaf h) f f' k = bound h f f' k
  settled (word w) f f' k = refl
  settled (p · q) f f' k =
      let g = extract p (instance e p) f in
      rw (settled p f f' (keeps_trans (extract_keeps q g) k), settled q g f' k)

  pub refilled : (p : Pattern) → instance (fillings p (instance e p)) p ≡ instance e p
  refilled p = settled p empty _ record { numbers = λ y k. k; parts = λ y k. k }

-- Whether a value is an instance.
pub decide : (p : Pattern) (t : Value) → Dec ((e : Env) × (instance e p ≡ t))
decide p t = go (value? (instance (fillings p t) p) t)
  where
    go : Dec (instance (fillings p t) p ≡ t) → Dec ((e : Env) × (instance e p ≡ t))
    go (yes q) = yes (fillings p t, q)
    go (no k) = no λ x. k (rw (← x.1) (refilled x.0 p))
