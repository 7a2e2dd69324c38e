-- What the words of a cell and of a row stand for: a constructor a kind.
-- Written by tools/written.py from tools/language.py; `python3 tools/written.py` makes it again.
use Rattle.std.specs.Prelude.{ℕ, ◌≡◌, refl, List, [], ◌∷◌, false, eqb}
use Rattle.walk.specs.Syntax.{Interval, I0, I1, Dim, Neg, Meet, Join, Term, Universe, Var, Nat, Zero, Pi, Lam, App, Path, PathLam, PathApp, Sigma, Pair, Fst, Snd, Context, Nil, Cons, Quote, u, v, nat, zero, pi, lam, app, path, plam, papp, sigma, pair, fst, snd, Quotes, nil, cons}
use Rattle.walk.specs.Judgment.{Judgment}
use Rattle.walk.specs.Judgment as J
use Rattle.walk.specs.State.{Thing, term, interval, context, inference}
use Rattle.link.specs.Lists.{Extends}
use Rattle.link.specs.Things.{Shown, a_quote, an_interval, a_context, Cell, Low, cell_lift, low_lift, cell_same, cell_number, low_same, low_number, Plain, Seen, held, Known, none_left, known}

-- the kind and the parts of a cell
pub data Shape (xs : List Thing) : (kind a b c : ℕ) → Thing → Type 0 where
  s_universe : {a : ℕ} → Shape xs 1 a 0 0 (term (Universe a))
  s_var : {a : ℕ} → Shape xs 2 a 0 0 (term (Var a))
  s_nat : Shape xs 3 0 0 0 (term Nat)
  s_zero : Shape xs 4 0 0 0 (term Zero)
  s_pi : {a : ℕ} {a' : Term} {b : ℕ} {b' : Term} → Cell a (term a') xs → Cell b (term b') xs → Shape xs 5 a b 0 (term (Pi a' b'))
  s_lam : {a : ℕ} {a' : Term} {b : ℕ} {b' : Term} → Cell a (term a') xs → Cell b (term b') xs → Shape xs 6 a b 0 (term (Lam a' b'))
  s_app : {a : ℕ} {a' : Term} {b : ℕ} {b' : Term} → Cell a (term a') xs → Cell b (term b') xs → Shape xs 7 a b 0 (term (App a' b'))
  s_path : {a : ℕ} {a' : Term} {b : ℕ} {b' : Term} {c : ℕ} {c' : Term} → Cell a (term a') xs → Cell b (term b') xs → Cell c (term c') xs → Shape xs 8 a b c (term (Path a' b' c'))
  s_plam : {a : ℕ} {a' : Term} {b : ℕ} {b' : Term} → Cell a (term a') xs → Cell b (term b') xs → Shape xs 9 a b 0 (term (PathLam a' b'))
  s_papp : {a : ℕ} {a' : Term} {b : ℕ} {b' : Interval} → Cell a (term a') xs → Cell b (interval b') xs → Shape xs 10 a b 0 (term (PathApp a' b'))
  s_sigma : {a : ℕ} {a' : Term} {b : ℕ} {b' : Term} → Cell a (term a') xs → Cell b (term b') xs → Shape xs 11 a b 0 (term (Sigma a' b'))
  s_pair : {a : ℕ} {a' : Term} {b : ℕ} {b' : Term} {c : ℕ} {c' : Term} → Cell a (term a') xs → Cell b (term b') xs → Cell c (term c') xs → Shape xs 12 a b c (term (Pair a' b' c'))
  s_fst : {a : ℕ} {a' : Term} → Cell a (term a') xs → Shape xs 13 a 0 0 (term (Fst a'))
  s_snd : {a : ℕ} {a' : Term} → Cell a (term a') xs → Shape xs 14 a 0 0 (term (Snd a'))
  s_i0 : Shape xs 16 0 0 0 (interval I0)
  s_i1 : Shape xs 17 0 0 0 (interval I1)
  s_dim : {a : ℕ} → Shape xs 18 a 0 0 (interval (Dim a))
  s_neg : {a : ℕ} {a' : Interval} → Cell a (interval a') xs → Shape xs 19 a 0 0 (interval (Neg a'))
  s_meet : {a : ℕ} {a' : Interval} {b : ℕ} {b' : Interval} → Cell a (interval a') xs → Cell b (interval b') xs → Shape xs 20 a b 0 (interval (Meet a' b'))
  s_join : {a : ℕ} {a' : Interval} {b : ℕ} {b' : Interval} → Cell a (interval a') xs → Cell b (interval b') xs → Shape xs 21 a b 0 (interval (Join a' b'))
  s_nil : Shape xs 32 0 0 0 (context Nil)
  s_cons : {a : ℕ} {a' : Term} {b : ℕ} {b' : Context} → Cell a (term a') xs → Cell b (context b') xs → Shape xs 33 a b 0 (context (Cons a' b'))

pub s_lift : {xs ys : List Thing} {kind a b c : ℕ} {x : Thing} → Extends xs ys → Shape xs kind a b c x → Shape ys kind a b c x
s_lift e s_universe = s_universe
s_lift e s_var = s_var
s_lift e s_nat = s_nat
s_lift e s_zero = s_zero
s_lift e (s_pi h0 h1) = s_pi (cell_lift e h0) (cell_lift e h1)
s_lift e (s_lam h0 h1) = s_lam (cell_lift e h0) (cell_lift e h1)
s_lift e (s_app h0 h1) = s_app (cell_lift e h0) (cell_lift e h1)
s_lift e (s_path h0 h1 h2) = s_path (cell_lift e h0) (cell_lift e h1) (cell_lift e h2)
s_lift e (s_plam h0 h1) = s_plam (cell_lift e h0) (cell_lift e h1)
s_lift e (s_papp h0 h1) = s_papp (cell_lift e h0) (cell_lift e h1)
s_lift e (s_sigma h0 h1) = s_sigma (cell_lift e h0) (cell_lift e h1)
s_lift e (s_pair h0 h1 h2) = s_pair (cell_lift e h0) (cell_lift e h1) (cell_lift e h2)
s_lift e (s_fst h0) = s_fst (cell_lift e h0)
s_lift e (s_snd h0) = s_snd (cell_lift e h0)
s_lift e s_i0 = s_i0
s_lift e s_i1 = s_i1
s_lift e s_dim = s_dim
s_lift e (s_neg h0) = s_neg (cell_lift e h0)
s_lift e (s_meet h0 h1) = s_meet (cell_lift e h0) (cell_lift e h1)
s_lift e (s_join h0 h1) = s_join (cell_lift e h0) (cell_lift e h1)
s_lift e s_nil = s_nil
s_lift e (s_cons h0 h1) = s_cons (cell_lift e h0) (cell_lift e h1)

-- words fix what they stand for, and are fixed by it
pub s_same : {xs : List Thing} {kind a b c : ℕ} {x y : Thing} → Shape xs kind a b c x → Shape xs kind a b c y → x ≡ y
s_same s_universe s_universe = refl
s_same s_var s_var = refl
s_same s_nat s_nat = refl
s_same s_zero s_zero = refl
s_same (s_pi h0 h1) (s_pi k0 k1) = let e0 = cell_same h0 k0 in let e1 = cell_same h1 k1 in cc
s_same (s_lam h0 h1) (s_lam k0 k1) = let e0 = cell_same h0 k0 in let e1 = cell_same h1 k1 in cc
s_same (s_app h0 h1) (s_app k0 k1) = let e0 = cell_same h0 k0 in let e1 = cell_same h1 k1 in cc
s_same (s_path h0 h1 h2) (s_path k0 k1 k2) = let e0 = cell_same h0 k0 in let e1 = cell_same h1 k1 in let e2 = cell_same h2 k2 in cc
s_same (s_plam h0 h1) (s_plam k0 k1) = let e0 = cell_same h0 k0 in let e1 = cell_same h1 k1 in cc
s_same (s_papp h0 h1) (s_papp k0 k1) = let e0 = cell_same h0 k0 in let e1 = cell_same h1 k1 in cc
s_same (s_sigma h0 h1) (s_sigma k0 k1) = let e0 = cell_same h0 k0 in let e1 = cell_same h1 k1 in cc
s_same (s_pair h0 h1 h2) (s_pair k0 k1 k2) = let e0 = cell_same h0 k0 in let e1 = cell_same h1 k1 in let e2 = cell_same h2 k2 in cc
s_same (s_fst h0) (s_fst k0) = let e0 = cell_same h0 k0 in cc
s_same (s_snd h0) (s_snd k0) = let e0 = cell_same h0 k0 in cc
s_same s_i0 s_i0 = refl
s_same s_i1 s_i1 = refl
s_same s_dim s_dim = refl
s_same (s_neg h0) (s_neg k0) = let e0 = cell_same h0 k0 in cc
s_same (s_meet h0 h1) (s_meet k0 k1) = let e0 = cell_same h0 k0 in let e1 = cell_same h1 k1 in cc
s_same (s_join h0 h1) (s_join k0 k1) = let e0 = cell_same h0 k0 in let e1 = cell_same h1 k1 in cc
s_same s_nil s_nil = refl
s_same (s_cons h0 h1) (s_cons k0 k1) = let e0 = cell_same h0 k0 in let e1 = cell_same h1 k1 in cc

pub s_words : {xs : List Thing} {kind a b c kind' a' b' c' : ℕ} {x : Thing} → Shape xs kind a b c x → Shape xs kind' a' b' c' x → (kind ∷ a ∷ b ∷ c ∷ []) ≡ (kind' ∷ a' ∷ b' ∷ c' ∷ [])
s_words s_universe s_universe = refl
s_words s_var s_var = refl
s_words s_nat s_nat = refl
s_words s_zero s_zero = refl
s_words (s_pi h0 h1) (s_pi k0 k1) = let e0 = cell_number h0 k0 in let e1 = cell_number h1 k1 in cc
s_words (s_lam h0 h1) (s_lam k0 k1) = let e0 = cell_number h0 k0 in let e1 = cell_number h1 k1 in cc
s_words (s_app h0 h1) (s_app k0 k1) = let e0 = cell_number h0 k0 in let e1 = cell_number h1 k1 in cc
s_words (s_path h0 h1 h2) (s_path k0 k1 k2) = let e0 = cell_number h0 k0 in let e1 = cell_number h1 k1 in let e2 = cell_number h2 k2 in cc
s_words (s_plam h0 h1) (s_plam k0 k1) = let e0 = cell_number h0 k0 in let e1 = cell_number h1 k1 in cc
s_words (s_papp h0 h1) (s_papp k0 k1) = let e0 = cell_number h0 k0 in let e1 = cell_number h1 k1 in cc
s_words (s_sigma h0 h1) (s_sigma k0 k1) = let e0 = cell_number h0 k0 in let e1 = cell_number h1 k1 in cc
s_words (s_pair h0 h1 h2) (s_pair k0 k1 k2) = let e0 = cell_number h0 k0 in let e1 = cell_number h1 k1 in let e2 = cell_number h2 k2 in cc
s_words (s_fst h0) (s_fst k0) = let e0 = cell_number h0 k0 in cc
s_words (s_snd h0) (s_snd k0) = let e0 = cell_number h0 k0 in cc
s_words s_i0 s_i0 = refl
s_words s_i1 s_i1 = refl
s_words s_dim s_dim = refl
s_words (s_neg h0) (s_neg k0) = let e0 = cell_number h0 k0 in cc
s_words (s_meet h0 h1) (s_meet k0 k1) = let e0 = cell_number h0 k0 in let e1 = cell_number h1 k1 in cc
s_words (s_join h0 h1) (s_join k0 k1) = let e0 = cell_number h0 k0 in let e1 = cell_number h1 k1 in cc
s_words s_nil s_nil = refl
s_words (s_cons h0 h1) (s_cons k0 k1) = let e0 = cell_number h0 k0 in let e1 = cell_number h1 k1 in cc

-- the same of a quote, over the lowest cells with its parts
pub data Look (xs : List Thing) : (kind a b c : ℕ) → Shown → Type 0 where
  l_universe : {a : ℕ} → Look xs 1 a 0 0 (a_quote (u a))
  l_var : {a : ℕ} → Look xs 2 a 0 0 (a_quote (v a))
  l_nat : Look xs 3 0 0 0 (a_quote nat)
  l_zero : Look xs 4 0 0 0 (a_quote zero)
  l_pi : {a : ℕ} {a' : Quote} {b : ℕ} {b' : Quote} → Low a (a_quote a') xs → Low b (a_quote b') xs → Look xs 5 a b 0 (a_quote (pi a' b'))
  l_lam : {b : ℕ} {b' : Quote} → Low b (a_quote b') xs → Look xs 6 0 b 0 (a_quote (lam b'))
  l_app : {a : ℕ} {a' : Quote} {b : ℕ} {b' : Quote} → Low a (a_quote a') xs → Low b (a_quote b') xs → Look xs 7 a b 0 (a_quote (app a' b'))
  l_path : {a : ℕ} {a' : Quote} {b : ℕ} {b' : Quote} {c : ℕ} {c' : Quote} → Low a (a_quote a') xs → Low b (a_quote b') xs → Low c (a_quote c') xs → Look xs 8 a b c (a_quote (path a' b' c'))
  l_plam : {b : ℕ} {b' : Quote} → Low b (a_quote b') xs → Look xs 9 0 b 0 (a_quote (plam b'))
  l_papp : {a : ℕ} {a' : Quote} {b : ℕ} {b' : Interval} → Low a (a_quote a') xs → Low b (an_interval b') xs → Look xs 10 a b 0 (a_quote (papp a' b'))
  l_sigma : {a : ℕ} {a' : Quote} {b : ℕ} {b' : Quote} → Low a (a_quote a') xs → Low b (a_quote b') xs → Look xs 11 a b 0 (a_quote (sigma a' b'))
  l_pair : {b : ℕ} {b' : Quote} {c : ℕ} {c' : Quote} → Low b (a_quote b') xs → Low c (a_quote c') xs → Look xs 12 0 b c (a_quote (pair b' c'))
  l_fst : {a : ℕ} {a' : Quote} → Low a (a_quote a') xs → Look xs 13 a 0 0 (a_quote (fst a'))
  l_snd : {a : ℕ} {a' : Quote} → Low a (a_quote a') xs → Look xs 14 a 0 0 (a_quote (snd a'))
  l_i0 : Look xs 16 0 0 0 (an_interval I0)
  l_i1 : Look xs 17 0 0 0 (an_interval I1)
  l_dim : {a : ℕ} → Look xs 18 a 0 0 (an_interval (Dim a))
  l_neg : {a : ℕ} {a' : Interval} → Low a (an_interval a') xs → Look xs 19 a 0 0 (an_interval (Neg a'))
  l_meet : {a : ℕ} {a' : Interval} {b : ℕ} {b' : Interval} → Low a (an_interval a') xs → Low b (an_interval b') xs → Look xs 20 a b 0 (an_interval (Meet a' b'))
  l_join : {a : ℕ} {a' : Interval} {b : ℕ} {b' : Interval} → Low a (an_interval a') xs → Low b (an_interval b') xs → Look xs 21 a b 0 (an_interval (Join a' b'))
  l_nil : Look xs 32 0 0 0 (a_context nil)
  l_cons : {a : ℕ} {a' : Quote} {b : ℕ} {b' : Quotes} → Low a (a_quote a') xs → Low b (a_context b') xs → Look xs 33 a b 0 (a_context (cons a' b'))

pub l_lift : {xs ys : List Thing} {kind a b c : ℕ} {x : Shown} → Extends xs ys → Look xs kind a b c x → Look ys kind a b c x
l_lift e l_universe = l_universe
l_lift e l_var = l_var
l_lift e l_nat = l_nat
l_lift e l_zero = l_zero
l_lift e (l_pi h0 h1) = l_pi (low_lift e h0) (low_lift e h1)
l_lift e (l_lam h0) = l_lam (low_lift e h0)
l_lift e (l_app h0 h1) = l_app (low_lift e h0) (low_lift e h1)
l_lift e (l_path h0 h1 h2) = l_path (low_lift e h0) (low_lift e h1) (low_lift e h2)
l_lift e (l_plam h0) = l_plam (low_lift e h0)
l_lift e (l_papp h0 h1) = l_papp (low_lift e h0) (low_lift e h1)
l_lift e (l_sigma h0 h1) = l_sigma (low_lift e h0) (low_lift e h1)
l_lift e (l_pair h0 h1) = l_pair (low_lift e h0) (low_lift e h1)
l_lift e (l_fst h0) = l_fst (low_lift e h0)
l_lift e (l_snd h0) = l_snd (low_lift e h0)
l_lift e l_i0 = l_i0
l_lift e l_i1 = l_i1
l_lift e l_dim = l_dim
l_lift e (l_neg h0) = l_neg (low_lift e h0)
l_lift e (l_meet h0 h1) = l_meet (low_lift e h0) (low_lift e h1)
l_lift e (l_join h0 h1) = l_join (low_lift e h0) (low_lift e h1)
l_lift e l_nil = l_nil
l_lift e (l_cons h0 h1) = l_cons (low_lift e h0) (low_lift e h1)

-- words fix what they stand for, and are fixed by it
pub l_same : {xs : List Thing} {kind a b c : ℕ} {x y : Shown} → Look xs kind a b c x → Look xs kind a b c y → x ≡ y
l_same l_universe l_universe = refl
l_same l_var l_var = refl
l_same l_nat l_nat = refl
l_same l_zero l_zero = refl
l_same (l_pi h0 h1) (l_pi k0 k1) = let e0 = low_same h0 k0 in let e1 = low_same h1 k1 in cc
l_same (l_lam h0) (l_lam k0) = let e0 = low_same h0 k0 in cc
l_same (l_app h0 h1) (l_app k0 k1) = let e0 = low_same h0 k0 in let e1 = low_same h1 k1 in cc
l_same (l_path h0 h1 h2) (l_path k0 k1 k2) = let e0 = low_same h0 k0 in let e1 = low_same h1 k1 in let e2 = low_same h2 k2 in cc
l_same (l_plam h0) (l_plam k0) = let e0 = low_same h0 k0 in cc
l_same (l_papp h0 h1) (l_papp k0 k1) = let e0 = low_same h0 k0 in let e1 = low_same h1 k1 in cc
l_same (l_sigma h0 h1) (l_sigma k0 k1) = let e0 = low_same h0 k0 in let e1 = low_same h1 k1 in cc
l_same (l_pair h0 h1) (l_pair k0 k1) = let e0 = low_same h0 k0 in let e1 = low_same h1 k1 in cc
l_same (l_fst h0) (l_fst k0) = let e0 = low_same h0 k0 in cc
l_same (l_snd h0) (l_snd k0) = let e0 = low_same h0 k0 in cc
l_same l_i0 l_i0 = refl
l_same l_i1 l_i1 = refl
l_same l_dim l_dim = refl
l_same (l_neg h0) (l_neg k0) = let e0 = low_same h0 k0 in cc
l_same (l_meet h0 h1) (l_meet k0 k1) = let e0 = low_same h0 k0 in let e1 = low_same h1 k1 in cc
l_same (l_join h0 h1) (l_join k0 k1) = let e0 = low_same h0 k0 in let e1 = low_same h1 k1 in cc
l_same l_nil l_nil = refl
l_same (l_cons h0 h1) (l_cons k0 k1) = let e0 = low_same h0 k0 in let e1 = low_same h1 k1 in cc

pub l_words : {xs : List Thing} {kind a b c kind' a' b' c' : ℕ} {x : Shown} → Look xs kind a b c x → Look xs kind' a' b' c' x → (kind ∷ a ∷ b ∷ c ∷ []) ≡ (kind' ∷ a' ∷ b' ∷ c' ∷ [])
l_words l_universe l_universe = refl
l_words l_var l_var = refl
l_words l_nat l_nat = refl
l_words l_zero l_zero = refl
l_words (l_pi h0 h1) (l_pi k0 k1) = let e0 = low_number h0 k0 in let e1 = low_number h1 k1 in cc
l_words (l_lam h0) (l_lam k0) = let e0 = low_number h0 k0 in cc
l_words (l_app h0 h1) (l_app k0 k1) = let e0 = low_number h0 k0 in let e1 = low_number h1 k1 in cc
l_words (l_path h0 h1 h2) (l_path k0 k1 k2) = let e0 = low_number h0 k0 in let e1 = low_number h1 k1 in let e2 = low_number h2 k2 in cc
l_words (l_plam h0) (l_plam k0) = let e0 = low_number h0 k0 in cc
l_words (l_papp h0 h1) (l_papp k0 k1) = let e0 = low_number h0 k0 in let e1 = low_number h1 k1 in cc
l_words (l_sigma h0 h1) (l_sigma k0 k1) = let e0 = low_number h0 k0 in let e1 = low_number h1 k1 in cc
l_words (l_pair h0 h1) (l_pair k0 k1) = let e0 = low_number h0 k0 in let e1 = low_number h1 k1 in cc
l_words (l_fst h0) (l_fst k0) = let e0 = low_number h0 k0 in cc
l_words (l_snd h0) (l_snd k0) = let e0 = low_number h0 k0 in cc
l_words l_i0 l_i0 = refl
l_words l_i1 l_i1 = refl
l_words l_dim l_dim = refl
l_words (l_neg h0) (l_neg k0) = let e0 = low_number h0 k0 in cc
l_words (l_meet h0 h1) (l_meet k0 k1) = let e0 = low_number h0 k0 in let e1 = low_number h1 k1 in cc
l_words (l_join h0 h1) (l_join k0 k1) = let e0 = low_number h0 k0 in let e1 = low_number h1 k1 in cc
l_words l_nil l_nil = refl
l_words (l_cons h0 h1) (l_cons k0 k1) = let e0 = low_number h0 k0 in let e1 = low_number h1 k1 in cc

pub s_plain : {xs : List Thing} {kind a b c : ℕ} {x : Thing} → Shape xs kind a b c x → (eqb 40 kind ≡ false) × Plain x × (eqb kind 40 ≡ false)
s_plain s_universe = (refl, tt, refl)
s_plain s_var = (refl, tt, refl)
s_plain s_nat = (refl, tt, refl)
s_plain s_zero = (refl, tt, refl)
s_plain (s_pi h0 h1) = (refl, tt, refl)
s_plain (s_lam h0 h1) = (refl, tt, refl)
s_plain (s_app h0 h1) = (refl, tt, refl)
s_plain (s_path h0 h1 h2) = (refl, tt, refl)
s_plain (s_plam h0 h1) = (refl, tt, refl)
s_plain (s_papp h0 h1) = (refl, tt, refl)
s_plain (s_sigma h0 h1) = (refl, tt, refl)
s_plain (s_pair h0 h1 h2) = (refl, tt, refl)
s_plain (s_fst h0) = (refl, tt, refl)
s_plain (s_snd h0) = (refl, tt, refl)
s_plain s_i0 = (refl, tt, refl)
s_plain s_i1 = (refl, tt, refl)
s_plain s_dim = (refl, tt, refl)
s_plain (s_neg h0) = (refl, tt, refl)
s_plain (s_meet h0 h1) = (refl, tt, refl)
s_plain (s_join h0 h1) = (refl, tt, refl)
s_plain s_nil = (refl, tt, refl)
s_plain (s_cons h0 h1) = (refl, tt, refl)

pub l_plain : {xs : List Thing} {kind a b c : ℕ} {x : Shown} → Look xs kind a b c x → (eqb 40 kind ≡ false) × Seen x × (eqb kind 40 ≡ false)
l_plain l_universe = (refl, tt, refl)
l_plain l_var = (refl, tt, refl)
l_plain l_nat = (refl, tt, refl)
l_plain l_zero = (refl, tt, refl)
l_plain (l_pi h0 h1) = (refl, tt, refl)
l_plain (l_lam h0) = (refl, tt, refl)
l_plain (l_app h0 h1) = (refl, tt, refl)
l_plain (l_path h0 h1 h2) = (refl, tt, refl)
l_plain (l_plam h0) = (refl, tt, refl)
l_plain (l_papp h0 h1) = (refl, tt, refl)
l_plain (l_sigma h0 h1) = (refl, tt, refl)
l_plain (l_pair h0 h1) = (refl, tt, refl)
l_plain (l_fst h0) = (refl, tt, refl)
l_plain (l_snd h0) = (refl, tt, refl)
l_plain l_i0 = (refl, tt, refl)
l_plain l_i1 = (refl, tt, refl)
l_plain l_dim = (refl, tt, refl)
l_plain (l_neg h0) = (refl, tt, refl)
l_plain (l_meet h0 h1) = (refl, tt, refl)
l_plain (l_join h0 h1) = (refl, tt, refl)
l_plain l_nil = (refl, tt, refl)
l_plain (l_cons h0 h1) = (refl, tt, refl)

-- the parts of a thing have cells
abbrev pub parts : Thing → List Thing
parts (term (Universe a')) = []
parts (term (Var a')) = []
parts (term Nat) = []
parts (term Zero) = []
parts (term (Pi a' b')) = term a' ∷ term b' ∷ []
parts (term (Lam a' b')) = term a' ∷ term b' ∷ []
parts (term (App a' b')) = term a' ∷ term b' ∷ []
parts (term (Path a' b' c')) = term a' ∷ term b' ∷ term c' ∷ []
parts (term (PathLam a' b')) = term a' ∷ term b' ∷ []
parts (term (PathApp a' b')) = term a' ∷ interval b' ∷ []
parts (term (Sigma a' b')) = term a' ∷ term b' ∷ []
parts (term (Pair a' b' c')) = term a' ∷ term b' ∷ term c' ∷ []
parts (term (Fst a')) = term a' ∷ []
parts (term (Snd a')) = term a' ∷ []
parts (interval I0) = []
parts (interval I1) = []
parts (interval (Dim a')) = []
parts (interval (Neg a')) = interval a' ∷ []
parts (interval (Meet a' b')) = interval a' ∷ interval b' ∷ []
parts (interval (Join a' b')) = interval a' ∷ interval b' ∷ []
parts (context Nil) = []
parts (context (Cons a' b')) = term a' ∷ context b' ∷ []
parts (inference k) = []

pub shape_known : {xs : List Thing} {kind a b c : ℕ} {x : Thing} → Shape xs kind a b c x → Known xs (parts x)
shape_known s_universe = none_left
shape_known s_var = none_left
shape_known s_nat = none_left
shape_known s_zero = none_left
shape_known (s_pi h0 h1) = known (held h0) (known (held h1) (none_left))
shape_known (s_lam h0 h1) = known (held h0) (known (held h1) (none_left))
shape_known (s_app h0 h1) = known (held h0) (known (held h1) (none_left))
shape_known (s_path h0 h1 h2) = known (held h0) (known (held h1) (known (held h2) (none_left)))
shape_known (s_plam h0 h1) = known (held h0) (known (held h1) (none_left))
shape_known (s_papp h0 h1) = known (held h0) (known (held h1) (none_left))
shape_known (s_sigma h0 h1) = known (held h0) (known (held h1) (none_left))
shape_known (s_pair h0 h1 h2) = known (held h0) (known (held h1) (known (held h2) (none_left)))
shape_known (s_fst h0) = known (held h0) (none_left)
shape_known (s_snd h0) = known (held h0) (none_left)
shape_known s_i0 = none_left
shape_known s_i1 = none_left
shape_known s_dim = none_left
shape_known (s_neg h0) = known (held h0) (none_left)
shape_known (s_meet h0 h1) = known (held h0) (known (held h1) (none_left))
shape_known (s_join h0 h1) = known (held h0) (known (held h1) (none_left))
shape_known s_nil = none_left
shape_known (s_cons h0 h1) = known (held h0) (known (held h1) (none_left))

-- the kind and the arguments of a judgment
pub data Spoken (xs : List Thing) : (kind count a b c d e : ℕ) → Judgment → Type 0 where
  j_ctx : {a : ℕ} {b : ℕ} {b' : Quotes} → Low b (a_context b') xs → Spoken xs 0 2 a b 0 0 0 (J.ctx a b')
  j_dshiftctx : {a : ℕ} {a' : Quotes} {b : ℕ} {c : ℕ} {c' : Quotes} → Low a (a_context a') xs → Low c (a_context c') xs → Spoken xs 1 3 a b c 0 0 (J.dshiftctx a' b c')
  j_lookup : {a : ℕ} {a' : Quotes} {b : ℕ} {c : ℕ} {c' : Quote} → Low a (a_context a') xs → Low c (a_quote c') xs → Spoken xs 2 3 a b c 0 0 (J.lookup a' b c')
  j_lt : {a : ℕ} {b : ℕ} → Spoken xs 3 2 a b 0 0 0 (J.lt a b)
  j_le : {a : ℕ} {b : ℕ} → Spoken xs 4 2 a b 0 0 0 (J.le a b)
  j_max : {a : ℕ} {b : ℕ} {c : ℕ} → Spoken xs 5 3 a b c 0 0 (J.max a b c)
  j_interval : {a : ℕ} {b : ℕ} {b' : Interval} → Low b (an_interval b') xs → Spoken xs 6 2 a b 0 0 0 (J.interval a b')
  j_ishift : {a : ℕ} {a' : Interval} {b : ℕ} {c : ℕ} {c' : Interval} → Low a (an_interval a') xs → Low c (an_interval c') xs → Spoken xs 7 3 a b c 0 0 (J.ishift a' b c')
  j_isubst : {a : ℕ} {a' : Interval} {b : ℕ} {c : ℕ} {c' : Interval} {d : ℕ} {d' : Interval} → Low a (an_interval a') xs → Low c (an_interval c') xs → Low d (an_interval d') xs → Spoken xs 8 4 a b c d 0 (J.isubst a' b c' d')
  j_shift : {a : ℕ} {a' : Quote} {b : ℕ} {c : ℕ} {c' : Quote} → Low a (a_quote a') xs → Low c (a_quote c') xs → Spoken xs 9 3 a b c 0 0 (J.shift a' b c')
  j_subst : {a : ℕ} {a' : Quote} {b : ℕ} {c : ℕ} {c' : Quote} {d : ℕ} {d' : Quote} → Low a (a_quote a') xs → Low c (a_quote c') xs → Low d (a_quote d') xs → Spoken xs 10 4 a b c d 0 (J.subst a' b c' d')
  j_dshift : {a : ℕ} {a' : Quote} {b : ℕ} {c : ℕ} {c' : Quote} → Low a (a_quote a') xs → Low c (a_quote c') xs → Spoken xs 11 3 a b c 0 0 (J.dshift a' b c')
  j_dsubst : {a : ℕ} {a' : Quote} {b : ℕ} {c : ℕ} {c' : Interval} {d : ℕ} {d' : Quote} → Low a (a_quote a') xs → Low c (an_interval c') xs → Low d (a_quote d') xs → Spoken xs 12 4 a b c d 0 (J.dsubst a' b c' d')
  j_has : {a : ℕ} {b : ℕ} {b' : Quotes} {c : ℕ} {c' : Quote} {d : ℕ} {d' : Quote} → Low b (a_context b') xs → Low c (a_quote c') xs → Low d (a_quote d') xs → Spoken xs 13 4 a b c d 0 (J.has a b' c' d')
  j_eq : {a : ℕ} {b : ℕ} {b' : Quotes} {c : ℕ} {c' : Quote} {d : ℕ} {d' : Quote} {e : ℕ} {e' : Quote} → Low b (a_context b') xs → Low c (a_quote c') xs → Low d (a_quote d') xs → Low e (a_quote e') xs → Spoken xs 14 5 a b c d e (J.eq a b' c' d' e')
  j_iend : {a : ℕ} {a' : Interval} {b : ℕ} {b' : Interval} → Low a (an_interval a') xs → Low b (an_interval b') xs → Spoken xs 15 2 a b 0 0 0 (J.iend a' b')

pub j_lift : {xs ys : List Thing} {kind count a b c d e : ℕ} {x : Judgment} → Extends xs ys → Spoken xs kind count a b c d e x → Spoken ys kind count a b c d e x
j_lift e (j_ctx h0) = j_ctx (low_lift e h0)
j_lift e (j_dshiftctx h0 h1) = j_dshiftctx (low_lift e h0) (low_lift e h1)
j_lift e (j_lookup h0 h1) = j_lookup (low_lift e h0) (low_lift e h1)
j_lift e j_lt = j_lt
j_lift e j_le = j_le
j_lift e j_max = j_max
j_lift e (j_interval h0) = j_interval (low_lift e h0)
j_lift e (j_ishift h0 h1) = j_ishift (low_lift e h0) (low_lift e h1)
j_lift e (j_isubst h0 h1 h2) = j_isubst (low_lift e h0) (low_lift e h1) (low_lift e h2)
j_lift e (j_shift h0 h1) = j_shift (low_lift e h0) (low_lift e h1)
j_lift e (j_subst h0 h1 h2) = j_subst (low_lift e h0) (low_lift e h1) (low_lift e h2)
j_lift e (j_dshift h0 h1) = j_dshift (low_lift e h0) (low_lift e h1)
j_lift e (j_dsubst h0 h1 h2) = j_dsubst (low_lift e h0) (low_lift e h1) (low_lift e h2)
j_lift e (j_has h0 h1 h2) = j_has (low_lift e h0) (low_lift e h1) (low_lift e h2)
j_lift e (j_eq h0 h1 h2 h3) = j_eq (low_lift e h0) (low_lift e h1) (low_lift e h2) (low_lift e h3)
j_lift e (j_iend h0 h1) = j_iend (low_lift e h0) (low_lift e h1)

-- words fix what they stand for, and are fixed by it
pub j_same : {xs : List Thing} {kind count count' a b c d e : ℕ} {x y : Judgment} → Spoken xs kind count a b c d e x → Spoken xs kind count' a b c d e y → x ≡ y
j_same (j_ctx h0) (j_ctx k0) = let e0 = low_same h0 k0 in cc
j_same (j_dshiftctx h0 h1) (j_dshiftctx k0 k1) = let e0 = low_same h0 k0 in let e1 = low_same h1 k1 in cc
j_same (j_lookup h0 h1) (j_lookup k0 k1) = let e0 = low_same h0 k0 in let e1 = low_same h1 k1 in cc
j_same j_lt j_lt = refl
j_same j_le j_le = refl
j_same j_max j_max = refl
j_same (j_interval h0) (j_interval k0) = let e0 = low_same h0 k0 in cc
j_same (j_ishift h0 h1) (j_ishift k0 k1) = let e0 = low_same h0 k0 in let e1 = low_same h1 k1 in cc
j_same (j_isubst h0 h1 h2) (j_isubst k0 k1 k2) = let e0 = low_same h0 k0 in let e1 = low_same h1 k1 in let e2 = low_same h2 k2 in cc
j_same (j_shift h0 h1) (j_shift k0 k1) = let e0 = low_same h0 k0 in let e1 = low_same h1 k1 in cc
j_same (j_subst h0 h1 h2) (j_subst k0 k1 k2) = let e0 = low_same h0 k0 in let e1 = low_same h1 k1 in let e2 = low_same h2 k2 in cc
j_same (j_dshift h0 h1) (j_dshift k0 k1) = let e0 = low_same h0 k0 in let e1 = low_same h1 k1 in cc
j_same (j_dsubst h0 h1 h2) (j_dsubst k0 k1 k2) = let e0 = low_same h0 k0 in let e1 = low_same h1 k1 in let e2 = low_same h2 k2 in cc
j_same (j_has h0 h1 h2) (j_has k0 k1 k2) = let e0 = low_same h0 k0 in let e1 = low_same h1 k1 in let e2 = low_same h2 k2 in cc
j_same (j_eq h0 h1 h2 h3) (j_eq k0 k1 k2 k3) = let e0 = low_same h0 k0 in let e1 = low_same h1 k1 in let e2 = low_same h2 k2 in let e3 = low_same h3 k3 in cc
j_same (j_iend h0 h1) (j_iend k0 k1) = let e0 = low_same h0 k0 in let e1 = low_same h1 k1 in cc

pub j_words : {xs : List Thing} {kind count a b c d e kind' count' a' b' c' d' e' : ℕ} {x : Judgment} → Spoken xs kind count a b c d e x → Spoken xs kind' count' a' b' c' d' e' x → (kind ∷ count ∷ a ∷ b ∷ c ∷ d ∷ e ∷ []) ≡ (kind' ∷ count' ∷ a' ∷ b' ∷ c' ∷ d' ∷ e' ∷ [])
j_words (j_ctx h0) (j_ctx k0) = let e0 = low_number h0 k0 in cc
j_words (j_dshiftctx h0 h1) (j_dshiftctx k0 k1) = let e0 = low_number h0 k0 in let e1 = low_number h1 k1 in cc
j_words (j_lookup h0 h1) (j_lookup k0 k1) = let e0 = low_number h0 k0 in let e1 = low_number h1 k1 in cc
j_words j_lt j_lt = refl
j_words j_le j_le = refl
j_words j_max j_max = refl
j_words (j_interval h0) (j_interval k0) = let e0 = low_number h0 k0 in cc
j_words (j_ishift h0 h1) (j_ishift k0 k1) = let e0 = low_number h0 k0 in let e1 = low_number h1 k1 in cc
j_words (j_isubst h0 h1 h2) (j_isubst k0 k1 k2) = let e0 = low_number h0 k0 in let e1 = low_number h1 k1 in let e2 = low_number h2 k2 in cc
j_words (j_shift h0 h1) (j_shift k0 k1) = let e0 = low_number h0 k0 in let e1 = low_number h1 k1 in cc
j_words (j_subst h0 h1 h2) (j_subst k0 k1 k2) = let e0 = low_number h0 k0 in let e1 = low_number h1 k1 in let e2 = low_number h2 k2 in cc
j_words (j_dshift h0 h1) (j_dshift k0 k1) = let e0 = low_number h0 k0 in let e1 = low_number h1 k1 in cc
j_words (j_dsubst h0 h1 h2) (j_dsubst k0 k1 k2) = let e0 = low_number h0 k0 in let e1 = low_number h1 k1 in let e2 = low_number h2 k2 in cc
j_words (j_has h0 h1 h2) (j_has k0 k1 k2) = let e0 = low_number h0 k0 in let e1 = low_number h1 k1 in let e2 = low_number h2 k2 in cc
j_words (j_eq h0 h1 h2 h3) (j_eq k0 k1 k2 k3) = let e0 = low_number h0 k0 in let e1 = low_number h1 k1 in let e2 = low_number h2 k2 in let e3 = low_number h3 k3 in cc
j_words (j_iend h0 h1) (j_iend k0 k1) = let e0 = low_number h0 k0 in let e1 = low_number h1 k1 in cc
