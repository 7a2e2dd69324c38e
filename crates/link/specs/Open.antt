-- A cell is opened: what is done is matched for each kind of thing that it can hold.
use Rattle.std.specs.Prelude.{ℕ, ◌≡◌, List, true, eqb, get_or}
use Rattle.std.proofs.Math.Path.{refl}
use Rattle.std.proofs.Common.{sym, ◌∙◌, ap, eqb→eq}
use Rattle.std.proofs.Math.Option.{none, some}
use Rattle.ast.specs.Cells.{same_quote_of, shape_by, shape_of}
use Rattle.ast.specs.declared.cells.Cell.{Cell as Words}
use Rattle.ast.specs.declared.cells.Shape.{Shape as Form}
use Rattle.ast.specs.declared.cells.Shape.TheVariants as form
use Rattle.producer.specs.Machine.{W, open_cell}
use Rattle.producer.specs.Machine as C
use Rattle.walk.specs.Syntax.{Interval, I0, I1, Dim, Neg, Meet, Join, Term, Universe, Var, Nat, Zero, Pi, Lam, App, Path, PathLam, PathApp, Sigma, Pair, Fst, Snd, Context, Nil, Cons, Quote, quote, quote?}
use Rattle.walk.specs.State.{Thing, term, interval, context, M, choose◌then◌else◌, from◌get◌or◌}
use Rattle.walk.specs.Reader.{Kind, KindDiscrete, k_u, k_v, k_nat, k_zero, k_pi, k_lam, k_app, k_path, k_plam, k_papp, k_sigma, k_pair, k_fst, k_snd, kinds}
use Rattle.walk.specs.Bytes.{kind_byte}
use Rattle.walk.specs.Walk.Typing.{view, level, pi_parts, lam_parts, path_parts, plam_parts, sigma_parts, pair_parts}
use Rattle.link.specs.Lists.{yes?}
use Rattle.link.specs.Things.{a_quote, show, Cell, Low, low_same, low_number}
use Rattle.link.specs.Tables.{Shape, s_universe, s_var, s_nat, s_zero, s_pi, s_lam, s_app, s_path, s_plam, s_papp, s_sigma, s_pair, s_fst, s_snd, s_i0, s_i1, s_dim, s_neg, s_meet, s_join, s_nil, s_cons}
use Rattle.link.specs.Store.{cell_by, quote_is, decides, eqb_self}
use Rattle.link.specs.Holds.{Before, read_cell}
use Rattle.link.specs.Match.{Matches, branch, opening}

-- a cell with the lowest that has its quote
pub record Node (i q : ℕ) (x : Thing) (xs : List Thing) : Type 0 where
  pub cell : Cell i x xs
  pub low : Low q (show x) xs

module _ {A B : Type 0} {o : Before} {xs : List Thing} {Q : B → A → List Thing → Type 0} (f : Words → W B) where
  -- written by tools/written.py: opening an interval
  pub opening_interval : {i : ℕ} {r : Interval} (g : Interval → M A) → Cell i (interval r) xs
      → ((q : ℕ) → Node i q (interval I0) xs → Matches o xs (f (cell_by 16 0 0 0 q)) (g I0) Q)
      → ((q : ℕ) → Node i q (interval I1) xs → Matches o xs (f (cell_by 17 0 0 0 q)) (g I1) Q)
      → ((q n : ℕ) → Node i q (interval (Dim n)) xs → Matches o xs (f (cell_by 18 n 0 0 q)) (g (Dim n)) Q)
      → ((q a : ℕ) (a' : Interval) → Node i q (interval (Neg a')) xs → Cell a (interval a') xs → Matches o xs (f (cell_by 19 a 0 0 q)) (g (Neg a')) Q)
      → ((q a b : ℕ) (a' b' : Interval) → Node i q (interval (Meet a' b')) xs → Cell a (interval a') xs → Cell b (interval b') xs → Matches o xs (f (cell_by 20 a b 0 q)) (g (Meet a' b')) Q)
      → ((q a b : ℕ) (a' b' : Interval) → Node i q (interval (Join a' b')) xs → Cell a (interval a') xs → Cell b (interval b') xs → Matches o xs (f (cell_by 21 a b 0 q)) (g (Join a' b')) Q)
      → Matches o xs (open_cell i f) (g r) Q
  opening_interval {i = i} g h on_0 on_1 on_dim on_neg on_meet on_join = opening tt h λ v s low. go v.quote s (record { cell = h; low = low })
    where
      go : {k a b c : ℕ} {r : Interval} (q : ℕ) → Shape xs k a b c (interval r) → Node i q (interval r) xs → Matches o xs (f (cell_by k a b c q)) (g r) Q
      go q s_i0 n = on_0 q n
      go q s_i1 n = on_1 q n
      go q s_dim n = on_dim q _ n
      go q (s_neg x) n = on_neg q _ _ n x
      go q (s_meet x y) n = on_meet q _ _ _ _ n x y
      go q (s_join x y) n = on_join q _ _ _ _ n x y

  -- end of opening an interval

  -- written by tools/written.py: opening a term
  pub opening_term : {i : ℕ} {t : Term} (g : Term → M A) → Cell i (term t) xs
      → ((q n : ℕ) → Node i q (term (Universe n)) xs → Matches o xs (f (cell_by 1 n 0 0 q)) (g (Universe n)) Q)
      → ((q n : ℕ) → Node i q (term (Var n)) xs → Matches o xs (f (cell_by 2 n 0 0 q)) (g (Var n)) Q)
      → ((q : ℕ) → Node i q (term Nat) xs → Matches o xs (f (cell_by 3 0 0 0 q)) (g Nat) Q)
      → ((q : ℕ) → Node i q (term Zero) xs → Matches o xs (f (cell_by 4 0 0 0 q)) (g Zero) Q)
      → ((q a b : ℕ) (a' b' : Term) → Node i q (term (Pi a' b')) xs → Cell a (term a') xs → Cell b (term b') xs → Matches o xs (f (cell_by 5 a b 0 q)) (g (Pi a' b')) Q)
      → ((q a b : ℕ) (a' b' : Term) → Node i q (term (Lam a' b')) xs → Cell a (term a') xs → Cell b (term b') xs → Matches o xs (f (cell_by 6 a b 0 q)) (g (Lam a' b')) Q)
      → ((q a b : ℕ) (a' b' : Term) → Node i q (term (App a' b')) xs → Cell a (term a') xs → Cell b (term b') xs → Matches o xs (f (cell_by 7 a b 0 q)) (g (App a' b')) Q)
      → ((q a b c : ℕ) (a' b' c' : Term) → Node i q (term (Path a' b' c')) xs → Cell a (term a') xs → Cell b (term b') xs → Cell c (term c') xs → Matches o xs (f (cell_by 8 a b c q)) (g (Path a' b' c')) Q)
      → ((q a b : ℕ) (a' b' : Term) → Node i q (term (PathLam a' b')) xs → Cell a (term a') xs → Cell b (term b') xs → Matches o xs (f (cell_by 9 a b 0 q)) (g (PathLam a' b')) Q)
      → ((q a b : ℕ) (a' : Term) (b' : Interval) → Node i q (term (PathApp a' b')) xs → Cell a (term a') xs → Cell b (interval b') xs → Matches o xs (f (cell_by 10 a b 0 q)) (g (PathApp a' b')) Q)
      → ((q a b : ℕ) (a' b' : Term) → Node i q (term (Sigma a' b')) xs → Cell a (term a') xs → Cell b (term b') xs → Matches o xs (f (cell_by 11 a b 0 q)) (g (Sigma a' b')) Q)
      → ((q a b c : ℕ) (a' b' c' : Term) → Node i q (term (Pair a' b' c')) xs → Cell a (term a') xs → Cell b (term b') xs → Cell c (term c') xs → Matches o xs (f (cell_by 12 a b c q)) (g (Pair a' b' c')) Q)
      → ((q a : ℕ) (a' : Term) → Node i q (term (Fst a')) xs → Cell a (term a') xs → Matches o xs (f (cell_by 13 a 0 0 q)) (g (Fst a')) Q)
      → ((q a : ℕ) (a' : Term) → Node i q (term (Snd a')) xs → Cell a (term a') xs → Matches o xs (f (cell_by 14 a 0 0 q)) (g (Snd a')) Q)
      → Matches o xs (open_cell i f) (g t) Q
  opening_term {i = i} g h on_u on_v on_nat on_zero on_pi on_lam on_app on_path on_plam on_papp on_sigma on_pair on_fst on_snd = opening tt h λ v s low. go v.quote s (record { cell = h; low = low })
    where
      go : {k a b c : ℕ} {t : Term} (q : ℕ) → Shape xs k a b c (term t) → Node i q (term t) xs → Matches o xs (f (cell_by k a b c q)) (g t) Q
      go q s_universe n = on_u q _ n
      go q s_var n = on_v q _ n
      go q s_nat n = on_nat q n
      go q s_zero n = on_zero q n
      go q (s_pi x y) n = on_pi q _ _ _ _ n x y
      go q (s_lam x y) n = on_lam q _ _ _ _ n x y
      go q (s_app x y) n = on_app q _ _ _ _ n x y
      go q (s_path x y z) n = on_path q _ _ _ _ _ _ n x y z
      go q (s_plam x y) n = on_plam q _ _ _ _ n x y
      go q (s_papp x y) n = on_papp q _ _ _ _ n x y
      go q (s_sigma x y) n = on_sigma q _ _ _ _ n x y
      go q (s_pair x y z) n = on_pair q _ _ _ _ _ _ n x y z
      go q (s_fst x) n = on_fst q _ _ n x
      go q (s_snd x) n = on_snd q _ _ n x

  -- end of opening a term

  pub opening_context : {i : ℕ} {h : Context} (g : Context → M A) → Cell i (context h) xs
      → ((q : ℕ) → Node i q (context Nil) xs → Matches o xs (f (cell_by 32 0 0 0 q)) (g Nil) Q)
      → ((q a b : ℕ) (a' : Term) (b' : Context) → Node i q (context (Cons a' b')) xs → Cell a (term a') xs → Cell b (context b') xs → Matches o xs (f (cell_by 33 a b 0 q)) (g (Cons a' b')) Q)
      → Matches o xs (open_cell i f) (g h) Q
  opening_context {i = i} g h on_nil on_cons = opening tt h λ v s low. go v.quote s (record { cell = h; low = low })
    where
      go : {k a b c : ℕ} {h : Context} (q : ℕ) → Shape xs k a b c (context h) → Node i q (context h) xs → Matches o xs (f (cell_by k a b c q)) (g h) Q
      go q s_nil n = on_nil q n
      go q (s_cons x y) n = on_cons q _ _ _ _ n x y

-- a term taken apart

-- one that has no shape
record Else (t : Term) : Type 0 where
  -- written by tools/written.py: no shape
  no_level : level t ≡ none
  no_pi : pi_parts t ≡ none
  no_lam : lam_parts t ≡ none
  no_path : path_parts t ≡ none
  no_plam : plam_parts t ≡ none
  no_sigma : sigma_parts t ≡ none
  no_pair : pair_parts t ≡ none
  -- end of no shape

data Parts (xs : List Thing) : Form → Term → Type 0 where
  -- written by tools/written.py: shapes
  p_universe : {n : ℕ} → Parts xs (form.Universe n) (Universe n)
  p_pi : {a b : ℕ} {a' b' : Term} → Cell a (term a') xs → Cell b (term b') xs → Parts xs (form.Pi a b) (Pi a' b')
  p_lam : {a b : ℕ} {a' b' : Term} → Cell a (term a') xs → Cell b (term b') xs → Parts xs (form.Lam a b) (Lam a' b')
  p_path : {a b c : ℕ} {a' b' c' : Term} → Cell a (term a') xs → Cell b (term b') xs → Cell c (term c') xs → Parts xs (form.Path a b c) (Path a' b' c')
  p_plam : {a b : ℕ} {a' b' : Term} → Cell a (term a') xs → Cell b (term b') xs → Parts xs (form.Plam a b) (PathLam a' b')
  p_sigma : {a b : ℕ} {a' b' : Term} → Cell a (term a') xs → Cell b (term b') xs → Parts xs (form.Sigma a b) (Sigma a' b')
  p_pair : {a b c : ℕ} {a' b' c' : Term} → Cell a (term a') xs → Cell b (term b') xs → Cell c (term c') xs → Parts xs (form.Pair a b c) (Pair a' b' c')
  -- end of shapes
  p_else : {t : Term} → Else t → Parts xs form.Other t

parted : {xs : List Thing} {k a b c : ℕ} {t : Term} (q : ℕ) → Shape xs k a b c (term t) → Parts xs (shape_by (cell_by k a b c q)) t
-- written by tools/written.py: which shape
parted q s_universe = p_universe
parted q s_var = p_else (record { no_level = refl; no_pi = refl; no_lam = refl; no_path = refl; no_plam = refl; no_sigma = refl; no_pair = refl })
parted q s_nat = p_else (record { no_level = refl; no_pi = refl; no_lam = refl; no_path = refl; no_plam = refl; no_sigma = refl; no_pair = refl })
parted q s_zero = p_else (record { no_level = refl; no_pi = refl; no_lam = refl; no_path = refl; no_plam = refl; no_sigma = refl; no_pair = refl })
parted q (s_pi x y) = p_pi x y
parted q (s_lam x y) = p_lam x y
parted q (s_app x y) = p_else (record { no_level = refl; no_pi = refl; no_lam = refl; no_path = refl; no_plam = refl; no_sigma = refl; no_pair = refl })
parted q (s_path x y z) = p_path x y z
parted q (s_plam x y) = p_plam x y
parted q (s_papp x y) = p_else (record { no_level = refl; no_pi = refl; no_lam = refl; no_path = refl; no_plam = refl; no_sigma = refl; no_pair = refl })
parted q (s_sigma x y) = p_sigma x y
parted q (s_pair x y z) = p_pair x y z
parted q (s_fst x) = p_else (record { no_level = refl; no_pi = refl; no_lam = refl; no_path = refl; no_plam = refl; no_sigma = refl; no_pair = refl })
parted q (s_snd x) = p_else (record { no_level = refl; no_pi = refl; no_lam = refl; no_path = refl; no_plam = refl; no_sigma = refl; no_pair = refl })

-- end of which shape

-- a cell's kind is the byte of its term's, and a byte is of one kind: both tests for a kind come out alike

kind_shown : {xs : List Thing} {k a b c : ℕ} {t : Term} → Shape xs k a b c (term t) → k ≡ kind_byte (view t).kind
-- written by tools/written.py: kinds of cells
kind_shown s_universe = refl
kind_shown s_var = refl
kind_shown s_nat = refl
kind_shown s_zero = refl
kind_shown (s_pi x y) = refl
kind_shown (s_lam x y) = refl
kind_shown (s_app x y) = refl
kind_shown (s_path x y z) = refl
kind_shown (s_plam x y) = refl
kind_shown (s_papp x y) = refl
kind_shown (s_sigma x y) = refl
kind_shown (s_pair x y z) = refl
kind_shown (s_fst x) = refl
kind_shown (s_snd x) = refl

-- end of kinds of cells

at_byte : (k : Kind) → get_or kinds (kind_byte k) none ≡ some k
-- written by tools/written.py: kinds of bytes
at_byte k_u = refl
at_byte k_v = refl
at_byte k_nat = refl
at_byte k_zero = refl
at_byte k_pi = refl
at_byte k_lam = refl
at_byte k_app = refl
at_byte k_path = refl
at_byte k_plam = refl
at_byte k_papp = refl
at_byte k_sigma = refl
at_byte k_pair = refl
at_byte k_fst = refl
at_byte k_snd = refl

-- end of kinds of bytes

one_kind : (j k : Kind) → kind_byte j ≡ kind_byte k → j ≡ k
one_kind j k q = let e : some j ≡ some k = sym (at_byte j) ∙ ap (λ b. get_or kinds b none) q ∙ at_byte k in cc

pub tested : {xs : List Thing} {n a b c : ℕ} {t : Term} (k : Kind) → Shape xs n a b c (term t) → eqb n (kind_byte k) ≡ yes? (KindDiscrete (view t).kind k)
tested {n = n} {t = t} k s = decides _ (KindDiscrete (view t).kind k) (λ e. one_kind (view t).kind k (sym (kind_shown s) ∙ eqb→eq n (kind_byte k) (rw e tt))) (λ q. rw (kind_shown s, q) (eqb_self (kind_byte k)))

-- written by tools/written.py: taken apart
module _ {A B : Type 0} {o : Before} {xs : List Thing} {Q : B → A → List Thing → Type 0} where
  taken : {i : ℕ} {t : Term} {d : M A} (f : Form → W B) → Cell i (term t) xs → ((p : Form) → Parts xs p t → Matches o xs (f p) d Q) → Matches o xs (λ w. f (shape_of w.cells i) w) d Q
  unfolding shape_of
  taken f c k = record { holds = λ w s e h. let r = read_cell tt c e h in rw r.words ((k (shape_by (cell_by r.kind r.a r.b r.c r.low)) (parted r.low r.shape)).holds w s e h) }

  pub at_universe : {i : ℕ} {t : Term} {f : ℕ → W B} {z : W B} (g : ℕ → M A) (y : M A) → Cell i (term t) xs → ((n : ℕ) → t ≡ Universe n → Matches o xs (f n) (g n) Q) → Matches o xs z y Q → Matches o xs (C.at_universe i f z) (from level t get g or y) Q
  unfolding C.at_universe C.on_universe from◌get◌or◌
  at_universe {t = t} {f = f} {z = z} g y h k m = taken (λ p. C.on_universe p f z) h λ _ s. go refl s
    where
      go : {p : Form} {u : Term} → t ≡ u → Parts xs p u → Matches o xs (C.on_universe p f z) (from level u get g or y) Q
      go q p_universe = k _ q
      go q (p_pi a b) = m
      go q (p_lam a b) = m
      go q (p_path a b c) = m
      go q (p_plam a b) = m
      go q (p_sigma a b) = m
      go q (p_pair a b c) = m
      go q (p_else e) = rw e.no_level m

  pub at_pi : {i : ℕ} {t : Term} {f : ℕ → ℕ → W B} {z : W B} (g : Term × Term → M A) (y : M A) → Cell i (term t) xs → ((a b : ℕ) (a' b' : Term) → t ≡ Pi a' b' → Cell a (term a') xs → Cell b (term b') xs → Matches o xs (f a b) (g (a', b')) Q) → Matches o xs z y Q → Matches o xs (C.at_pi i f z) (from pi_parts t get g or y) Q
  unfolding C.at_pi C.on_pi from◌get◌or◌
  at_pi {t = t} {f = f} {z = z} g y h k m = taken (λ p. C.on_pi p f z) h λ _ s. go refl s
    where
      go : {p : Form} {u : Term} → t ≡ u → Parts xs p u → Matches o xs (C.on_pi p f z) (from pi_parts u get g or y) Q
      go q p_universe = m
      go q (p_pi a b) = k _ _ _ _ q a b
      go q (p_lam a b) = m
      go q (p_path a b c) = m
      go q (p_plam a b) = m
      go q (p_sigma a b) = m
      go q (p_pair a b c) = m
      go q (p_else e) = rw e.no_pi m

  pub at_lam : {i : ℕ} {t : Term} {f : ℕ → ℕ → W B} {z : W B} (g : Term × Term → M A) (y : M A) → Cell i (term t) xs → ((a b : ℕ) (a' b' : Term) → t ≡ Lam a' b' → Cell a (term a') xs → Cell b (term b') xs → Matches o xs (f a b) (g (a', b')) Q) → Matches o xs z y Q → Matches o xs (C.at_lam i f z) (from lam_parts t get g or y) Q
  unfolding C.at_lam C.on_lam from◌get◌or◌
  at_lam {t = t} {f = f} {z = z} g y h k m = taken (λ p. C.on_lam p f z) h λ _ s. go refl s
    where
      go : {p : Form} {u : Term} → t ≡ u → Parts xs p u → Matches o xs (C.on_lam p f z) (from lam_parts u get g or y) Q
      go q p_universe = m
      go q (p_pi a b) = m
      go q (p_lam a b) = k _ _ _ _ q a b
      go q (p_path a b c) = m
      go q (p_plam a b) = m
      go q (p_sigma a b) = m
      go q (p_pair a b c) = m
      go q (p_else e) = rw e.no_lam m

  pub at_path : {i : ℕ} {t : Term} {f : ℕ → ℕ → ℕ → W B} {z : W B} (g : Term × Term × Term → M A) (y : M A) → Cell i (term t) xs → ((a b c : ℕ) (a' b' c' : Term) → t ≡ Path a' b' c' → Cell a (term a') xs → Cell b (term b') xs → Cell c (term c') xs → Matches o xs (f a b c) (g (a', b', c')) Q) → Matches o xs z y Q → Matches o xs (C.at_path i f z) (from path_parts t get g or y) Q
  unfolding C.at_path C.on_path from◌get◌or◌
  at_path {t = t} {f = f} {z = z} g y h k m = taken (λ p. C.on_path p f z) h λ _ s. go refl s
    where
      go : {p : Form} {u : Term} → t ≡ u → Parts xs p u → Matches o xs (C.on_path p f z) (from path_parts u get g or y) Q
      go q p_universe = m
      go q (p_pi a b) = m
      go q (p_lam a b) = m
      go q (p_path a b c) = k _ _ _ _ _ _ q a b c
      go q (p_plam a b) = m
      go q (p_sigma a b) = m
      go q (p_pair a b c) = m
      go q (p_else e) = rw e.no_path m

  pub at_plam : {i : ℕ} {t : Term} {f : ℕ → ℕ → W B} {z : W B} (g : Term × Term → M A) (y : M A) → Cell i (term t) xs → ((a b : ℕ) (a' b' : Term) → t ≡ PathLam a' b' → Cell a (term a') xs → Cell b (term b') xs → Matches o xs (f a b) (g (a', b')) Q) → Matches o xs z y Q → Matches o xs (C.at_plam i f z) (from plam_parts t get g or y) Q
  unfolding C.at_plam C.on_plam from◌get◌or◌
  at_plam {t = t} {f = f} {z = z} g y h k m = taken (λ p. C.on_plam p f z) h λ _ s. go refl s
    where
      go : {p : Form} {u : Term} → t ≡ u → Parts xs p u → Matches o xs (C.on_plam p f z) (from plam_parts u get g or y) Q
      go q p_universe = m
      go q (p_pi a b) = m
      go q (p_lam a b) = m
      go q (p_path a b c) = m
      go q (p_plam a b) = k _ _ _ _ q a b
      go q (p_sigma a b) = m
      go q (p_pair a b c) = m
      go q (p_else e) = rw e.no_plam m

  pub at_sigma : {i : ℕ} {t : Term} {f : ℕ → ℕ → W B} {z : W B} (g : Term × Term → M A) (y : M A) → Cell i (term t) xs → ((a b : ℕ) (a' b' : Term) → t ≡ Sigma a' b' → Cell a (term a') xs → Cell b (term b') xs → Matches o xs (f a b) (g (a', b')) Q) → Matches o xs z y Q → Matches o xs (C.at_sigma i f z) (from sigma_parts t get g or y) Q
  unfolding C.at_sigma C.on_sigma from◌get◌or◌
  at_sigma {t = t} {f = f} {z = z} g y h k m = taken (λ p. C.on_sigma p f z) h λ _ s. go refl s
    where
      go : {p : Form} {u : Term} → t ≡ u → Parts xs p u → Matches o xs (C.on_sigma p f z) (from sigma_parts u get g or y) Q
      go q p_universe = m
      go q (p_pi a b) = m
      go q (p_lam a b) = m
      go q (p_path a b c) = m
      go q (p_plam a b) = m
      go q (p_sigma a b) = k _ _ _ _ q a b
      go q (p_pair a b c) = m
      go q (p_else e) = rw e.no_sigma m

  pub at_pair : {i : ℕ} {t : Term} {f : ℕ → ℕ → ℕ → W B} {z : W B} (g : Term × Term × Term → M A) (y : M A) → Cell i (term t) xs → ((a b c : ℕ) (a' b' c' : Term) → t ≡ Pair a' b' c' → Cell a (term a') xs → Cell b (term b') xs → Cell c (term c') xs → Matches o xs (f a b c) (g (a', b', c')) Q) → Matches o xs z y Q → Matches o xs (C.at_pair i f z) (from pair_parts t get g or y) Q
  unfolding C.at_pair C.on_pair from◌get◌or◌
  at_pair {t = t} {f = f} {z = z} g y h k m = taken (λ p. C.on_pair p f z) h λ _ s. go refl s
    where
      go : {p : Form} {u : Term} → t ≡ u → Parts xs p u → Matches o xs (C.on_pair p f z) (from pair_parts u get g or y) Q
      go q p_universe = m
      go q (p_pi a b) = m
      go q (p_lam a b) = m
      go q (p_path a b c) = m
      go q (p_plam a b) = m
      go q (p_sigma a b) = m
      go q (p_pair a b c) = k _ _ _ _ _ _ q a b c
      go q (p_else e) = rw e.no_pair m

-- end of taken apart

-- two cells with one quote, or not

quote_test : {xs : List Thing} {p q : ℕ} {t r : Quote} → Low p (a_quote t) xs → Low q (a_quote r) xs → eqb p q ≡ yes? (quote? t r)
quote_test {p = p} {q = q} {t = t} {r = r} h k = decides (eqb p q) (quote? t r) to back
  where
    to : eqb p q ≡ true → t ≡ r
    to e = let f : p ≡ q = eqb→eq p q (rw e tt) in let g = low_same h (rw (← f) at k) in cc

    back : t ≡ r → eqb p q ≡ true
    back e = let f : p ≡ q = low_number h (rw (← e) at k) in rw f (eqb_self q)

pub same_quote : {A B : Type 0} {o : Before} {xs : List Thing} {Q : B → A → List Thing → Type 0} {i j : ℕ} {t u : Term} {m n : W B} {d e : M A} → Cell i (term t) xs → Cell j (term u) xs → Matches o xs m d Q → Matches o xs n e Q → Matches o xs (C.same_quote i j m n) (choose quote? (quote t) (quote u) then d else e) Q
unfolding C.same_quote same_quote_of
same_quote {i = i} {j = j} {t = t} {u = u} h k f g = record {
  holds = λ w s e z.
      let p = read_cell tt h e z in
      let q = read_cell tt k e z in
      rw (quote_is p, quote_is q) ((branch (eqb p.low q.low) (quote? (quote t) (quote u)) (quote_test p.lowest q.lowest) (λ _. f) (λ _. g)).holds w s e z);
}
