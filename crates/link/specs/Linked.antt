-- What it means that functions over words match the walk's: `Linked`; and what every body's proof uses.
use Rattle.std.specs.Prelude.{ℕ, suc, ◌-◌, ◌<◌, ◌≡◌, refl, List, ◌++◌, Bool, true, false, ltb}
use Rattle.std.proofs.Common.{sym, subst, arith}
use Rattle.std.proofs.Math.Option.{Option, none, some}
use Rattle.std.proofs.Math.Decide.{dec_lt}
use Rattle.std.proofs.Math.Dec.{leb-zero, leb-suc-zero, leb-suc-suc}
use Rattle.ast.specs.Words.{ifb, up, greater_of}
use Rattle.producer.specs.declared.endpoints.End.{End}
use Rattle.producer.specs.declared.endpoints.End.TheVariants.{I0 as E0, I1 as E1}
use Rattle.producer.specs.declared.rows.Refs.{Refs}
use Rattle.producer.specs.declared.intervals.IOp.{IOp}
use Rattle.producer.specs.declared.intervals.IOp.TheVariants.{IShift, ISubst}
use Rattle.producer.specs.declared.transforms.Op.{Op}
use Rattle.producer.specs.declared.transforms.Op.TheVariants.{Shift, Subst, DShift, DSubst}
use Rattle.producer.specs.Machine.{Machine, W, Reduction, make_universe, make_var, make_nat, make_zero, make_pi, make_lam, make_app, make_path, make_plam, make_papp, make_sigma, make_pair, make_fst, make_snd, make_i0, make_i1, make_dim, make_neg, make_meet, make_join, make_nil, make_cons}
use Rattle.producer.specs.Machine as C
use Rattle.producer.specs.Callees.{Callees}
use Rattle.walk.specs.Syntax.{Interval, I0, I1, Dim, Neg, Meet, Join, Term, Universe, Var, Nat, Zero, Pi, Lam, App, Path, PathLam, PathApp, Sigma, Pair, Fst, Snd, Context, Cons}
use Rattle.walk.specs.State.{State, Thing, term, interval, context, of_interval, of_term, of_context, M, count_all}
use Rattle.walk.specs.State as S
use Rattle.walk.specs.Walk.Reference as D
use Rattle.walk.specs.Walk.Numbers.{larger}
use Rattle.order.specs.Guarded.{beyond, word, bump_to, bump}
use Rattle.link.specs.Lists.{Extends}
use Rattle.link.specs.Things.{Cell, cell_lift}
use Rattle.link.specs.Tables.{s_universe, s_var, s_nat, s_zero, s_pi, s_lam, s_app, s_path, s_plam, s_papp, s_sigma, s_pair, s_fst, s_snd, s_i0, s_i1, s_dim, s_neg, s_meet, s_join, s_cons}
use Rattle.link.specs.Holds.{Before, Holds}
use Rattle.link.specs.Match.{Agree, by_guard, Matches, bind, nothing, the_interval, the_term, the_context, ◌with◌, counting, Same, Pairs, Returns, Absorbs, Few}

pub data IOps (xs : List Thing) : IOp → D.IOp → Type 0 where
  i_shift : {k : ℕ} → IOps xs (IShift k) (D.IShift k)
  i_subst : {k q : ℕ} {r : Interval} → Cell q (interval r) xs → IOps xs (ISubst k q) (D.ISubst k r)

pub iops_lift : {xs ys : List Thing} {a : IOp} {b : D.IOp} → Extends xs ys → IOps xs a b → IOps ys a b
iops_lift e i_shift = i_shift
iops_lift e (i_subst h) = i_subst (cell_lift e h)

pub data Ops (xs : List Thing) : Op → D.Op → Type 0 where
  o_shift : {k : ℕ} → Ops xs (Shift k) (D.Shift k)
  o_subst : {k r : ℕ} {t : Term} → Cell r (term t) xs → Ops xs (Subst k r) (D.Subst k t)
  o_dshift : {k : ℕ} → Ops xs (DShift k) (D.DShift k)
  o_dsubst : {k q : ℕ} {r : Interval} → Cell q (interval r) xs → Ops xs (DSubst k q) (D.DSubst k r)

pub ops_lift : {xs ys : List Thing} {a : Op} {b : D.Op} → Extends xs ys → Ops xs a b → Ops ys a b
ops_lift e o_shift = o_shift
ops_lift e (o_subst h) = o_subst (cell_lift e h)
ops_lift e o_dshift = o_dshift
ops_lift e (o_dsubst h) = o_dsubst (cell_lift e h)

-- an operation
abbrev pub Moves : Op → D.Op → List Thing → Type 0
Moves a b xs = Ops xs a b

-- a number
abbrev pub Alike : ℕ → ℕ → List Thing → Type 0
Alike m n xs = m ≡ n

-- what rel relates, and the rows to cite for it: at most one
pub record Carries {P A : Type 0} (rel : P → A → List Thing → Type 0) (p : P × Refs) (r : A × List ℕ) (xs : List Thing) : Type 0 where
  pub left : rel p.0 r.0 xs
  pub right : Few p.1 r.1

-- a step that is found, or none
pub data Steps : Option Reduction → Option D.Step → List Thing → Type 0 where
  no_step : {xs : List Thing} → Steps none none xs
  a_step : {xs : List Thing} {s : Reduction} {t : D.Step} → Cell s.term (term t.term) xs → Cell s.type (term t.type) xs → s.row ≡ t.row → Steps (some s) (some t) xs

-- an end of the walk's, as one of the program's
abbrev pub the_end : D.End → End
the_end D.E0 = E0
the_end D.E1 = E1

-- an end that is worked out, or none
pub data Ends : Option (End × ℕ) → Option (D.End × ℕ) → List Thing → Type 0 where
  no_end : {xs : List Thing} → Ends none none xs
  an_end : {xs : List Thing} {x : ℕ} (e : D.End) → Ends (some (the_end e, x)) (some (e, x)) xs

-- rd: what is done where a function is entered
pub record Linked (o : Before) (rd : M (Unit {0})) (c : Callees) (d : D.Callees) : Type 0 where
  pub ready : {xs : List Thing} → Matches o xs c.ready rd (λ _ _ _. Unit {0})
  pub ctx_absorbs : (n : ℕ) (g : Context) → Absorbs rd (of_context g) (d.ctx n g)
  pub infer_absorbs : (n : ℕ) (g : Context) (t : Term) → Absorbs rd (of_context g ++ of_term t) (d.infer n g t)
  pub universe_absorbs : (n : ℕ) (g : Context) (t : Term) → Absorbs rd (of_context g ++ of_term t) (d.universe n g t)
  pub check_absorbs : (n : ℕ) (g : Context) (t y : Term) → Absorbs rd (of_context g ++ of_term t ++ of_term y) (d.check n g t y)
  pub normalize_absorbs : (n : ℕ) (g : Context) (t y : Term) → Absorbs rd (of_context g ++ of_term t ++ of_term y) (d.normalize n g t y)
  pub head_normalize_absorbs : (n : ℕ) (g : Context) (t y : Term) → Absorbs rd (of_context g ++ of_term t ++ of_term y) (d.head_normalize n g t y)
  pub equal_absorbs : (n : ℕ) (g : Context) (a b y : Term) → Absorbs rd (of_context g ++ of_term a ++ of_term b ++ of_term y) (d.equal n g a b y)
  pub transform_absorbs : (t : Term) (op : D.Op) → Absorbs rd (of_term t ++ D.of_op op) (d.transform t op)
  pub ctx : {xs : List Thing} {g : ℕ} {g' : Context} (n : ℕ) → Cell g (context g') xs → Matches o xs (c.ctx n g) (d.ctx n g') Same
  pub infer : {xs : List Thing} {g t : ℕ} {g' : Context} {t' : Term} (n : ℕ) → Cell g (context g') xs → Cell t (term t') xs → Matches o xs (c.infer n g t) (d.infer n g' t') (Returns term)
  pub universe : {xs : List Thing} {g t : ℕ} {g' : Context} {t' : Term} (n : ℕ) → Cell g (context g') xs → Cell t (term t') xs → Matches o xs (c.universe n g t) (d.universe n g' t') (Pairs Alike)
  pub check : {xs : List Thing} {g t y : ℕ} {g' : Context} {t' y' : Term} (n : ℕ) → Cell g (context g') xs → Cell t (term t') xs → Cell y (term y') xs → Matches o xs (c.check n g t y) (d.check n g' t' y') Same
  pub expose : {xs : List Thing} {g t y : ℕ} {g' : Context} {t' y' : Term} (n : ℕ) → Cell g (context g') xs → Cell t (term t') xs → Cell y (term y') xs → (row : ℕ) → Matches o xs (c.expose n g t y row) (d.expose n g' t' y' row) (Returns term)
  pub normalize : {xs : List Thing} {g t y : ℕ} {g' : Context} {t' y' : Term} (n : ℕ) → Cell g (context g') xs → Cell t (term t') xs → Cell y (term y') xs → Matches o xs (c.normalize n g t y) (d.normalize n g' t' y') (Returns term)
  pub equal : {xs : List Thing} {g a b y : ℕ} {g' : Context} {a' b' y' : Term} (n : ℕ) → Cell g (context g') xs → Cell a (term a') xs → Cell b (term b') xs → Cell y (term y') xs → Matches o xs (c.equal n g a b y) (d.equal n g' a' b' y') Same
  pub reduce : {xs : List Thing} {g t : ℕ} {g' : Context} {t' : Term} (n : ℕ) → Cell g (context g') xs → Cell t (term t') xs → Matches o xs (c.reduce n g t) (d.reduce n g' t') Steps
  pub head_normalize : {xs : List Thing} {g t y : ℕ} {g' : Context} {t' y' : Term} (n : ℕ) → Cell g (context g') xs → Cell t (term t') xs → Cell y (term y') xs → Matches o xs (c.head_normalize n g t y) (d.head_normalize n g' t' y') (Returns term)
  pub head_step : {xs : List Thing} {g t : ℕ} {g' : Context} {t' : Term} (n : ℕ) → Cell g (context g') xs → Cell t (term t') xs → Matches o xs (c.head_step n g t) (d.head_step n g' t') Steps
  pub lookup : {xs : List Thing} {g : ℕ} {g' : Context} → Cell g (context g') xs → (n : ℕ) → Matches o xs (c.lookup g n) (d.lookup g' n) (Returns term)
  pub dshiftctx : {xs : List Thing} {g : ℕ} {g' : Context} → Cell g (context g') xs → Matches o xs (c.dshiftctx g) (d.dshiftctx g') (Returns context)
  pub transform : {xs : List Thing} {t : ℕ} {t' : Term} {a : Op} {b : D.Op} → Cell t (term t') xs → Ops xs a b → Matches o xs (c.transform t a) (d.transform t' b) (Returns term)
  pub under : {xs : List Thing} {a : Op} {b : D.Op} → Ops xs a b → (dimension : Bool) → Matches o xs (c.under a dimension) (d.under b dimension) (Carries Moves)
  pub itransform : {xs : List Thing} {i : ℕ} {r : Interval} {a : IOp} {b : D.IOp} → Cell i (interval r) xs → IOps xs a b → Matches o xs (c.itransform i a) (d.itransform r b) (Returns interval)
  pub endpoint : {xs : List Thing} {i : ℕ} {r : Interval} → Cell i (interval r) xs → Matches o xs (c.endpoint i) (d.endpoint r) Ends
  pub interval : {xs : List Thing} {i : ℕ} {r : Interval} (n : ℕ) → Cell i (interval r) xs → Matches o xs (c.interval n i) (d.interval n r) Same
  pub comparison : {xs : List Thing} (m n : ℕ) (strict : Bool) → Matches o xs (c.comparison m n strict) (d.comparison m n strict) Same
  pub max : {xs : List Thing} (m n : ℕ) → Matches o xs (c.max m n) (d.max m n) Same
  pub more : (n : ℕ) → d.more n ≡ bump n

-- after a row, a cell with a row, a number with a row, a thing with the rows to cite: both sides go on with the same
module _ {A B : Type 0} {o : Before} {xs : List Thing} {R : B → A → List Thing → Type 0} where
  pub row_then : {m : W ℕ} {d : M ℕ} {f : ℕ → W B} {g : ℕ → M A} → Matches o xs m d Same → ((x : ℕ) (ys : List Thing) → Extends xs ys → Matches o ys (f x) (g x) R) → Matches o xs (C.◌>>=◌ m f) (S.◌>>=◌ d g) R
  row_then h k = bind h λ x y ys e q. rw q (k y ys e)

  pub pair_then : {P K E : Type 0} {rel : P → K → List Thing → Type 0} {m : W (P × E)} {d : M (K × E)} (f : P × E → W B) (g : K × E → M A) → Matches o xs m d (Pairs rel) → ((n : P) (x : E) (c : K) (ys : List Thing) → Extends xs ys → rel n c ys → Matches o ys (f (n, x)) (g (c, x)) R) → Matches o xs (C.◌>>=◌ m f) (S.◌>>=◌ d g) R
  pair_then {E = E} f g h k = bind h λ p r ys e q. subst (λ (x : E). Matches o ys (f (p.0, x)) (g r) R) (sym q.right) (k p.0 r.1 r.0 ys e q.left)

  pub number_then : {m : W (ℕ × ℕ)} {d : M (ℕ × ℕ)} (f : ℕ × ℕ → W B) (g : ℕ × ℕ → M A) → Matches o xs m d (Pairs Alike) → ((n x : ℕ) (ys : List Thing) → Extends xs ys → Matches o ys (f (n, x)) (g (n, x)) R) → Matches o xs (C.◌>>=◌ m f) (S.◌>>=◌ d g) R
  number_then f g h k = pair_then f g h λ n x m ys e q. subst (λ (i : ℕ). Matches o ys (f (i, x)) (g (m, x)) R) (sym q) (k m x ys e)

  pub cited_then : {P K : Type 0} {rel : P → K → List Thing → Type 0} {m : W (P × Refs)} {d : M (K × List ℕ)} (f : P × Refs → W B) (g : K × List ℕ → M A) → Matches o xs m d (Carries rel) → ((n : P) (l : Refs) (c : K) (ns : List ℕ) (ys : List Thing) → Extends xs ys → rel n c ys → Few l ns → Matches o ys (f (n, l)) (g (c, ns)) R) → Matches o xs (C.◌>>=◌ m f) (S.◌>>=◌ d g) R
  cited_then f g h k = bind h λ p r ys e q. k p.0 p.1 r.0 r.1 ys e q.left q.right

  -- an end, or none
  pub ended_then : {p : Option (End × ℕ)} {r : Option (D.End × ℕ)} {z : W B} {y : M A} (f : End → ℕ → W B) (g : D.End × ℕ → M A) → Ends p r xs → ((e : D.End) (x : ℕ) → Matches o xs (f (the_end e) x) (g (e, x)) R) → Matches o xs z y R → Matches o xs (C.on_maybe p f z) (S.from◌get◌or◌ r g y) R
  unfolding C.on_maybe S.from◌get◌or◌
  ended_then f g no_end k m = m
  ended_then f g (an_end {x = x} e) k m = k e x

up_is : (n : ℕ) → n < word → up n ≡ suc n
unfolding up
up_is n l = omega arith

-- the guarded walk makes the next number
pub bumping : {A C : Type 0} {o : Before} {xs : List Thing} {R : C → A → List Thing → Type 0} {m : W C} {d : M ℕ} (g : ℕ → M A) (n : ℕ) → d ≡ bump n → (up n ≡ suc n → Matches o xs m (g (suc n)) R) → Matches o xs m (S.◌>>=◌ d g) R
unfolding bump_to S.◌>>=◌ S.go_on S.choose◌then◌else◌ S.pure S.refuse
bumping {o = o} {xs = xs} {R = R} {m = m} g n q h = rw q (record { holds = λ w s e i. go w s e i (dec_lt n word) })
  where
    go : (w : Machine) (s : State) → Extends xs s.cells → Holds o w s → (d : Dec (n < word)) → Agree o xs R (m w) (S.go_on ((S.choose◌then◌else◌ d (S.pure (suc n)) (S.refuse beyond)) s) g)
    go w s e i (yes l) = (h (up_is n l)).holds w s e i
    go w s e i (no l) = by_guard

pub less_one : (m : ℕ) → suc m - 1 ≡ m
less_one m = omega arith

pub larger_is : (m n : ℕ) → larger m n ≡ greater_of m n
unfolding greater_of
larger_is ℕ.zero ℕ.zero = refl
larger_is ℕ.zero (ℕ.suc n) = rw (leb-suc-suc 0 n, leb-zero n)
larger_is (ℕ.suc m) ℕ.zero = rw (leb-suc-zero (suc m))
larger_is (ℕ.suc m) (ℕ.suc n) = rw (larger_is m n, leb-suc-suc (suc m) n) (go (ltb m n))
  where
    go : (t : Bool) → suc (ifb t n m) ≡ ifb t (suc n) (suc m)
    go true = refl
    go false = refl

-- what is made is counted
module _ {o : Before} {xs : List Thing} where
  -- written by tools/written.py: making
  pub making_universe : (n : ℕ) → Matches o xs (make_universe n) (count_all (of_term (Universe n))) (λ i _. Cell i (term (Universe n)))
  making_universe n = counting nothing s_universe

  pub making_var : (n : ℕ) → Matches o xs (make_var n) (count_all (of_term (Var n))) (λ i _. Cell i (term (Var n)))
  making_var n = counting nothing s_var

  pub making_nat : Matches o xs make_nat (count_all (of_term Nat)) (λ i _. Cell i (term Nat))
  making_nat = counting nothing s_nat

  pub making_zero : Matches o xs make_zero (count_all (of_term Zero)) (λ i _. Cell i (term Zero))
  making_zero = counting nothing s_zero

  pub making_pi : {a b : ℕ} {a' b' : Term} → Cell a (term a') xs → Cell b (term b') xs → Matches o xs (make_pi a b) (count_all (of_term (Pi a' b'))) (λ i _. Cell i (term (Pi a' b')))
  making_pi h k = counting (the_term h with the_term k) (s_pi h k)

  pub making_lam : {a b : ℕ} {a' b' : Term} → Cell a (term a') xs → Cell b (term b') xs → Matches o xs (make_lam a b) (count_all (of_term (Lam a' b'))) (λ i _. Cell i (term (Lam a' b')))
  making_lam h k = counting (the_term h with the_term k) (s_lam h k)

  pub making_app : {a b : ℕ} {a' b' : Term} → Cell a (term a') xs → Cell b (term b') xs → Matches o xs (make_app a b) (count_all (of_term (App a' b'))) (λ i _. Cell i (term (App a' b')))
  making_app h k = counting (the_term h with the_term k) (s_app h k)

  pub making_path : {a b c : ℕ} {a' b' c' : Term} → Cell a (term a') xs → Cell b (term b') xs → Cell c (term c') xs → Matches o xs (make_path a b c) (count_all (of_term (Path a' b' c'))) (λ i _. Cell i (term (Path a' b' c')))
  making_path h k l = counting (the_term h with the_term k with the_term l) (s_path h k l)

  pub making_plam : {a b : ℕ} {a' b' : Term} → Cell a (term a') xs → Cell b (term b') xs → Matches o xs (make_plam a b) (count_all (of_term (PathLam a' b'))) (λ i _. Cell i (term (PathLam a' b')))
  making_plam h k = counting (the_term h with the_term k) (s_plam h k)

  pub making_papp : {a b : ℕ} {a' : Term} {b' : Interval} → Cell a (term a') xs → Cell b (interval b') xs → Matches o xs (make_papp a b) (count_all (of_term (PathApp a' b'))) (λ i _. Cell i (term (PathApp a' b')))
  making_papp h k = counting (the_term h with the_interval k) (s_papp h k)

  pub making_sigma : {a b : ℕ} {a' b' : Term} → Cell a (term a') xs → Cell b (term b') xs → Matches o xs (make_sigma a b) (count_all (of_term (Sigma a' b'))) (λ i _. Cell i (term (Sigma a' b')))
  making_sigma h k = counting (the_term h with the_term k) (s_sigma h k)

  pub making_pair : {a b c : ℕ} {a' b' c' : Term} → Cell a (term a') xs → Cell b (term b') xs → Cell c (term c') xs → Matches o xs (make_pair a b c) (count_all (of_term (Pair a' b' c'))) (λ i _. Cell i (term (Pair a' b' c')))
  making_pair h k l = counting (the_term h with the_term k with the_term l) (s_pair h k l)

  pub making_fst : {a : ℕ} {a' : Term} → Cell a (term a') xs → Matches o xs (make_fst a) (count_all (of_term (Fst a'))) (λ i _. Cell i (term (Fst a')))
  making_fst h = counting (the_term h) (s_fst h)

  pub making_snd : {a : ℕ} {a' : Term} → Cell a (term a') xs → Matches o xs (make_snd a) (count_all (of_term (Snd a'))) (λ i _. Cell i (term (Snd a')))
  making_snd h = counting (the_term h) (s_snd h)

  pub making_i0 : Matches o xs make_i0 (count_all (of_interval I0)) (λ i _. Cell i (interval I0))
  making_i0 = counting nothing s_i0

  pub making_i1 : Matches o xs make_i1 (count_all (of_interval I1)) (λ i _. Cell i (interval I1))
  making_i1 = counting nothing s_i1

  pub making_dim : (n : ℕ) → Matches o xs (make_dim n) (count_all (of_interval (Dim n))) (λ i _. Cell i (interval (Dim n)))
  making_dim n = counting nothing s_dim

  pub making_neg : {a : ℕ} {a' : Interval} → Cell a (interval a') xs → Matches o xs (make_neg a) (count_all (of_interval (Neg a'))) (λ i _. Cell i (interval (Neg a')))
  making_neg h = counting (the_interval h) (s_neg h)

  pub making_meet : {a b : ℕ} {a' b' : Interval} → Cell a (interval a') xs → Cell b (interval b') xs → Matches o xs (make_meet a b) (count_all (of_interval (Meet a' b'))) (λ i _. Cell i (interval (Meet a' b')))
  making_meet h k = counting (the_interval h with the_interval k) (s_meet h k)

  pub making_join : {a b : ℕ} {a' b' : Interval} → Cell a (interval a') xs → Cell b (interval b') xs → Matches o xs (make_join a b) (count_all (of_interval (Join a' b'))) (λ i _. Cell i (interval (Join a' b')))
  making_join h k = counting (the_interval h with the_interval k) (s_join h k)

  -- end of making

  pub making_cons : {a b : ℕ} {a' : Term} {b' : Context} → Cell a (term a') xs → Cell b (context b') xs → Matches o xs (make_cons a b) (count_all (of_context (Cons a' b'))) (λ i _. Cell i (context (Cons a' b')))
  making_cons h k = counting (the_context k with the_term h) (s_cons h k)
