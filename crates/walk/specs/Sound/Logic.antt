-- Every row follows by its rule from rows below it, and no judgment has two; what is remembered stands there.
-- `Keeps rs m Q`: m keeps this, from any table that has the rows rs, and of its value Q holds.
use Rattle.std.specs.Prelude.{ℕ, suc, ◌<◌, ◌+◌, ◌≡◌, refl, List, [], ◌∷◌, ◌++◌, Bool, true, false, length}
use Rattle.std.proofs.Common.{subst, arith, lit<}
use Rattle.std.proofs.Math.Option.{Option, none, some}
use Rattle.std.proofs.Math.Decide.{dec_lt}
use Rattle.walk.specs.Syntax.{Term, quote, quotes}
use Rattle.walk.specs.Judgment.{Judgment, judgment?, has}
use Rattle.walk.specs.Rules.{Follows}
use Rattle.walk.specs.Demand.{At, here, there, Cites, none_cited, ◌also◌, Extends, same, more}
use Rattle.walk.specs.Refusal as Refusal
use Rattle.walk.specs.State.{Row, Memory, Key, key, key?, Thing, inference, State, Outcome, done, refused, M, go_on, looking, ◌>>=◌, pure, refuse, choose◌then◌else◌, from◌get◌or◌, row_of, with_row, push, emit, among, with_cell, count, count_all, recall, with_memory, store, remember, with_conversions, ended, converted, converting, with_deepest, note, enter}

-- a row over the rows below it
pub record Stands (r : Row) (rs : List Row) : Type 0 where
  pub premises : List Judgment
  pub cited : Cites rs r.refs premises
  pub follows : Follows r.rule premises r.judgment
  pub new : (n : ℕ) → At n r.judgment rs → ⊥

infixr 30 ◌atop◌
pub data Order : List Row → Type 0 where
  empty : Order []
  ◌atop◌ : {r : Row} {rs : List Row} → Stands r rs → Order rs → Order (r ∷ rs)

-- what an inference says
abbrev pub says : Key → Term → Judgment
says (key d g t) ty = has d (quotes g) (quote t) (quote ty)

-- what is remembered stands in the table
pub data Kept (rs : List Row) : List Memory → Type 0 where
  nothing : Kept rs []
  keep : {m : Memory} {ms : List Memory} → At m.row (says m.of m.type) rs → Kept rs ms → Kept rs (m ∷ ms)

pub record Good (s : State) : Type 0 where
  pub order : Order s.rows
  pub kept : Kept s.rows s.memory

pub extends_trans : {a b c : List Row} → Extends a b → Extends b c → Extends a c
extends_trans e same = e
extends_trans e (more f) = more (extends_trans e f)

pub lift : {rs rs' : List Row} {n : ℕ} {j : Judgment} → Extends rs rs' → At n j rs → At n j rs'
lift same h = h
lift (more e) h = there (lift e h)

pub lifts : {rs rs' : List Row} {ns : List ℕ} {js : List Judgment} → Extends rs rs' → Cites rs ns js → Cites rs' ns js
lifts e none_cited = none_cited
lifts e (h also hs) = lift e h also lifts e hs

pub append : {rs : List Row} {ns ms : List ℕ} {js ks : List Judgment} → Cites rs ns js → Cites rs ms ks → Cites rs (ns ++ ms) (js ++ ks)
append none_cited hs = hs
append (g also gs) hs = g also append gs hs

-- one more, cited last, over a later table
infixl 25 ◌and◌by◌
pub ◌and◌by◌ : {rs rs' : List Row} {n : ℕ} {ns : List ℕ} {j : Judgment} {js : List Judgment} → Cites rs ns js → At n j rs' → Extends rs rs' → Cites rs' (ns ++ n ∷ []) (js ++ j ∷ [])
gs and h by e = append (lifts e gs) (h also none_cited)

kept_more : {rs : List Row} {r : Row} {ms : List Memory} → Kept rs ms → Kept (r ∷ rs) ms
kept_more nothing = nothing
kept_more (keep h hs) = keep (there h) (kept_more hs)

-- what an outcome leaves, from rows rs: more rows, all good, and of a value what Q says
pub data After {A : Type 0} (rs : List Row) (Q : A → List Row → Type 0) : Outcome A → Type 0 where
  fine : {a : A} {s : State} → Extends rs s.rows → Good s → Q a s.rows → After rs Q (done a s)
  stopped : {n : ℕ} {s : State} → 0 < n → Extends rs s.rows → Good s → After rs Q (refused n s)

later : {A : Type 0} {rs rs' : List Row} {Q : A → List Row → Type 0} {o : Outcome A} → Extends rs rs' → After rs' Q o → After rs Q o
later e (fine f g q) = fine (extends_trans e f) g q
later e (stopped z f g) = stopped z (extends_trans e f) g

pub record Keeps {A : Type 0} (rs : List Row) (m : M A) (Q : A → List Row → Type 0) : Type 0 where
  pub holds : (s : State) → Extends rs s.rows → Good s → After rs Q (m s)

go_on_after : {A B : Type 0} {rs : List Row} {Q : A → List Row → Type 0} {R : B → List Row → Type 0} {o : Outcome A} {f : A → M B} → After rs Q o → ((a : A) (rs' : List Row) → Extends rs rs' → Q a rs' → Keeps rs' (f a) R) → After rs R (go_on o f)
unfolding go_on
go_on_after (fine {a = a} {s = s} e g q) k = later e ((k a s.rows e q).holds s same g)
go_on_after (stopped z e g) k = stopped z e g

pub bind : {A B : Type 0} {rs : List Row} {Q : A → List Row → Type 0} {R : B → List Row → Type 0} {m : M A} {f : A → M B} → Keeps rs m Q → ((a : A) (rs' : List Row) → Extends rs rs' → Q a rs' → Keeps rs' (f a) R) → Keeps rs (m >>= f) R
unfolding ◌>>=◌
bind h k = record { holds = λ s e g. go_on_after (h.holds s e g) k }

pub refusing : {A : Type 0} {rs : List Row} {Q : A → List Row → Type 0} {n : ℕ} → 0 < n → Keeps rs (refuse n) Q
unfolding refuse
refusing z = record { holds = λ s e g. stopped z e g }

-- the number after n
pub making : {A : Type 0} {rs : List Row} {Q : A → List Row → Type 0} {m : M ℕ} (f : ℕ → M A) (n : ℕ) → m ≡ pure (suc n) → Keeps rs (f (suc n)) Q → Keeps rs (m >>= f) Q
unfolding pure ◌>>=◌ go_on
making f n q h = rw q h

-- Q must last: it holds of every later table
pub giving : {A : Type 0} {rs : List Row} {Q : A → List Row → Type 0} (a : A) → ((rs' : List Row) → Extends rs rs' → Q a rs') → Keeps rs (pure a) Q
unfolding pure
giving a q = record { holds = λ s e g. fine e g (q s.rows e) }

pub branch : {P A : Type 0} {rs : List Row} {Q : A → List Row → Type 0} {x y : M A} (d : Dec P) → (P → Keeps rs x Q) → ((P → ⊥) → Keeps rs y Q) → Keeps rs (choose d then x else y) Q
unfolding choose◌then◌else◌
branch (yes h) f g = f h
branch (no h) f g = g h

pub cases : {A B : Type 0} {rs : List Row} {Q : B → List Row → Type 0} {f : A → M B} {z : M B} (o : Option A) → ((a : A) → o ≡ some a → Keeps rs (f a) Q) → (o ≡ none → Keeps rs z Q) → Keeps rs (from o get f or z) Q
unfolding from◌get◌or◌
cases (some a) f g = f a refl
cases none f g = g refl

-- a row that is found is there, and one that is not found is not
pub found : (j : Judgment) (rs : List Row) (n : ℕ) → row_of j rs ≡ some n → At n j rs
unfolding row_of
found j [] n e = let z : ◌≡◌ {A = ℕ} 0 1 = cc in absurd (omega arith)
found j (r ∷ rs) n e = go (judgment? j r.judgment) (found j rs n) e
  where
    go : (d : Dec (j ≡ r.judgment)) → (row_of j rs ≡ some n → At n j rs) → (elim d as (λ _. Option ℕ) [ yes e ↦ some (length rs) | no ne ↦ row_of j rs ]) ≡ some n → At n j (r ∷ rs)
    go (yes p) ih q = let k : n ≡ length rs = cc in here k p
    go (no np) ih q = there (ih q)

pub not_found : (j : Judgment) (rs : List Row) → row_of j rs ≡ none → (n : ℕ) → At n j rs → ⊥
unfolding row_of
not_found j [] e n h = elim h [ ]
not_found j (r ∷ rs) e n h = go (judgment? j r.judgment) (λ q. not_found j rs q n) e h
  where
    go : (d : Dec (j ≡ r.judgment)) → (row_of j rs ≡ none → At n j rs → ⊥) → ◌≡◌ {A = Option ℕ} (elim d as (λ _. Option ℕ) [ yes e ↦ some (length rs) | no ne ↦ row_of j rs ]) none → At n j (r ∷ rs) → ⊥
    go (yes p) ih q h = let z : ◌≡◌ {A = ℕ} 0 1 = cc in omega arith
    go (no np) ih q (here e p) = np p
    go (no np) ih q (there h) = ih q h

-- a row that follows from rows that stand there
pub emitted : {rs : List Row} {rule : ℕ} {refs : List ℕ} {js : List Judgment} {j : Judgment} → Cites rs refs js → Follows rule js j → Keeps rs (emit rule refs j) (λ n. At n j)
unfolding emit looking pure push with_row refuse choose◌then◌else◌ from◌get◌or◌
emitted {rs} {rule} {refs} {js} {j} cs f = record { holds = λ s e g. go s e g (row_of j s.rows) refl (dec_lt (length s.rows) s.row_room) }
  where
    go : (s : State) → Extends rs s.rows → Good s → (o : Option ℕ) → row_of j s.rows ≡ o → (d : Dec (length s.rows < s.row_room)) → After rs (λ n. At n j) ((from o get pure or (choose d then push (record { rule = rule; refs = refs; judgment = j }) else refuse Refusal.rows)) s)
    go s e g (some n) q d = fine e g (found j s.rows n q)
    go s e g none q (yes h) =
        fine (more e)
        (record { order = record { premises = js; cited = lifts e cs; follows = f; new = not_found j s.rows q } atop g.order; kept = kept_more g.kept })
        (here refl refl)
    go s e g none q (no h) = stopped (lit< tt) e g

-- a known judgment answers its row
pub knowing : {rs : List Row} (j : Judgment) {m : M ℕ} → Keeps rs m (λ n. At n j) → Keeps rs (looking λ s. from row_of j s.rows get pure or m) (λ n. At n j)
unfolding looking from◌get◌or◌ pure
knowing {rs} j {m} h = record { holds = λ s e g. go s e g (row_of j s.rows) refl }
  where
    go : (s : State) → Extends rs s.rows → Good s → (o : Option ℕ) → row_of j s.rows ≡ o → After rs (λ n. At n j) ((from o get pure or m) s)
    go s e g (some n) q = fine e g (found j s.rows n q)
    go s e g none q = h.holds s e g

-- a cell changes no row
pub counting_one : {rs : List Row} (x : Thing) → Keeps rs (count x) (λ _ _. Unit {0})
unfolding count with_cell
counting_one {rs} x = record { holds = λ s e g. go s e g (among x s.cells) (dec_lt (length s.cells) s.cell_room) }
  where
    go : (s : State) → Extends rs s.rows → Good s → (b : Bool) → (d : Dec (length s.cells < s.cell_room)) → After {A = Unit {0}} rs (λ _ _. Unit {0}) (elim b as (λ _. Outcome (Unit {0})) [ true ↦ done tt s | false ↦ elim d as (λ _. Outcome (Unit {0})) [ yes h ↦ done tt (with_cell x s) | no h ↦ refused Refusal.cells s ] ])
    go s e g true d = fine e g tt
    go s e g false (yes h) = fine e (record { order = g.order; kept = g.kept }) tt
    go s e g false (no h) = stopped (lit< tt) e g

pub counting : {rs : List Row} (xs : List Thing) → Keeps rs (count_all xs) (λ _ _. Unit {0})
unfolding count_all
counting [] = giving tt λ _ _. tt
counting (x ∷ xs) = bind (counting_one x) λ _ _ _ _. counting xs

-- what is recalled stands in the table
recalled : {rs : List Row} (k : Key) (ms : List Memory) (out : Term × ℕ) → recall k ms ≡ some out → Kept rs ms → At out.1 (says k out.0) rs
unfolding recall
recalled k [] out e nothing = let z : ◌≡◌ {A = ℕ} 0 1 = cc in absurd (omega arith)
recalled {rs} k (m ∷ ms) out e (keep h hs) = go (key? k m.of) (λ q. recalled k ms out q hs) e
  where
    go : (d : Dec (k ≡ m.of)) → (recall k ms ≡ some out → At out.1 (says k out.0) rs) → (elim d as (λ _. Option (Term × ℕ)) [ yes e ↦ some (m.type, m.row) | no ne ↦ recall k ms ]) ≡ some out → At out.1 (says k out.0) rs
    go (yes p) ih q = let q' : (m.type, m.row) ≡ out = cc in subst (λ (o : Term × ℕ). At o.1 (says k o.0) rs) q' (rw p h)
    go (no np) ih q = ih q

pub recalling : {rs : List Row} (k : Key) {m : M (Term × ℕ)} → Keeps rs m (λ o. At o.1 (says k o.0)) → Keeps rs (looking λ s. from recall k s.memory get pure or m) (λ o. At o.1 (says k o.0))
unfolding looking from◌get◌or◌ pure
recalling {rs} k {m} h = record { holds = λ s e g. go s e g (recall k s.memory) refl }
  where
    go : (s : State) → Extends rs s.rows → Good s → (o : Option (Term × ℕ)) → recall k s.memory ≡ o → After rs (λ o. At o.1 (says k o.0)) ((from o get pure or m) s)
    go s e g (some out) q = fine e g (recalled k s.memory out q g.kept)
    go s e g none q = h.holds s e g

pub remembering : {rs : List Row} (k : Key) (ty : Term) (row : ℕ) → At row (says k ty) rs → Keeps rs (remember k ty row) (λ _ _. Unit {0})
unfolding remember store with_memory
remembering k ty row h = bind (counting_one (inference k)) λ _ _ e₁ _. record { holds = λ s e g. fine e (record { order = g.order; kept = keep (lift (extends_trans e₁ e) h) g.kept }) tt }

ended_after : {A : Type 0} {rs : List Row} {Q : A → List Row → Type 0} {o : Outcome A} → After rs Q o → After rs Q (ended o)
unfolding ended with_conversions
ended_after (fine e g q) = fine e (record { order = g.order; kept = g.kept }) q
ended_after (stopped z e g) = stopped z e (record { order = g.order; kept = g.kept })

pub convert : {A : Type 0} {rs : List Row} {Q : A → List Row → Type 0} {m : M A} → Keeps rs m Q → Keeps rs (converting m) Q
unfolding converting converted looking with_conversions
convert h = record { holds = λ s e g. (branch (dec_lt s.conversions 32) (λ _. record { holds = λ s e g. ended_after (h.holds (with_conversions (s.conversions + 1) s) e (record { order = g.order; kept = g.kept })) }) (λ _. refusing (lit< tt))).holds s e g }

pub entering : {A : Type 0} {rs : List Row} {Q : A → List Row → Type 0} {m : M A} (left : ℕ) (xs : List Thing) → ((rs' : List Row) → Extends rs rs' → Keeps rs' m Q) → Keeps rs (enter left xs m) Q
unfolding enter note with_deepest
entering left xs h = bind {Q = λ _ _. Unit {0}} (record { holds = λ s e g. fine e (record { order = g.order; kept = g.kept }) tt }) λ _ _ e₁ _. bind (counting xs) λ _ rs₂ e₂ _. h rs₂ (extends_trans e₁ e₂)
