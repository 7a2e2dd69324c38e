-- What a call of a transform gives, where it is not refused. That the walk's calls give what the functions of Transforms give is proved in
-- proofs/Results: `results`, `gives`, `igives`.
use Rattle.std.specs.Prelude.{ℕ, suc, ◌+◌, ◌≤◌, ◌<◌, ◌≡◌, List, Bool}
use Rattle.walk.specs.Syntax.{Interval, Term}
use Rattle.walk.specs.State.{State, Outcome, done, refused, M}
use Rattle.walk.specs.Walk.Reference.{Op, IOp, Callees}
use Rattle.walk.specs.Walk.{callees}
use Rattle.order.specs.Numbers.{interval_top, term_top}
use Rattle.laws.specs.Transforms.{itransform, transform, under}
use Rattle.laws.specs.Tops.{place_top, call_top, icall_top}

-- m gives what Q says, with numbers as P says, or is refused; and e does what m does
abbrev pub Gave : {A : Type 0} → (A → Type 0) → Outcome A → Type 0
Gave Q (done a s) = Q a
Gave Q (refused n s) = Unit {0}

pub record Gives {A : Type 0} (m e : M A) (Q P : A → Type 0) : Type 0 where
  pub gives : (s : State) → Gave Q (m s)
  pub small : (s : State) → Gave P (m s)
  pub same : (s : State) → e s ≡ m s

abbrev pub AnyValue : {A : Type 0} → A → Type 0
AnyValue a = Unit {0}

-- a term, an interval or an operation, with the rows for it: it is x, and its numbers are at most `most`
abbrev pub GivesTerm : M (Term × ℕ) → M (Term × ℕ) → Term → ℕ → Type 0
GivesTerm m e x most = Gives m e (λ o. o.0 ≡ x) (λ o. term_top o.0 ≤ most)

abbrev pub GivesInterval : {B : Type 0} → M (Interval × B) → M (Interval × B) → Interval → ℕ → Type 0
GivesInterval m e x most = Gives m e (λ o. o.0 ≡ x) (λ o. interval_top o.0 ≤ most)

abbrev pub GivesOp : M (Op × List ℕ) → M (Op × List ℕ) → Op → Type 0
GivesOp m e x = Gives m e (λ o. o.0 ≡ x) AnyValue

-- `Fine n k`: with n entries left, k may be handed over. Each entry takes one off n, and may put one on k.
pub record Falls (Fine : ℕ → ℕ → Type 0) : Type 0 where
  pub next : {n m k : ℕ} → k ≤ suc m → Fine (suc n) m → Fine n k

-- what each function gives, with n entries left: no number more than n above those that are handed over
pub record Results (Fine : ℕ → ℕ → Type 0) (n : ℕ) (c e : Callees) : Type 0 where
  pub transform :
      (t : Term) (op : Op) → Fine n (call_top t op) →
      GivesTerm (c.transform t op) (e.transform t op) (transform op t) (call_top t op + n)
  pub itransform :
      (r : Interval) (op : IOp) → Fine n (icall_top r op) →
      GivesInterval (c.itransform r op) (e.itransform r op) (itransform op r) (icall_top r op + n)
  pub under : (op : Op) (d : Bool) → Fine n (place_top op) → GivesOp (c.under op d) (e.under op d) (under op d)
  pub comparison : (m k : ℕ) (strict : Bool) → Gives (c.comparison m k strict) (e.comparison m k strict) AnyValue AnyValue
  pub more : (k : ℕ) → Fine n k → Gives (c.more k) (e.more k) (λ k'. k' ≡ suc k) AnyValue

-- any number may be handed over
abbrev pub Any : ℕ → ℕ → Type 0
Any n k = Unit {0}

-- numbers from which no entry that is left can reach the guard
abbrev pub Far : ℕ → ℕ → ℕ → Type 0
Far top n k = k + n < top

-- a call of `transform` that is not refused, with any number of entries left and from any state
pub record Called (t : Term) (op : Op) (t' : Term) : Type 0 where
  pub left : ℕ
  pub from : State
  pub to : State
  pub row : ℕ
  pub call : (callees left).transform t op from ≡ done (t', row) to

-- so of `itransform`
pub record ICalled (r : Interval) (op : IOp) (r' : Interval) : Type 0 where
  pub left : ℕ
  pub from : State
  pub to : State
  pub row : ℕ
  pub call : (callees left).itransform r op from ≡ done (r', row) to
