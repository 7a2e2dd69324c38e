-- What the answer words of a list of calls say of the walk's answers, and what state is left. That so it is is proved in proofs/Runs: `runs`.
use Rattle.std.specs.Prelude.{ℕ, ◌+◌, ◌-◌, ◌≤◌, ◌<◌, ◌≡◌, List, [], ◌∷◌, length}
use Rattle.producer.specs.Machine.{Machine, machine, Result}
use Rattle.walk.specs.Syntax.{Term, quote}
use Rattle.walk.specs.State.{State, Thing}
use Rattle.walk.specs.Reader.{Call}
use Rattle.walk.specs.Run.{no_result, a_level, a_term, Answer, added_by, play_all}
use Rattle.walk.specs.Run as R
use Rattle.order.specs.Bound.{Fit}
use Rattle.link.specs.Lists.{Extends}
use Rattle.link.specs.Things.{a_quote, Low}
use Rattle.link.specs.Holds.{Before, Holds}
use Rattle.link.specs.Asked.{Said, marked}

-- the result word: a level, the lowest cell with the quote of a term, or 0
pub data Results (xs : List Thing) : ℕ → R.Result → Type 0 where
  no_word : Results xs 0 no_result
  level_word : {l m : ℕ} → l ≡ m → Results xs l (a_level m)
  term_word : {n : ℕ} {t : Term} → Low n (a_quote (quote t)) xs → Results xs n (a_term t)

pub record Says (xs : List Thing) (a : Said) (b : Answer) : Type 0 where
  pub number : a.number ≡ b.number
  pub row : a.row ≡ b.row
  pub deepest : a.deepest ≡ b.deepest
  pub result : Results xs a.result b.result

-- what a call leaves
pub record Leaves (o : Before) (xs : List Thing) (x : Said × Machine) (y : Answer × State) : Type 0 where
  pub extends : Extends xs y.1.cells
  pub holds : Holds o x.1 y.1
  pub fit : Fit y.1
  pub says : Says y.1.cells x.0 y.0

-- of a value: the row, and the result, by the words that are left
pub record Fits {A C : Type 0} (row : C → ℕ) (result : C → Machine → ℕ) (row' : A → ℕ) (result' : A → R.Result) (c : C) (a : A) (w : Machine) (xs : List Thing) : Type 0 where
  pub same_row : row c ≡ row' a
  pub same_result : Results xs (result c w) (result' a)

pub data AllSay (xs : List Thing) : List Said → List Answer → Type 0 where
  none_say : AllSay xs [] []
  says_on : {a : Said} {as' : List Said} {b : Answer} {bs : List Answer} → Says xs a b → AllSay xs as' bs → AllSay xs (a ∷ as') (b ∷ bs)

-- with these numbers in word 18 of the rows
abbrev pub numbered : (ℕ → ℕ) → Before → Before
numbered made o = record { rows = o.rows; cells = o.cells; made = made }

-- the number of a call in so many rows, from one on
pub record Marks (o : Before) (w : Machine) (s : State) (n from call : ℕ) : Type 0 where
  pub made : ℕ → ℕ
  pub holds : Holds (numbered made o) (machine (marked n w.rows from call) w.cells w.state) s
  pub below : (k : ℕ) → k < from → made k ≡ o.made k
  pub inside : (k : ℕ) → from ≤ k → k < from + n → made k ≡ call
  pub above : (k : ℕ) → from + n ≤ k → made k ≡ o.made k

-- what calls leave, the first of which has the number n: rows that were there keep theirs
pub record EndsRun (o : Before) (s : State) (n : ℕ) (calls : List Call) (x : List Said × Machine) : Type 0 where
  pub made : ℕ → ℕ
  pub extends : Extends s.cells (play_all calls s).1.cells
  pub holds : Holds (numbered made o) x.1 (play_all calls s).1
  pub fit : Fit (play_all calls s).1
  pub says : AllSay (play_all calls s).1.cells x.0 (play_all calls s).0
  pub before : (k : ℕ) → k < length s.rows → made k ≡ o.made k
  pub added : (k : ℕ) → length s.rows ≤ k → k < length (play_all calls s).1.rows → made k ≡ n + added_by k calls s
