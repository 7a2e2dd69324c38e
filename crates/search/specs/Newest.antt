-- What a search for a judgment gives: the highest row that states it, and none exactly where no row does. By judgments, as `link`'s
-- Table reads them from any words: no hash and no index is in sight. Assumes nothing.
use Rattle.std.specs.Prelude.{ℕ, ◌<◌, ◌≤◌, ◌≡◌, List, [], ◌∷◌, get_or, Some, None}
use Rattle.std.proofs.Math.Option.{Option, some}
use Rattle.walk.specs.Judgment.{Judgment, kind, Argument, number, of_interval, of_quote, of_context, arguments}
use Rattle.walk.specs.Rule.{kind_of}
use Rattle.walk.specs.State.{Row}
use Rattle.search.specs.declared.plain.Wanted.{Wanted}
use Rattle.link.specs.Table.{an_interval, a_quote, a_context, readings, no_reading, row_word, row_at}
use Rattle.ast.specs.Cells.{Found}

-- The last number below n that has a property.
pub data Last (P : ℕ → Type 0) (n : ℕ) : Found → Type 0 where
  last : {i : ℕ} → i < n → P i → ((k : ℕ) → i < k → k < n → P k → ⊥) → Last P n (Some i)
  no_one : ((k : ℕ) → k < n → P k → ⊥) → Last P n None

-- Row i states j, over so many cells: by the rule that it names and the quotes of its arguments.
pub record RowStates (cells : ℕ) (R C : List ℕ) (j : Judgment) (i : ℕ) : Type 0 where
  pub row : Row
  pub read : row_at cells R C i ≡ some row
  pub judgment : row.judgment ≡ j

-- The highest row below `rows` that states j.
abbrev pub Newest : (rows cells : ℕ) → (R C : List ℕ) → Judgment → Found → Type 0
Newest rows cells R C j = Last (RowStates cells R C j) rows

-- A judgment that is asked for: a kind, and five argument words that are read as a row's are.
abbrev pub asked : (cells : ℕ) → List ℕ → (kind a b c d e : ℕ) → Option Judgment
asked cells C kind a b c d e = get_or readings kind no_reading cells C a b c d e

-- What the plain search promises of its answer, over any words.
pub record Finds (R : List ℕ) (rows : ℕ) (C : List ℕ) (cells : ℕ) (w : Wanted) (f : Found) : Type 0 where
  -- the highest row that states what is asked for; rows that are read as no judgment are passed over
  pub newest : (j : Judgment) → asked cells C w.kind w.a w.b w.c w.d w.e ≡ some j → Newest rows cells R C j f
  -- where no judgment is asked for: none, or some row
  pub below : (i : ℕ) → f ≡ Some i → i < rows

-- Words as a run has them: each argument that is a cell is the lowest with its quote, and unused places are 0.

-- w is the lowest that is read as x
pub record Lowest {A : Type 0} (at : ℕ → Option A) (w : ℕ) (x : A) : Type 0 where
  pub read : at w ≡ some x
  pub least : (i : ℕ) → at i ≡ some x → w ≤ i

abbrev pub ArgumentWord : (cells : ℕ) → List ℕ → Argument → ℕ → Type 0
ArgumentWord cells C (number n) w = w ≡ n
ArgumentWord cells C (of_interval r) w = Lowest (an_interval cells C) w r
ArgumentWord cells C (of_quote t) w = Lowest (a_quote cells C) w t
ArgumentWord cells C (of_context g) w = Lowest (a_context cells C) w g

pub record LowestWords (cells : ℕ) (C : List ℕ) (a b c d e : ℕ) (j : Judgment) : Type 0 where
  pub words : (k : ℕ) → k < 5 → ArgumentWord cells C (get_or (arguments j) k (number 0)) (get_or (a ∷ b ∷ c ∷ d ∷ e ∷ []) k 0)

-- so for each row that states a judgment; the others may have any words
pub record LowestRows (rows cells : ℕ) (R C : List ℕ) : Type 0 where
  pub each : (i : ℕ) (j : Judgment) → i < rows → RowStates cells R C j i → (kind_of (row_word 0 R i) ≡ kind j) × LowestWords cells C (row_word 13 R i) (row_word 14 R i) (row_word 15 R i) (row_word 16 R i) (row_word 17 R i) j
