-- What the entry promises of every run of bytes and all three slices: the run of the definition (`walked`), in words.
-- Which cell has which number is in `link`'s Things; how words are read, and what the words of an answer, a row and a cell are, in its
-- Table; demand 3's terms are in `walk`'s Demand. Nothing here speaks of how the entry works; `run_is_walked` of Same.Entry proves it.
use Rattle.std.specs.Prelude.{ℕ, ◌*◌, ◌≤◌, ◌<◌, ◌≡◌, List, ◌++◌, length, get_or}
use Rattle.std.proofs.Math.Option.{some}
use Rattle.walk.specs.Judgment.{Judgment}
use Rattle.walk.specs.State.{Row}
use Rattle.walk.specs.Reader.{Call}
use Rattle.walk.specs.Run.{Answer, play_all, made_by, start}
use Rattle.walk.specs.Run as W
use Rattle.walk.specs.Demand.{At, DerivationOrder, Distinct, Derives, cut, Extends}
use Rattle.link.specs.Table.{row_word, table_at, MemoryWords, TableWords, AnswerAt, AnswerWords, CallAt, States}
use Rattle.ran.specs.declared.Ran.{Ran}

-- the definition's run of these bytes, in slices of these lengths
abbrev pub walked : (bytes rows cells answers : List ℕ) → W.Ran
walked bytes rows cells answers = W.run (length rows) (length cells) (length answers) bytes

-- its five numbers
abbrev pub numbers_of : W.Ran → Ran
numbers_of ran = record { number = ran.number; place = ran.place; calls = length ran.calls; rows = length ran.last.rows; cells = length ran.last.cells }

-- Demand 3 of the table that stands in the slices after the run, read from the words, judgments by quote.
pub record Derived (bytes rows cells answers : List ℕ) (r : Ran) (rows' cells' answers' : List ℕ) : Type 0 where
  pub table : List Row
  pub read : table_at r.rows r.cells rows' cells' ≡ some table
  pub few : r.rows ≤ 50000
  -- every row follows by the rule it names from exactly the rows it cites, all with lower numbers; no judgment has two rows
  pub order : DerivationOrder table
  pub distinct : Distinct table
  -- every accepted call's row states that call's judgment, as the words of its answer name number, row and result
  pub stated : (k : ℕ) (c : Call) → CallAt c k (walked bytes rows cells answers).calls → get_or answers' (k * 4) 0 ≡ 0 → States r.cells cells' answers' table k c
  -- the same of the table cut after any row: it derives every judgment left in it, and what rows 0 to n state is left
  pub cut_order : (n : ℕ) → DerivationOrder (cut n table)
  pub cut_distinct : (n : ℕ) → Distinct (cut n table)
  pub cut_states : (n m : ℕ) (j : Judgment) → m ≤ n → At m j table → At m j (cut n table)
  pub cut_derives : (n m : ℕ) (j : Judgment) → At m j (cut n table) → Derives (cut n table) j
  -- the table that the first calls leave stays, whatever the others are, and so does each of its words but the working ones
  pub grows : (first others : List Call) → (walked bytes rows cells answers).calls ≡ first ++ others → Extends (play_all first (start (walked bytes rows cells answers).limit (length rows) (length cells))).1.rows table
  pub stays : (first others : List Call) → (walked bytes rows cells answers).calls ≡ first ++ others → TableWords (play_all first (start (walked bytes rows cells answers).limit (length rows) (length cells))).1 rows' cells'

-- r is what the entry answers; rows', cells' and answers' are the slices after it
pub record Runs (bytes rows cells answers : List ℕ) (r : Ran) (rows' cells' answers' : List ℕ) : Type 0 where
  pub numbers : r ≡ numbers_of (walked bytes rows cells answers)
  -- one answer for each call, with its four words
  pub answer_count : length (walked bytes rows cells answers).answers ≡ r.calls
  pub each_answer : (k : ℕ) (a : Answer) → AnswerAt a k (walked bytes rows cells answers).answers → AnswerWords (walked bytes rows cells answers).last.cells answers' k a
  -- the table: words 0 to 17 of each row, words 0 to 3 of each cell, and what they are read back as; of a cell that holds a remembered
  -- inference words 4 and 5 as well; word 18 of each row is the number of the call that made it. The other words of rows and cells are
  -- working words: any word
  pub table : TableWords (walked bytes rows cells answers).last rows' cells'
  pub memory : MemoryWords (walked bytes rows cells answers).last cells'
  pub made : (n : ℕ) → n < r.rows → row_word 18 rows' n ≡ made_by n (walked bytes rows cells answers).calls (start (walked bytes rows cells answers).limit (length rows) (length cells))
  pub derived : Derived bytes rows cells answers r rows' cells' answers'
  -- what is used lies in the slices; words past it stay
  pub rows_fit : r.rows * 24 ≤ length rows'
  pub cells_fit : r.cells * 8 ≤ length cells'
  pub answers_fit : r.calls * 4 ≤ length answers'
  pub rows_length : length rows' ≡ length rows
  pub cells_length : length cells' ≡ length cells
  pub answers_length : length answers' ≡ length answers
  pub rows_stay : (i : ℕ) → r.rows * 24 ≤ i → get_or rows' i 0 ≡ get_or rows i 0
  pub cells_stay : (i : ℕ) → r.cells * 8 ≤ i → get_or cells' i 0 ≡ get_or cells i 0
  pub answers_stay : (i : ℕ) → r.calls * 4 ≤ i → get_or answers' i 0 ≡ get_or answers i 0
  -- a run refused as a whole changes nothing
  pub rows_kept : (r.number ≡ 0 → ⊥) → rows' ≡ rows
  pub cells_kept : (r.number ≡ 0 → ⊥) → cells' ≡ cells
  pub answers_kept : (r.number ≡ 0 → ⊥) → answers' ≡ answers
