-- What a run over words, from bytes, answers and leaves, beside the definition of the run. That it does, and that demand 3 holds of its table,
-- is proved in proofs/Words: `words`.
use Rattle.std.specs.Prelude.{ℕ, ◌*◌, ◌≤◌, ◌<◌, ◌≡◌, List, ◌++◌, length, get_or}
use Rattle.producer.specs.Machine.{Machine}
use Rattle.walk.specs.Reader.{Call}
use Rattle.walk.specs.Run.{Answer, Ran, play_all, made_by}
use Rattle.walk.specs.Run as R
use Rattle.link.specs.Lists.{stays}
use Rattle.link.specs.Asked.{ask_all, start, four_words, written_over}
use Rattle.link.specs.Table.{row_word, MemoryWords, TableWords, AnswerWords, AnswerAt}

-- what the machine leaves, in slices that held rows, cells and answers before; A: the answers after it
pub record RanWords (rows cells answers : List ℕ) (ran : Ran) (w : Machine) (A : List ℕ) : Type 0 where
  -- the counts
  pub row_count : w.state.rows ≡ length ran.last.rows
  pub cell_count : w.state.cells ≡ length ran.last.cells
  -- each call's four words
  pub each_answer : (k : ℕ) (a : Answer) → AnswerAt a k ran.answers → AnswerWords ran.last.cells A k a
  -- each row's words and each cell's, and the table that they are read back as; what is remembered
  pub table : TableWords ran.last w.rows w.cells
  pub memory : MemoryWords ran.last w.cells
  -- the call that made each row
  pub made : (n : ℕ) → n < length ran.last.rows → row_word 18 w.rows n ≡ made_by n ran.calls (R.start ran.limit (length rows) (length cells))
  -- what the first calls left is there
  pub stays : (first others : List Call) → ran.calls ≡ first ++ others → TableWords (play_all first (R.start ran.limit (length rows) (length cells))).1 w.rows w.cells
  -- the slices keep their lengths, and the words past those used stay
  pub rows_length : length w.rows ≡ length rows
  pub cells_length : length w.cells ≡ length cells
  pub answers_length : length A ≡ length answers
  pub rows_stay : (i : ℕ) → length ran.last.rows * 24 ≤ i → get_or w.rows i 0 ≡ get_or rows i 0
  pub cells_stay : (i : ℕ) → length ran.last.cells * 8 ≤ i → get_or w.cells i 0 ≡ get_or cells i 0
  pub answers_stay : (i : ℕ) → length ran.answers * 4 ≤ i → get_or A i 0 ≡ get_or answers i 0

-- the calls that are read, asked of the machine (none where the run is refused as a whole)
abbrev pub AskedWords : (rows cells answers : List ℕ) → Ran → Type 0
AskedWords rows cells answers ran = RanWords rows cells answers ran (ask_all ran.calls (start ran.limit rows cells)).1 (written_over (four_words (ask_all ran.calls (start ran.limit rows cells)).0) answers)
