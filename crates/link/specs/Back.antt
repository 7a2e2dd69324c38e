-- What the words that stand for a state are, and what is read back from them. That they are its table's, each cell's, each row's and an
-- answer's, and that what is read back is the table, is proved in proofs/Back: `table_told`, `table_stays`, `memory_told`.
use Rattle.std.specs.Prelude.{ℕ, ◌<◌, ◌≡◌, length, get_or, List}
use Rattle.std.proofs.Math.Option.{Option, some}
use Rattle.walk.specs.Judgment.{Judgment, kind, number, arguments}
use Rattle.walk.specs.State.{Row, Thing}
use Rattle.link.specs.Lists.{Nth, Extends}
use Rattle.link.specs.Things.{Shown, show, shows}
use Rattle.link.specs.Tables.{Shape}
use Rattle.link.specs.Store.{Line}
use Rattle.link.specs.Table.{kind_word, part, lower, Reads, no_reading, readings, argument_word}

-- how a judgment is read: as what its rule concludes
abbrev pub reads : Judgment → Reads
reads j = get_or readings (kind j) no_reading

-- the lowest cell that shows something
pub record Lowest (n : ℕ) (s : Shown) (xs : List Thing) : Type 0 where
  pub one : Thing
  pub nth : Nth n one xs
  pub shows : s ≡ show one

pub record SameWords (k a b c k' : ℕ) (p q r : Option ℕ) : Type 0 where
  pub kind : k ≡ k'
  pub first : some a ≡ p
  pub second : some b ≡ q
  pub third : some c ≡ r

-- a cell, over those below it
pub record Inner (n : ℕ) (x : Thing) (xs : List Thing) (C : List ℕ) : Type 0 where
  pub lower : List Thing
  pub place : n ≡ length lower
  pub under : Extends lower xs
  pub shape : Shape lower (kind_word C n) (part 1 C n) (part 2 C n) (part 3 C n) x

-- A row of earlier words has the same words now, but for the working ones: each argument that is a cell is the lowest with its quote,
-- which one that came later cannot be.
pub record LineStays (xs : List Thing) (rs : List Row) (r : Row) (bs bs' : List ℕ) : Type 0 where
  pub is : Line xs rs r bs'
  pub tops : (k : ℕ) → k < 18 → get_or bs' k 0 ≡ get_or bs k 0

-- five words are those of the arguments
pub record Told (xs : List Thing) (count a b c d e : ℕ) (j : Judgment) : Type 0 where
  pub count_is : count ≡ length (arguments j)
  pub first : some a ≡ argument_word xs (get_or (arguments j) 0 (number 0))
  pub second : some b ≡ argument_word xs (get_or (arguments j) 1 (number 0))
  pub third : some c ≡ argument_word xs (get_or (arguments j) 2 (number 0))
  pub fourth : some d ≡ argument_word xs (get_or (arguments j) 3 (number 0))
  pub fifth : some e ≡ argument_word xs (get_or (arguments j) 4 (number 0))
