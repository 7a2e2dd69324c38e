-- Laws of the rows that a row cites. Assumes nothing.
use mathlib.Core.Path.{◌≡◌, refl}
use mathlib.Core.List.{List, ◌++◌}
use Prim.Native.Nat.{ℕ, zero, suc, ◌-◌}
use native.Mathlib.Numerals.{sub-one}
use Rattle.rules.specs.Names.{bytes}
use Rattle.writer.specs.Text.{each, decimal}
use Rattle.quotes.specs.Judgments.{row_word}
use Rattle.lines.specs.Rows.{reference, some_refs}

pub refs_none : (R : List ℕ) (i n : ℕ) → n ≡ 0 → some_refs R i n ≡ bytes "-"
unfolding some_refs
refs_none R i n h = rw h

pub refs_some : (R : List ℕ) (i n : ℕ) → (n ≡ 0 → ⊥) → some_refs R i n ≡ decimal (row_word R i 2) ++ each (reference R i) 1 (n - 1)
unfolding some_refs
refs_some R i zero h = absurd (h refl)
refs_some R i (suc n) h = rw sub-one
