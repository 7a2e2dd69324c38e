-- Laws of the definitions, by which the functions' proofs go. Assumes nothing.
use Prim.Native.Nat.{ℕ, zero, suc, ◌+◌, ◌-◌, ◌<◌, ◌≤◌}
use mathlib.Core.Path.{◌≡◌, refl}
use mathlib.Core.Bool.{Bool, true, false}
use mathlib.Core.List.{List}
use native.Mathlib.Numerals.{add-one}
use native.Mathlib.Omega.{arith}
use Rattle.std.specs.Prelude.{Some, None}
use Rattle.ast.specs.Cells.{last_of}
use Rattle.search.specs.declared.plain.Wanted.{Wanted}
use Rattle.search.specs.Plain.{row_is, scan_rows}
use Rattle.search.specs.Indexing.{index_row, indexed}

-- rows that are indexed one after the other
pub indexed_none : (R : List ℕ) → indexed R 0 ≡ R
unfolding indexed
indexed_none R = refl

pub indexed_more : (R : List ℕ) (i : ℕ) → indexed R (i + 1) ≡ index_row (indexed R i) i
unfolding indexed
indexed_more R i = rw add-one

-- a search from the last down: one step, and its end

pub search_down : (R : List ℕ) (n : ℕ) (C : List ℕ) (m : ℕ) (w : Wanted) → scan_rows R n C m w ≡ last_of (row_is R C m w) n
unfolding scan_rows
search_down R n C m w = refl

pub last_turn : (t : ℕ → Bool) (i : ℕ) → 0 < i → t (i - 1) ≡ false → last_of t i ≡ last_of t (i - 1)
unfolding last_of
last_turn t zero l e = absurd (let z : ⊥ = omega arith in z)
last_turn t (suc i) l e = let z : suc i - 1 ≡ i = omega arith in let f : t i ≡ false = rw z at e in rw (f, z)

pub last_here : (t : ℕ → Bool) (i : ℕ) → 0 < i → t (i - 1) ≡ true → last_of t i ≡ Some (i - 1)
unfolding last_of
last_here t zero l e = absurd (let z : ⊥ = omega arith in z)
last_here t (suc i) l e = let z : suc i - 1 ≡ i = omega arith in let f : t i ≡ true = rw z at e in rw (f, z)

pub last_none : (t : ℕ → Bool) (i : ℕ) → i ≤ 0 → last_of t i ≡ None
unfolding last_of
last_none t zero l = refl
last_none t (suc i) l = absurd (let z : ⊥ = omega arith in z)
