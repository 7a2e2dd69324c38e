-- Texts, and the text of a number. Assumes nothing.
use Rattle.std.specs.Prelude.{ℕ, zero, suc, ◌+◌, ◌/◌, ◌%◌, true, false, List, [], ◌∷◌, ◌++◌, ltb}

-- A text is its bytes.
abbrev pub Text : Type 0
Text = List ℕ

-- The texts of n numbers, from k on, one after the other.
unfoldable pub each : (ℕ → Text) → ℕ → ℕ → Text
each f k zero = []
each f k (suc n) = f k ++ each f (suc k) n

-- numbers

abbrev pub digit : ℕ → ℕ
digit n = 48 + n % 10

-- The last digits of a number, at most so many.
unfoldable pub digits : ℕ → ℕ → Text
digits zero n = []
digits (suc most) n = elim (ltb n 10) [ true ↦ digit n ∷ [] | false ↦ digits most (n / 10) ++ digit n ∷ [] ]

-- A number in decimal. It has fewer digits than suc n.
unfoldable pub decimal : ℕ → Text
decimal n = digits (suc n) n
