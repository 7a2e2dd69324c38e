-- The number of repeats, over the answers' words and the calls' codes. Assumes nothing.
use Rattle.std.specs.Prelude.{ℕ, zero, suc, ◌+◌, Bool, true, false, ◌&&◌, List, [], ◌∷◌, eqb, reverse}
use Rattle.std.specs.List.{list_any, range_with_len}
use Rattle.lines.specs.Calls.{answer_word, code}

-- An accepted call, by its code and its row.
pub record Accepted : Type 0 where
  pub code : ℕ
  pub row : ℕ

abbrev pub call : ℕ → ℕ → Accepted
call c row = record { code = c; row = row }

-- Call i, in front of others, where it is accepted.
unfoldable pub with_call : List ℕ → List ℕ → ℕ → List Accepted → List Accepted
with_call codes A i l = elim (eqb (answer_word A i 0) 0) [ true ↦ call (code codes i) (answer_word A i 1) ∷ l | false ↦ l ]

-- The accepted among n calls, from call i on.
unfoldable pub accepted : List ℕ → List ℕ → ℕ → ℕ → List Accepted
accepted codes A i zero = []
accepted codes A i (suc n) = with_call codes A i (accepted codes A (suc i) n)

unfoldable pub same : Accepted → Accepted → Bool
same x y = eqb x.code y.code && eqb x.row y.row

-- The accepted calls that have the code and the row of an earlier one.
unfoldable pub occurs : Accepted → List Accepted → ℕ
occurs x [] = 0
occurs x (y ∷ ys) = elim (same x y) [ true ↦ 1 | false ↦ occurs x ys ]

unfoldable pub repeats_after : List Accepted → List Accepted → ℕ
repeats_after earlier [] = 0
repeats_after earlier (x ∷ xs) = occurs x earlier + repeats_after (x ∷ earlier) xs

unfoldable pub repeats : List ℕ → List ℕ → ℕ → ℕ
repeats codes A calls = repeats_after [] (accepted codes A 0 calls)

-- The same count by calls, as the function goes: whether call j is accepted, with this code and row; whether call i repeats one of those
-- before it, the newest first.
unfoldable pub is_call : List ℕ → List ℕ → ℕ → ℕ → ℕ → Bool
is_call codes A j c row = elim (eqb (answer_word A j 0) 0) [ true ↦ same (call c row) (call (code codes j) (answer_word A j 1)) | false ↦ false ]

abbrev pub seen : List ℕ → List ℕ → ℕ → ℕ → ℕ → Bool
seen codes A c row i = list_any (λ j. is_call codes A j c row) (reverse (range_with_len 0 i))

unfoldable pub is_repeat : List ℕ → List ℕ → ℕ → Bool
is_repeat codes A i = eqb (answer_word A i 0) 0 && seen codes A (code codes i) (answer_word A i 1) i
