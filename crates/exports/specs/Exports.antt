-- What the exported function promises: where `result` has five words, the run of the definition in the other slices and its numbers
-- in those words; else nothing at all.
use Rattle.std.specs.Prelude.{ℕ, ◌<◌, ◌≤◌, ◌≡◌, refl, List, [], ◌∷◌, length}
use Rattle.std.proofs.Common.{arith}
use Rattle.std.proofs.lemmas.List.Edits.{sets}
use Rattle.ran.specs.declared.Ran.{Ran}
use Rattle.run.specs.Contract.{walked, numbers_of, Runs}

-- a run's five numbers, in order
abbrev pub five_words : Ran → List ℕ
five_words r = r.number ∷ r.place ∷ r.calls ∷ r.rows ∷ r.cells ∷ []

-- rows' and so on are the slices after it
pub record Exports (bytes rows cells answers result : List ℕ) (rows' cells' answers' result' : List ℕ) : Type 0 where
  pub runs : 5 ≤ length result → Runs bytes rows cells answers (numbers_of (walked bytes rows cells answers)) rows' cells' answers'
  pub written : 5 ≤ length result → result' ≡ sets result 0 (five_words (numbers_of (walked bytes rows cells answers)))
  pub rows_kept : length result < 5 → rows' ≡ rows
  pub cells_kept : length result < 5 → cells' ≡ cells
  pub answers_kept : length result < 5 → answers' ≡ answers
  pub result_kept : length result < 5 → result' ≡ result

-- both cases, from what the function does in each

pub too_short : (bytes rows cells answers result : List ℕ) → length result < 5 → Exports bytes rows cells answers result rows cells answers result
too_short bytes rows cells answers result l = record {
  runs = λ k. absurd (omega arith);
  written = λ k. absurd (omega arith);
  rows_kept = λ _. refl;
  cells_kept = λ _. refl;
  answers_kept = λ _. refl;
  result_kept = λ _. refl;
}

pub long_enough : (bytes rows cells answers result : List ℕ) (r : Ran) (rows' cells' answers' result' : List ℕ) → 5 ≤ length result → Runs bytes rows cells answers r rows' cells' answers' → result' ≡ sets result 0 (five_words r) → Exports bytes rows cells answers result rows' cells' answers' result'
long_enough bytes rows cells answers result r rows' cells' answers' result' l h e = record {
  runs = λ _. rw h.numbers at h;
  written = λ _. rw h.numbers at e;
  rows_kept = λ k. absurd (omega arith);
  cells_kept = λ k. absurd (omega arith);
  answers_kept = λ k. absurd (omega arith);
  result_kept = λ k. absurd (omega arith);
}
