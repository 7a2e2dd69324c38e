-- Wrong numbers of calls that the contract refuses, as in Rejects: word 18 of a row is the number of the call that made it.
use Rattle.std.specs.Prelude.{ℕ, ◌<◌, ◌≡◌, refl, List, [], ◌∷◌, replicate, length}
use Rattle.std.proofs.Common.{sym, ◌∙◌, arith, lit<}
use Rattle.walk.specs.Syntax.{nat, nil, u}
use Rattle.walk.specs.Judgment.{has}
use Rattle.walk.specs.Rule as R
use Rattle.walk.specs.Run.{made_by, start}
use Rattle.walk.specs.Demand.{RowAt, newest, older}
use Rattle.walk.specs.Opened.{opened}
use Rattle.link.specs.Table.{row_word}
use Rattle.ran.specs.declared.Ran.{Ran}
use Rattle.run.specs.Contract.{walked, numbers_of, Runs}

-- room for 32 rows, 64 cells and 4 answers
abbrev rows : List ℕ
rows = replicate 768 7

abbrev cells : List ℕ
cells = replicate 512 7

abbrev answers : List ℕ
answers = replicate 16 7

abbrev count : List ℕ → ℕ
count bytes = (numbers_of (walked bytes rows cells answers)).rows

abbrev maker : List ℕ → ℕ → ℕ
maker bytes n = made_by n (walked bytes rows cells answers).calls (start (walked bytes rows cells answers).limit (length rows) (length cells))

-- check zero at nat, then infer v 0 in context nat: the second call makes rows 2 to 6, and its first cites row 0
abbrev two : List ℕ
two = 100 ∷ 0 ∷ 3 ∷ 0 ∷ 0 ∷ 4 ∷ 3 ∷ 2 ∷ 0 ∷ 1 ∷ 3 ∷ 2 ∷ 0 ∷ []

two_count : count two ≡ 7
unfolding opened
two_count = refl

two_oldest : maker two 0 ≡ 0
unfolding opened
two_oldest = refl

two_newest : maker two 6 ≡ 1
unfolding opened
two_newest = refl

pub two_cites : RowAt 2 (record { rule = R.type_nat; refs = 0 ∷ []; judgment = has 0 nil nat (u 0) }) (walked two rows cells answers).last.rows
unfolding opened
two_cites = older (older (older (older (newest refl))))

-- check zero at u 0, which is refused and leaves rows 2 and 3, after check zero at nat; then the context nat, with row 4
abbrev refused : List ℕ
refused = 100 ∷ 0 ∷ 3 ∷ 0 ∷ 0 ∷ 4 ∷ 3 ∷ 3 ∷ 0 ∷ 0 ∷ 4 ∷ 1 ∷ 0 ∷ 0 ∷ 0 ∷ 1 ∷ 3 ∷ []

refused_count : count refused ≡ 5
unfolding opened
refused_count = refl

refused_its : maker refused 3 ≡ 1
unfolding opened
refused_its = refl

refused_next : maker refused 4 ≡ 2
unfolding opened
refused_next = refl

-- the first two of these by one call of code 6: zero at nat and u 0
abbrev blocks : List ℕ
blocks = 100 ∷ 0 ∷ 6 ∷ 0 ∷ 0 ∷ 4 ∷ 2 ∷ 3 ∷ 1 ∷ 0 ∷ []

blocks_count : count blocks ≡ 4
unfolding opened
blocks_count = refl

blocks_second : maker blocks 2 ≡ 1
unfolding opened
blocks_second = refl

module _ {r : Ran} {rows' cells' answers' : List ℕ} where
  -- another number than that of the call
  other_call : (bytes : List ℕ) (n m : ℕ) → Runs bytes rows cells answers r rows' cells' answers' → count bytes ≡ m → n < m → (k : ℕ) → row_word 18 rows' n ≡ k → (k ≡ maker bytes n → ⊥) → ⊥
  other_call bytes n m h e l k q z = z (sym q ∙ h.made n (rw (h.numbers, e) l))

  -- all 0, as the words were before
  all_0 : Runs two rows cells answers r rows' cells' answers' → row_word 18 rows' 6 ≡ 0 → ⊥
  all_0 h e = other_call two 6 7 h two_count (lit< tt) 0 e (λ q. omega (arith, two_newest))

  -- the number of the call that last cited the row; the number of the call plus one
  last_cited : Runs two rows cells answers r rows' cells' answers' → row_word 18 rows' 0 ≡ 1 → ⊥
  last_cited h e = other_call two 0 7 h two_count (lit< tt) 1 e (λ q. omega (arith, two_oldest))

  plus_one : Runs two rows cells answers r rows' cells' answers' → row_word 18 rows' 6 ≡ 2 → ⊥
  plus_one h e = other_call two 6 7 h two_count (lit< tt) 2 e (λ q. omega (arith, two_newest))

  -- what the slice held
  unwritten : Runs two rows cells answers r rows' cells' answers' → row_word 18 rows' 0 ≡ 7 → ⊥
  unwritten h e = other_call two 0 7 h two_count (lit< tt) 7 e (λ q. omega (arith, two_oldest))

  -- rows that a refused call left: without its number, or with that of the call after it; and refused calls that are not counted
  unmarked : Runs refused rows cells answers r rows' cells' answers' → row_word 18 rows' 3 ≡ 0 → ⊥
  unmarked h e = other_call refused 3 5 h refused_count (lit< tt) 0 e (λ q. omega (arith, refused_its))

  next_call : Runs refused rows cells answers r rows' cells' answers' → row_word 18 rows' 3 ≡ 2 → ⊥
  next_call h e = other_call refused 3 5 h refused_count (lit< tt) 2 e (λ q. omega (arith, refused_its))

  accepted_alone : Runs refused rows cells answers r rows' cells' answers' → row_word 18 rows' 4 ≡ 1 → ⊥
  accepted_alone h e = other_call refused 4 5 h refused_count (lit< tt) 1 e (λ q. omega (arith, refused_next))

  -- the blocks of a call with many types numbered as one
  one_number : Runs blocks rows cells answers r rows' cells' answers' → row_word 18 rows' 2 ≡ 0 → ⊥
  one_number h e = other_call blocks 2 4 h blocks_count (lit< tt) 0 e (λ q. omega (arith, blocks_second))
