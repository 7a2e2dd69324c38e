-- Wrong outcomes of calls with many types that the contract refuses, as in Rejects.
use Rattle.std.specs.Prelude.{ℕ, suc, ◌≡◌, refl, List, [], ◌∷◌, replicate, get_or}
use Rattle.std.proofs.Common.{sym, ap, ◌∙◌, arith}
use Rattle.walk.specs.Run.{no_result, refusal}
use Rattle.walk.specs.Opened.{opened}
use Rattle.link.specs.Table.{AnswerAt, this_answer, later_answer}
use Rattle.ran.specs.declared.Ran.{Ran}
use Rattle.run.specs.Contract.{walked, numbers_of, Runs}

-- room for 32 rows, 64 cells and 4 answers; or for one cell
abbrev rows : List ℕ
rows = replicate 768 7

abbrev cells : List ℕ
cells = replicate 512 7

abbrev one_cell : List ℕ
one_cell = replicate 8 7

abbrev answers : List ℕ
answers = replicate 16 7

-- zero at nat, u 0 and nat: the second is refused
abbrev three : List ℕ
three = 100 ∷ 0 ∷ 6 ∷ 0 ∷ 0 ∷ 4 ∷ 3 ∷ 3 ∷ 1 ∷ 0 ∷ 3 ∷ []

three_calls : (numbers_of (walked three rows cells answers)).calls ≡ 3
unfolding opened
three_calls = refl

three_third : AnswerAt (record { number = 0; row = 1; result = no_result; deepest = 2 }) 2 (walked three rows cells answers).answers
unfolding opened
three_third = later_answer (later_answer this_answer)

-- a tree of pi types, of 2^(n + 1) - 1 nodes; zero at two of them, of 8,191 and 4,095 nodes
abbrev tree : ℕ → List ℕ → List ℕ
tree ℕ.zero bs = 3 ∷ bs
tree (ℕ.suc n) bs = 5 ∷ tree n (tree n bs)

abbrev large : List ℕ
large = 100 ∷ 0 ∷ 6 ∷ 0 ∷ 0 ∷ 4 ∷ 2 ∷ tree 12 (tree 11 [])

large_second : AnswerAt (refusal 20 1) 1 (walked large rows one_cell answers).answers
unfolding opened
large_second = later_answer this_answer

module _ {r : Ran} {rows' cells' answers' : List ℕ} where
  -- one answer for all types
  one_block : Runs three rows cells answers r rows' cells' answers' → r.calls ≡ 1 → ⊥
  one_block h e = let q : ◌≡◌ {A = ℕ} 1 3 = sym e ∙ ap (λ (x : Ran). x.calls) h.numbers ∙ three_calls in omega arith

  -- types after a refused one that are not checked
  skips : Runs three rows cells answers r rows' cells' answers' → (n : ℕ) → get_or answers' 8 0 ≡ suc n → ⊥
  skips h n e = let q : suc n ≡ 0 = sym e ∙ (h.each_answer 2 _ three_third).number in omega arith

  -- nodes of the types that add up, so that the second is refused with 6
  adds_up : Runs large rows one_cell answers r rows' cells' answers' → get_or answers' 4 0 ≡ 6 → ⊥
  adds_up h e = let q : ◌≡◌ {A = ℕ} 6 20 = sym e ∙ (h.each_answer 1 _ large_second).number in omega arith
