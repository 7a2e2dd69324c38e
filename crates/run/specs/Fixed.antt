-- What the contract fixes: two runs of the same bytes, in slices of the same lengths, answer the same numbers and leave the same words
-- but for the working ones, whatever the slices held before. By the contract alone: `fixed`.
use Rattle.std.specs.Prelude.{ℕ, ◌+◌, ◌*◌, ◌-◌, ◌<◌, ◌≡◌, List, [], ◌∷◌, length, get_or}
use Rattle.std.proofs.Common.{sym, ap, ◌∙◌, subst, arith, add-zero}
use Rattle.std.proofs.Math.Option.{Option, some}
use Rattle.std.proofs.Math.Decide.{dec_lt}
use Rattle.walk.specs.State.{Row, Thing, inference, Key}
use Rattle.walk.specs.Run.{Answer, made_by}
use Rattle.walk.specs.Run as W
use Rattle.walk.specs.Demand.{RowAt, newest, older}
use Rattle.link.specs.Lists.{same, more}
use Rattle.link.specs.Things.{Counted}
use Rattle.link.specs.Table.{part, row_word, words_at, CellsWords, MemoryWords, RowWords, TableWords, AnswerWords, AnswerAt, this_answer, later_answer}
use Rattle.ran.specs.declared.Ran.{Ran}
use Rattle.run.specs.Contract.{walked, numbers_of, Runs}

-- r, rows', cells' and answers' against those of another run, over the things that the walk counted
pub record SameWords (things : List Thing) (r r₂ : Ran) (rows' cells' answers' rows₂' cells₂' answers₂' : List ℕ) : Type 0 where
  pub numbers : r ≡ r₂
  pub answers : (i k : ℕ) → i < r.calls → k < 4 → get_or answers' (i * 4 + k) 0 ≡ get_or answers₂' (i * 4 + k) 0
  pub rows : (i k : ℕ) → i < r.rows → k < 19 → get_or rows' (i * 24 + k) 0 ≡ get_or rows₂' (i * 24 + k) 0
  pub cells : (i k : ℕ) → i < r.cells → k < 4 → get_or cells' (i * 8 + k) 0 ≡ get_or cells₂' (i * 8 + k) 0
  -- the type and the row of a remembered inference
  pub memory : (key : Key) (before : List Thing) → Counted (inference key) before things → (part 4 cells' (length before) ≡ part 4 cells₂' (length before)) × (part 5 cells' (length before) ≡ part 5 cells₂' (length before))

-- what stands at a number

answer_of : (answers : List Answer) (k : ℕ) → k < length answers → (a : Answer) × AnswerAt a k answers
answer_of [] k l = absurd (omega arith)
answer_of (a ∷ answers) ℕ.zero l = (a, this_answer)
answer_of (a ∷ answers) (ℕ.suc k) l = let (b, at) = answer_of answers k (omega arith) in (b, later_answer at)

row_of : (rows : List Row) (i : ℕ) → i < length rows → (r : Row) × RowAt i r rows
row_of [] i l = absurd (omega arith)
row_of (r ∷ rows) i l = go (dec_lt i (length rows)) (row_of rows i)
  where
    go : Dec (i < length rows) → (i < length rows → (r : Row) × RowAt i r rows) → (s : Row) × RowAt i s (r ∷ rows)
    go (yes k) f = let (s, at) = f k in (s, older at)
    go (no k) f = let e : i ≡ length rows = omega arith in (r, newest e)

record CellOf (xs : List Thing) (i : ℕ) : Type 0 where
  thing : Thing
  before : List Thing
  place : i ≡ length before
  counted : Counted thing before xs

cell_of : (xs : List Thing) (i : ℕ) → i < length xs → CellOf xs i
cell_of [] i l = absurd (omega arith)
cell_of (x ∷ xs) i l = go (dec_lt i (length xs)) (cell_of xs i)
  where
    go : Dec (i < length xs) → (i < length xs → CellOf xs i) → CellOf (x ∷ xs) i
    go (yes k) f = let c = f k in record { thing = c.thing; before = c.before; place = c.place; counted = more c.counted }
    go (no k) f = let e : i ≡ length xs = omega arith in record { thing = x; before = xs; place = e; counted = same }

-- words that are those of one thing are the same

some_same : {m n : ℕ} {o : Option ℕ} → some m ≡ o → some n ≡ o → m ≡ n
some_same {m} {n} p q = let e : some m ≡ some n = p ∙ sym q in cc

answer_same : {xs : List Thing} {A B : List ℕ} {i : ℕ} {a : Answer} (k : ℕ) → k < 4 → AnswerWords xs A i a → AnswerWords xs B i a → get_or A (i * 4 + k) 0 ≡ get_or B (i * 4 + k) 0
answer_same ℕ.zero l h g = rw add-zero (h.number ∙ sym g.number)
answer_same (ℕ.suc ℕ.zero) l h g = h.row ∙ sym g.row
answer_same (ℕ.suc (ℕ.suc ℕ.zero)) l h g = some_same h.result g.result
answer_same (ℕ.suc (ℕ.suc (ℕ.suc ℕ.zero))) l h g = h.deepest ∙ sym g.deepest
answer_same (ℕ.suc (ℕ.suc (ℕ.suc (ℕ.suc k)))) l h g = absurd (omega arith)

row_same : {xs : List Thing} {R S : List ℕ} {i : ℕ} {r : Row} (k : ℕ) → k < 18 → RowWords xs R i r → RowWords xs S i r → row_word k R i ≡ row_word k S i
row_same {xs} {R} {S} {i} {r} k l h g = by (dec_lt k 2) (dec_lt k 12) (dec_lt k 13)
  where
    head : (k : ℕ) → k < 2 → row_word k R i ≡ row_word k S i
    head ℕ.zero m = h.rule ∙ sym g.rule
    head (ℕ.suc ℕ.zero) m = h.cited ∙ sym g.cited
    head (ℕ.suc (ℕ.suc k)) m = absurd (omega arith)

    by : Dec (k < 2) → Dec (k < 12) → Dec (k < 13) → row_word k R i ≡ row_word k S i
    by (yes m) _ _ = head k m
    by (no m) (yes n) _ = subst (λ (j : ℕ). row_word j R i ≡ row_word j S i) (omega arith) (h.places (k - 2) (omega arith) ∙ sym (g.places (k - 2) (omega arith)))
    by (no m) (no n) (yes o) = subst (λ (j : ℕ). row_word j R i ≡ row_word j S i) (omega arith) (h.count ∙ sym g.count)
    by (no m) (no n) (no o) = subst (λ (j : ℕ). row_word j R i ≡ row_word j S i) (omega arith) (some_same (h.judgment (k - 13) (omega arith)) (g.judgment (k - 13) (omega arith)))

four_same : (C D : List ℕ) (i k : ℕ) → k < 4 → words_at C i ≡ words_at D i → get_or C (i * 8 + k) 0 ≡ get_or D (i * 8 + k) 0
four_same C D i ℕ.zero l e = let q : get_or C (i * 8) 0 ≡ get_or D (i * 8) 0 = cc in rw add-zero q
four_same C D i (ℕ.suc ℕ.zero) l e = cc
four_same C D i (ℕ.suc (ℕ.suc ℕ.zero)) l e = cc
four_same C D i (ℕ.suc (ℕ.suc (ℕ.suc ℕ.zero))) l e = cc
four_same C D i (ℕ.suc (ℕ.suc (ℕ.suc (ℕ.suc k)))) l e = absurd (omega arith)

cells_same : {xs : List Thing} {C D : List ℕ} (i k : ℕ) → i < length xs → k < 4 → CellsWords xs C → CellsWords xs D → get_or C (i * 8 + k) 0 ≡ get_or D (i * 8 + k) 0
cells_same {xs} {C} {D} i k l m h g =
    let c = cell_of xs i l in
    subst (λ (j : ℕ). get_or C (j * 8 + k) 0 ≡ get_or D (j * 8 + k) 0) (sym c.place) (four_same C D (length c.before) k m (h.each c.thing c.before c.counted ∙ sym (g.each c.thing c.before c.counted)))

two_same : {a b c d : ℕ} → (some a ∷ some b ∷ []) ≡ (some c ∷ some d ∷ []) → (a ≡ c) × (b ≡ d)
two_same {a} {b} {c} {d} e = let p : a ≡ c = cc in let q : b ≡ d = cc in (p, q)

-- and word 18
words_same : {xs : List Thing} {R S : List ℕ} {i : ℕ} {r : Row} (k : ℕ) → k < 19 → RowWords xs R i r → RowWords xs S i r → row_word 18 R i ≡ row_word 18 S i → row_word k R i ≡ row_word k S i
words_same {R = R} {S = S} {i = i} k l h g e = go (dec_lt k 18)
  where
    go : Dec (k < 18) → row_word k R i ≡ row_word k S i
    go (yes m) = row_same k m h g
    go (no m) = subst (λ (j : ℕ). row_word j R i ≡ row_word j S i) (omega arith) e

-- what a run leaves, by the definition's run alone, in slices of so many words
record Left (row_words cell_words : ℕ) (ran : W.Ran) (r : Ran) (rows' cells' answers' : List ℕ) : Type 0 where
  numbers : r ≡ numbers_of ran
  count : length ran.answers ≡ r.calls
  each_answer : (k : ℕ) (a : Answer) → AnswerAt a k ran.answers → AnswerWords ran.last.cells answers' k a
  table : TableWords ran.last rows' cells'
  memory : MemoryWords ran.last cells'
  made : (n : ℕ) → n < r.rows → row_word 18 rows' n ≡ made_by n ran.calls (W.start ran.limit row_words cell_words)

left : {bytes rows cells answers : List ℕ} {r : Ran} {rows' cells' answers' : List ℕ} → Runs bytes rows cells answers r rows' cells' answers' → Left (length rows) (length cells) (walked bytes rows cells answers) r rows' cells' answers'
left h = record { numbers = h.numbers; count = h.answer_count; each_answer = h.each_answer; table = h.table; memory = h.memory; made = h.made }

both_left : {row_words cell_words : ℕ} {ran : W.Ran} {r r₂ : Ran} {rows' cells' answers' rows₂' cells₂' answers₂' : List ℕ} → Left row_words cell_words ran r rows' cells' answers' → Left row_words cell_words ran r₂ rows₂' cells₂' answers₂' → SameWords ran.last.cells r r₂ rows' cells' answers' rows₂' cells₂' answers₂'
both_left {ran = ran} {r = r} h g = record {
  numbers = h.numbers ∙ sym g.numbers;
  answers = λ i k l m.
      let (a, at) = answer_of ran.answers i (subst (λ (n : ℕ). i < n) (sym h.count) l) in
      answer_same k m (h.each_answer i a at) (g.each_answer i a at);
  rows = λ i k l m.
      let (row, at) = row_of ran.last.rows i (subst (λ (n : ℕ). i < n) (ap (λ (x : Ran). x.rows) h.numbers) l) in
      words_same k m (h.table.each_row i row at) (g.table.each_row i row at) (h.made i l ∙ sym (g.made i (subst (λ (x : Ran). i < x.rows) (h.numbers ∙ sym g.numbers) l)));
  cells = λ i k l m. cells_same i k (subst (λ (n : ℕ). i < n) (ap (λ (x : Ran). x.cells) h.numbers) l) m h.table.cells g.table.cells;
  memory = λ key before e. two_same (h.memory key before e ∙ sym (g.memory key before e));
}

-- both are the run of the definition
pub fixed : {bytes rows cells answers rows₂ cells₂ answers₂ : List ℕ} {r r₂ : Ran} {rows' cells' answers' rows₂' cells₂' answers₂' : List ℕ} → length rows ≡ length rows₂ → length cells ≡ length cells₂ → length answers ≡ length answers₂ → Runs bytes rows cells answers r rows' cells' answers' → Runs bytes rows₂ cells₂ answers₂ r₂ rows₂' cells₂' answers₂' → SameWords (walked bytes rows cells answers).last.cells r r₂ rows' cells' answers' rows₂' cells₂' answers₂'
fixed {bytes} {rows} {cells} {answers} {rows₂} {cells₂} {answers₂} {r₂ = r₂} {rows₂' = rows₂'} {cells₂' = cells₂'} {answers₂' = answers₂'} p q s h g =
    let e : walked bytes rows₂ cells₂ answers₂ ≡ walked bytes rows cells answers = rw (p, q, s) in
    let x = subst (λ (ran : W.Ran). Left (length rows₂) (length cells₂) ran r₂ rows₂' cells₂' answers₂') e (left g) in
    let y = subst (λ (n : ℕ). Left n (length cells₂) (walked bytes rows cells answers) r₂ rows₂' cells₂' answers₂') (sym p) x in
    both_left (left h) (subst (λ (n : ℕ). Left (length rows) n (walked bytes rows cells answers) r₂ rows₂' cells₂' answers₂') (sym q) y)
