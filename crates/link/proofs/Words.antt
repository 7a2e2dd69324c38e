-- A run over words, from bytes: what it answers and leaves is what the definition of the run says, and demand 3 holds of its
-- table: `words`.
use Rattle.std.specs.Prelude.{ℕ, suc, ◌+◌, ◌*◌, ◌≤◌, ◌<◌, ◌≡◌, refl, List, [], ◌∷◌, ◌++◌, Bool, true, false, ◌||◌, length, get_or, ltb}
use Rattle.std.proofs.Common.{sym, ◌∙◌, arith, ltb-true, suc-mul, length-drop, nltb→le}
use Rattle.std.proofs.Math.Path.{ap}
use Rattle.std.proofs.Math.Option.{some}
use Rattle.std.proofs.Math.Nat.{mul-div-le}
use Rattle.std.proofs.Math.ListN.{length-append}
use Rattle.producer.specs.declared.State.{State as Counts}
use Rattle.producer.specs.Machine.{Machine}
use Rattle.walk.specs.Refusal as Refusal
use Rattle.walk.specs.State.{State, Row, Thing}
use Rattle.walk.specs.Reader.{Read, got, bad, Call, read_run}
use Rattle.walk.specs.Run.{Result, Answer, Ran, refused_run, played, play, play_all, added_by, carried_in, made_by, run_read, run}
use Rattle.walk.specs.Run as R
use Rattle.walk.specs.Demand.{RowAt, newest, older, DerivationOrder, Demand3}
use Rattle.walk.specs.Demand.{Extends as Grows}
use Rattle.walk.specs.Sound.Logic.{Good}
use Rattle.walk.proofs.Calls.{play_left, play_all_left}
use Rattle.order.specs.Bound.{Fit}
use Rattle.order.proofs.Never.{start_fits}
use Rattle.order.specs.Cases.{run_cases}
use Rattle.order.specs.Counts.{played_counts}
use Rattle.order.specs.Derivation.{derivation_order}
use Rattle.order.specs.Theorem.{start_good, demand_3}
use Rattle.link.specs.Lists.{Extends, same, more, blocks_length, stays}
use Rattle.link.specs.Holds.{Before, Holds}
use Rattle.link.specs.Asked.{Said, ask_call, with_marks, ask_from, ask_all, start, four_words, written_over}
use Rattle.link.specs.Things.{no_cell}
use Rattle.link.proofs.Things.{low_is}
use Rattle.link.specs.Table.{row_word, table_at, TableWords, result_word, AnswerWords, AnswerAt, this_answer, later_answer}
use Rattle.link.proofs.Back.{words_stay, table_stays, table_told, memory_told}
use Rattle.link.proofs.Ends.{starts, past, past_cells}
use Rattle.link.specs.Runs.{Results, no_word, level_word, term_word, AllSay, none_say, says_on}
use Rattle.link.proofs.Runs.{asked_from, asked_call, runs}
use Rattle.link.specs.Words.{AskedWords}

-- four words more in front
moved : {xs : List Thing} {k : ℕ} {A : List ℕ} {a : Answer} (x y z u : ℕ) → AnswerWords xs A k a → AnswerWords xs (x ∷ y ∷ z ∷ u ∷ A) (suc k) a
moved {k = k} {A = A} x y z u h = record { number = rw (four (k * 4) (suc k * 4) (omega arith)) h.number; row = rw (four (k * 4 + 1) (suc k * 4 + 1) (omega arith)) h.row; result = rw (four (k * 4 + 2) (suc k * 4 + 2) (omega arith)) h.result; deepest = rw (four (k * 4 + 3) (suc k * 4 + 3) (omega arith)) h.deepest }
  where
    four : (i j : ℕ) → j ≡ suc (suc (suc (suc i))) → get_or (x ∷ y ∷ z ∷ u ∷ A) j 0 ≡ get_or A i 0
    four i j e = rw e

results_are : {xs : List Thing} {n : ℕ} {r : Result} → Results xs n r → some n ≡ result_word xs r
results_are no_word = refl
results_are (level_word e) = ap some e
results_are (term_word l) = low_is l

each_answered : {xs : List Thing} {saids : List Said} {answers : List Answer} (rest : List ℕ) (k : ℕ) (a : Answer) → AllSay xs saids answers → AnswerAt a k answers → AnswerWords xs (four_words saids ++ rest) k a
unfolding four_words
each_answered rest k a none_say m = elim m [ ]
each_answered rest k a (says_on x xs) this_answer = record { number = x.number; row = x.row; result = results_are x.result; deepest = x.deepest }
each_answered rest k a (says_on x xs) (later_answer m) = moved _ _ _ _ (each_answered rest _ a xs m)

said_words : {xs : List Thing} {saids : List Said} {answers : List Answer} → AllSay xs saids answers → length (four_words saids) ≡ length answers * 4
unfolding four_words
said_words none_say = refl
said_words (says_on {bs = bs} x xs) = let e = said_words xs in let f = suc-mul (length bs) 4 in omega arith

pub said_calls : (n : ℕ) (calls : List Call) (w : Machine) → length (four_words (ask_from n calls w).0) ≡ 4 * length calls
unfolding four_words ask_from
said_calls n [] w = refl
said_calls n (call ∷ calls) w = let e = said_calls (suc n) calls (with_marks n w.state.rows (ask_call call w).1) in omega arith

-- the first calls of a list: the others only add rows and cells
first_rows : (first others : List Call) (s : State) → Good s → Grows (play_all first s).1.rows (play_all (first ++ others) s).1.rows
unfolding play_all
first_rows [] others s g = (play_all_left others s g).grows
first_rows (call ∷ first) others s g = first_rows first others (play call s).1 (play_left call s g).good

first_cells : {o : Before} {w : Machine} {s : State} (first others : List Call) → Fit s → Holds o w s → Extends (play_all first s).1.cells (play_all (first ++ others) s).1.cells
unfolding play_all
first_cells [] others f h = (asked_from 0 others f h).extends
first_cells {w = w} {s = s} (call ∷ first) others f h = let a = asked_call call f h in first_cells {w = (ask_call call w).1} {s = (play call s).1} first others a.fit a.holds

extends : {rs rs' : List Row} → Grows rs rs' → Extends rs rs'
extends Grows.same = same
extends (Grows.more e) = more (extends e)

-- what the first calls leave, over the words of them all
module _ (limit : ℕ) (rows cells : List ℕ) (first others : List Call) (most : limit ≤ 4096) where
  abbrev began : State
  began = R.start limit (length rows) (length cells)

  more_rows : Extends (play_all first began).1.rows (play_all (first ++ others) began).1.rows
  more_rows = extends (first_rows first others began (start_good limit (length rows) (length cells)))

  more_cells : Extends (play_all first began).1.cells (play_all (first ++ others) began).1.cells
  more_cells = first_cells first others (start_fits limit (length rows) (length cells) most) (starts limit rows cells)

  first_order : DerivationOrder (play_all first began).1.rows
  first_order = derivation_order (play_all_left first began (start_good limit (length rows) (length cells))).good.order

  first_stays : TableWords (play_all first began).1 (ask_all (first ++ others) (start limit rows cells)).1.rows (ask_all (first ++ others) (start limit rows cells)).1.cells
  first_stays = table_stays (runs limit rows cells first most).holds (runs limit rows cells (first ++ others) most).holds more_rows more_cells first_order

  -- the words themselves, of the rows that the first calls made: all but the working words are what they were
  pub first_words : {r : Row} (i k : ℕ) → RowAt i r (play_all first began).1.rows → k < 18 → get_or (ask_all (first ++ others) (start limit rows cells)).1.rows (i * 24 + k) 0 ≡ get_or (ask_all first (start limit rows cells)).1.rows (i * 24 + k) 0
  first_words = words_stay (runs limit rows cells first most).holds (runs limit rows cells (first ++ others) most).holds more_rows more_cells

-- a run starts with no row
made_from_none : (n : ℕ) (calls : List Call) (limit row_words cell_words : ℕ) → made_by n calls (R.start limit row_words cell_words) ≡ 0 + added_by n calls (R.start limit row_words cell_words)
unfolding made_by R.start
made_from_none n calls limit row_words cell_words = go (ltb n 0) refl
  where
    go : (b : Bool) → ltb n 0 ≡ b → elim b as (λ _. ℕ) [ true ↦ carried_in | false ↦ added_by n calls (R.start limit row_words cell_words) ] ≡ 0 + added_by n calls (R.start limit row_words cell_words)
    go true e = absurd (omega (arith, ltb-true n 0 e))
    go false e = omega arith

none_before : (n limit row_words cell_words : ℕ) → length (R.start limit row_words cell_words).rows ≤ n
unfolding R.start
none_before n limit row_words cell_words = omega arith

-- a list of calls
module _ (limit : ℕ) (rows cells answers : List ℕ) (calls : List Call) (most : limit ≤ 4096) (fit : 4 * length calls ≤ length answers) where
  in_order : DerivationOrder (play_all calls (R.start limit (length rows) (length cells))).1.rows
  in_order = derivation_order (play_all_left calls (R.start limit (length rows) (length cells)) (start_good limit (length rows) (length cells))).good.order

  made_words : (n : ℕ) → n < length (play_all calls (R.start limit (length rows) (length cells))).1.rows → row_word 18 (ask_all calls (start limit rows cells)).1.rows n ≡ made_by n calls (R.start limit (length rows) (length cells))
  made_words n l =
      let r = runs limit rows cells calls most in
      r.holds.made n l ∙ r.added n (none_before n limit (length rows) (length cells)) l ∙ sym (made_from_none n calls limit (length rows) (length cells))

  played_words : AskedWords rows cells answers (played limit calls (play_all calls (R.start limit (length rows) (length cells))))
  unfolding written_over
  played_words =
      let r = runs limit rows cells calls most in
      let h = r.holds in
      record {
        row_count = ap (λ (c : Counts). c.rows) h.counts;
        cell_count = ap (λ (c : Counts). c.cells) h.counts;
        each_answer = λ k a. each_answered _ k a r.says;
        table = table_told h in_order;
        memory = memory_told h;
        made = made_words;
        stays = λ first others e. rw e (first_stays limit rows cells first others most);
        rows_length =
            let e = blocks_length h.words.rows_are in
            let c = (played_counts limit calls (length rows) (length cells) most).rows in
            let d = mul-div-le (length rows) 24 in
            rw (h.words.rows_end, length-append, length-drop) (omega arith);
        cells_length =
            let e = blocks_length h.words.cells_are in
            let c = (played_counts limit calls (length rows) (length cells) most).cells in
            let d = mul-div-le (length cells) 8 in
            rw (h.words.cells_end, length-append, length-drop) (omega arith);
        answers_length = let c = said_calls 0 calls (start limit rows cells) in rw (length-append, length-drop) (omega arith);
        rows_stay = past h;
        cells_stay = past_cells h;
        answers_stay = λ i l. let c = said_words r.says in stays (four_words (ask_all calls (start limit rows cells)).0) answers i (omega arith);
      }

-- a run that is refused leaves no row
no_row : {i : ℕ} {r : Row} {rs : List Row} → RowAt i r rs → rs ≡ [] → ⊥
no_row (newest e) q = let z : ◌≡◌ {A = ℕ} 0 1 = cc in omega arith
no_row (older h) q = let z : ◌≡◌ {A = ℕ} 0 1 = cc in omega arith

no_answer : {k : ℕ} {a : Answer} {answers : List Answer} → AnswerAt a k answers → answers ≡ [] → ⊥
no_answer this_answer q = let z : ◌≡◌ {A = ℕ} 0 1 = cc in omega arith
no_answer (later_answer h) q = let z : ◌≡◌ {A = ℕ} 0 1 = cc in omega arith

-- a state with no rows and no cells, in any words
nothing_told : (s : State) (R C : List ℕ) → s.rows ≡ [] → s.cells ≡ [] → TableWords s R C
unfolding table_at
nothing_told s R C p q = record { read = rw p; each_row = λ i r k. absurd (no_row k p); cells = record { each = λ x before c. absurd (no_cell c q) } }

-- where there are no calls there are no first ones
none_first : (first others : List Call) (s : State) (R C : List ℕ) → s.rows ≡ [] → s.cells ≡ [] → [] ≡ first ++ others → TableWords (play_all first s).1 R C
unfolding play_all
none_first [] others s R C p q e = nothing_told s R C p q
none_first (call ∷ first) others s R C p q e = let z : ◌≡◌ {A = ℕ} 0 1 = cc in absurd (omega arith)

refused_words : (rows cells answers : List ℕ) (n place : ℕ) → AskedWords rows cells answers (refused_run n place)
unfolding ask_from start R.start four_words written_over
refused_words rows cells answers n place = record {
  row_count = refl;
  cell_count = refl;
  each_answer = λ k a m. absurd (no_answer m refl);
  table = nothing_told _ rows cells refl refl;
  memory = λ k before c. absurd (no_cell c refl);
  made = λ n l. absurd (omega arith);
  stays = λ first others. none_first first others _ rows cells refl refl;
  rows_length = refl;
  cells_length = refl;
  answers_length = refl;
  rows_stay = λ i l. refl;
  cells_stay = λ i l. refl;
  answers_stay = λ i l. refl;
}

-- the answer slice has four words for each call that is read
pub answers_fit : (row_words cell_words answer_words : ℕ) (bytes : List ℕ) → 4 * length (run row_words cell_words answer_words bytes).calls ≤ answer_words
unfolding run run_read
answers_fit row_words cell_words answer_words bytes = go (ltb row_words 24 || ltb cell_words 8) (ltb 65536 (length bytes)) (read_run bytes)
  where
    fits : (limit : ℕ) (calls : List Call) (b : Bool) → ltb answer_words (4 * length calls) ≡ b → 4 * length (elim b as (λ _. Ran) [ true ↦ refused_run Refusal.answers 0 | false ↦ played limit calls (play_all calls (R.start limit row_words cell_words)) ]).calls ≤ answer_words
    fits limit calls true e = omega arith
    fits limit calls false e = nltb→le answer_words (4 * length calls) (rw e tt)

    read : (r : Read (ℕ × List Call)) → 4 * length (run_read row_words cell_words answer_words r).calls ≤ answer_words
    read (bad place) = omega arith
    read (got (limit, calls) rest end) = fits limit calls (ltb answer_words (4 * length calls)) refl

    go : (a b : Bool) (r : Read (ℕ × List Call)) → 4 * length (elim a as (λ _. Ran) [ true ↦ refused_run Refusal.slices 0 | false ↦ elim b as (λ _. Ran) [ true ↦ refused_run Refusal.bytes 0 | false ↦ run_read row_words cell_words answer_words r ] ]).calls ≤ answer_words
    go true b r = omega arith
    go false true r = omega arith
    go false false r = read r

-- for all bytes and all slices
pub words : (rows cells answers bytes : List ℕ) → AskedWords rows cells answers (run (length rows) (length cells) (length answers) bytes) × Demand3 (length rows) (length cells) (run (length rows) (length cells) (length answers) bytes)
words rows cells answers bytes = (run_cases (length rows) (length cells) (length answers) bytes (λ ran. 4 * length ran.calls ≤ length answers → AskedWords rows cells answers ran) (λ n place _. refused_words rows cells answers n place) (λ limit calls r fit. played_words limit rows cells answers calls r.most fit) (answers_fit (length rows) (length cells) (length answers) bytes), demand_3 (length rows) (length cells) (length answers) bytes)
