-- The run over words does what the contract says.
use Rattle.std.specs.Prelude.{ℕ, suc, ◌*◌, ◌≤◌, ◌≡◌, refl, List, [], ◌∷◌, Bool, true, false, ltb, length, get_or}
use Rattle.std.proofs.Common.{sym, ap, ◌∙◌, arith, ltb-true}
use Rattle.walk.specs.Judgment.{Judgment}
use Rattle.walk.specs.State.{State, Row, Thing}
use Rattle.walk.specs.Reader.{Call}
use Rattle.walk.specs.Run.{Answer, play, play_all, start}
use Rattle.walk.specs.Run as W
use Rattle.walk.specs.Demand.{At, here, there, Distinct, cut, Stated, AllStated, no_call, call_on, Demand3}
use Rattle.std.proofs.Math.Nat.{mul-div-le}
use Rattle.order.specs.Cases.{run_cases}
use Rattle.order.specs.Counts.{run_counts}
use Rattle.link.specs.Asked.{ask_from, ask_all, four_words, written_over}
use Rattle.link.specs.Asked as L
use Rattle.link.specs.Table.{CellsWords, AnswerAt, this_answer, later_answer, AnswerWords, CallAt, this_call, later_call, States}
use Rattle.link.proofs.Back.{names}
use Rattle.link.specs.Words.{AskedWords}
use Rattle.link.proofs.Words.{answers_fit, words}
use Rattle.ran.specs.declared.Ran.{Ran}
use Rattle.run.specs.Run.{Ended, end_run, run_of}
use Rattle.run.specs.Contract.{walked, numbers_of, Derived, Runs}
use Rattle.run.specs.Same.Runs.{ended, run_is}

answer_each : (calls : List Call) (s : State) → length (play_all calls s).0 ≡ length calls
unfolding play_all
answer_each [] s = refl
answer_each (call ∷ calls) s = ap suc (answer_each calls (play call s).1)

-- a table that is cut has rows of the table, and all up to there
cut_in : (n : ℕ) (rs : List Row) (m : ℕ) (j : Judgment) → At m j (cut n rs) → At m j rs
unfolding cut
cut_in n [] m j h = h
cut_in n (r ∷ rs) m j h = go (ltb n (length rs)) (cut_in n rs m j) h
  where
    go : (b : Bool) → (At m j (cut n rs) → At m j rs) → At m j (elim b as (λ _. List Row) [ true ↦ cut n rs | false ↦ r ∷ rs ]) → At m j (r ∷ rs)
    go true ih h = there (ih h)
    go false ih h = h

cut_states : (n : ℕ) (rs : List Row) (m : ℕ) (j : Judgment) → m ≤ n → At m j rs → At m j (cut n rs)
unfolding cut
cut_states n [] m j l h = elim h [ ]
cut_states n (r ∷ rs) m j l (here e q) = go (ltb n (length rs)) refl
  where
    go : (b : Bool) → ltb n (length rs) ≡ b → At m j (elim b as (λ _. List Row) [ true ↦ cut n rs | false ↦ r ∷ rs ])
    go true t = absurd (omega (arith, ltb-true n (length rs) t))
    go false t = here e q
cut_states n (r ∷ rs) m j l (there h) = go (ltb n (length rs)) (cut_states n rs m j l h)
  where
    go : (b : Bool) → At m j (cut n rs) → At m j (elim b as (λ _. List Row) [ true ↦ cut n rs | false ↦ r ∷ rs ])
    go true k = k
    go false k = there h

cut_distinct : (n : ℕ) (rs : List Row) → Distinct rs → Distinct (cut n rs)
cut_distinct n rs d = record { same_row = λ m k j a b. d.same_row m k j (cut_in n rs m j a) (cut_in n rs k j b) }

-- call k of the list with its answer
record StatedAt (table : List Row) (answers : List Answer) (k : ℕ) (c : Call) : Type 0 where
  answer : Answer
  at : AnswerAt answer k answers
  stated : answer.number ≡ 0 → Stated table c answer

stated_at : {table : List Row} {calls : List Call} {answers : List Answer} {k : ℕ} {c : Call} → AllStated table calls answers → CallAt c k calls → StatedAt table answers k c
stated_at no_call c = elim c [ ]
stated_at (call_on s rest) this_call = record { answer = _; at = this_answer; stated = s }
stated_at (call_on s rest) (later_call c) = let x = stated_at rest c in record { answer = x.answer; at = later_answer x.at; stated = x.stated }

-- by the words of the answer
in_words : {xs : List Thing} {C A : List ℕ} {table : List Row} {answers : List Answer} {k : ℕ} {c : Call} → CellsWords xs C → StatedAt table answers k c → ((a : Answer) → AnswerAt a k answers → AnswerWords xs A k a) → get_or A (k * 4) 0 ≡ 0 → States (length xs) C A table k c
in_words cs x w e =
    let a = w x.answer x.at in
    let s = x.stated (sym a.number ∙ e) in
    record { result = x.answer.result; named = names cs x.answer.result a.result; judgment = s.judgment; judged = s.judged; states = rw a.row s.states }

module _ (bytes rows cells answers : List ℕ) where
  -- a run is refused, or read and played
  counted : length (walked bytes rows cells answers).answers ≡ length (walked bytes rows cells answers).calls
  counted = run_cases (length rows) (length cells) (length answers) bytes (λ ran. length ran.answers ≡ length ran.calls) (λ n place. refl) (λ limit calls r. answer_each calls (start limit (length rows) (length cells)))

  kept : {A : Type 0} (of : Ended → A) (before : A) → ((n place : ℕ) → of (ended (W.refused_run n place) rows cells answers) ≡ before) → ((walked bytes rows cells answers).number ≡ 0 → ⊥) → of (ended (walked bytes rows cells answers) rows cells answers) ≡ before
  kept of before h = run_cases (length rows) (length cells) (length answers) bytes (λ ran. (ran.number ≡ 0 → ⊥) → of (ended ran rows cells answers) ≡ before) (λ n place _. h n place) (λ limit calls r z. absurd (z refl))

  derived_words : AskedWords rows cells answers (walked bytes rows cells answers) → Demand3 (length rows) (length cells) (walked bytes rows cells answers) → Derived bytes rows cells answers (numbers_of (walked bytes rows cells answers)) (ended (walked bytes rows cells answers) rows cells answers).rows (ended (walked bytes rows cells answers) rows cells answers).cells (ended (walked bytes rows cells answers) rows cells answers).answers
  derived_words a d = record {
    table = (walked bytes rows cells answers).last.rows;
    read = a.table.read;
    few = d.few;
    order = d.order;
    distinct = d.distinct;
    stated = λ k c q e. in_words a.table.cells (stated_at d.stated q) (a.each_answer k) e;
    cut_order = d.cut_order;
    cut_distinct = λ n. cut_distinct n _ d.distinct;
    cut_states = λ n. cut_states n _;
    cut_derives = d.cut_derives;
    grows = d.grows;
    stays = a.stays;
  }

  ended_runs : AskedWords rows cells answers (walked bytes rows cells answers) → Demand3 (length rows) (length cells) (walked bytes rows cells answers) → Runs bytes rows cells answers (numbers_of (walked bytes rows cells answers)) (ended (walked bytes rows cells answers) rows cells answers).rows (ended (walked bytes rows cells answers) rows cells answers).cells (ended (walked bytes rows cells answers) rows cells answers).answers
  unfolding ask_from L.start four_words written_over
  ended_runs a d = record {
    numbers = refl;
    answer_count = counted;
    each_answer = a.each_answer;
    table = a.table;
    memory = a.memory;
    made = a.made;
    derived = derived_words a d;
    rows_fit = omega (arith, a.rows_length, d.held);
    cells_fit = let c = (run_counts (length rows) (length cells) (length answers) bytes).cells in let m = mul-div-le (length cells) 8 in omega (arith, a.cells_length);
    answers_fit = let f = answers_fit (length rows) (length cells) (length answers) bytes in omega (arith, a.answers_length);
    rows_length = a.rows_length;
    cells_length = a.cells_length;
    answers_length = a.answers_length;
    rows_stay = a.rows_stay;
    cells_stay = a.cells_stay;
    answers_stay = rw (← counted) a.answers_stay;
    rows_kept = kept (λ x. x.rows) rows (λ n place. refl);
    cells_kept = kept (λ x. x.cells) cells (λ n place. refl);
    answers_kept = kept (λ x. x.answers) answers (λ n place. refl);
  }

  numbers_is : AskedWords rows cells answers (walked bytes rows cells answers) → (ended (walked bytes rows cells answers) rows cells answers).ran ≡ numbers_of (walked bytes rows cells answers)
  numbers_is a = rw (a.row_count, a.cell_count)

  pub run_is_walked : (r : Ran) (rows' cells' answers' : List ℕ) → end_run r rows' cells' answers' ≡ run_of bytes rows cells answers → Runs bytes rows cells answers r rows' cells' answers'
  run_is_walked r rows' cells' answers' e =
      let q = e ∙ run_is bytes rows cells answers in
      let (a, d) = words rows cells answers bytes in
      let n : r ≡ numbers_of (walked bytes rows cells answers) = ap (λ (x : Ended). x.ran) q ∙ numbers_is a in
      rw (n, ap (λ (x : Ended). x.rows) q, ap (λ (x : Ended). x.cells) q, ap (λ (x : Ended). x.answers) q) (ended_runs a d)
