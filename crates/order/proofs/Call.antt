-- What each call of a run leaves alone, wherever in the list it came: `each_call`.
use Rattle.std.specs.Prelude.{ℕ, ◌≤◌, ◌≡◌, refl, List, [], ◌∷◌, ◌++◌, length}
use Rattle.std.proofs.Common.{arith}
use Rattle.walk.specs.State.{Row, State}
use Rattle.walk.specs.Reader.{Call}
use Rattle.walk.specs.Run.{play_all, start, run}
use Rattle.walk.specs.Demand.{Extends, same, more}
use Rattle.walk.specs.Sound.Logic.{Good}
use Rattle.walk.proofs.Calls.{play_left, play_all_left}
use Rattle.order.specs.Reading.{Full, AllFull, full_on}
use Rattle.order.specs.Cases.{run_cases}
use Rattle.order.specs.Counts.{play_counts, play_all_counts}
use Rattle.order.specs.Theorem.{start_good}
use Rattle.order.specs.Call.{Leaves, EveryCall}

at_least : {rs rs' : List Row} → Extends rs rs' → length rs ≤ length rs'
at_least same = omega arith
at_least (more e) = let h = at_least e in omega arith

-- a table that grew by nothing
no_more : {rs rs' : List Row} → Extends rs rs' → length rs' ≡ length rs → rs' ≡ rs
no_more same e = refl
no_more (more h) e = let l = at_least h in absurd (omega arith)

leaves : (call : Call) (s : State) → Full call → Good s → s.conversions ≡ 0 → Leaves s call
leaves call s full good c =
    let h = play_left call s good in
    let k = play_counts call s in
    record {
      full = full;
      rows_stay = h.grows;
      known = λ n e. rw (no_more h.grows e) at (h.stated n);
      deepest = k.deepest;
      conversions = let x = k.grown.conversions in omega arith;
    }

full_at : (first : List Call) (call : Call) (others : List Call) → AllFull (first ++ call ∷ others) → Full call
full_at [] call others (full_on h hs) = h
full_at (c ∷ first) call others (full_on h hs) = full_at first call others hs

none_there : (first : List Call) (call : Call) (others : List Call) → [] ≡ first ++ call ∷ others → ⊥
none_there [] call others e = let z : ◌≡◌ {A = ℕ} 0 1 = cc in omega arith
none_there (c ∷ first) call others e = let z : ◌≡◌ {A = ℕ} 0 1 = cc in omega arith

pub each_call : (row_words cell_words answer_words : ℕ) (bytes : List ℕ) → EveryCall row_words cell_words (run row_words cell_words answer_words bytes)
unfolding start
each_call row_words cell_words answer_words bytes =
    run_cases row_words cell_words answer_words bytes (λ ran. EveryCall row_words cell_words ran)
    (λ n place first call others e. absurd (none_there first call others e))
    (λ limit calls r first call others e.
    let s = start limit row_words cell_words in
    leaves call (play_all first s).1 (full_at first call others (rw e at r.full)) (play_all_left first s (start_good limit row_words cell_words)).good (play_all_counts first s).grown.conversions)
