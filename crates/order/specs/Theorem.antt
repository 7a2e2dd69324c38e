-- Demand 3 of the definition of the run, from bytes: `demand_3`.
use Rattle.std.specs.Prelude.{ℕ, ◌≤◌, ◌≡◌, refl, List, [], ◌∷◌, ◌++◌}
use Rattle.std.proofs.Math.Nat.{mul-div-le}
use Rattle.std.proofs.Common.{arith}
use Rattle.walk.specs.State.{State}
use Rattle.walk.specs.Reader.{Call}
use Rattle.walk.specs.Run.{play, play_all, start, refused_run, played, run}
use Rattle.walk.specs.Demand.{Extends, same, no_call, Demand3}
use Rattle.walk.specs.Sound.Logic.{Good, empty, nothing}
use Rattle.walk.proofs.Calls.{play_all_left}
use Rattle.order.specs.Cases.{run_cases}
use Rattle.order.specs.Counts.{played_counts}
use Rattle.order.specs.Derivation.{derivation_order, distinct, derives, cut_order}

-- the calls of a list, one part after the other
play_append : (first others : List Call) (s : State) → (play_all (first ++ others) s).1 ≡ (play_all others (play_all first s).1).1
unfolding play_all
play_append [] others s = refl
play_append (call ∷ first) others s = play_append first others (play call s).1

pub start_good : (limit row_words cell_words : ℕ) → Good (start limit row_words cell_words)
unfolding start
start_good limit row_words cell_words = record { order = empty; kept = nothing }

-- later calls only add rows
grows_on : (first others calls : List Call) (s : State) → Good s → calls ≡ first ++ others → Extends (play_all first s).1.rows (play_all calls s).1.rows
grows_on first others calls s good e = rw (e, play_append first others s) (play_all_left others (play_all first s).1 (play_all_left first s good).good).grows

-- where there are no calls there are no first ones
none_first : (first others : List Call) (s : State) → [] ≡ first ++ others → (play_all first s).1 ≡ s
unfolding play_all
none_first [] others s e = refl
none_first (call ∷ first) others s e = cc

module _ (row_words cell_words : ℕ) where
  -- a run that is refused has no rows
  refused_demand : (n place : ℕ) → Demand3 row_words cell_words (refused_run n place)
  unfolding start
  refused_demand n place = record {
    order = derivation_order empty;
    distinct = distinct empty;
    few = omega arith;
    held = omega arith;
    stated = no_call;
    refused = λ _. refl;
    cut_order = λ k. derivation_order (cut_order k empty);
    cut_derives = λ k. derives (cut_order k empty);
    grows = λ first others e. rw (none_first first others _ e) same;
  }

  played_demand : (limit : ℕ) (calls : List Call) → limit ≤ 4096 → Demand3 row_words cell_words (played limit calls (play_all calls (start limit row_words cell_words)))
  played_demand limit calls l =
      let s = start limit row_words cell_words in
      let good = start_good limit row_words cell_words in
      let k = play_all_left calls s good in
      let o = k.good.order in
      let rows = (played_counts limit calls row_words cell_words l).rows in
      record {
        order = derivation_order o;
        distinct = distinct o;
        few = omega arith;
        held = let h = mul-div-le row_words 24 in omega arith;
        stated = k.stated;
        refused = λ z. absurd (z refl);
        cut_order = λ n. derivation_order (cut_order n o);
        cut_derives = λ n. derives (cut_order n o);
        grows = λ first others e. grows_on first others calls s good e;
      }

-- for all bytes and all lengths of the three slices
pub demand_3 : (row_words cell_words answer_words : ℕ) (bytes : List ℕ) → Demand3 row_words cell_words (run row_words cell_words answer_words bytes)
demand_3 row_words cell_words answer_words bytes = run_cases row_words cell_words answer_words bytes (λ ran. Demand3 row_words cell_words ran) (refused_demand row_words cell_words) (λ limit calls r. played_demand row_words cell_words limit calls r.most)
