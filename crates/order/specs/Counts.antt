-- The counts of calls and runs: conversions are counted off, rows and cells stay within their rooms, and deepest within the limit.
use Rattle.std.specs.Prelude.{ℕ, ◌/◌, ◌≤◌, min, ◌≡◌, refl, List, [], ◌∷◌, Bool, true, false, length}
use Rattle.std.proofs.Common.{arith}
use Rattle.walk.specs.Syntax.{Term, Context, Nil}
use Rattle.walk.specs.State.{State, Outcome, done, refused, M, with_deepest}
use Rattle.walk.specs.Walk.Reference.{Callees}
use Rattle.walk.specs.Walk.{callees}
use Rattle.walk.specs.Reader.{Code, c_context, c_universe, c_infer, c_check, c_normalise, c_equal, c_many, c_headwise, lists_types, Call}
use Rattle.walk.specs.Limits.{Sized, fits, scope_over, size_over, index_over, size_call}
use Rattle.walk.specs.Run.{Result, Answer, answered, scope_of, nth, walk, play_sized, play_counted, play, play_all, start, played, run, Ran}
use Rattle.order.specs.Numbers.{AtMost, at_most_nil, at_most_cons}
use Rattle.order.specs.Later.{Grown, grown_refl, grown_trans, Later, fresh, left, Leads, AllLead, leads}
use Rattle.order.specs.Cases.{run_cases}

-- after a call, accepted or refused
pub record CallCounts (s : State) (out : Answer × State) : Type 0 where
  pub grown : Grown s out.1
  pub deepest : out.0.deepest ≤ s.limit

answered_counts : {A : Type 0} {m : M A} → Leads m → (row : A → ℕ) (result : A → Result) (s : State) → CallCounts s (answered row result (m (with_deepest 0 s)))
unfolding answered with_deepest
answered_counts {A} {m} h row result s = go (m (with_deepest 0 s)) (h.leads (with_deepest 0 s))
  where
    go : (o : Outcome A) → Later (with_deepest 0 s) (left o) → CallCounts s (answered row result o)
    go (done a s') e = let l = e.in_limit (omega arith) in record { grown = grown_trans (fresh s) e.grown; deepest = omega arith }
    go (refused n s') e = let l = e.in_limit (omega arith) in record { grown = grown_trans (fresh s) e.grown; deepest = omega arith }

walk_counts : (c : Callees) → AllLead c → (code : Code) (d : ℕ) (g : Context) (ts : List Term) (s : State) → CallCounts s (walk c code d g ts (with_deepest 0 s))
unfolding walk
walk_counts c L c_context d g ts s = answered_counts (L.ctx d g) _ _ s
walk_counts c L c_universe d g ts s = answered_counts (L.universe d g (nth ts 0)) _ _ s
walk_counts c L c_infer d g ts s = answered_counts (L.infer d g (nth ts 0)) _ _ s
walk_counts c L c_check d g ts s = answered_counts (L.check d g (nth ts 0) (nth ts 1)) _ _ s
walk_counts c L c_normalise d g ts s = answered_counts (L.normalize d g (nth ts 0) (nth ts 1)) _ _ s
walk_counts c L c_equal d g ts s = answered_counts (L.equal d g (nth ts 0) (nth ts 1) (nth ts 2)) _ _ s
walk_counts c L c_many d g ts s = record { grown = fresh s; deepest = omega arith }
walk_counts c L c_headwise d g ts s = answered_counts (L.head_normalize d g (nth ts 0) (nth ts 1)) _ _ s

pub play_counts : (call : Call) (s : State) → CallCounts s (play call s)
unfolding play play_counted play_sized
play_counts call s = let_in (lists_types call.code)
  where
    go : (z : Sized) → CallCounts s (play_sized z call s)
    go scope_over = record { grown = grown_refl s; deepest = omega arith }
    go size_over = record { grown = grown_refl s; deepest = omega arith }
    go index_over = record { grown = grown_refl s; deepest = omega arith }
    go (fits n) = walk_counts (callees s.limit) (leads s.limit) call.code call.dims (scope_of Nil call.types) call.terms s

    let_in : (b : Bool) → CallCounts s (play_counted b call s)
    let_in true = record { grown = grown_refl s; deepest = omega arith }
    let_in false = go (size_call call)

-- after calls in order
pub record CallsCounts (s : State) (out : List Answer × State) : Type 0 where
  pub grown : Grown s out.1
  pub deepest : AtMost s.limit (λ a. a.deepest) out.0

pub play_all_counts : (calls : List Call) (s : State) → CallsCounts s (play_all calls s)
unfolding play_all
play_all_counts [] s = record { grown = grown_refl s; deepest = at_most_nil }
play_all_counts (call ∷ calls) s =
    let h = play_counts call s in
    let k = play_all_counts calls (play call s).1 in
    record { grown = grown_trans h.grown k.grown; deepest = at_most_cons {x = (play call s).0} h.deepest (rw h.grown.limit at k.deepest) }

-- after a run
pub record RunCounts (row_words cell_words : ℕ) (ran : Ran) : Type 0 where
  pub conversions : ran.last.conversions ≡ 0
  pub rows : length ran.last.rows ≤ min 50000 (row_words / 24)
  pub cells : length ran.last.cells ≤ min 4294967295 (cell_words / 8)
  pub limit : ran.limit ≤ 4096
  pub deepest : AtMost ran.limit (λ a. a.deepest) ran.answers

pub played_counts : (limit : ℕ) (calls : List Call) (row_words cell_words : ℕ) → limit ≤ 4096 → RunCounts row_words cell_words (played limit calls (play_all calls (start limit row_words cell_words)))
unfolding start
played_counts limit calls row_words cell_words l =
    let h = play_all_counts calls (start limit row_words cell_words) in
    let g = h.grown in
    let i = g.in_row_room (omega arith) in
    let j = g.in_cell_room (omega arith) in
    record { conversions = g.conversions; rows = omega arith; cells = omega arith; limit = l; deepest = h.deepest }

pub run_counts : (row_words cell_words answer_words : ℕ) (bytes : List ℕ) → RunCounts row_words cell_words (run row_words cell_words answer_words bytes)
unfolding start
run_counts row_words cell_words answer_words bytes =
    run_cases row_words cell_words answer_words bytes (λ ran. RunCounts row_words cell_words ran)
    (λ n place. record { conversions = refl; rows = omega arith; cells = omega arith; limit = omega arith; deepest = at_most_nil })
    (λ limit calls r. played_counts limit calls row_words cell_words r.most)
