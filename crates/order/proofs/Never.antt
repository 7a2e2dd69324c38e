-- No number in what a run leaves or answers passes `largest`.
use Rattle.std.specs.Prelude.{ℕ, ◌+◌, ◌≤◌, ◌≡◌, refl, List, [], ◌∷◌, Bool, true, false, length}
use Rattle.std.proofs.Common.{arith}
use Rattle.walk.specs.Syntax.{Term, Context, Nil}
use Rattle.walk.specs.State.{State, Outcome, M, with_deepest}
use Rattle.walk.specs.Walk.{callees}
use Rattle.walk.specs.Reader.{Code, c_context, c_universe, c_infer, c_check, c_normalise, c_equal, c_many, c_headwise, lists_types, Call}
use Rattle.walk.specs.Limits.{Sized, fits, scope_over, size_over, index_over, size_call}
use Rattle.walk.specs.Run.{Result, answered, scope_of, nth, walk, play_sized, play_counted, play, play_all, start, run}
use Rattle.order.specs.Numbers.{context_top, result_top, at_most_nil, at_most_cons, NumbersBounded}
use Rattle.order.specs.Bound.{Fit, no_rows, none_remembered, After, fine, stopped, Within}
use Rattle.order.proofs.Bound.{fit_bounded, bounds}
use Rattle.order.specs.Sent.{Lows, nth_low, scope_low, let_in}
use Rattle.order.specs.Cases.{run_cases}
use Rattle.order.specs.Never.{Fair, AllFair}

fair : {A : Type 0} {b : ℕ} {P : A → ℕ → Type 0} {o : Outcome A} (row : A → ℕ) (result : A → Result) → ((a : A) (c : ℕ) → P a c → result_top (result a) ≤ 32 + c) → After b P o → Fair (answered row result o)
unfolding answered
fair row result k (fine {a = a} {s = s} e f q) = let x = k a (length s.rows) q in let y = f.room in let z = f.cap in record { result = omega arith; fit = f }
fair row result k (stopped z e f) = record { result = omega arith; fit = f }

-- what the guarded walk leaves, the walk leaves
plainly : {A : Type 0} {P : A → ℕ → Type 0} {g d : M A} {s : State} → Within (length s.rows) g d P → Fit s → After (length s.rows) P (d s)
plainly {s = s} b f = rw (b.same s (omega arith) f) (b.holds s (omega arith) f)

walk_fair : (n : ℕ) (code : Code) (d : ℕ) (g : Context) (ts : List Term) (s : State) → d + n ≤ 4200 → context_top g ≤ 32 → Lows ts → Fit s → Fair (walk (callees n) code d g ts s)
unfolding walk
walk_fair n c_context d g ts s l i h f = fair _ _ (λ _ _ _. omega arith) (plainly ((bounds n (omega arith)).ctx d g (omega arith)) f)
walk_fair n c_universe d g ts s l i h f = let x = nth_low ts 0 h in fair _ _ (λ _ _ k. k) (plainly ((bounds n (omega arith)).universe d g (nth ts 0) (omega arith)) f)
walk_fair n c_infer d g ts s l i h f = let x = nth_low ts 0 h in fair _ _ (λ _ _ k. k) (plainly ((bounds n (omega arith)).infer d g (nth ts 0) (omega arith)) f)
walk_fair n c_check d g ts s l i h f = let x = nth_low ts 0 h in let y = nth_low ts 1 h in fair _ _ (λ _ _ _. omega arith) (plainly ((bounds n (omega arith)).check d g (nth ts 0) (nth ts 1) (omega arith)) f)
walk_fair n c_normalise d g ts s l i h f = let x = nth_low ts 0 h in let y = nth_low ts 1 h in fair _ _ (λ _ _ k. k) (plainly ((bounds n (omega arith)).normalize d g (nth ts 0) (nth ts 1) (omega arith)) f)
walk_fair n c_equal d g ts s l i h f = let x = nth_low ts 0 h in let y = nth_low ts 1 h in let z = nth_low ts 2 h in fair _ _ (λ _ _ _. omega arith) (plainly ((bounds n (omega arith)).equal d g (nth ts 0) (nth ts 1) (nth ts 2) (omega arith)) f)
walk_fair n c_many d g ts s l i h f = record { result = omega arith; fit = f }
walk_fair n c_headwise d g ts s l i h f = let x = nth_low ts 0 h in let y = nth_low ts 1 h in fair _ _ (λ _ _ k. k) (plainly ((bounds n (omega arith)).head_normalize d g (nth ts 0) (nth ts 1) (omega arith)) f)

pub play_fair : (call : Call) (s : State) → Fit s → Fair (play call s)
unfolding play play_counted play_sized with_deepest
play_fair call s f = counted (lists_types call.code)
  where
    go : (z : Sized) → size_call call ≡ z → Fair (play_sized z call s)
    go scope_over e = record { result = omega arith; fit = f }
    go size_over e = record { result = omega arith; fit = f }
    go index_over e = record { result = omega arith; fit = f }
    go (fits n) e =
        let h = let_in call n e in
        let d = h.dims in
        let l = f.low in
        walk_fair s.limit call.code call.dims (scope_of Nil call.types) call.terms (with_deepest 0 s) (omega arith) (scope_low Nil call.types (omega arith) h.types) h.terms f

    counted : (b : Bool) → Fair (play_counted b call s)
    counted true = record { result = omega arith; fit = f }
    counted false = go (size_call call) refl

pub play_all_fair : (calls : List Call) (s : State) → Fit s → AllFair (play_all calls s)
unfolding play_all
play_all_fair [] s f = record { results = at_most_nil; fit = f }
play_all_fair (call ∷ calls) s f =
    let h = play_fair call s f in
    let k = play_all_fair calls (play call s).1 h.fit in
    record { results = at_most_cons {x = (play call s).0} h.result k.results; fit = k.fit }

pub start_fits : (limit rows cells : ℕ) → limit ≤ 4096 → Fit (start limit rows cells)
unfolding start
start_fits limit rows cells l = record { small = no_rows; held = at_most_nil; remembered = none_remembered; room = omega arith; cap = omega arith; low = l }

-- no number that a run leaves or answers passes `largest`
pub run_numbers : (row_words cell_words answer_words : ℕ) (bytes : List ℕ) → NumbersBounded (run row_words cell_words answer_words bytes)
run_numbers row_words cell_words answer_words bytes =
    run_cases row_words cell_words answer_words bytes (λ ran. NumbersBounded ran)
    (λ n place. record { last = fit_bounded (start 0 0 0) (start_fits 0 0 0 (omega arith)); answers = at_most_nil })
    (λ limit calls r. let h = play_all_fair calls (start limit row_words cell_words) (start_fits limit row_words cell_words r.most) in record { last = fit_bounded _ h.fit; answers = h.results })
