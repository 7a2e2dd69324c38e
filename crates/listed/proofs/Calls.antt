-- An answer's words, as the contract has them, hold the call's answer: an accepted call has a result of its code's kind, since it
-- has a judgment, and a refused one has none. So the calls' lines and repeats are the walk's. Assumes nothing.
use Rattle.std.specs.Prelude.{ℕ, zero, suc, ◌+◌, ◌<◌, ◌≡◌, List, [], ◌∷◌, Bool, true, false, length, get_or}
use Rattle.std.proofs.Math.Path.{refl}
use Rattle.std.proofs.Common.{subst, arith, add-zero}
use Rattle.std.proofs.Math.Option.{some}
use Rattle.walk.specs.Syntax.{Term, Context, quote}
use Rattle.walk.specs.Judgment.{Judgment}
use Rattle.walk.specs.State.{Row, Thing, State, Outcome, done, refused}
use Rattle.walk.specs.Walk.Reference.{Callees}
use Rattle.walk.specs.Reader.{Call, Code, c_context, c_universe, c_infer, c_check, c_normalise, c_equal, c_many, c_headwise, lists_types}
use Rattle.walk.specs.Limits.{Sized, fits, scope_over, size_over, index_over, size_call}
use Rattle.walk.specs.Run.{Result, no_result, a_level, a_term, Answer, answered, walk, play_sized, play_counted, play, play_all}
use Rattle.walk.specs.Demand.{of_none, of_level, of_answer, judgment_of, Stated, AllStated, no_call, call_on}
use Rattle.link.specs.Table.{quote_at, CellsWords, Named, AnswerWords, AnswerAt, this_answer, later_answer}
use Rattle.link.proofs.Back.{names}
use Rattle.writer.specs.Text.{each}
use Rattle.lines.specs.Calls.{code, call_line}
use Rattle.listed.specs.Said.{QuoteCell, ResultIn, of_context, of_universe, of_infer, of_check, of_normalise, of_equal, of_head, Ended, accepted, CallIn, CallsIn, no_calls, and_call}
use Rattle.listed.specs.Said as S
use Rattle.listed.proofs.Agrees.{call_said}
use Rattle.listed.specs.Listed.{call_lines}
use Rattle.syntax.specs.Told.{code_number}
use Rattle.syntax.specs.Codes.{codes_of}
use Rattle.walk.specs.Bytes.{no_some}
use Rattle.listed.specs.Cells.{lowered, quote_cell}
use Rattle.listed.proofs.Rows.{next}
use Rattle.listed.specs.Calls.{Bare, AllBare, no_answer, bare_on}

bare_answered : {A : Type 0} (row : A → ℕ) (result : A → Result) (o : Outcome A) → Bare (answered row result o).0
unfolding answered
bare_answered row result (done a s) = record { bare = λ z. absurd (z refl) }
bare_answered row result (refused n s) = record { bare = λ z. refl }

bare_walk : (c : Callees) (k : Code) (d : ℕ) (g : Context) (ts : List Term) (s : State) → Bare (walk c k d g ts s).0
unfolding walk
bare_walk c c_context d g ts s = bare_answered _ _ _
bare_walk c c_universe d g ts s = bare_answered _ _ _
bare_walk c c_infer d g ts s = bare_answered _ _ _
bare_walk c c_check d g ts s = bare_answered _ _ _
bare_walk c c_normalise d g ts s = bare_answered _ _ _
bare_walk c c_equal d g ts s = bare_answered _ _ _
bare_walk c c_many d g ts s = record { bare = λ z. refl }
bare_walk c c_headwise d g ts s = bare_answered _ _ _

bare_sized : (z : Sized) (call : Call) (s : State) → Bare (play_sized z call s).0
unfolding play_sized
bare_sized scope_over call s = record { bare = λ z. refl }
bare_sized size_over call s = record { bare = λ z. refl }
bare_sized index_over call s = record { bare = λ z. refl }
bare_sized (fits n) call s = bare_walk _ _ _ _ _ _

bare_counted : (b : Bool) (call : Call) (s : State) → Bare (play_counted b call s).0
unfolding play_counted
bare_counted true call s = record { bare = λ z. refl }
bare_counted false call s = bare_sized (size_call call) call s

pub all_bare : (calls : List Call) (s : State) → AllBare (play_all calls s).0
unfolding play_all play
all_bare [] s = no_answer
all_bare (call ∷ calls) s = bare_on (bare_counted (lists_types call.code) call s) (all_bare calls (play call s).1)

-- results, by the code of an accepted call

module _ (n : ℕ) (C : List ℕ) (x : ℕ) where
  none_in : (c : Code) → ResultIn C x c no_result → (r : Result) (j : Judgment) {k : Judgment} → of_none r j ≡ some k → ResultIn C x c r
  unfolding of_none
  none_in c h no_result j e = h
  none_in c h (a_level l) j e = absurd (no_some e)
  none_in c h (a_term t) j e = absurd (no_some e)

  level_in : (r : Result) (f : ℕ → Judgment) {k : Judgment} → of_level r f ≡ some k → Named n C x r → ResultIn C x c_universe r
  unfolding of_level
  level_in no_result f e w = absurd (no_some e)
  level_in (a_level l) f e w = rw (← w) of_universe
  level_in (a_term t) f e w = absurd (no_some e)

  term_in : (c : Code) → ((t : Term) → QuoteCell C x (quote t) → ResultIn C x c (a_term t)) → (r : Result) (f : Term → Judgment) {k : Judgment} → of_answer r f ≡ some k → Named n C x r → ResultIn C x c r
  unfolding of_answer
  term_in c h no_result f e w = absurd (no_some e)
  term_in c h (a_level l) f e w = absurd (no_some e)
  term_in c h (a_term t) f e w = h t (quote_cell n C x (quote t) (lowered n (quote_at n C) x w).is)

  result_in : (c : Code) (d : ℕ) (types ts : List Term) (r : Result) {j : Judgment} → judgment_of (record { code = c; dims = d; types = types; terms = ts }) r ≡ some j → Named n C x r → ResultIn C x c r
  unfolding judgment_of
  result_in c_context d types ts r e w = none_in c_context of_context r _ e
  result_in c_universe d types ts r e w = level_in r _ e w
  result_in c_infer d types ts r e w = term_in c_infer (λ t q. of_infer q) r _ e w
  result_in c_check d types ts r e w = none_in c_check of_check r _ e
  result_in c_normalise d types ts r e w = term_in c_normalise (λ t q. of_normalise q) r _ e w
  result_in c_equal d types ts r e w = none_in c_equal of_equal r _ e
  result_in c_many d types ts r e w = absurd (no_some e)
  result_in c_headwise d types ts r e w = term_in c_headwise (λ t q. of_head q) r _ e w

  ended : {rows : List Row} (call : Call) (a : Answer) → (a.number ≡ 0 → Stated rows call a) → Bare a → Named n C x a.result → Ended C x call.code a.number a.result
  ended call a stated b w = go a.number refl
    where
      go : (m : ℕ) → a.number ≡ m → Ended C x call.code m a.result
      go zero e = accepted (result_in call.code call.dims call.types call.terms a.result (stated e).judged w)
      go (suc m) e = rw (b.bare (λ z. omega arith)) S.refused

-- all calls

module _ {xs : List Thing} {C : List ℕ} (cs : CellsWords xs C) (codes A : List ℕ) where
  call_in : {rows : List Row} (i : ℕ) (call : Call) (a : Answer) → (a.number ≡ 0 → Stated rows call a) → Bare a → code codes i ≡ code_number call.code → AnswerWords xs A i a → CallIn codes A C i call.code a
  call_in i call a stated b e w = record { code = e; number = rw add-zero w.number; row = w.row; deepest = w.deepest; ended = ended (length xs) C _ call a stated b (names cs a.result w.result) }

  -- call i and those after it
  pub calls_in : {rows : List Row} (i : ℕ) {calls : List Call} {answers : List Answer} → AllStated rows calls answers → AllBare answers → ((k : ℕ) → k < length calls → code codes (i + k) ≡ get_or (codes_of calls) k 0) → ((k : ℕ) (a : Answer) → AnswerAt a k answers → AnswerWords xs A (i + k) a) → CallsIn codes A C i calls answers
  calls_in i no_call no_answer e w = no_calls
  calls_in i (call_on {call = call} {calls = calls} {a = a} stated more) (bare_on b bs) e w =
      and_call (call_in i call a stated b (subst (λ (m : ℕ). code codes m ≡ code_number call.code) (add-zero i) (e 0 (omega arith))) (subst (λ (m : ℕ). AnswerWords xs A m a) (add-zero i) (w 0 a this_answer)))
      (calls_in (suc i) more bs
      (λ k l. subst (λ (m : ℕ). code codes m ≡ get_or (codes_of calls) k 0) (next i k) (e (suc k) (omega arith)))
      (λ k a at. subst (λ (m : ℕ). AnswerWords xs A m a) (next i k) (w (suc k) a (later_answer at))))

  pub calls_said : {i : ℕ} {calls : List Call} {answers : List Answer} → CallsIn codes A C i calls answers → each (call_line codes A C) i (length calls) ≡ call_lines i answers
  unfolding each call_lines
  calls_said no_calls = refl
  calls_said (and_call {a = a} h r) = rw (call_said a h, calls_said r)
