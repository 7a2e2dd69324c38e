-- A call keeps the table in order, and if it is accepted its row states its judgment; so do the calls of a list.
use Rattle.std.specs.Prelude.{ℕ, ◌≡◌, refl, List, [], ◌∷◌, Bool, true, false}
use Rattle.std.proofs.Math.Option.{some}
use Rattle.std.proofs.Common.{arith}
use Rattle.walk.specs.Syntax.{Term, Universe, Nil, quotes}
use Rattle.walk.specs.Judgment.{Judgment, ctx}
use Rattle.walk.specs.State.{Row, State, Outcome, with_deepest}
use Rattle.walk.specs.Walk.{Callees, callees, typing, equation}
use Rattle.walk.specs.Reader.{Code, c_context, c_universe, c_infer, c_check, c_normalise, c_equal, c_many, c_headwise, lists_types, Call}
use Rattle.walk.specs.Limits.{Sized, scope_over, size_over, index_over, fits, size_call}
use Rattle.walk.specs.Run.{Result, Answer, answered, scope_of, nth, walk, play_sized, play_counted, play, play_all}
use Rattle.walk.specs.Demand.{At, Extends, same, of_none, of_level, of_answer, judgment_of, Stated, no_call, call_on}
use Rattle.walk.specs.Sound.Logic.{Good, extends_trans, lift, After, fine, stopped}
use Rattle.walk.specs.Sound.Says.{Sound}
use Rattle.walk.specs.Calls.{Left, AllLeft}
use Rattle.walk.proofs.Sound.{sound}

left : {A : Type 0} {rs : List Row} {Q : A → List Row → Type 0} {o : Outcome A} (call : Call) (row : A → ℕ) (result : A → Result) (J : A → Judgment) → ((a : A) → judgment_of call (result a) ≡ some (J a)) → ((a : A) (rs' : List Row) → Q a rs' → At (row a) (J a) rs') → After rs Q o → Left call rs (answered row result o)
unfolding answered
left call row result J q f (fine {a = a} e g h) = record { good = g; grows = e; stated = λ _. record { judgment = J a; judged = q a; states = f a _ h } }
left call row result J q f (stopped z e g) = record { good = g; grows = e; stated = λ n. absurd (omega arith) }

module _ (c : Callees) (S : Sound c) (d : ℕ) (types ts : List Term) (s : State) (good : Good s) where
  walk_left : (code : Code) → Left (record { code = code; dims = d; types = types; terms = ts }) s.rows (walk c code d (scope_of Nil types) ts s)
  unfolding walk judgment_of of_none of_level of_answer
  walk_left c_context = left _ _ _ (λ _. ctx d (quotes (scope_of Nil types))) (λ _. refl) (λ _ _ h. h) ((S.ctx d _).holds s same good)
  walk_left c_universe = left _ _ _ (λ out. typing d (scope_of Nil types) (nth ts 0) (Universe out.0)) (λ _. refl) (λ _ _ h. h) ((S.universe d _ (nth ts 0)).holds s same good)
  walk_left c_infer = left _ _ _ (λ out. typing d (scope_of Nil types) (nth ts 0) out.0) (λ _. refl) (λ _ _ h. h) ((S.infer d _ (nth ts 0)).holds s same good)
  walk_left c_check = left _ _ _ (λ _. typing d (scope_of Nil types) (nth ts 0) (nth ts 1)) (λ _. refl) (λ _ _ h. h) ((S.check d _ (nth ts 0) (nth ts 1)).holds s same good)
  walk_left c_normalise = left _ _ _ (λ out. equation d (scope_of Nil types) (nth ts 0) out.0 (nth ts 1)) (λ _. refl) (λ _ _ h. h) ((S.normalize d _ (nth ts 0) (nth ts 1)).holds s same good)
  walk_left c_equal = left _ _ _ (λ _. equation d (scope_of Nil types) (nth ts 0) (nth ts 1) (nth ts 2)) (λ _. refl) (λ _ _ h. h) ((S.equal d _ (nth ts 0) (nth ts 1) (nth ts 2)).holds s same good)
  walk_left c_many = record { good = good; grows = same; stated = λ e. absurd (omega arith) }
  walk_left c_headwise = left _ _ _ (λ out. equation d (scope_of Nil types) (nth ts 0) out.0 (nth ts 1)) (λ _. refl) (λ _ _ h. h) ((S.head_normalize d _ (nth ts 0) (nth ts 1)).holds s same good)

play_sized_left : (z : Sized) (call : Call) (s : State) → Good s → Left call s.rows (play_sized z call s)
unfolding play_sized with_deepest
play_sized_left scope_over call s good = record { good = good; grows = same; stated = λ e. absurd (omega arith) }
play_sized_left size_over call s good = record { good = good; grows = same; stated = λ e. absurd (omega arith) }
play_sized_left index_over call s good = record { good = good; grows = same; stated = λ e. absurd (omega arith) }
play_sized_left (fits n) call s good = walk_left (callees s.limit) (sound s.limit) call.dims call.types call.terms (with_deepest 0 s) (record { order = good.order; kept = good.kept }) call.code

play_counted_left : (b : Bool) (call : Call) (s : State) → Good s → Left call s.rows (play_counted b call s)
unfolding play_counted
play_counted_left true call s good = record { good = good; grows = same; stated = λ e. absurd (omega arith) }
play_counted_left false call s good = play_sized_left (size_call call) call s good

pub play_left : (call : Call) (s : State) → Good s → Left call s.rows (play call s)
unfolding play
play_left call s good = play_counted_left (lists_types call.code) call s good

still : {rs rs' : List Row} {call : Call} {a : Answer} → Extends rs rs' → Stated rs call a → Stated rs' call a
still e h = record { judgment = h.judgment; judged = h.judged; states = lift e h.states }

pub play_all_left : (calls : List Call) (s : State) → Good s → AllLeft calls s.rows (play_all calls s)
unfolding play_all
play_all_left [] s good = record { good = good; grows = same; stated = no_call }
play_all_left (call ∷ calls) s good =
    let h = play_left call s good in
    let k = play_all_left calls (play call s).1 h.good in
    record { good = k.good; grows = extends_trans h.grows k.grows; stated = call_on (λ e. still k.grows (h.stated e)) k.stated }
