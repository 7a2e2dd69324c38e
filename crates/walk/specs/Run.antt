-- A run: its bytes and the lengths of the three slices in, its own answer, the answers of its calls and the last state out.
use Rattle.std.specs.Prelude.{ℕ, ◌+◌, ◌*◌, ◌/◌, min, suc, List, [], ◌∷◌, Bool, true, false, ◌||◌, ltb, length, get_or}
use Rattle.std.proofs.Math.Decide.{ℕ_discrete}
use Rattle.walk.specs.Syntax.{Term, Nat, Context, Nil, Cons}
use Rattle.walk.specs.Refusal as Refusal
use Rattle.walk.specs.State.{State, Outcome, done, refused, with_deepest}
use Rattle.walk.specs.Walk.{Callees, callees}
use Rattle.walk.specs.Reader.{Read, got, bad, Code, CodeDiscrete, c_context, c_universe, c_infer, c_check, c_normalise, c_equal, c_many, c_headwise, lists_types, Call, read_run}
use Rattle.walk.specs.Limits.{Sized, fits, scope_over, size_over, index_over, size_call}

-- the answer of a call

-- A result: a level for code 1, a term for codes 2, 4 and 7, else none.
pub data Result : Type 0 where
  no_result : Result
  a_level : ℕ → Result
  a_term : Term → Result

pub record Answer : Type 0 where
  pub number : ℕ
  pub row : ℕ
  pub result : Result
  pub deepest : ℕ

abbrev pub refusal : ℕ → ℕ → Answer
refusal n deepest = record { number = n; row = 4294967295; result = no_result; deepest = deepest }

unfoldable pub answered : {A : Type 0} → (A → ℕ) → (A → Result) → Outcome A → Answer × State
answered row result (done a s) = (record { number = 0; row = row a; result = result a; deepest = s.deepest }, s)
answered row result (refused n s) = (refusal n s.deepest, s)

-- A call's context: its types are sent outermost first.
unfoldable pub scope_of : Context → List Term → Context
scope_of g [] = g
scope_of g (a ∷ as') = scope_of (Cons a g) as'

-- A call's terms by place. A call that is read has them all (`full` of `each_call`, in the crate `order`'s Call).
abbrev pub nth : List Term → ℕ → Term
nth ts n = get_or ts n Nat

-- Each code enters its reference function; one call with many types is never walked (`play`).
unfoldable pub walk : Callees → Code → ℕ → Context → List Term → State → Answer × State
walk c c_context d g ts s = answered (λ row. row) (λ row. no_result) (c.ctx d g s)
walk c c_universe d g ts s = answered (λ out. out.1) (λ out. a_level out.0) (c.universe d g (nth ts 0) s)
walk c c_infer d g ts s = answered (λ out. out.1) (λ out. a_term out.0) (c.infer d g (nth ts 0) s)
walk c c_check d g ts s = answered (λ row. row) (λ row. no_result) (c.check d g (nth ts 0) (nth ts 1) s)
walk c c_normalise d g ts s = answered (λ out. out.1) (λ out. a_term out.0) (c.normalize d g (nth ts 0) (nth ts 1) s)
walk c c_equal d g ts s = answered (λ row. row) (λ row. no_result) (c.equal d g (nth ts 0) (nth ts 1) (nth ts 2) s)
walk c c_many d g ts s = (refusal Refusal.count 0, s)
walk c c_headwise d g ts s = answered (λ out. out.1) (λ out. a_term out.0) (c.head_normalize d g (nth ts 0) (nth ts 1) s)

-- Under 5, 6 and 7 nothing is walked.
unfoldable pub play_sized : Sized → Call → State → Answer × State
play_sized scope_over call s = (refusal Refusal.scope 0, s)
play_sized size_over call s = (refusal Refusal.size 0, s)
play_sized index_over call s = (refusal Refusal.index 0, s)
play_sized (fits n) call s = walk (callees s.limit) call.code call.dims (scope_of Nil call.types) call.terms (with_deepest 0 s)

-- A call of code 6 that is not written out as checks has a wrong count: 23, before 5.
unfoldable pub play_counted : Bool → Call → State → Answer × State
play_counted true call s = (refusal Refusal.count 0, s)
play_counted false call s = play_sized (size_call call) call s

unfoldable pub play : Call → State → Answer × State
play call s = play_counted (lists_types call.code) call s

-- Each call gets what the one before left, also where that was refused.
unfoldable pub play_all : List Call → State → List Answer × State
play_all [] s = ([], s)
play_all (call ∷ calls) s =
    let (answer, s') = play call s in
    let (answers, s'') = play_all calls s' in
    (answer ∷ answers, s'')

-- which call made a row

-- The number of the call after which the table first has row n: calls are numbered from 0, refused ones too.
unfoldable pub added_by : ℕ → List Call → State → ℕ
added_by n [] s = 0
added_by n (call ∷ calls) s = elim (ltb n (length (play call s).1.rows)) [ true ↦ 0 | false ↦ suc (added_by n calls (play call s).1) ]

-- of a row that is there before the first call
abbrev pub carried_in : ℕ
carried_in = 4294967295

unfoldable pub made_by : ℕ → List Call → State → ℕ
made_by n calls s = elim (ltb n (length s.rows)) [ true ↦ carried_in | false ↦ added_by n calls s ]

-- the run

-- A run's number and place (both 0 where it is read), its nesting limit, its calls with their answers, and what they leave.
pub record Ran : Type 0 where
  pub number : ℕ
  pub place : ℕ
  pub limit : ℕ
  pub calls : List Call
  pub answers : List Answer
  pub last : State

-- From no rows, cells or memory, in slices of so many words.
unfoldable pub start : ℕ → ℕ → ℕ → State
start limit row_words cell_words = record { rows = []; cells = []; memory = []; conversions = 0; deepest = 0; limit = limit; row_room = min 50000 (row_words / 24); cell_room = min 4294967295 (cell_words / 8) }

abbrev pub refused_run : ℕ → ℕ → Ran
refused_run n place = record { number = n; place = place; limit = 0; calls = []; answers = []; last = start 0 0 0 }

abbrev pub played : ℕ → List Call → List Answer × State → Ran
played limit calls (answers, s) = record { number = 0; place = 0; limit = limit; calls = calls; answers = answers; last = s }

-- 3, then 4
unfoldable pub run_read : ℕ → ℕ → ℕ → Read (ℕ × List Call) → Ran
run_read row_words cell_words answer_words (bad place) = refused_run Refusal.unread place
run_read row_words cell_words answer_words (got (limit, calls) rest at) =
    elim (ltb answer_words (4 * length calls)) [
      | true ↦ refused_run Refusal.answers 0
      | false ↦ played limit calls (play_all calls (start limit row_words cell_words))
    ]

-- 1, then 2; on these bytes, with slices of so many words for rows, cells and answers
unfoldable pub run : ℕ → ℕ → ℕ → List ℕ → Ran
run row_words cell_words answer_words bytes =
    elim (ltb row_words 24 || ltb cell_words 8) [
      | true ↦ refused_run Refusal.slices 0
      | false ↦ elim (ltb 65536 (length bytes)) [
        | true ↦ refused_run Refusal.bytes 0
        | false ↦ run_read row_words cell_words answer_words (read_run bytes)
      ]
    ]

-- repeats

-- An accepted call, by its code and its row.
pub data Accepted : Type 0 where
  accept : Code → ℕ → Accepted
  deriving Discrete as AcceptedDiscrete

unfoldable pub accepted : List Call → List Answer → List Accepted
accepted [] answers = []
accepted (call ∷ calls) [] = []
accepted (call ∷ calls) (a ∷ answers) =
    elim (ℕ_discrete a.number 0) [
      | yes e ↦ accept call.code a.row ∷ accepted calls answers
      | no ne ↦ accepted calls answers
    ]

-- The accepted calls that have the code and the row of an earlier one.
unfoldable pub occurs : Accepted → List Accepted → ℕ
occurs x [] = 0
occurs x (y ∷ ys) = elim (AcceptedDiscrete CodeDiscrete ℕ_discrete x y) [ yes e ↦ 1 | no ne ↦ occurs x ys ]

unfoldable pub repeats_after : List Accepted → List Accepted → ℕ
repeats_after earlier [] = 0
repeats_after earlier (x ∷ xs) = occurs x earlier + repeats_after (x ∷ earlier) xs

unfoldable pub repeats : Ran → ℕ
repeats ran = repeats_after [] (accepted ran.calls ran.answers)
