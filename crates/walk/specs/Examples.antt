-- The first calls of docs/FORMAT.md, "Calls at the edges", together, as a single table that is checked by computation; with them the
-- edges that tell wrong definitions apart: one row, cell or entry fewer than enough, terms that differ in annotations only, the places
-- of refusal 3.
use Rattle.std.specs.Prelude.{ℕ, suc, ◌≡◌, refl, List, [], ◌∷◌, ◌++◌, length}
use Prim.Native.String.{String}
use Rattle.std.proofs.Math.Option.{Option, none, some}
use Rattle.walk.specs.Syntax.{Universe, Nat, Zero, Pi, nil, cons, u, v, nat, zero, pi, lam, app}
use Rattle.walk.specs.Judgment.{Judgment, ctx, lookup, shift, subst, has, eq}
use Rattle.walk.specs.Rule as R
use Rattle.walk.specs.State.{Row}
use Rattle.walk.specs.Run.{Ran, Answer, Result, no_result, a_term, run, repeats}
use Rattle.walk.specs.Opened.{opened}

-- an answer: number, row, result, deepest
abbrev pub Shown : Type 0
Shown = ℕ × ℕ × Result × ℕ

abbrev pub shown : List Answer → List Shown
shown [] = []
shown (a ∷ l) = (a.number, a.row, a.result, a.deepest) ∷ shown l

-- what a run shows: number, place; calls, rows, cells, repeats; its answers; its rows, the oldest first, where they are given
pub record Seen : Type 0 where
  pub number : ℕ
  pub place : ℕ
  pub calls : ℕ
  pub rows : ℕ
  pub cells : ℕ
  pub repeats : ℕ
  pub answers : List Shown
  pub table : Option (List Row)

abbrev pub oldest_first : List Row → List Row → List Row
oldest_first [] done = done
oldest_first (r ∷ rs) done = oldest_first rs (r ∷ done)

abbrev pub table_of : Option (List Row) → Ran → Option (List Row)
table_of none r = none
table_of (some given) r = some (oldest_first r.last.rows [])

abbrev pub see : Option (List Row) → Ran → Seen
see given r = record { number = r.number; place = r.place; calls = length r.calls; rows = length r.last.rows; cells = length r.last.cells; repeats = repeats r; answers = shown r.answers; table = table_of given r }

-- a line: the words of the three slices, the bytes, and what is seen
pub record Line : Type 0 where
  pub name : String
  pub row_words : ℕ
  pub cell_words : ℕ
  pub answer_words : ℕ
  pub bytes : List ℕ
  pub seen : Seen

abbrev pub in_slices : String → ℕ → ℕ → ℕ → List ℕ → Seen → Line
in_slices name rows cells answers bytes seen = record { name = name; row_words = rows; cell_words = cells; answer_words = answers; bytes = bytes; seen = seen }

-- in the listing's slices
abbrev pub listed : String → List ℕ → Seen → Line
listed name bytes seen = in_slices name 16368 16384 16384 bytes seen

-- a run that is read: rows, cells, repeats, answers
abbrev pub gives : ℕ → ℕ → ℕ → List Shown → Seen
gives rows cells repeats answers = record { number = 0; place = 0; calls = length answers; rows = rows; cells = cells; repeats = repeats; answers = answers; table = none }

-- the same, with the rows themselves
abbrev pub tells : List Row → ℕ → List Shown → Seen
tells rows cells answers = record { number = 0; place = 0; calls = length answers; rows = length rows; cells = cells; repeats = 0; answers = answers; table = some rows }

-- a run that is refused: number and place
abbrev pub refuses : ℕ → ℕ → Seen
refuses number place = record { number = number; place = place; calls = 0; rows = 0; cells = 0; repeats = 0; answers = []; table = none }

abbrev pub row : ℕ → List ℕ → Judgment → Row
row rule refs j = record { rule = rule; refs = refs; judgment = j }

-- the row of a refused call
abbrev pub no_row : ℕ
no_row = 4294967295

abbrev pub limit_100 : List ℕ
limit_100 = 100 ∷ 0 ∷ []

-- check zero at nat
abbrev first_call : List ℕ
first_call = 3 ∷ 0 ∷ 0 ∷ 4 ∷ 3 ∷ []

-- pi nat (pi nat ( .. t)), n binders
abbrev tower : ℕ → List ℕ → List ℕ
tower ℕ.zero t = t
tower (ℕ.suc n) t = 5 ∷ 3 ∷ tower n t

-- the rows of the calls on a variable, a lambda and its reduction: each table goes on where the one before ends
abbrev variable_rows : List Row → List Row
variable_rows more =
    row R.ctx_nil [] (ctx 0 nil) ∷
    row R.type_nat (0 ∷ []) (has 0 nil nat (u 0)) ∷
    row R.ctx_cons (0 ∷ 1 ∷ []) (ctx 0 (cons nat nil)) ∷
    row R.shift_nat [] (shift nat 0 nat) ∷
    row R.lookup_z (3 ∷ []) (lookup (cons nat nil) 0 nat) ∷
    row R.type_v (2 ∷ 4 ∷ []) (has 0 (cons nat nil) (v 0) nat) ∷
    more

abbrev lambda_rows : List Row → List Row
lambda_rows more =
    variable_rows (
    row R.type_nat (2 ∷ []) (has 0 (cons nat nil) nat (u 0)) ∷
    row R.type_lam (1 ∷ 5 ∷ 6 ∷ []) (has 0 nil (lam (v 0)) (pi nat nat)) ∷
    more)

abbrev reduction_rows : List Row
reduction_rows =
    lambda_rows (
    row R.type_zero (0 ∷ []) (has 0 nil zero nat) ∷
    row R.subst_nat [] (subst nat 0 zero nat) ∷
    row R.type_app (7 ∷ 8 ∷ 9 ∷ []) (has 0 nil (app (lam (v 0)) zero) nat) ∷
    row R.eq_refl (10 ∷ []) (eq 0 nil (app (lam (v 0)) zero) (app (lam (v 0)) zero) nat) ∷
    row R.subst_v_hit [] (subst (v 0) 0 zero zero) ∷
    row R.eq_beta (1 ∷ 5 ∷ 6 ∷ 8 ∷ 12 ∷ 9 ∷ []) (eq 0 nil (app (lam (v 0)) zero) zero nat) ∷
    [])

abbrev table : List Line
table =
    -- P
    listed "the first run" (limit_100 ++ first_call)
    (tells (row R.ctx_nil [] (ctx 0 nil) ∷ row R.type_zero (0 ∷ []) (has 0 nil zero nat) ∷ []) 4 ((0, 1, no_result, 3) ∷ [])) ∷
    listed "the same call again" (limit_100 ++ first_call ++ first_call)
    (gives 2 4 1 ((0, 1, no_result, 3) ∷ (0, 1, no_result, 2) ∷ [])) ∷
    listed "infer v 0 in context nat" (limit_100 ++ 2 ∷ 0 ∷ 1 ∷ 3 ∷ 2 ∷ 0 ∷ [])
    (tells (variable_rows []) 7 ((0, 5, a_term Nat, 5) ∷ [])) ∷
    listed "infer lam(nat, v 0)" (limit_100 ++ 2 ∷ 0 ∷ 0 ∷ 6 ∷ 3 ∷ 2 ∷ 0 ∷ [])
    (tells (lambda_rows []) 11 ((0, 7, a_term (Pi Nat Nat), 5) ∷ [])) ∷
    listed "normalise app(lam(nat, v 0), zero) at nat" (limit_100 ++ 4 ∷ 0 ∷ 0 ∷ 7 ∷ 6 ∷ 3 ∷ 2 ∷ 0 ∷ 4 ∷ 3 ∷ [])
    (tells reduction_rows 15 ((0, 13, a_term Zero, 8) ∷ [])) ∷
    listed "universe of zero" (limit_100 ++ 1 ∷ 0 ∷ 0 ∷ 4 ∷ [])
    (gives 4 6 0 ((11, no_row, no_result, 5) ∷ [])) ∷
    listed "check zero at u 0" (limit_100 ++ 3 ∷ 0 ∷ 0 ∷ 4 ∷ 1 ∷ 0 ∷ [])
    (gives 4 8 0 ((12, no_row, no_result, 4) ∷ [])) ∷
    listed "check zero at path(nat, zero, zero)" (limit_100 ++ 3 ∷ 0 ∷ 0 ∷ 4 ∷ 8 ∷ 3 ∷ 4 ∷ 4 ∷ [])
    (gives 11 11 0 ((13, no_row, no_result, 6) ∷ [])) ∷
    listed "infer v 0 in no context" (limit_100 ++ 2 ∷ 0 ∷ 0 ∷ 2 ∷ 0 ∷ [])
    (gives 1 2 0 ((8, no_row, no_result, 2) ∷ [])) ∷
    listed "infer papp(plam(nat, zero), dim 0), no dimension" (limit_100 ++ 2 ∷ 0 ∷ 0 ∷ 10 ∷ 9 ∷ 3 ∷ 4 ∷ 18 ∷ 0 ∷ [])
    (gives 11 14 0 ((17, no_row, no_result, 5) ∷ [])) ∷
    listed "the same with one dimension" (limit_100 ++ 2 ∷ 1 ∷ 0 ∷ 10 ∷ 9 ∷ 3 ∷ 4 ∷ 18 ∷ 0 ∷ [])
    (gives 16 16 0 ((0, 15, a_term Nat, 5) ∷ [])) ∷
    in_slices "the first run with three cells" 16368 24 16384 (limit_100 ++ first_call)
    (gives 2 3 0 ((20, no_row, no_result, 3) ∷ [])) ∷
    listed "the first run with limit 2" (2 ∷ 0 ∷ first_call)
    (gives 0 3 0 ((19, no_row, no_result, 2) ∷ [])) ∷
    -- exactly enough, and one short
    in_slices "four cells" 16368 32 4 (limit_100 ++ first_call) (gives 2 4 0 ((0, 1, no_result, 3) ∷ [])) ∷
    in_slices "two rows" 48 16384 4 (limit_100 ++ first_call) (gives 2 4 0 ((0, 1, no_result, 3) ∷ [])) ∷
    in_slices "one row" 47 16384 4 (limit_100 ++ first_call) (gives 1 3 0 ((18, no_row, no_result, 3) ∷ [])) ∷
    listed "limit 3" (3 ∷ 0 ∷ first_call) (gives 2 4 0 ((0, 1, no_result, 3) ∷ [])) ∷
    -- annotations: the memory of infer keys on them, judgments ignore them
    listed "infer lam(nat, zero), then lam(u 0, zero)" (limit_100 ++ 2 ∷ 0 ∷ 0 ∷ 6 ∷ 3 ∷ 4 ∷ 2 ∷ 0 ∷ 0 ∷ 6 ∷ 1 ∷ 0 ∷ 4 ∷ [])
    (gives 11 19 0 ((0, 5, a_term (Pi Nat Nat), 5) ∷ (0, 10, a_term (Pi (Universe 0) Nat), 5) ∷ [])) ∷
    listed "equal lam(A, zero) and lam(B, zero), A and B with one quote" (limit_100 ++ 5 ∷ 0 ∷ 0 ∷ 6 ∷ 7 ∷ 6 ∷ 3 ∷ 3 ∷ 4 ∷ 4 ∷ 6 ∷ 7 ∷ 6 ∷ 7 ∷ 6 ∷ 3 ∷ 3 ∷ 4 ∷ 3 ∷ 4 ∷ 4 ∷ 5 ∷ 7 ∷ 6 ∷ 3 ∷ 3 ∷ 4 ∷ 3 ∷ [])
    (gives 22 33 0 ((0, 21, no_result, 11) ∷ [])) ∷
    -- what a refused call leaves stays, and later calls go on
    listed "universe of zero, then check zero at nat" (limit_100 ++ 1 ∷ 0 ∷ 0 ∷ 4 ∷ first_call)
    (gives 4 6 0 ((11, no_row, no_result, 5) ∷ (0, 1, no_result, 2) ∷ [])) ∷
    -- runs and their refusals
    listed "a header alone" limit_100 (gives 0 0 0 []) ∷
    listed "nothing sent" [] (refuses 3 0) ∷
    listed "half a header" (100 ∷ []) (refuses 3 1) ∷
    listed "limit 0" (0 ∷ 0 ∷ []) (refuses 3 0) ∷
    listed "limit 4,096" (0 ∷ 16 ∷ []) (gives 0 0 0 []) ∷
    listed "limit 4,097" (1 ∷ 16 ∷ []) (refuses 3 0) ∷
    listed "the leftmost place" (0 ∷ 0 ∷ 9 ∷ []) (refuses 3 0) ∷
    listed "no code" (limit_100 ++ 8 ∷ []) (refuses 3 2) ∷
    listed "no kind" (limit_100 ++ 3 ∷ 0 ∷ 0 ∷ 4 ∷ 16 ∷ []) (refuses 3 6) ∷
    listed "a run that ends early" (limit_100 ++ 3 ∷ 0 ∷ 0 ∷ 4 ∷ []) (refuses 3 6) ∷
    in_slices "no row fits" 23 64 0 limit_100 (refuses 1 0) ∷
    in_slices "no cell fits" 24 7 0 limit_100 (refuses 1 0) ∷
    in_slices "three answer words" 240 80 3 (limit_100 ++ 0 ∷ 0 ∷ 0 ∷ []) (refuses 4 0) ∷
    -- the limits of a call
    listed "33 dimensions" (limit_100 ++ 0 ∷ 33 ∷ 0 ∷ []) (gives 1 1 0 ((0, 0, no_result, 1) ∷ [])) ∷
    listed "34 dimensions" (limit_100 ++ 0 ∷ 34 ∷ 0 ∷ []) (gives 0 0 0 ((5, no_row, no_result, 0) ∷ [])) ∷
    listed "index 32" (limit_100 ++ 2 ∷ 0 ∷ 0 ∷ 2 ∷ 32 ∷ []) (gives 1 2 0 ((8, no_row, no_result, 2) ∷ [])) ∷
    listed "index 33" (limit_100 ++ 2 ∷ 0 ∷ 0 ∷ 2 ∷ 33 ∷ []) (gives 0 0 0 ((7, no_row, no_result, 0) ∷ [])) ∷
    listed "depth 33" (limit_100 ++ 2 ∷ 0 ∷ 0 ∷ tower 33 (3 ∷ [])) (gives 0 0 0 ((6, no_row, no_result, 0) ∷ [])) ∷
    listed "depth 33 before the index there" (limit_100 ++ 2 ∷ 0 ∷ 0 ∷ tower 32 (5 ∷ 1 ∷ 40 ∷ 3 ∷ [])) (gives 0 0 0 ((6, no_row, no_result, 0) ∷ [])) ∷
    listed "an index before the depth after it" (limit_100 ++ 2 ∷ 0 ∷ 0 ∷ tower 31 (5 ∷ 1 ∷ 40 ∷ 5 ∷ 3 ∷ 3 ∷ [])) (gives 0 0 0 ((7, no_row, no_result, 0) ∷ [])) ∷
    []

-- the table's lines, as they are played
abbrev pub played : List Line → List Seen
played [] = []
played (l ∷ ls) = see l.seen.table (run l.row_words l.cell_words l.answer_words l.bytes) ∷ played ls

abbrev pub stated : List Line → List Seen
stated [] = []
stated (l ∷ ls) = l.seen ∷ stated ls

pub examples : played table ≡ stated table
unfolding opened
examples = refl
