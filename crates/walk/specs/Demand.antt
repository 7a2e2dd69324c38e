-- What demand 3 speaks of, in the terms of docs/FORMAT.md ("What is promised of the table"), and the demand itself. The theorem stands
-- in the crate `order`.
-- A table is a list of rows, the newest first: a row's number is that of the rows below it.
use Rattle.std.specs.Prelude.{ℕ, ◌*◌, ◌<◌, ◌≤◌, ◌≡◌, List, [], ◌∷◌, ◌++◌, true, false, ltb, length}
use Rattle.std.proofs.Math.Option.{Option, none, some}
use Rattle.walk.specs.Syntax.{Term, Universe, Context, Nil, quotes}
use Rattle.walk.specs.Judgment.{Judgment, ctx}
use Rattle.walk.specs.Rules.{Follows}
use Rattle.walk.specs.State.{Row}
use Rattle.walk.specs.Walk.{typing, equation}
use Rattle.walk.specs.Reader.{c_context, c_universe, c_infer, c_check, c_normalise, c_equal, c_many, c_headwise, Call}
use Rattle.walk.specs.Run.{Result, no_result, a_level, a_term, Answer, Ran, scope_of, nth, play_all, start}

-- rows

-- Row n of the table is r.
pub data RowAt (n : ℕ) (r : Row) : List Row → Type 0 where
  newest : {rs : List Row} → n ≡ length rs → RowAt n r (r ∷ rs)
  older : {r' : Row} {rs : List Row} → RowAt n r rs → RowAt n r (r' ∷ rs)

-- Row n of the table states the judgment j: "a row's *judgment*".
pub data At (n : ℕ) (j : Judgment) : List Row → Type 0 where
  here : {r : Row} {rs : List Row} → n ≡ length rs → j ≡ r.judgment → At n j (r ∷ rs)
  there : {r : Row} {rs : List Row} → At n j rs → At n j (r ∷ rs)

-- The rows cited state these judgments, in order and none over.
infixr 30 ◌also◌
pub data Cites (rs : List Row) : List ℕ → List Judgment → Type 0 where
  none_cited : Cites rs [] []
  ◌also◌ : {n : ℕ} {ns : List ℕ} {j : Judgment} {js : List Judgment} → At n j rs → Cites rs ns js → Cites rs (n ∷ ns) (j ∷ js)

-- "A row *follows* by its rule": its judgment is the conclusion, and what the rows that it cites state are the
-- premises, for one choice of the rule's parts (`Follows` of Rules).
pub record RowFollows (rs : List Row) (r : Row) : Type 0 where
  pub premises : List Judgment
  pub cited : Cites rs r.refs premises
  pub follows : Follows r.rule premises r.judgment

-- Every number of the list is below n.
pub data AllBelow (n : ℕ) : List ℕ → Type 0 where
  no_number : AllBelow n []
  below : {m : ℕ} {ms : List ℕ} → m < n → AllBelow n ms → AllBelow n (m ∷ ms)

-- "Rows are a *derivation order*": each follows by its rule and cites only rows with lower numbers.
pub record DerivationOrder (rs : List Row) : Type 0 where
  pub follows : (n : ℕ) (r : Row) → RowAt n r rs → RowFollows rs r
  pub lower : (n : ℕ) (r : Row) → RowAt n r rs → AllBelow n r.refs

-- No judgment has two rows.
pub record Distinct (rs : List Row) : Type 0 where
  pub same_row : (m n : ℕ) (j : Judgment) → At m j rs → At n j rs → m ≡ n

-- "Rows *derive* a judgment": a finite tree of rule steps ends in it, and every step's judgment stands among the rows.
mutual
  pub data Derives (rs : List Row) : Judgment → Type 0 where
    step : {n rule : ℕ} {js : List Judgment} {j : Judgment} → At n j rs → Follows rule js j → DerivesAll rs js → Derives rs j

  pub data DerivesAll (rs : List Row) : List Judgment → Type 0 where
    no_premise : DerivesAll rs []
    premise : {j : Judgment} {js : List Judgment} → Derives rs j → DerivesAll rs js → DerivesAll rs (j ∷ js)

-- The table "*cut after row n*": rows 0 to n.
unfoldable pub cut : ℕ → List Row → List Row
cut n [] = []
cut n (r ∷ rs) = elim (ltb n (length rs)) [ true ↦ cut n rs | false ↦ r ∷ rs ]

-- A later table: the same rows, and perhaps more after them.
pub data Extends (rs : List Row) : List Row → Type 0 where
  same : Extends rs rs
  more : {r : Row} {rs' : List Row} → Extends rs rs' → Extends rs (r ∷ rs')

-- calls

-- Results by what a code answers.
unfoldable pub of_none : Result → Judgment → Option Judgment
of_none no_result j = some j
of_none (a_level l) j = none
of_none (a_term t) j = none

unfoldable pub of_level : Result → (ℕ → Judgment) → Option Judgment
of_level no_result f = none
of_level (a_level l) f = some (f l)
of_level (a_term t) f = none

unfoldable pub of_answer : Result → (Term → Judgment) → Option Judgment
of_answer no_result f = none
of_answer (a_level l) f = none
of_answer (a_term t) f = some (f t)

abbrev pub scope : Call → Context
scope call = scope_of Nil call.types

-- "A call's *judgment*", read from its bytes and its result, by quote (none where the result is not the code's).
unfoldable pub judgment_of : Call → Result → Option Judgment
judgment_of call result =
    let d = call.dims in
    let g = scope call in
    let t = nth call.terms in
    elim call.code [
      | c_context ↦ of_none result (ctx d (quotes g))
      | c_universe ↦ of_level result (λ l. typing d g (t 0) (Universe l))
      | c_infer ↦ of_answer result (λ ty. typing d g (t 0) ty)
      | c_check ↦ of_none result (typing d g (t 0) (t 1))
      | c_normalise ↦ of_answer result (λ normal. equation d g (t 0) normal (t 1))
      | c_equal ↦ of_none result (equation d g (t 0) (t 1) (t 2))
      | c_many ↦ none
      | c_headwise ↦ of_answer result (λ normal. equation d g (t 0) normal (t 1))
    ]

-- The call's row is in the table and states exactly the call's judgment.
pub record Stated (rs : List Row) (call : Call) (a : Answer) : Type 0 where
  pub judgment : Judgment
  pub judged : judgment_of call a.result ≡ some judgment
  pub states : At a.row judgment rs

-- So for every accepted call of a list, whatever the others were.
pub data AllStated (rs : List Row) : List Call → List Answer → Type 0 where
  no_call : AllStated rs [] []
  call_on : {call : Call} {calls : List Call} {a : Answer} {answers : List Answer} → (a.number ≡ 0 → Stated rs call a) → AllStated rs calls answers → AllStated rs (call ∷ calls) (a ∷ answers)

-- the demand, of a run in slices of so many words

pub record Demand3 (row_words cell_words : ℕ) (ran : Ran) : Type 0 where
  -- every row follows by the rule it names from exactly the rows it cites, all with lower numbers; no judgment has two rows
  pub order : DerivationOrder ran.last.rows
  pub distinct : Distinct ran.last.rows
  -- the rows number at most 50,000, and the table holds them
  pub few : length ran.last.rows ≤ 50000
  pub held : 24 * length ran.last.rows ≤ row_words
  -- every accepted call's row states that call's judgment
  pub stated : AllStated ran.last.rows ran.calls ran.answers
  -- a run refused as a whole has no rows
  pub refused : (ran.number ≡ 0 → ⊥) → ran.last.rows ≡ []
  -- cut after any row the table is a derivation order too, and derives every judgment left in it
  pub cut_order : (n : ℕ) → DerivationOrder (cut n ran.last.rows)
  pub cut_derives : (n m : ℕ) (j : Judgment) → At m j (cut n ran.last.rows) → Derives (cut n ran.last.rows) j
  -- later calls only add rows: the table that the first calls of the list leave stays
  pub grows : (first others : List Call) → ran.calls ≡ first ++ others → Extends (play_all first (start ran.limit row_words cell_words)).1.rows ran.last.rows
