-- Wrong outcomes that the contract refuses: what a wrong program would answer or leave, and the clause that it breaks. The runs are
-- docs/FORMAT.md's, or of `walk`'s Examples, in slices that are full of sevens.
use Rattle.std.proofs.Math.Path.{◌≡◌, sym, ap}
use Rattle.std.specs.Prelude.{ℕ, suc, ◌<◌, ◌≤◌, List, [], ◌∷◌, refl, length, replicate}
use Rattle.std.proofs.Common.{◌∙◌, subst, lit<, lit≤, arith}
use Rattle.std.proofs.Math.Option.{some}
use Rattle.std.proofs.Math.ListN.{get_or}
use Rattle.walk.specs.Syntax.{Universe, Var, Nat, Zero, Pi, Lam, Nil, Quote, nat, zero, u, v, pi, lam, nil, cons, quote}
use Rattle.walk.specs.Judgment.{Judgment, has}
use Rattle.walk.specs.Rule as R
use Rattle.walk.specs.State.{Row, term, context, inference, key, recall}
use Rattle.walk.specs.Reader.{c_infer, c_check, Call}
use Rattle.walk.specs.Run.{Answer, Result, no_result, a_level, a_term, scope_of}
use Rattle.walk.specs.Demand.{At, RowAt, newest, older, AllBelow, of_none, of_answer, judgment_of}
use Rattle.walk.specs.Opened.{opened}
use Rattle.link.specs.Lists.{same, more}
use Rattle.link.specs.Things.{a_quote, shown?, is_thing, shows, Counted, lowest, cell, quoted}
use Rattle.link.specs.Table.{kind_word, part, row_word, cited_at, row_at, table_at, cell_words, memory_words, AnswerAt, this_answer, later_answer, this_call, later_call}
use Rattle.ran.specs.declared.Ran.{Ran}
use Rattle.run.specs.Contract.{walked, numbers_of, Derived, Runs}
use Rattle.run.specs.Reads.{nothing, RowRead, table_read, row_parts, all_below, row_states, states_same}

-- what computes the numbers of cells
unfoldable numbers : Unit {0}
unfolding shown? is_thing shows lowest
numbers = tt

-- room for 32 rows, 64 cells and 4 answers
abbrev rows : List ℕ
rows = replicate 768 7

abbrev cells : List ℕ
cells = replicate 512 7

abbrev answers : List ℕ
answers = replicate 16 7

abbrev ran : (number place calls rows cells : ℕ) → Ran
ran number place calls rows cells = record { number = number; place = place; calls = calls; rows = rows; cells = cells }

abbrev said : (row : ℕ) → Result → (deepest : ℕ) → Answer
said row result deepest = record { number = 0; row = row; result = result; deepest = deepest }

-- the runs, and what the definition gives

-- check zero at nat
abbrev one : List ℕ
one = 100 ∷ 0 ∷ 3 ∷ 0 ∷ 0 ∷ 4 ∷ 3 ∷ []

one_first : AnswerAt (said 1 no_result 3) 0 (walked one rows cells answers).answers
unfolding opened
one_first = this_answer

one_numbers : numbers_of (walked one rows cells answers) ≡ ran 0 0 1 2 4
unfolding opened
one_numbers = refl

-- the same with a nesting limit of 3, in slices with just enough room: two rows, four cells, one answer
abbrev tight : List ℕ
tight = 3 ∷ 0 ∷ 3 ∷ 0 ∷ 0 ∷ 4 ∷ 3 ∷ []

abbrev two_rows : List ℕ
two_rows = replicate 48 7

abbrev four_cells : List ℕ
four_cells = replicate 32 7

abbrev one_answer : List ℕ
one_answer = replicate 4 7

tight_first : AnswerAt (said 1 no_result 3) 0 (walked tight two_rows four_cells one_answer).answers
unfolding opened
tight_first = this_answer

-- check zero at nat, then infer v 0 in context nat
abbrev two : List ℕ
two = 100 ∷ 0 ∷ 3 ∷ 0 ∷ 0 ∷ 4 ∷ 3 ∷ 2 ∷ 0 ∷ 1 ∷ 3 ∷ 2 ∷ 0 ∷ []

two_second : AnswerAt (said 6 (a_term Nat) 5) 1 (walked two rows cells answers).answers
unfolding opened
two_second = later_answer this_answer

-- infer v 0 in no context, which is refused with 8
abbrev unbound : List ℕ
unbound = 100 ∷ 0 ∷ 2 ∷ 0 ∷ 0 ∷ 2 ∷ 0 ∷ []

unbound_numbers : numbers_of (walked unbound rows cells answers) ≡ ran 0 0 1 1 2
unfolding opened
unbound_numbers = refl

-- infer lam(nat, zero), then lam(u 0, zero): one quote, two types
abbrev lams : List ℕ
lams = 100 ∷ 0 ∷ 2 ∷ 0 ∷ 0 ∷ 6 ∷ 3 ∷ 4 ∷ 2 ∷ 0 ∷ 0 ∷ 6 ∷ 1 ∷ 0 ∷ 4 ∷ []

lams_second : AnswerAt (said 10 (a_term (Pi (Universe 0) Nat)) 5) 1 (walked lams rows cells answers).answers
unfolding opened
lams_second = later_answer this_answer

-- equal lam(A, zero) and lam(B, zero), where A and B have one quote
abbrev annotated : List ℕ
annotated = 100 ∷ 0 ∷ 5 ∷ 0 ∷ 0 ∷ 6 ∷ 7 ∷ 6 ∷ 3 ∷ 3 ∷ 4 ∷ 4 ∷ 6 ∷ 7 ∷ 6 ∷ 7 ∷ 6 ∷ 3 ∷ 3 ∷ 4 ∷ 3 ∷ 4 ∷ 4 ∷ 5 ∷ 7 ∷ 6 ∷ 3 ∷ 3 ∷ 4 ∷ 3 ∷ []

annotated_first : AnswerAt (said 21 no_result 11) 0 (walked annotated rows cells answers).answers
unfolding opened
annotated_first = this_answer

-- normalise lam(nat, zero) at nat → nat, then lam(u 0, zero), which has the same quote, at u 0 → nat: each is its own result
abbrev normals : List ℕ
normals = 100 ∷ 0 ∷ 4 ∷ 0 ∷ 0 ∷ 6 ∷ 3 ∷ 4 ∷ 5 ∷ 3 ∷ 3 ∷ 4 ∷ 0 ∷ 0 ∷ 6 ∷ 1 ∷ 0 ∷ 4 ∷ 5 ∷ 1 ∷ 0 ∷ 3 ∷ []

normals_second : AnswerAt (said 12 (a_term (Lam (Universe 0) Zero)) 7) 1 (walked normals rows cells answers).answers
unfolding opened
normals_second = later_answer this_answer

-- infer v 0 in context nat
abbrev scoped : List ℕ
scoped = 100 ∷ 0 ∷ 2 ∷ 0 ∷ 1 ∷ 3 ∷ 2 ∷ 0 ∷ []

-- outcomes that break demand 3: each is refused by the field that is named, whatever the other clauses say

module _ {bytes rows cells answers : List ℕ} {r : Ran} {rows' cells' answers' : List ℕ} (d : Derived bytes rows cells answers r rows' cells' answers') where
  -- row i of the table
  abbrev row_of : (i : ℕ) → i < r.rows → RowRead r.cells rows' cells' i d.table
  row_of = (table_read r.rows r.cells rows' cells' d.table d.read).each

  -- a row that cites itself, or a later one: `order`
  cites_itself : (i k : ℕ) → i < r.rows → k < length (cited_at rows' i) → i ≤ get_or (cited_at rows' i) k 0 → ⊥
  cites_itself i k l m e =
      let x = row_of i l in
      let p = row_parts r.cells rows' cells' i x.row x.read in
      let b = all_below (subst (λ (ms : List ℕ). AllBelow i ms) (sym p.cited) (d.order.lower i x.row x.at)) k m in
      omega arith

  -- a judgment that stands twice: `distinct`
  twice : (i j : ℕ) → i < j → j < r.rows → (x y : Row) → row_at r.cells rows' cells' i ≡ some x → row_at r.cells rows' cells' j ≡ some y → x.judgment ≡ y.judgment → ⊥
  twice i j l m x y p q e =
      let a = row_of i (omega arith) in
      let b = row_of j m in
      let u : a.row.judgment ≡ x.judgment = let s = a.read in cc in
      let v : b.row.judgment ≡ x.judgment = let s = b.read in cc in
      let n = d.distinct.same_row i j x.judgment (subst (λ (k : Judgment). At i k d.table) u (row_states a.at)) (subst (λ (k : Judgment). At j k d.table) v (row_states b.at)) in
      omega arith

-- the two calls of `two`
abbrev call_0 : Call
call_0 = record { code = c_check; dims = 0; types = []; terms = Zero ∷ Nat ∷ [] }

abbrev call_1 : Call
call_1 = record { code = c_infer; dims = 0; types = Nat ∷ []; terms = Var 0 ∷ [] }

two_read : (walked two rows cells answers).calls ≡ call_0 ∷ call_1 ∷ []
unfolding opened
two_read = refl

-- what they say: the first has no context, the second has one
first_says : (result : Result) (j : Judgment) → judgment_of call_0 result ≡ some j → j ≡ has 0 nil zero nat
unfolding judgment_of of_none scope_of
first_says no_result j e = let q : has 0 nil zero nat ≡ j = cc in sym q
first_says (a_level l) j e = absurd (nothing e)
first_says (a_term t) j e = absurd (nothing e)

second_says : (result : Result) (j : Judgment) → judgment_of call_1 result ≡ some j → j ≡ has 0 nil zero nat → ⊥
unfolding judgment_of of_answer scope_of
second_says no_result j e q = nothing e
second_says (a_level l) j e q = nothing e
second_says (a_term t) j e q = let p : has 0 (cons nat nil) (v 0) (quote t) ≡ has 0 nil zero nat = cc in let z : ◌≡◌ {A = ℕ} 0 1 = cc in omega arith

-- numbers of cells: things that were counted, and the lowest with a quote

one_nil : Counted (context Nil) [] (walked one rows cells answers).last.cells
unfolding opened
one_nil = more (more (more same))

one_zero : Counted (term Zero) (context Nil ∷ []) (walked one rows cells answers).last.cells
unfolding opened
one_zero = more (more same)

one_memory : Counted (inference (key 0 Nil Zero)) (term Nat ∷ term Zero ∷ context Nil ∷ []) (walked one rows cells answers).last.cells
unfolding opened
one_memory = same

-- what is remembered of zero: its type is cell 2, its row is 1
one_remembers : memory_words (walked one rows cells answers).last.cells (recall (key 0 Nil Zero) (walked one rows cells answers).last.memory) ≡ some 2 ∷ some 1 ∷ []
unfolding opened numbers
one_remembers = refl

-- the context of `scoped`: its rest, and then its last type
scoped_rest : Counted (context Nil) [] (walked scoped rows cells answers).last.cells
unfolding opened
scoped_rest = more (more (more (more (more (more same)))))

-- cells 3 and 11 of `lams` are lam(nat, zero) and lam(u 0, zero)
lams_lowest : quoted (walked lams rows cells answers).last.cells (a_quote (lam zero)) ≡ some 3
unfolding opened numbers
lams_lowest = refl

lams_own : some 11 ≡ cell (walked lams rows cells answers).last.cells (term (Lam (Universe 0) Zero))
unfolding opened numbers
lams_own = refl

abbrev lams_row : (refs : List ℕ) → Quote → Row
lams_row refs domain = record { rule = R.type_lam; refs = refs; judgment = has 0 nil (lam zero) (pi domain nat) }

lams_older : RowAt 5 (lams_row (1 ∷ 3 ∷ 4 ∷ []) nat) (walked lams rows cells answers).last.rows
unfolding opened
lams_older = older (older (older (older (older (newest refl)))))

lams_newer : RowAt 10 (lams_row (6 ∷ 8 ∷ 9 ∷ []) (u 0)) (walked lams rows cells answers).last.rows
unfolding opened
lams_newer = newest refl

-- and of `normals`
normals_lowest : quoted (walked normals rows cells answers).last.cells (a_quote (lam zero)) ≡ some 3
unfolding opened numbers
normals_lowest = refl

normals_own : some 11 ≡ cell (walked normals rows cells answers).last.cells (term (Lam (Universe 0) Zero))
unfolding opened numbers
normals_own = refl

-- outcomes that no program with the contract has

module _ {r : Ran} {rows' cells' answers' : List ℕ} where
  -- every call refused; 18, 19 or 20 while there is space
  refuses : Runs one rows cells answers r rows' cells' answers' → (n : ℕ) → get_or answers' 0 0 ≡ suc n → ⊥
  refuses h n e = let q : suc n ≡ 0 = sym e ∙ (h.each_answer 0 _ one_first).number in omega arith

  -- the same while there is just enough
  refuses_tight : Runs tight two_rows four_cells one_answer r rows' cells' answers' → (n : ℕ) → get_or answers' 0 0 ≡ suc n → ⊥
  refuses_tight h n e = let q : suc n ≡ 0 = sym e ∙ (h.each_answer 0 _ tight_first).number in omega arith

  -- row 0 always
  row_0 : Runs one rows cells answers r rows' cells' answers' → get_or answers' 1 0 ≡ 0 → ⊥
  row_0 h e = let q : ◌≡◌ {A = ℕ} 0 1 = sym e ∙ (h.each_answer 0 _ one_first).row in omega arith

  -- an invented deepest
  deepest : Runs one rows cells answers r rows' cells' answers' → (n : ℕ) → get_or answers' 3 0 ≡ n → (n ≡ 3 → ⊥) → ⊥
  deepest h n e z = z (sym e ∙ (h.each_answer 0 _ one_first).deepest)

  -- nothing written
  no_answer : Runs one rows cells answers r rows' cells' answers' → answers' ≡ answers → ⊥
  no_answer h e = let q : ◌≡◌ {A = ℕ} 7 0 = ap (λ (l : List ℕ). get_or l 0 0) (sym e) ∙ (h.each_answer 0 _ one_first).number in omega arith

  no_rows : Runs one rows cells answers r rows' cells' answers' → rows' ≡ rows → ⊥
  unfolding opened
  no_rows h e = let q : ◌≡◌ {A = ℕ} 7 R.ctx_nil = ap (λ (l : List ℕ). get_or l 0 0) (sym e) ∙ (h.table.each_row 0 _ (older (newest refl))).rule in omega arith

  -- an invented number of rows
  row_count : Runs one rows cells answers r rows' cells' answers' → (n : ℕ) → r.rows ≡ n → (n ≡ 2 → ⊥) → ⊥
  row_count h n e z = z (sym e ∙ ap (λ (x : Ran). x.rows) (h.numbers ∙ one_numbers))

  -- an empty table; rows that follow, and have nothing to do with the call
  other_table : Runs one rows cells answers r rows' cells' answers' → (table : List Row) → table_at 2 4 rows' cells' ≡ some table → (table ≡ (walked one rows cells answers).last.rows → ⊥) → ⊥
  unfolding opened
  other_table h table e z = let q : some table ≡ some (walked one rows cells answers).last.rows = sym e ∙ h.table.read in let p : table ≡ (walked one rows cells answers).last.rows = cc in z p

  -- a store past the used words
  past_rows : Runs one rows cells answers r rows' cells' answers' → get_or rows' 48 0 ≡ 0 → ⊥
  past_rows h e = let n : r.rows ≡ 2 = ap (λ (x : Ran). x.rows) (h.numbers ∙ one_numbers) in let q : ◌≡◌ {A = ℕ} 0 7 = sym e ∙ h.rows_stay 48 (rw n (lit≤ tt)) in omega arith

  past_cells : Runs one rows cells answers r rows' cells' answers' → get_or cells' 32 0 ≡ 0 → ⊥
  past_cells h e = let n : r.cells ≡ 4 = ap (λ (x : Ran). x.cells) (h.numbers ∙ one_numbers) in let q : ◌≡◌ {A = ℕ} 0 7 = sym e ∙ h.cells_stay 32 (rw n (lit≤ tt)) in omega arith

  past_answers : Runs one rows cells answers r rows' cells' answers' → get_or answers' 4 0 ≡ 0 → ⊥
  past_answers h e = let n : r.calls ≡ 1 = ap (λ (x : Ran). x.calls) (h.numbers ∙ one_numbers) in let q : ◌≡◌ {A = ℕ} 0 7 = sym e ∙ h.answers_stay 4 (rw n (lit≤ tt)) in omega arith

  -- two cells exchanged: nat before zero
  exchanged : Runs one rows cells answers r rows' cells' answers' → kind_word cells' 1 ≡ 3 → kind_word cells' 2 ≡ 4 → ⊥
  unfolding cell_words
  exchanged h e f = let w = h.table.cells.each _ _ one_zero in let q : ◌≡◌ {A = ℕ} 3 4 = cc in omega arith

  -- an unused place of a cell that is not 0
  unused_place : Runs one rows cells answers r rows' cells' answers' → (n : ℕ) → part 3 cells' 0 ≡ suc n → ⊥
  unfolding cell_words
  unused_place h n e = let w = h.table.cells.each _ _ one_nil in let q : suc n ≡ 0 = cc in omega arith

  -- a remembered inference of another term; with another type, or another row
  other_term : Runs one rows cells answers r rows' cells' answers' → (n : ℕ) → part 3 cells' 3 ≡ n → (n ≡ 1 → ⊥) → ⊥
  unfolding cell_words opened numbers
  other_term h n e z = let w = h.table.cells.each _ _ one_memory in let q : n ≡ 1 = cc in z q

  other_memory : Runs one rows cells answers r rows' cells' answers' → (type row : ℕ) → part 4 cells' 3 ≡ type → part 5 cells' 3 ≡ row → ((type ≡ 2) × (row ≡ 1) → ⊥) → ⊥
  other_memory h type row e f z =
      let w = h.memory (key 0 Nil Zero) _ one_memory ∙ one_remembers in
      let p : type ≡ 2 = cc in
      let q : row ≡ 1 = cc in
      z (p, q)

  -- a context's last type before its rest: nat is cell 0
  last_first : Runs scoped rows cells answers r rows' cells' answers' → kind_word cells' 0 ≡ 3 → ⊥
  unfolding cell_words
  last_first h e = let w = h.table.cells.each _ _ scoped_rest in let q : ◌≡◌ {A = ℕ} 3 32 = cc in omega arith

  -- a row names a higher cell with the same quote: a new row that of its own term, an older one a cell that came later
  higher_cell : Runs lams rows cells answers r rows' cells' answers' → row_word 15 rows' 10 ≡ 11 → ⊥
  higher_cell h e = let w = (h.table.each_row 10 _ lams_newer).judgment 2 (lit< tt) ∙ lams_lowest in let q : ◌≡◌ {A = ℕ} 11 3 = cc in omega arith

  later_cell : Runs lams rows cells answers r rows' cells' answers' → row_word 15 rows' 5 ≡ 11 → ⊥
  later_cell h e = let w = (h.table.each_row 5 _ lams_older).judgment 2 (lit< tt) ∙ lams_lowest in let q : ◌≡◌ {A = ℕ} 11 3 = cc in omega arith

  -- a result names its own cell, and not the lowest with its quote
  own_cell : Runs normals rows cells answers r rows' cells' answers' → get_or answers' 6 0 ≡ 11 → ⊥
  own_cell h e = let w = (h.each_answer 1 _ normals_second).result ∙ normals_lowest in let q : ◌≡◌ {A = ℕ} 11 3 = cc in omega arith

  -- the first call's row repeated for the second
  first_row : Runs two rows cells answers r rows' cells' answers' → get_or answers' 5 0 ≡ 1 → ⊥
  first_row h e = let q : ◌≡◌ {A = ℕ} 1 6 = sym e ∙ (h.each_answer 1 _ two_second).row in omega arith

  -- the same, by demand 3 alone: whatever the row is, the calls state different judgments
  repeated : Runs two rows cells answers r rows' cells' answers' → get_or answers' 0 0 ≡ 0 → get_or answers' 4 0 ≡ 0 → get_or answers' 5 0 ≡ get_or answers' 1 0 → ⊥
  repeated h e f g =
      let d = h.derived in
      let a = d.stated 0 call_0 (rw two_read this_call) e in
      let b = d.stated 1 call_1 (rw two_read (later_call this_call)) f in
      let q = states_same (subst (λ (n : ℕ). At n b.judgment d.table) g b.states) a.states in
      second_says b.result b.judgment b.judged (q ∙ first_says a.result a.judgment a.judged)

  -- rows dropped when a call is refused
  dropped : Runs unbound rows cells answers r rows' cells' answers' → r.rows ≡ 0 → ⊥
  dropped h e = let q : ◌≡◌ {A = ℕ} 0 1 = sym e ∙ ap (λ (x : Ran). x.rows) (h.numbers ∙ unbound_numbers) in omega arith

  -- memory keyed on quotes: the second call gets the first one's row
  by_quote : Runs lams rows cells answers r rows' cells' answers' → get_or answers' 5 0 ≡ 5 → ⊥
  by_quote h e = let q : ◌≡◌ {A = ℕ} 5 10 = sym e ∙ (h.each_answer 1 _ lams_second).row in omega arith

  -- terms compared with their annotations: not equal
  compared : Runs annotated rows cells answers r rows' cells' answers' → (n : ℕ) → get_or answers' 0 0 ≡ suc n → ⊥
  compared h n e = let q : suc n ≡ 0 = sym e ∙ (h.each_answer 0 _ annotated_first).number in omega arith

  -- a run refused as a whole that changes something
  no_bytes : Runs [] rows cells answers r rows' cells' answers' → r.number ≡ 0 → ⊥
  unfolding opened
  no_bytes h e =
      let n : r.number ≡ 3 = ap (λ (x : Ran). x.number) h.numbers in
      let q : ◌≡◌ {A = ℕ} 0 3 = sym e ∙ n in omega arith

  changes : Runs [] rows cells answers r rows' cells' answers' → (rows' ≡ rows → ⊥) → ⊥
  changes h z = z (h.rows_kept (no_bytes h))

  changes_cells : Runs [] rows cells answers r rows' cells' answers' → (cells' ≡ cells → ⊥) → ⊥
  changes_cells h z = z (h.cells_kept (no_bytes h))

  changes_answers : Runs [] rows cells answers r rows' cells' answers' → (answers' ≡ answers → ⊥) → ⊥
  changes_answers h z = z (h.answers_kept (no_bytes h))
