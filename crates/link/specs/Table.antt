-- The table, read back from the words: each row's rule, the rows that it cites, and its judgment, by quote through the cells;
-- none where the words hold no such thing. And what the words of a cell, a row and an answer are; Things says which cell has which
-- number. Assumes nothing.
use Rattle.std.specs.Prelude.{ℕ, suc, ◌+◌, ◌*◌, ◌<◌, ◌≡◌, List, [], ◌∷◌, ◌++◌, true, false, length, get_or, take, replicate, ltb}
use Rattle.std.proofs.Math.Option.{Option, none, some}
use Rattle.walk.specs.Syntax.{Interval, I0, I1, Dim, Neg, Meet, Join, Term, Universe, Var, Nat, Zero, Pi, Lam, App, Path, PathLam, PathApp, Sigma, Pair, Fst, Snd, Nil, Cons, Quote, u, v, nat, zero, pi, lam, app, path, plam, papp, sigma, pair, fst, snd, Quotes, nil, cons, quote}
use Rattle.walk.specs.Judgment.{Judgment, Argument, number, of_interval, of_quote, of_context, arguments, ctx, dshiftctx, lookup, lt, le, max, interval, ishift, isubst, shift, subst, dshift, dsubst, has, eq, iend}
use Rattle.walk.specs.Rule.{kind_of}
use Rattle.walk.specs.Reader.{Kind, k_u, k_v, k_nat, k_zero, k_pi, k_lam, k_app, k_path, k_plam, k_papp, k_sigma, k_pair, k_fst, k_snd, IKind, k_0, k_1, k_dim, k_neg, k_meet, k_join, kinds, ikinds, Call}
use Rattle.walk.specs.State.{State, Row, Thing, term, inference, Key, key, recall}
use Rattle.walk.specs.State as S
use Rattle.walk.specs.Run.{Result, no_result, a_level, a_term, Answer}
use Rattle.walk.specs.Demand.{At, RowAt, judgment_of}
use Rattle.link.specs.Things.{Shown, Counted, cell, quoted}

infixl 20 ◌>>=◌
unfoldable pub ◌>>=◌ : {A B : Type 0} → Option A → (A → Option B) → Option B
◌>>=◌ (some a) f = f a
◌>>=◌ none f = none

-- cells: eight words, of which the first is the kind and the next three are the parts

abbrev pub kind_word : List ℕ → ℕ → ℕ
kind_word C n = get_or C (n * 8) 0

abbrev pub part : ℕ → List ℕ → ℕ → ℕ
part i C n = get_or C (n * 8 + i) 0

-- Kinds as in a run's bytes: a cell of a kind, over what its parts are.
unfoldable pub interval_by : (ℕ → Option Interval) → IKind → (a b : ℕ) → Option Interval
-- written by tools/written.py: an interval
interval_by at k_0 a b = some I0
interval_by at k_1 a b = some I1
interval_by at k_dim a b = some (Dim a)
interval_by at k_neg a b = at a >>= λ x. some (Neg x)
interval_by at k_meet a b = at a >>= λ x. at b >>= λ y. some (Meet x y)
interval_by at k_join a b = at a >>= λ x. at b >>= λ y. some (Join x y)

-- end of an interval

-- A lam's and a plam's annotation, their first part, is not quoted.
unfoldable pub quote_by : (ℕ → Option Quote) → (ℕ → Option Interval) → Kind → (a b c : ℕ) → Option Quote
-- written by tools/written.py: a quote
quote_by at iat k_u a b c = some (u a)
quote_by at iat k_v a b c = some (v a)
quote_by at iat k_nat a b c = some nat
quote_by at iat k_zero a b c = some zero
quote_by at iat k_pi a b c = at a >>= λ x. at b >>= λ y. some (pi x y)
quote_by at iat k_lam a b c = at b >>= λ y. some (lam y)
quote_by at iat k_app a b c = at a >>= λ x. at b >>= λ y. some (app x y)
quote_by at iat k_path a b c = at a >>= λ x. at b >>= λ y. at c >>= λ z. some (path x y z)
quote_by at iat k_plam a b c = at b >>= λ y. some (plam y)
quote_by at iat k_papp a b c = at a >>= λ x. iat b >>= λ y. some (papp x y)
quote_by at iat k_sigma a b c = at a >>= λ x. at b >>= λ y. some (sigma x y)
quote_by at iat k_pair a b c = at b >>= λ y. at c >>= λ z. some (pair y z)
quote_by at iat k_fst a b c = at a >>= λ x. some (fst x)
quote_by at iat k_snd a b c = at a >>= λ x. some (snd x)

-- end of a quote

-- A context is 32, or 33 with its last type and its rest.
pub data CKind : Type 0 where
  k_nil k_cons : CKind

abbrev pub ckinds : List (Option CKind)
ckinds = replicate 32 none ++ some k_nil ∷ some k_cons ∷ []

unfoldable pub context_by : (ℕ → Option Quotes) → (ℕ → Option Quote) → CKind → (a b : ℕ) → Option Quotes
context_by at qat k_nil a b = some nil
context_by at qat k_cons a b = qat a >>= λ x. at b >>= λ g. some (cons x g)

-- A part has a lower number than the whole.
abbrev pub lower : {A : Type 0} → ℕ → (ℕ → Option A) → ℕ → Option A
lower n at i = elim (ltb i n) [ true ↦ at i | false ↦ none ]

-- The first argument bounds the depth, so that the definition ends: as many as there are cells are enough.
unfoldable pub interval_at : ℕ → List ℕ → ℕ → Option Interval
interval_at ℕ.zero C n = none
interval_at (ℕ.suc f) C n = get_or ikinds (kind_word C n) none >>= λ k. interval_by (lower n (interval_at f C)) k (part 1 C n) (part 2 C n)

unfoldable pub quote_at : ℕ → List ℕ → ℕ → Option Quote
quote_at ℕ.zero C n = none
quote_at (ℕ.suc f) C n = get_or kinds (kind_word C n) none >>= λ k. quote_by (lower n (quote_at f C)) (lower n (interval_at f C)) k (part 1 C n) (part 2 C n) (part 3 C n)

unfoldable pub context_at : ℕ → List ℕ → ℕ → Option Quotes
context_at ℕ.zero C n = none
context_at (ℕ.suc f) C n = get_or ckinds (kind_word C n) none >>= λ k. context_by (lower n (context_at f C)) (lower n (quote_at f C)) k (part 1 C n) (part 2 C n)

-- arguments: a cell below the n that are used, by quote

abbrev pub below : {A : Type 0} → (ℕ → List ℕ → ℕ → Option A) → ℕ → List ℕ → ℕ → Option A
below at n C i = lower n (at n C) i

abbrev pub an_interval : ℕ → List ℕ → ℕ → Option Interval
an_interval = below interval_at

abbrev pub a_quote : ℕ → List ℕ → ℕ → Option Quote
a_quote = below quote_at

abbrev pub a_context : ℕ → List ℕ → ℕ → Option Quotes
a_context = below context_at

-- each kind of judgment, from the five argument words

abbrev pub Reads : Type 0
Reads = ℕ → List ℕ → (a b c d e : ℕ) → Option Judgment

-- each kind at its number; and what a rule concludes is of the kind that the table of rules has
-- written by tools/written.py: readings
unfoldable pub read_ctx : Reads
read_ctx used C d g _ _ _ = a_context used C g >>= λ g. some (ctx d g)

unfoldable pub read_dshiftctx : Reads
read_dshiftctx used C g k h _ _ = a_context used C g >>= λ g. a_context used C h >>= λ h. some (dshiftctx g k h)

unfoldable pub read_lookup : Reads
read_lookup used C g n A _ _ = a_context used C g >>= λ g. a_quote used C A >>= λ A. some (lookup g n A)

unfoldable pub read_lt : Reads
read_lt used C m n _ _ _ = some (lt m n)

unfoldable pub read_le : Reads
read_le used C m n _ _ _ = some (le m n)

unfoldable pub read_max : Reads
read_max used C m n k _ _ = some (max m n k)

unfoldable pub read_interval : Reads
read_interval used C d r _ _ _ = an_interval used C r >>= λ r. some (interval d r)

unfoldable pub read_ishift : Reads
read_ishift used C r k r' _ _ = an_interval used C r >>= λ r. an_interval used C r' >>= λ r'. some (ishift r k r')

unfoldable pub read_isubst : Reads
read_isubst used C r k s r' _ = an_interval used C r >>= λ r. an_interval used C s >>= λ s. an_interval used C r' >>= λ r'. some (isubst r k s r')

unfoldable pub read_shift : Reads
read_shift used C t k t' _ _ = a_quote used C t >>= λ t. a_quote used C t' >>= λ t'. some (shift t k t')

unfoldable pub read_subst : Reads
read_subst used C t k s t' _ = a_quote used C t >>= λ t. a_quote used C s >>= λ s. a_quote used C t' >>= λ t'. some (subst t k s t')

unfoldable pub read_dshift : Reads
read_dshift used C t k t' _ _ = a_quote used C t >>= λ t. a_quote used C t' >>= λ t'. some (dshift t k t')

unfoldable pub read_dsubst : Reads
read_dsubst used C t k r t' _ = a_quote used C t >>= λ t. an_interval used C r >>= λ r. a_quote used C t' >>= λ t'. some (dsubst t k r t')

unfoldable pub read_has : Reads
read_has used C d g t A _ = a_context used C g >>= λ g. a_quote used C t >>= λ t. a_quote used C A >>= λ A. some (has d g t A)

unfoldable pub read_eq : Reads
read_eq used C d g a b A = a_context used C g >>= λ g. a_quote used C a >>= λ a. a_quote used C b >>= λ b. a_quote used C A >>= λ A. some (eq d g a b A)

unfoldable pub read_iend : Reads
read_iend used C r e _ _ _ = an_interval used C r >>= λ r. an_interval used C e >>= λ e. some (iend r e)

unfoldable pub no_reading : Reads
no_reading used C a b c d e = none

abbrev pub readings : List Reads
readings = read_ctx ∷ read_dshiftctx ∷ read_lookup ∷ read_lt ∷ read_le ∷ read_max ∷ read_interval ∷ read_ishift ∷ read_isubst ∷ read_shift ∷ read_subst ∷ read_dshift ∷ read_dsubst ∷ read_has ∷ read_eq ∷ read_iend ∷ []

-- end of readings

abbrev pub concluding : ℕ → Reads
concluding rule = get_or readings (kind_of rule) no_reading

-- rows: 24 words, as docs/FORMAT.md has them

abbrev pub row_word : ℕ → List ℕ → ℕ → ℕ
row_word k R i = get_or R (i * 24 + k) 0

unfoldable pub cited_at : List ℕ → ℕ → List ℕ
cited_at R i = take (row_word 1 R i) (row_word 2 R i ∷ row_word 3 R i ∷ row_word 4 R i ∷ row_word 5 R i ∷ row_word 6 R i ∷ row_word 7 R i ∷ row_word 8 R i ∷ row_word 9 R i ∷ row_word 10 R i ∷ row_word 11 R i ∷ [])

unfoldable pub row_at : ℕ → List ℕ → List ℕ → ℕ → Option Row
row_at n R C i = concluding (row_word 0 R i) n C (row_word 13 R i) (row_word 14 R i) (row_word 15 R i) (row_word 16 R i) (row_word 17 R i) >>= λ j. some (record { rule = row_word 0 R i; refs = cited_at R i; judgment = j })

-- so many rows, over so many cells, the newest first
unfoldable pub table_at : (rows cells : ℕ) → List ℕ → List ℕ → Option (List Row)
table_at ℕ.zero n R C = some []
table_at (ℕ.suc i) n R C = row_at n R C i >>= λ r. table_at i n R C >>= λ rs. some (r ∷ rs)

-- what stands in the words of a cell, of a row and of an answer, each as docs/FORMAT.md has it

abbrev pub four : ℕ → Option ℕ → Option ℕ → Option ℕ → List (Option ℕ)
four kind a b c = some kind ∷ a ∷ b ∷ c ∷ []

-- Words 0 to 3 of a thing, counted when `xs` were: its kind, its numbers, and the cells of its parts. Unused places are 0.
unfoldable pub cell_words : List Thing → Thing → List (Option ℕ)
cell_words xs (inference (key d g t)) = four 40 (some d) (cell xs (S.context g)) (cell xs (term t))
-- written by tools/written.py: words of a cell
cell_words xs (term (Universe n)) = four 1 (some n) (some 0) (some 0)
cell_words xs (term (Var n)) = four 2 (some n) (some 0) (some 0)
cell_words xs (term Nat) = four 3 (some 0) (some 0) (some 0)
cell_words xs (term Zero) = four 4 (some 0) (some 0) (some 0)
cell_words xs (term (Pi a b)) = four 5 (cell xs (term a)) (cell xs (term b)) (some 0)
cell_words xs (term (Lam a b)) = four 6 (cell xs (term a)) (cell xs (term b)) (some 0)
cell_words xs (term (App a b)) = four 7 (cell xs (term a)) (cell xs (term b)) (some 0)
cell_words xs (term (Path a b c)) = four 8 (cell xs (term a)) (cell xs (term b)) (cell xs (term c))
cell_words xs (term (PathLam a b)) = four 9 (cell xs (term a)) (cell xs (term b)) (some 0)
cell_words xs (term (PathApp a b)) = four 10 (cell xs (term a)) (cell xs (S.interval b)) (some 0)
cell_words xs (term (Sigma a b)) = four 11 (cell xs (term a)) (cell xs (term b)) (some 0)
cell_words xs (term (Pair a b c)) = four 12 (cell xs (term a)) (cell xs (term b)) (cell xs (term c))
cell_words xs (term (Fst a)) = four 13 (cell xs (term a)) (some 0) (some 0)
cell_words xs (term (Snd a)) = four 14 (cell xs (term a)) (some 0) (some 0)
cell_words xs (S.interval I0) = four 16 (some 0) (some 0) (some 0)
cell_words xs (S.interval I1) = four 17 (some 0) (some 0) (some 0)
cell_words xs (S.interval (Dim n)) = four 18 (some n) (some 0) (some 0)
cell_words xs (S.interval (Neg a)) = four 19 (cell xs (S.interval a)) (some 0) (some 0)
cell_words xs (S.interval (Meet a b)) = four 20 (cell xs (S.interval a)) (cell xs (S.interval b)) (some 0)
cell_words xs (S.interval (Join a b)) = four 21 (cell xs (S.interval a)) (cell xs (S.interval b)) (some 0)
cell_words xs (S.context Nil) = four 32 (some 0) (some 0) (some 0)
cell_words xs (S.context (Cons a b)) = four 33 (cell xs (term a)) (cell xs (S.context b)) (some 0)

-- end of words of a cell

abbrev pub words_at : List ℕ → ℕ → List (Option ℕ)
words_at C n = four (kind_word C n) (some (part 1 C n)) (some (part 2 C n)) (some (part 3 C n))

-- the cells that are in use when xs are counted
pub record CellsWords (xs : List Thing) (C : List ℕ) : Type 0 where
  pub each : (x : Thing) (before : List Thing) → Counted x before xs → words_at C (length before) ≡ cell_words before x

-- Words 4 and 5 of a remembered inference: the cell of its type, and its row, the newest that were stored.
abbrev pub memory_words : List Thing → Option (Term × ℕ) → List (Option ℕ)
memory_words xs (some (type, row)) = cell xs (term type) ∷ some row ∷ []
memory_words xs none = []

abbrev pub MemoryWords : State → List ℕ → Type 0
MemoryWords s C = (k : Key) (before : List Thing) → Counted (inference k) before s.cells → (some (part 4 C (length before)) ∷ some (part 5 C (length before)) ∷ []) ≡ memory_words s.cells (recall k s.memory)

-- an argument of a row: a number as itself, else the lowest cell with the quote
abbrev pub argument_word : List Thing → Argument → Option ℕ
argument_word xs (number n) = some n
argument_word xs (of_interval r) = quoted xs (Shown.an_interval r)
argument_word xs (of_quote t) = quoted xs (Shown.a_quote t)
argument_word xs (of_context g) = quoted xs (Shown.a_context g)

-- the words of row i are those of r; unused places are 0
pub record RowWords (xs : List Thing) (R : List ℕ) (i : ℕ) (r : Row) : Type 0 where
  pub rule : row_word 0 R i ≡ r.rule
  pub cited : row_word 1 R i ≡ length r.refs
  pub places : (k : ℕ) → k < 10 → row_word (2 + k) R i ≡ get_or r.refs k 0
  pub count : row_word 12 R i ≡ length (arguments r.judgment)
  pub judgment : (k : ℕ) → k < 5 → some (row_word (13 + k) R i) ≡ argument_word xs (get_or (arguments r.judgment) k (number 0))

-- a state's table in words, and what they are read back as
pub record TableWords (s : State) (R C : List ℕ) : Type 0 where
  pub read : table_at (length s.rows) (length s.cells) R C ≡ some s.rows
  pub each_row : (i : ℕ) (r : Row) → RowAt i r s.rows → RowWords s.cells R i r
  pub cells : CellsWords s.cells C

-- the result of an answer: 0, a level, or the lowest cell with the quote of a term
abbrev pub result_word : List Thing → Result → Option ℕ
result_word xs no_result = some 0
result_word xs (a_level l) = some l
result_word xs (a_term t) = quoted xs (Shown.a_quote (quote t))

-- the four words of answer k are those of a
pub record AnswerWords (xs : List Thing) (A : List ℕ) (k : ℕ) (a : Answer) : Type 0 where
  pub number : get_or A (k * 4) 0 ≡ a.number
  pub row : get_or A (k * 4 + 1) 0 ≡ a.row
  pub result : some (get_or A (k * 4 + 2) 0) ≡ result_word xs a.result
  pub deepest : get_or A (k * 4 + 3) 0 ≡ a.deepest

-- answer k is a
pub data AnswerAt (a : Answer) : ℕ → List Answer → Type 0 where
  this_answer : {answers : List Answer} → AnswerAt a 0 (a ∷ answers)
  later_answer : {k : ℕ} {b : Answer} {answers : List Answer} → AnswerAt a k answers → AnswerAt a (suc k) (b ∷ answers)

-- call k is c
pub data CallAt (c : Call) : ℕ → List Call → Type 0 where
  this_call : {calls : List Call} → CallAt c 0 (c ∷ calls)
  later_call : {k : ℕ} {b : Call} {calls : List Call} → CallAt c k calls → CallAt c (suc k) (b ∷ calls)

-- a result by what its word is read as: 0, a level, or a cell in use with the quote of a term
abbrev pub Named : ℕ → List ℕ → ℕ → Result → Type 0
Named n C w no_result = w ≡ 0
Named n C w (a_level l) = w ≡ l
Named n C w (a_term t) = a_quote n C w ≡ some (quote t)

-- over n cells, the row that the words of answer k name states the judgment of the call, with the result that they name
pub record States (n : ℕ) (C A : List ℕ) (table : List Row) (k : ℕ) (c : Call) : Type 0 where
  pub result : Result
  pub named : Named n C (get_or A (k * 4 + 2) 0) result
  pub judgment : Judgment
  pub judged : judgment_of c result ≡ some judgment
  pub states : At (get_or A (k * 4 + 1) 0) judgment table
