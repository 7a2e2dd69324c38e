-- The texts of the walk's own data: intervals, quotes, contexts, judgments, rows and calls, with no words. Then what it is that words
-- hold such data. That words which hold it have the same text is in Agrees, and of repeats in Repeated. Assumes nothing.
use Rattle.std.specs.Prelude.{ℕ, suc, ◌+◌, ◌<◌, ◌≤◌, ◌≡◌, List, [], ◌∷◌, ◌++◌, true, false, eqb, length}
use Rattle.walk.specs.Syntax.{Term, quote, Interval, I0, I1, Dim, Neg, Meet, Join, Quote, u, v, nat, zero, pi, lam, app, path, plam, papp, sigma, pair, fst, snd, Quotes, nil, cons}
use Rattle.walk.specs.Judgment.{Judgment, kind, Argument, arguments}
use Rattle.walk.specs.Judgment as J
use Rattle.walk.specs.State.{Row}
use Rattle.walk.specs.Reader.{Call, Code, c_context, c_universe, c_infer, c_check, c_normalise, c_equal, c_many, c_headwise}
use Rattle.walk.specs.Run.{Result, no_result, a_level, a_term, Answer}
use Rattle.rules.specs.Names.{bytes, rule_name, judgment_name}
use Rattle.syntax.specs.Told.{code_number}
use Rattle.writer.specs.Text.{Text, decimal}
use Rattle.quotes.specs.Quotes.{cell_word}
use Rattle.quotes.specs.Judgments.{row_word}
use Rattle.lines.specs.Calls.{answer_word, code}

-- A text with others after it, each after a blank; and such a text in parentheses.
abbrev pub spaced : Text → List Text → Text
spaced t [] = t
spaced t (x ∷ xs) = spaced (t ++ (bytes " " ++ x)) xs

abbrev pub called : Text → List Text → Text
called name ts = spaced (bytes "(" ++ name) ts ++ bytes ")"

unfoldable pub interval_text : Interval → Text
-- written by tools/written.py: text of an interval
interval_text I0 = bytes "i0"
interval_text I1 = bytes "i1"
interval_text (Dim n) = called (bytes "dim") (decimal n ∷ [])
interval_text (Neg x) = called (bytes "neg") (interval_text x ∷ [])
interval_text (Meet x y) = called (bytes "meet") (interval_text x ∷ interval_text y ∷ [])
interval_text (Join x y) = called (bytes "join") (interval_text x ∷ interval_text y ∷ [])

-- end of text of an interval

unfoldable pub quote_text : Quote → Text
-- written by tools/written.py: text of a quote
quote_text (u n) = called (bytes "u") (decimal n ∷ [])
quote_text (v n) = called (bytes "v") (decimal n ∷ [])
quote_text nat = bytes "nat"
quote_text zero = bytes "zero"
quote_text (pi x y) = called (bytes "pi") (quote_text x ∷ quote_text y ∷ [])
quote_text (lam y) = called (bytes "lam") (quote_text y ∷ [])
quote_text (app x y) = called (bytes "app") (quote_text x ∷ quote_text y ∷ [])
quote_text (path x y z) = called (bytes "path") (quote_text x ∷ quote_text y ∷ quote_text z ∷ [])
quote_text (plam y) = called (bytes "plam") (quote_text y ∷ [])
quote_text (papp x y) = called (bytes "papp") (quote_text x ∷ interval_text y ∷ [])
quote_text (sigma x y) = called (bytes "sigma") (quote_text x ∷ quote_text y ∷ [])
quote_text (pair y z) = called (bytes "pair") (quote_text y ∷ quote_text z ∷ [])
quote_text (fst x) = called (bytes "fst") (quote_text x ∷ [])
quote_text (snd x) = called (bytes "snd") (quote_text x ∷ [])

-- end of text of a quote

-- A context as (cons last rest).
unfoldable pub context_text : Quotes → Text
context_text nil = bytes "nil"
context_text (cons a g) = called (bytes "cons") (quote_text a ∷ context_text g ∷ [])

unfoldable pub argument_text : Argument → Text
argument_text (J.number n) = decimal n
argument_text (J.of_quote t) = quote_text t
argument_text (J.of_interval r) = interval_text r
argument_text (J.of_context g) = context_text g

abbrev pub all_texts : List Argument → List Text
all_texts [] = []
all_texts (a ∷ as') = argument_text a ∷ all_texts as'

unfoldable pub judgment_text : Judgment → Text
judgment_text j = called (judgment_name (kind j)) (all_texts (arguments j))

-- Word w of cell i is a lower cell.
pub record PartIn (C : List ℕ) (i w j : ℕ) : Type 0 where
  pub word : cell_word C i w ≡ j
  pub lower : j < i

-- Cell i has the quote: its kind, and its parts in lower cells. The annotations of lam, plam and pair may be anything.
pub data IntervalCell (C : List ℕ) : ℕ → Interval → Type 0 where
  -- written by tools/written.py: cell of an interval
  cell_0 : {i : ℕ} → cell_word C i 0 ≡ 16 → IntervalCell C i I0
  cell_1 : {i : ℕ} → cell_word C i 0 ≡ 17 → IntervalCell C i I1
  cell_dim : {i n : ℕ} → cell_word C i 0 ≡ 18 → cell_word C i 1 ≡ n → IntervalCell C i (Dim n)
  cell_neg : {i a : ℕ} {x : Interval} → cell_word C i 0 ≡ 19 → PartIn C i 1 a → IntervalCell C a x → IntervalCell C i (Neg x)
  cell_meet : {i a b : ℕ} {x : Interval} {y : Interval} → cell_word C i 0 ≡ 20 → PartIn C i 1 a → IntervalCell C a x → PartIn C i 2 b → IntervalCell C b y → IntervalCell C i (Meet x y)
  cell_join : {i a b : ℕ} {x : Interval} {y : Interval} → cell_word C i 0 ≡ 21 → PartIn C i 1 a → IntervalCell C a x → PartIn C i 2 b → IntervalCell C b y → IntervalCell C i (Join x y)
  -- end of cell of an interval

pub data QuoteCell (C : List ℕ) : ℕ → Quote → Type 0 where
  -- written by tools/written.py: cell of a quote
  cell_u : {i n : ℕ} → cell_word C i 0 ≡ 1 → cell_word C i 1 ≡ n → QuoteCell C i (u n)
  cell_v : {i n : ℕ} → cell_word C i 0 ≡ 2 → cell_word C i 1 ≡ n → QuoteCell C i (v n)
  cell_nat : {i : ℕ} → cell_word C i 0 ≡ 3 → QuoteCell C i nat
  cell_zero : {i : ℕ} → cell_word C i 0 ≡ 4 → QuoteCell C i zero
  cell_pi : {i a b : ℕ} {x : Quote} {y : Quote} → cell_word C i 0 ≡ 5 → PartIn C i 1 a → QuoteCell C a x → PartIn C i 2 b → QuoteCell C b y → QuoteCell C i (pi x y)
  cell_lam : {i b : ℕ} {y : Quote} → cell_word C i 0 ≡ 6 → PartIn C i 2 b → QuoteCell C b y → QuoteCell C i (lam y)
  cell_app : {i a b : ℕ} {x : Quote} {y : Quote} → cell_word C i 0 ≡ 7 → PartIn C i 1 a → QuoteCell C a x → PartIn C i 2 b → QuoteCell C b y → QuoteCell C i (app x y)
  cell_path : {i a b c : ℕ} {x : Quote} {y : Quote} {z : Quote} → cell_word C i 0 ≡ 8 → PartIn C i 1 a → QuoteCell C a x → PartIn C i 2 b → QuoteCell C b y → PartIn C i 3 c → QuoteCell C c z → QuoteCell C i (path x y z)
  cell_plam : {i b : ℕ} {y : Quote} → cell_word C i 0 ≡ 9 → PartIn C i 2 b → QuoteCell C b y → QuoteCell C i (plam y)
  cell_papp : {i a b : ℕ} {x : Quote} {y : Interval} → cell_word C i 0 ≡ 10 → PartIn C i 1 a → QuoteCell C a x → PartIn C i 2 b → IntervalCell C b y → QuoteCell C i (papp x y)
  cell_sigma : {i a b : ℕ} {x : Quote} {y : Quote} → cell_word C i 0 ≡ 11 → PartIn C i 1 a → QuoteCell C a x → PartIn C i 2 b → QuoteCell C b y → QuoteCell C i (sigma x y)
  cell_pair : {i b c : ℕ} {y : Quote} {z : Quote} → cell_word C i 0 ≡ 12 → PartIn C i 2 b → QuoteCell C b y → PartIn C i 3 c → QuoteCell C c z → QuoteCell C i (pair y z)
  cell_fst : {i a : ℕ} {x : Quote} → cell_word C i 0 ≡ 13 → PartIn C i 1 a → QuoteCell C a x → QuoteCell C i (fst x)
  cell_snd : {i a : ℕ} {x : Quote} → cell_word C i 0 ≡ 14 → PartIn C i 1 a → QuoteCell C a x → QuoteCell C i (snd x)
  -- end of cell of a quote

pub data ContextCell (C : List ℕ) : ℕ → Quotes → Type 0 where
  cell_nil : {i : ℕ} → cell_word C i 0 ≡ 32 → ContextCell C i nil
  cell_cons : {i a b : ℕ} {t : Quote} {g : Quotes} → cell_word C i 0 ≡ 33 → PartIn C i 1 a → QuoteCell C a t → PartIn C i 2 b → ContextCell C b g → ContextCell C i (cons t g)

-- A word holds an argument: a number itself, any other by a cell with that quote.
pub data ArgumentWord (C : List ℕ) : ℕ → Argument → Type 0 where
  word_number : {n : ℕ} → ArgumentWord C n (J.number n)
  word_term : {i : ℕ} {t : Quote} → QuoteCell C i t → ArgumentWord C i (J.of_quote t)
  word_interval : {i : ℕ} {r : Interval} → IntervalCell C i r → ArgumentWord C i (J.of_interval r)
  word_context : {i : ℕ} {g : Quotes} → ContextCell C i g → ArgumentWord C i (J.of_context g)

-- Row i holds these arguments, from the n-th place on.
pub data ArgumentsIn (R C : List ℕ) (i : ℕ) : ℕ → List Argument → Type 0 where
  no_more : {n : ℕ} → ArgumentsIn R C i n []
  and_then : {n : ℕ} {a : Argument} {as' : List Argument} → ArgumentWord C (row_word R i (13 + n)) a → ArgumentsIn R C i (suc n) as' → ArgumentsIn R C i n (a ∷ as')

-- rows

abbrev pub commas : List ℕ → Text
commas [] = []
commas (n ∷ ns) = bytes "," ++ decimal n ++ commas ns

unfoldable pub refs_text : List ℕ → Text
refs_text [] = bytes "-"
refs_text (n ∷ ns) = decimal n ++ commas ns

-- The line of row i.
unfoldable pub row_text : ℕ → Row → Text
row_text i r = decimal i ++ bytes " " ++ rule_name r.rule ++ bytes " " ++ refs_text r.refs ++ bytes " " ++ judgment_text r.judgment ++ bytes "\n"

-- Row i cites these rows, from the k-th place on.
pub data RefsIn (R : List ℕ) (i : ℕ) : ℕ → List ℕ → Type 0 where
  no_refs : {k : ℕ} → RefsIn R i k []
  and_ref : {k n : ℕ} {ns : List ℕ} → row_word R i (2 + k) ≡ n → RefsIn R i (suc k) ns → RefsIn R i k (n ∷ ns)

-- The words hold the row, as docs/FORMAT.md has it.
pub record RowIn (R C : List ℕ) (i : ℕ) (r : Row) : Type 0 where
  pub rule : row_word R i 0 ≡ r.rule
  pub count : row_word R i 1 ≡ length r.refs
  pub few : length r.refs ≤ 10
  pub refs : RefsIn R i 0 r.refs
  pub arguments : ArgumentsIn R C i 0 (arguments r.judgment)

-- calls

-- What a call's line shows of its result: a level, a term by quote, or -.
unfoldable pub result_text : Result → Text
result_text no_result = bytes "-"
result_text (a_level l) = decimal l
result_text (a_term t) = quote_text (quote t)

-- The row of an accepted call, else -.
unfoldable pub accepted_row : ℕ → ℕ → Text
accepted_row number row = elim (eqb number 0) [ true ↦ decimal row | false ↦ bytes "-" ]

-- The line of call i.
unfoldable pub call_text : ℕ → Answer → Text
call_text i a = decimal i ++ bytes " " ++ decimal a.number ++ bytes " " ++ accepted_row a.number a.row ++ bytes " " ++ result_text a.result ++ bytes " " ++ decimal a.deepest ++ bytes "\n"

-- A word holds the result of an accepted call with this code.
pub data ResultIn (C : List ℕ) (x : ℕ) : Code → Result → Type 0 where
  of_context : ResultIn C x c_context no_result
  of_universe : ResultIn C x c_universe (a_level x)
  of_infer : {t : Term} → QuoteCell C x (quote t) → ResultIn C x c_infer (a_term t)
  of_check : ResultIn C x c_check no_result
  of_normalise : {t : Term} → QuoteCell C x (quote t) → ResultIn C x c_normalise (a_term t)
  of_equal : ResultIn C x c_equal no_result
  of_head : {t : Term} → QuoteCell C x (quote t) → ResultIn C x c_headwise (a_term t)

-- An accepted call has its result in the word; a refused one has none.
pub data Ended (C : List ℕ) (x : ℕ) (c : Code) : ℕ → Result → Type 0 where
  accepted : {r : Result} → ResultIn C x c r → Ended C x c 0 r
  refused : {n : ℕ} → Ended C x c (suc n) no_result

-- The words hold the code and the answer of call i.
pub record CallIn (codes A C : List ℕ) (i : ℕ) (c : Code) (a : Answer) : Type 0 where
  pub code : code codes i ≡ code_number c
  pub number : answer_word A i 0 ≡ a.number
  pub row : answer_word A i 1 ≡ a.row
  pub deepest : answer_word A i 3 ≡ a.deepest
  pub ended : Ended C (answer_word A i 2) c a.number a.result

-- The words hold the codes and the answers of calls, from call i on.
pub data CallsIn (codes A C : List ℕ) : ℕ → List Call → List Answer → Type 0 where
  no_calls : {i : ℕ} → CallsIn codes A C i [] []
  and_call : {i : ℕ} {call : Call} {a : Answer} {calls : List Call} {answers : List Answer} → CallIn codes A C i call.code a → CallsIn codes A C (suc i) calls answers → CallsIn codes A C i (call ∷ calls) (a ∷ answers)
