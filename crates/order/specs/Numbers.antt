-- The largest number that stands in a term, a judgment or a cell, and what it means that a run leaves none above `largest`.
use Rattle.std.specs.Prelude.{ℕ, ◌≤◌, max, List, [], ◌∷◌}
use Rattle.walk.specs.Syntax.{Interval, I0, I1, Dim, Neg, Meet, Join, Term, Universe, Var, Nat, Zero, Pi, Lam, App, Path, PathLam, PathApp, Sigma, Pair, Fst, Snd, Context, Nil, Cons, Quote, u, v, nat, zero, pi, lam, app, path, plam, papp, sigma, pair, fst, snd, Quotes, nil, cons}
use Rattle.walk.specs.Judgment.{Judgment, ctx, dshiftctx, lookup, lt, le, max as is_max, interval, ishift, isubst, shift, subst, dshift, dsubst, has, eq, iend}
use Rattle.walk.specs.State.{Key, key, Thing, term, context, inference, Memory, State}
use Rattle.walk.specs.Run.{Result, no_result, a_level, a_term, Ran}

-- What no number passes.
abbrev pub largest : ℕ
largest = 65535

-- A dimension of an interval; an index, a level or a dimension of a term, its annotations included. 0 where there is none.
abbrev pub interval_top : Interval → ℕ
-- written by tools/written.py: numbers of an interval
interval_top I0 = 0
interval_top I1 = 0
interval_top (Dim n) = n
interval_top (Neg a) = interval_top a
interval_top (Meet a b) = max (interval_top a) (interval_top b)
interval_top (Join a b) = max (interval_top a) (interval_top b)

-- end of numbers of an interval

abbrev pub term_top : Term → ℕ
-- written by tools/written.py: numbers of a term
term_top (Universe n) = n
term_top (Var n) = n
term_top Nat = 0
term_top Zero = 0
term_top (Pi a b) = max (term_top a) (term_top b)
term_top (Lam a b) = max (term_top a) (term_top b)
term_top (App a b) = max (term_top a) (term_top b)
term_top (Path a b c) = max (term_top a) (max (term_top b) (term_top c))
term_top (PathLam a b) = max (term_top a) (term_top b)
term_top (PathApp a b) = max (term_top a) (interval_top b)
term_top (Sigma a b) = max (term_top a) (term_top b)
term_top (Pair a b c) = max (term_top a) (max (term_top b) (term_top c))
term_top (Fst a) = term_top a
term_top (Snd a) = term_top a

-- end of numbers of a term

abbrev pub context_top : Context → ℕ
context_top Nil = 0
context_top (Cons a g) = max (term_top a) (context_top g)

-- The same of quotes, which have no annotations.
abbrev pub quote_top : Quote → ℕ
-- written by tools/written.py: numbers of a quote
quote_top (u n) = n
quote_top (v n) = n
quote_top nat = 0
quote_top zero = 0
quote_top (pi a b) = max (quote_top a) (quote_top b)
quote_top (lam b) = quote_top b
quote_top (app a b) = max (quote_top a) (quote_top b)
quote_top (path a b c) = max (quote_top a) (max (quote_top b) (quote_top c))
quote_top (plam b) = quote_top b
quote_top (papp a b) = max (quote_top a) (interval_top b)
quote_top (sigma a b) = max (quote_top a) (quote_top b)
quote_top (pair b c) = max (quote_top b) (quote_top c)
quote_top (fst a) = quote_top a
quote_top (snd a) = quote_top a

-- end of numbers of a quote

abbrev pub quotes_top : Quotes → ℕ
quotes_top nil = 0
quotes_top (cons a g) = max (quote_top a) (quotes_top g)

-- All the numbers of a judgment: its dimension count, index, cutoff, or the numbers compared, and those in its quotes.
abbrev pub judgment_top : Judgment → ℕ
judgment_top (ctx d g) = max d (quotes_top g)
judgment_top (dshiftctx g k h) = max k (max (quotes_top g) (quotes_top h))
judgment_top (lookup g n t) = max n (max (quotes_top g) (quote_top t))
judgment_top (lt m n) = max m n
judgment_top (le m n) = max m n
judgment_top (is_max m n k) = max m (max n k)
judgment_top (interval d r) = max d (interval_top r)
judgment_top (ishift r k q) = max k (max (interval_top r) (interval_top q))
judgment_top (isubst r k q p) = max k (max (interval_top r) (max (interval_top q) (interval_top p)))
judgment_top (shift t k r) = max k (max (quote_top t) (quote_top r))
judgment_top (subst t k r p) = max k (max (quote_top t) (max (quote_top r) (quote_top p)))
judgment_top (dshift t k r) = max k (max (quote_top t) (quote_top r))
judgment_top (dsubst t k r p) = max k (max (quote_top t) (max (interval_top r) (quote_top p)))
judgment_top (has d g t a) = max d (max (quotes_top g) (max (quote_top t) (quote_top a)))
judgment_top (eq d g a b t) = max d (max (quotes_top g) (max (quote_top a) (max (quote_top b) (quote_top t))))
judgment_top (iend r e) = max (interval_top r) (interval_top e)

-- The key of an inference has a dimension count too.
abbrev pub key_top : Key → ℕ
key_top (key d g t) = max d (max (context_top g) (term_top t))

-- What a cell holds.
abbrev pub thing_top : Thing → ℕ
thing_top (term t) = term_top t
thing_top (Thing.interval r) = interval_top r
thing_top (context g) = context_top g
thing_top (inference k) = key_top k

-- A remembered inference: its key and the type found.
abbrev pub memory_top : Memory → ℕ
memory_top m = max (key_top m.of) (term_top m.type)

-- A call's result: a level, a term, or nothing.
abbrev pub result_top : Result → ℕ
result_top no_result = 0
result_top (a_level l) = l
result_top (a_term t) = term_top t

-- Of each element of a list, `top` is at most m.
pub data AtMost {A : Type 0} (m : ℕ) (top : A → ℕ) : List A → Type 0 where
  at_most_nil : AtMost m top []
  at_most_cons : {x : A} {xs : List A} → top x ≤ m → AtMost m top xs → AtMost m top (x ∷ xs)

-- No number in a state's rows, cells or memory passes `largest`.
pub record StateBounded (s : State) : Type 0 where
  pub rows : AtMost largest (λ r. judgment_top r.judgment) s.rows
  pub cells : AtMost largest thing_top s.cells
  pub memory : AtMost largest memory_top s.memory

-- No number in what a run leaves or answers passes `largest`.
pub record NumbersBounded (ran : Ran) : Type 0 where
  pub last : StateBounded ran.last
  pub answers : AtMost largest (λ a. result_top a.result) ran.answers
