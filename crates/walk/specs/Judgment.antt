-- The kinds of judgment, by quote: what a row of the table states.
use Rattle.std.specs.Prelude.{ℕ, List, [], ◌∷◌}
use Rattle.std.proofs.Math.Decide.{ℕ_discrete}
use Rattle.walk.specs.Syntax.{Interval, Quote, Quotes, interval?, quote?, quotes?}

-- d is a dimension count, g and h contexts, k a cutoff or the place of what is put in.
pub data Judgment : Type 0 where
  -- written by tools/written.py: judgments
  -- ctx d g: g is a context
  ctx : ℕ → Quotes → Judgment
  -- dshiftctx g k h: h is g with its dimensions up by one; k is 0
  dshiftctx : Quotes → ℕ → Quotes → Judgment
  -- lookup g n A: variable n of g has the type A, over the whole of g
  lookup : Quotes → ℕ → Quote → Judgment
  -- lt m n: m < n
  lt : ℕ → ℕ → Judgment
  -- le m n: m ≤ n
  le : ℕ → ℕ → Judgment
  -- max m n k: k is the larger of m and n
  max : ℕ → ℕ → ℕ → Judgment
  -- interval d r: the dimensions of r are below d
  interval : ℕ → Interval → Judgment
  -- ishift r k r': r' is r with its dimensions from k on up by one
  ishift : Interval → ℕ → Interval → Judgment
  -- isubst r k s r': r' is r with s for dimension k
  isubst : Interval → ℕ → Interval → Interval → Judgment
  -- shift t k t': t' is t with its variables from k on up by one
  shift : Quote → ℕ → Quote → Judgment
  -- subst t k s t': t' is t with s for variable k
  subst : Quote → ℕ → Quote → Quote → Judgment
  -- dshift t k t': t' is t with its dimensions from k on up by one
  dshift : Quote → ℕ → Quote → Judgment
  -- dsubst t k r t': t' is t with r for dimension k
  dsubst : Quote → ℕ → Interval → Quote → Judgment
  -- has d g t A: t has the type A
  has : ℕ → Quotes → Quote → Quote → Judgment
  -- eq d g a b A: a and b are equal at the type A
  eq : ℕ → Quotes → Quote → Quote → Quote → Judgment
  -- iend r e: r works out to the end e
  iend : Interval → Interval → Judgment
  -- end of judgments
  deriving Discrete as JudgmentDiscrete

unfoldable pub judgment? : Discrete Judgment
judgment? = JudgmentDiscrete ℕ_discrete quotes? quote? interval?

-- Their numbers.
abbrev pub kind : Judgment → ℕ
-- written by tools/written.py: kinds of judgments
kind (ctx d g) = 0
kind (dshiftctx g k h) = 1
kind (lookup g n A) = 2
kind (lt m n) = 3
kind (le m n) = 4
kind (max m n k) = 5
kind (interval d r) = 6
kind (ishift r k r') = 7
kind (isubst r k s r') = 8
kind (shift t k t') = 9
kind (subst t k s t') = 10
kind (dshift t k t') = 11
kind (dsubst t k r t') = 12
kind (has d g t A) = 13
kind (eq d g a b A) = 14
kind (iend r e) = 15

-- end of kinds of judgments

-- The arguments of a judgment, in the order in which a row and the listing have them.
pub data Argument : Type 0 where
  number : ℕ → Argument
  of_interval : Interval → Argument
  of_quote : Quote → Argument
  of_context : Quotes → Argument

abbrev pub arguments : Judgment → List Argument
-- written by tools/written.py: arguments
arguments (ctx d g) = number d ∷ of_context g ∷ []
arguments (dshiftctx g k h) = of_context g ∷ number k ∷ of_context h ∷ []
arguments (lookup g n A) = of_context g ∷ number n ∷ of_quote A ∷ []
arguments (lt m n) = number m ∷ number n ∷ []
arguments (le m n) = number m ∷ number n ∷ []
arguments (max m n k) = number m ∷ number n ∷ number k ∷ []
arguments (interval d r) = number d ∷ of_interval r ∷ []
arguments (ishift r k r') = of_interval r ∷ number k ∷ of_interval r' ∷ []
arguments (isubst r k s r') = of_interval r ∷ number k ∷ of_interval s ∷ of_interval r' ∷ []
arguments (shift t k t') = of_quote t ∷ number k ∷ of_quote t' ∷ []
arguments (subst t k s t') = of_quote t ∷ number k ∷ of_quote s ∷ of_quote t' ∷ []
arguments (dshift t k t') = of_quote t ∷ number k ∷ of_quote t' ∷ []
arguments (dsubst t k r t') = of_quote t ∷ number k ∷ of_interval r ∷ of_quote t' ∷ []
arguments (has d g t A) = number d ∷ of_context g ∷ of_quote t ∷ of_quote A ∷ []
arguments (eq d g a b A) = number d ∷ of_context g ∷ of_quote a ∷ of_quote b ∷ of_quote A ∷ []
arguments (iend r e) = of_interval r ∷ of_interval e ∷ []

-- end of arguments
