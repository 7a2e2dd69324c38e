-- The operations of the transforms, and the nineteen reference functions as one record: each body of the walk is a
-- definition over the functions that it calls.
use Rattle.std.specs.Prelude.{ℕ, List, [], Bool}
use Rattle.std.proofs.Math.Option.{Option}
use Rattle.walk.specs.Syntax.{Interval, Term, Context}
use Rattle.walk.specs.State.{M, Thing, of_interval, of_term}

-- `Op`: shift from k on, or put r for k; of variables, or of dimensions.
pub data Op : Type 0 where
  Shift : ℕ → Op
  Subst : ℕ → Term → Op
  DShift : ℕ → Op
  DSubst : ℕ → Interval → Op

-- The same of an interval: `itransform` with its replacement or without.
pub data IOp : Type 0 where
  IShift : ℕ → IOp
  ISubst : ℕ → Interval → IOp

-- What an operation holds takes cells with the other arguments.
abbrev pub of_op : Op → List Thing
of_op (Shift k) = []
of_op (Subst k r) = of_term r
of_op (DShift k) = []
of_op (DSubst k r) = of_interval r

abbrev pub of_iop : IOp → List Thing
of_iop (IShift k) = []
of_iop (ISubst k r) = of_interval r

-- An end of the interval: i0 or i1.
pub data End : Type 0 where
  E0 : End
  E1 : End
  deriving Discrete as EndDiscrete

-- A step of `reduce` or of `head_step`: the term, its type, and the row of the equation. (The source has no type here: its `normalize` reads it from the row,
-- where it stands by quote. A known row has the same judgment, so it is the same.)
pub record Step : Type 0 where
  pub term : Term
  pub type : Term
  pub row : ℕ

-- What `infer` finds for a term: its type, and the rows and the rule by which it has it.
pub record Found : Type 0 where
  pub type : Term
  pub refs : List ℕ
  pub rule : ℕ

-- The nineteen reference functions, and how they make the number after n: `more n`.
pub record Callees : Type 0 where
  pub ctx : ℕ → Context → M ℕ
  pub infer : ℕ → Context → Term → M (Term × ℕ)
  pub universe : ℕ → Context → Term → M (ℕ × ℕ)
  pub check : ℕ → Context → Term → Term → M ℕ
  pub expose : ℕ → Context → Term → Term → ℕ → M (Term × ℕ)
  pub normalize : ℕ → Context → Term → Term → M (Term × ℕ)
  pub equal : ℕ → Context → Term → Term → Term → M ℕ
  pub reduce : ℕ → Context → Term → M (Option Step)
  pub head_normalize : ℕ → Context → Term → Term → M (Term × ℕ)
  pub head_step : ℕ → Context → Term → M (Option Step)
  pub lookup : Context → ℕ → M (Term × ℕ)
  pub dshiftctx : Context → M (Context × ℕ)
  pub transform : Term → Op → M (Term × ℕ)
  pub itransform : Interval → IOp → M (Interval × ℕ)
  pub under : Op → Bool → M (Op × List ℕ)
  pub interval : ℕ → Interval → M ℕ
  pub endpoint : Interval → M (Option (End × ℕ))
  pub comparison : ℕ → ℕ → Bool → M ℕ
  pub max : ℕ → ℕ → M ℕ
  pub more : ℕ → M ℕ
