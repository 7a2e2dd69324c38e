-- When two transforms cancel or commute, and what a transform puts under a binder. That they do so on all terms is proved in proofs/Squares.
use Rattle.std.specs.Prelude.{ℕ, ◌≡◌, Bool, false}
use Rattle.std.proofs.Math.Bool.{true}
use Rattle.walk.specs.Syntax.{Interval, Var}
use Rattle.walk.specs.Walk.Reference.{Op, Shift, DShift}
use Rattle.laws.specs.Transforms.{at_var, at_interval, transform, under}

-- of a term

-- where R relates p and q, q undoes p
pub record Cancels (R : Op → Op → Type 0) : Type 0 where
  pub binder : {p q : Op} → R p q → (d : Bool) → R (under p d) (under q d)
  pub var : {p q : Op} → R p q → (n : ℕ) → transform q (at_var p n) ≡ Var n
  pub interval : {p q : Op} → R p q → (r : Interval) → at_interval q (at_interval p r) ≡ r

-- where R relates the four, p then q is p' then q'
pub record Commutes (R : Op → Op → Op → Op → Type 0) : Type 0 where
  pub binder : {p q p' q' : Op} → R p q p' q' → (d : Bool) → R (under p d) (under q d) (under p' d) (under q' d)
  pub var : {p q p' q' : Op} → R p q p' q' → (n : ℕ) → transform q (at_var p n) ≡ transform q' (at_var p' n)
  pub interval :
      {p q p' q' : Op} → R p q p' q' →
      (r : Interval) → at_interval q (at_interval p r) ≡ at_interval q' (at_interval p' r)

-- a shift is the same whatever lifts

pub data Shifts : Op → Type 0 where
  vars : {k : ℕ} → Shifts (Shift k)
  dims : {k : ℕ} → Shifts (DShift k)

abbrev pub lift : Bool → Op
lift false = Shift 0
lift true = DShift 0
