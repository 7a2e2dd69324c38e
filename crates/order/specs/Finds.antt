-- Working an interval out misses no end. Wherever `endpoint` is not refused, it answers the end that the interval has where every dimension
-- is worth a middle element, and none where it has a middle value: `Finds`. That it is so is `finds` of proofs/Finds. So, by `Algebra`, it
-- answers e exactly where `iend r e` is derivable, which is where r is e in the free De Morgan algebra: `answers_derivable`, `no_end` there.
use Rattle.std.specs.Prelude.{ℕ, ◌≡◌, true, false}
use Rattle.std.proofs.Math.Option.{Option, none, some}
use Rattle.walk.specs.Syntax.{Interval}
use Rattle.walk.specs.State.{State, Outcome, done, refused, M}
use Rattle.walk.specs.Walk.Reference.{End, Callees}
use Rattle.walk.specs.Walk.Endpoints.{literal}
use Rattle.order.specs.Algebra.{Four, value, middle}

-- what an end is worth
abbrev pub worth : End → Four
worth e = value middle (literal e)

-- what an answer says of r
abbrev pub Said : Interval → Option (End × ℕ) → Type 0
Said r none = value middle r ≡ (true, false)
Said r (some (e, x)) = value middle r ≡ worth e

-- P holds of what m gives, where it is not refused
abbrev pub Given : {A : Type 0} → (A → Type 0) → Outcome A → Type 0
Given P (done a s) = P a
Given P (refused n s) = Unit {0}

pub record Gives {A : Type 0} (P : A → Type 0) (m : M A) : Type 0 where
  pub gives : (s : State) → Given P (m s)

pub record Finds (c : Callees) : Type 0 where
  pub endpoint : (r : Interval) → Gives (Said r) (c.endpoint r)
