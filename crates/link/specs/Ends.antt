-- How a call over words ends as the walk's does. That each does, from any state that the calls before it left, is proved in proofs/Ends.
use Rattle.std.specs.Prelude.{ℕ, List}
use Rattle.producer.specs.Machine.{Machine, Result, is, not}
use Rattle.walk.specs.State.{State, Thing, Outcome, done, refused}
use Rattle.order.specs.Bound.{Fit}
use Rattle.link.specs.Lists.{Extends}
use Rattle.link.specs.Holds.{Before, Holds}

-- both end alike, not by the guard, and what is left fits: the next call starts from there
pub data Ends {A B : Type 0} (o : Before) (xs : List Thing) (Q : B → A → List Thing → Type 0) : Result B → Outcome A → Type 0 where
  in_value : {a : A} {b : B} {w : Machine} {s : State} → Extends xs s.cells → Holds o w s → Fit s → Q b a s.cells → Ends o xs Q (is b w) (done a s)
  in_refusal : {n : ℕ} {w : Machine} {s : State} → Extends xs s.cells → Holds o w s → Fit s → Ends o xs Q (not n w) (refused n s)
