-- What it means that no number in what a call leaves or answers passes `largest`. That it is so is proved in proofs/Never: `run_numbers`.
use Rattle.std.specs.Prelude.{◌≤◌, List}
use Rattle.walk.specs.State.{State}
use Rattle.walk.specs.Run.{Answer}
use Rattle.order.specs.Numbers.{largest, result_top, AtMost}
use Rattle.order.specs.Bound.{Fit}

-- an answer with a small result, and a state that fits
pub record Fair (out : Answer × State) : Type 0 where
  pub result : result_top out.0.result ≤ largest
  pub fit : Fit out.1

-- the same of calls in order
pub record AllFair (out : List Answer × State) : Type 0 where
  pub results : AtMost largest (λ a. result_top a.result) out.0
  pub fit : Fit out.1
