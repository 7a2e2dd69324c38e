-- What a call leaves: the table in order, and if the call is accepted a row that states its judgment; so of the calls of a list.
-- That each call leaves it is proved in proofs/Calls: `play_left`, `play_all_left`.
use Rattle.std.specs.Prelude.{◌≡◌, List}
use Rattle.walk.specs.State.{Row, State}
use Rattle.walk.specs.Reader.{Call}
use Rattle.walk.specs.Run.{Answer}
use Rattle.walk.specs.Demand.{Extends, Stated, AllStated}
use Rattle.walk.specs.Sound.Logic.{Good}

-- what a call leaves, from rows rs
pub record Left (call : Call) (rs : List Row) (out : Answer × State) : Type 0 where
  pub good : Good out.1
  pub grows : Extends rs out.1.rows
  pub stated : out.0.number ≡ 0 → Stated out.1.rows call out.0

-- what calls leave
pub record AllLeft (calls : List Call) (rs : List Row) (out : List Answer × State) : Type 0 where
  pub good : Good out.1
  pub grows : Extends rs out.1.rows
  pub stated : AllStated out.1.rows calls out.0
