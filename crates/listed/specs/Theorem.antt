-- The codes that a listing is given. That what `listing` prints of a run is then the listing of the walk's run is proved in proofs/Theorem:
-- `listing_is`.
use Rattle.std.specs.Prelude.{ℕ, ◌<◌, List, length, get_or}
use Rattle.std.proofs.Math.Path.{◌≡◌}
use Rattle.walk.specs.Reader.{Call}
use Rattle.lines.specs.Calls.{code}
use Rattle.syntax.specs.Codes.{codes_of}

-- The codes that the listing is given are those of the calls; what stands past them does not matter.
pub record CodesOf (calls : List Call) (codes : List ℕ) : Type 0 where
  pub each_code : (i : ℕ) → i < length calls → code codes i ≡ get_or (codes_of calls) i 0
