-- The codes that `scan` and `call_codes` leave. That a program that lists with these prints the walk's listing is proved in proofs/Codes.
use Rattle.std.specs.Prelude.{ℕ, ◌≡◌, List, []}
use Rattle.walk.specs.Reader.{Call}
use Rattle.syntax.specs.Codes.{codes_of, call_codes}

-- a run is refused as a whole, and has no calls; or its calls are those that are read
pub data Coded (bytes : List ℕ) (calls : List Call) : Type 0 where
  no_calls : calls ≡ [] → Coded bytes calls
  all_read : call_codes bytes ≡ codes_of calls → Coded bytes calls
