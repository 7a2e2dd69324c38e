-- The codes of a run's calls, as bytes.
use Rattle.std.specs.Prelude.{ℕ, ◌≤◌, ◌≡◌, List, [], ◌∷◌, Bool, true, false, ltb, length}
use Rattle.walk.specs.Reader.{Read, got, bad, Call, Sent, all_calls, read_run}
use Rattle.syntax.specs.Told.{code_number}
use Rattle.syntax.specs.Calls.{CallsAt}

abbrev pub codes_of : List Call → List ℕ
codes_of [] = []
codes_of (call ∷ calls) = code_number call.code ∷ codes_of calls

-- Of a run that is read; a run that is refused with 2 or 3 has none.
unfoldable pub codes_in : Read (ℕ × List Call) → List ℕ
codes_in (got (limit, calls) rest at) = codes_of calls
codes_in (bad place) = []

unfoldable pub unless_over : Bool → List ℕ → List ℕ
unless_over true codes = []
unless_over false codes = codes

abbrev pub call_codes : List ℕ → List ℕ
call_codes bytes = unless_over (ltb 65536 (length bytes)) (codes_in (read_run bytes))

-- What a run that was read is: these are sent, from the third byte on.
pub record Readable (bytes : List ℕ) : Type 0 where
  pub few : length bytes ≤ 65536
  pub sents : List Sent
  pub all : CallsAt bytes 2 sents
  pub are : call_codes bytes ≡ codes_of (all_calls sents)
