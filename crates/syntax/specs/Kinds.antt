-- The byte of each code: what the reader's table gives back stands at its byte. Assumes nothing.
use Rattle.std.specs.Prelude.{ℕ, ◌≡◌, refl, get_or}
use Rattle.std.proofs.Math.Option.{none, some}
use Rattle.std.proofs.Common.{arith}
use Rattle.walk.specs.Reader.{Code, codes}
use Rattle.walk.specs.Bytes.{Table, end, entry, found}
use Rattle.syntax.specs.Told.{code_number}

pub code_is : (b : ℕ) (c : Code) → get_or codes b none ≡ some c → b ≡ code_number c
code_is b c e = let f = found {byte = code_number} table b c e in omega arith
  where
    table : Table code_number 0 codes
    -- written by tools/written.py: table of codes
    table = entry refl (entry refl (entry refl (entry refl (entry refl (entry refl (entry refl (entry refl end)))))))
    -- end of table of codes
