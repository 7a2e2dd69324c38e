-- The byte of each kind of context, as `walk`'s Bytes has those of the reader's tables. Assumes nothing.
use Rattle.std.specs.Prelude.{ℕ, ◌≡◌, refl, get_or}
use Rattle.std.proofs.Math.Option.{none, some}
use Rattle.std.proofs.Common.{arith}
use Rattle.link.specs.Table.{CKind, k_nil, k_cons, ckinds}
use Rattle.walk.specs.Bytes.{Table, end, entry, blanks, found}

abbrev pub ckind_byte : CKind → ℕ
ckind_byte k_nil = 32
ckind_byte k_cons = 33

pub ckind_is : (b : ℕ) (k : CKind) → get_or ckinds b none ≡ some k → b ≡ ckind_byte k
ckind_is b k e = let f = found {byte = ckind_byte} table b k e in omega arith
  where
    table : Table ckind_byte 0 ckinds
    table = blanks 32 0 (entry refl (entry refl end))
