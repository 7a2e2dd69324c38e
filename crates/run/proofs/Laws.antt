-- Laws on words.
use Prim.Native.Nat.{ℕ, suc, ◌+◌}
use mathlib.Core.Path.{◌≡◌}
use mathlib.Core.List.{List, [], ◌∷◌}
use native.Mathlib.Omega.{arith}
use lib.ListN.{set}
use lib.Seq.{sets}

-- four words, one after the other
pub put_four : (S : List ℕ) (i a b c d : ℕ) → sets S i (a ∷ b ∷ c ∷ d ∷ []) ≡ set (set (set (set S i a) (i + 1) b) (i + 2) c) (i + 3) d
put_four S i a b c d =
    let e1 : i + 1 ≡ suc i = omega arith in
    let e2 : i + 2 ≡ suc (suc i) = omega arith in
    let e3 : i + 3 ≡ suc (suc (suc i)) = omega arith in
    rw (e1, e2, e3)
