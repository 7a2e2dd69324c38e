-- A size that is tested at each entry of a table, once for all of its entries. Assumes nothing.
use mathlib.Core.Path.{◌≡◌, subst}
use mathlib.Core.Bool.{Bool, true, false}
use Prim.Native.Nat.{ℕ, zero, suc, ◌<◌, ◌≤◌}
use native.Mathlib.Nat.{not-suc-le-zero}
use native.Mathlib.Decide.{dec_lt}
use native.Mathlib.Omega.{arith}
use lib.Dec.{T, leb, leb→le}

-- A test of every number below n.
abbrev both : Bool → Bool → Bool
both true b = b
both false b = false

both_left : (a b : Bool) → T (both a b) → T a
both_left true b t = tt
both_left false b t = t

both_right : (a b : Bool) → T (both a b) → T b
both_right true b t = t
both_right false b t = absurd t

abbrev pub all : (ℕ → Bool) → ℕ → Bool
all f zero = true
all f (suc n) = both (f n) (all f n)

pub below : (f : ℕ → Bool) (n : ℕ) → T (all f n) → (k : ℕ) → k < n → T (f k)
below f zero t k h = absurd (not-suc-le-zero h)
below f (suc n) t k h = elim (dec_lt k n) [
  | yes l ↦ below f n (both_right (f n) (all f n) t) k l
  | no l ↦ subst (λ (m : ℕ). T (f m)) (let e : n ≡ k = omega arith in e) (both_left (f n) (all f n) t)
]

-- A size that is at most w below n, and 0 from n on, is at most w.
pub at_most : (size : ℕ → ℕ) (n w : ℕ) → T (all (λ k. leb (size k) w) n) → ((k : ℕ) → n ≤ k → size k ≡ 0) → (k : ℕ) → size k ≤ w
at_most size n w t past k = elim (dec_lt k n) [
  | yes l ↦ leb→le _ _ (below (λ m. leb (size m) w) n t k l)
  | no l ↦ (let e : size k ≡ 0 = past k (omega arith) in omega arith)
]
