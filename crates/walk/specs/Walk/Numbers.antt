-- comparison, max: producer.rs, `comparison` and `max`.
use Rattle.std.specs.Prelude.{ℕ, suc, [], ◌∷◌, Bool, true, false}
use Rattle.std.proofs.Math.Decide.{dec_lt, dec_le}
use Rattle.walk.specs.Judgment.{Judgment, lt, le, max}
use Rattle.walk.specs.Rule as R
use Rattle.walk.specs.Refusal as Refusal
use Rattle.walk.specs.State.{M, ◌>>=◌, refuse, choose◌then◌else◌, emit}
use Rattle.walk.specs.Walk.Reference.{Callees}

abbrev pub compared : Bool → ℕ → ℕ → Judgment
compared true m n = lt m n
compared false m n = le m n

-- a comparison that holds, by the first number (the refusals here are never met: the test stands before; `refusals` of `order`)
unfoldable pub lt_by : Callees → ℕ → ℕ → M ℕ
lt_by c m ℕ.zero = refuse Refusal.dimension
lt_by c ℕ.zero (ℕ.suc n) = emit R.lt_z [] (lt 0 (suc n))
lt_by c (ℕ.suc m) (ℕ.suc n) = do
  x ← c.comparison m n true
  emit R.lt_s (x ∷ []) (lt (suc m) (suc n))

unfoldable pub le_by : Callees → ℕ → ℕ → M ℕ
le_by c ℕ.zero n = emit R.le_z [] (le 0 n)
le_by c (ℕ.suc m) ℕ.zero = refuse Refusal.dimension
le_by c (ℕ.suc m) (ℕ.suc n) = do
  x ← c.comparison m n false
  emit R.le_s (x ∷ []) (le (suc m) (suc n))

unfoldable pub comparison_body : Callees → ℕ → ℕ → Bool → M ℕ
comparison_body c m n true = choose dec_lt m n then lt_by c m n else refuse Refusal.dimension
comparison_body c m n false = choose dec_le m n then le_by c m n else refuse Refusal.dimension

-- the larger of two numbers, as the rules of max have it
abbrev pub larger : ℕ → ℕ → ℕ
larger ℕ.zero n = n
larger (ℕ.suc m) ℕ.zero = suc m
larger (ℕ.suc m) (ℕ.suc n) = suc (larger m n)

unfoldable pub max_body : Callees → ℕ → ℕ → M ℕ
max_body c ℕ.zero n = emit R.max_z [] (max 0 n n)
max_body c (ℕ.suc m) ℕ.zero = emit R.max_sz [] (max (suc m) 0 (suc m))
max_body c (ℕ.suc m) (ℕ.suc n) = do
  x ← c.max m n
  emit R.max_ss (x ∷ []) (max (suc m) (suc n) (larger (suc m) (suc n)))
