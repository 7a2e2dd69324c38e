-- Places of indices: what is raised, and what is put in at a place. Their laws are proved in proofs/Indices.
use Rattle.std.specs.Prelude.{ℕ, suc, ◌-◌, ◌≤◌, ◌<◌}
use Rattle.std.proofs.Math.Decide.{ℕ_discrete, dec_lt}

infix 10 choose◌then◌else◌
unfoldable pub choose◌then◌else◌ : {P A : Type 0} → Dec P → A → A → A
choose◌then◌else◌ (yes h) x y = x
choose◌then◌else◌ (no h) x y = y

-- from k on, up by one
unfoldable pub up : ℕ → ℕ → ℕ
up k n = choose dec_lt n k then n else suc n

-- a for k; above k, down by one (v n is what has the index n)
unfoldable pub put : {A : Type 0} → (ℕ → A) → ℕ → A → ℕ → A
put v k a n = choose ℕ_discrete n k then a else (choose dec_lt n k then v n else v (n - 1))

pub data Place (k : ℕ) : ℕ → Type 0 where
  below : (n : ℕ) → n < k → Place k n
  at : Place k k
  above : (n : ℕ) → k ≤ n → Place k (suc n)
