-- Numbers: comparisons and maxima. Assumes nothing.
use Rattle.std.specs.Prelude.{ℕ, ◌-◌, Bool, true, false, ltb, leb, eqb}
use Rattle.ast.specs.Words.{greater_of}
use Rattle.walk.specs.Rule as R
use Rattle.walk.specs.Refusal as Refusal
use Rattle.producer.specs.Machine.{W, ◌>>=◌, stop, when◌then◌else◌, emit, no_refs, refs_1}
use Rattle.producer.specs.Callees.{Callees}

unfoldable pub lt_by : Callees → (m n : ℕ) → W ℕ
lt_by c m n =
    when eqb m 0
    then emit R.lt_z no_refs 3 2 m n 0 0 0
    else (c.comparison (m - 1) (n - 1) true >>= λ x. emit R.lt_s (refs_1 x) 3 2 m n 0 0 0)

unfoldable pub le_by : Callees → (m n : ℕ) → W ℕ
le_by c m n =
    when eqb m 0
    then emit R.le_z no_refs 4 2 m n 0 0 0
    else (c.comparison (m - 1) (n - 1) false >>= λ x. emit R.le_s (refs_1 x) 4 2 m n 0 0 0)

unfoldable pub comparison_body : Callees → (m n : ℕ) → Bool → W ℕ
comparison_body c m n strict =
    when strict
    then (when ltb m n then lt_by c m n else stop Refusal.dimension)
    else (when leb m n then le_by c m n else stop Refusal.dimension)

unfoldable pub max_body : Callees → (m n : ℕ) → W ℕ
max_body c m n =
    when eqb m 0
    then emit R.max_z no_refs 5 3 m n n 0 0
    else
    (when eqb n 0
    then emit R.max_sz no_refs 5 3 m n m 0 0
    else (c.max (m - 1) (n - 1) >>= λ x. emit R.max_ss (refs_1 x) 5 3 m n (greater_of m n) 0 0))
