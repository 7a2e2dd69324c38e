-- The nineteen reference functions over words, and what is done before an argument is made for one. Assumes nothing.
use Rattle.std.specs.Prelude.{ℕ, Bool}
use Rattle.std.proofs.Math.Option.{Option}
use Rattle.producer.specs.declared.rows.Refs.{Refs}
use Rattle.producer.specs.declared.endpoints.End.{End}
use Rattle.producer.specs.declared.intervals.IOp.{IOp}
use Rattle.producer.specs.declared.transforms.Op.{Op}
use Rattle.producer.specs.Machine.{W, Reduction, ◌>>=◌}

pub record Callees : Type 0 where
  pub ready : W (Unit {0})
  pub ctx : (d g : ℕ) → W ℕ
  pub infer : (d g t : ℕ) → W (ℕ × ℕ)
  pub universe : (d g t : ℕ) → W (ℕ × ℕ)
  pub check : (d g t ty : ℕ) → W ℕ
  pub expose : (d g t ty row : ℕ) → W (ℕ × ℕ)
  pub normalize : (d g t ty : ℕ) → W (ℕ × ℕ)
  pub equal : (d g a b ty : ℕ) → W ℕ
  pub reduce : (d g t : ℕ) → W (Option Reduction)
  pub head_normalize : (d g t ty : ℕ) → W (ℕ × ℕ)
  pub head_step : (d g t : ℕ) → W (Option Reduction)
  pub lookup : (g n : ℕ) → W (ℕ × ℕ)
  pub dshiftctx : ℕ → W (ℕ × ℕ)
  pub transform : ℕ → Op → W (ℕ × ℕ)
  pub under : Op → Bool → W (Op × Refs)
  pub itransform : ℕ → IOp → W (ℕ × ℕ)
  pub interval : (d r : ℕ) → W ℕ
  pub endpoint : ℕ → W (Option (End × ℕ))
  pub comparison : (m n : ℕ) → Bool → W ℕ
  pub max : (m n : ℕ) → W ℕ

-- an argument that is made for a call, once that is entered
unfoldable pub prepared : Callees → W ℕ → W ℕ
prepared c make = c.ready >>= λ _. make

abbrev pub for_call : {A : Type 0} → Callees → W ℕ → (ℕ → W A) → W A
for_call c make f = prepared c make >>= f
