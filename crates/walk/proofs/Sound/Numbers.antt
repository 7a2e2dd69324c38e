-- The rows of comparison and max state what they should.
use Rattle.std.specs.Prelude.{ℕ, suc, List, Bool}
use Rattle.std.proofs.Math.Bool.{true, false}
use Rattle.std.proofs.Math.Decide.{dec_lt, dec_le}
use Rattle.std.proofs.Common.{lit<}
use Rattle.walk.specs.Judgment.{lt, le, max}
use Rattle.walk.specs.Rules.{by_lt_z, by_lt_s, by_le_z, by_le_s, by_max_z, by_max_sz, by_max_ss}
use Rattle.walk.specs.State.{Row}
use Rattle.walk.specs.Walk.{Callees, compared, lt_by, le_by, comparison_body, larger, max_body}
use Rattle.walk.specs.Demand.{At, none_cited, ◌also◌}
use Rattle.walk.specs.Sound.Logic.{bind, refusing, branch, emitted, Keeps}
use Rattle.walk.specs.Sound.Says.{Sound}

module _ (c : Callees) (S : Sound c) where
  lt_by_sound : {rs : List Row} (m n : ℕ) → Keeps rs (lt_by c m n) (λ x. At x (lt m n))
  unfolding lt_by
  lt_by_sound m ℕ.zero = refusing (lit< tt)
  lt_by_sound ℕ.zero (ℕ.suc n) = emitted none_cited by_lt_z
  lt_by_sound (ℕ.suc m) (ℕ.suc n) = bind (S.comparison m n true) λ x _ _ h. emitted (h also none_cited) by_lt_s

  le_by_sound : {rs : List Row} (m n : ℕ) → Keeps rs (le_by c m n) (λ x. At x (le m n))
  unfolding le_by
  le_by_sound ℕ.zero n = emitted none_cited by_le_z
  le_by_sound (ℕ.suc m) ℕ.zero = refusing (lit< tt)
  le_by_sound (ℕ.suc m) (ℕ.suc n) = bind (S.comparison m n false) λ x _ _ h. emitted (h also none_cited) by_le_s

  pub comparison_sound : {rs : List Row} (m n : ℕ) (strict : Bool) → Keeps rs (comparison_body c m n strict) (λ x. At x (compared strict m n))
  unfolding comparison_body
  comparison_sound m n true = branch (dec_lt m n) (λ h. lt_by_sound m n) (λ h. refusing (lit< tt))
  comparison_sound m n false = branch (dec_le m n) (λ h. le_by_sound m n) (λ h. refusing (lit< tt))

  pub max_sound : {rs : List Row} (m n : ℕ) → Keeps rs (max_body c m n) (λ x. At x (max m n (larger m n)))
  unfolding max_body
  max_sound ℕ.zero n = emitted none_cited by_max_z
  max_sound (ℕ.suc m) ℕ.zero = emitted none_cited by_max_sz
  max_sound (ℕ.suc m) (ℕ.suc n) = bind (S.max m n) λ x _ _ h. emitted (h also none_cited) by_max_ss
