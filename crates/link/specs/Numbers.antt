-- Comparisons and maxima over words match the walk's.
use Rattle.std.specs.Prelude.{ℕ, suc, ◌≤◌, ◌<◌, List, Bool}
use Rattle.std.proofs.Math.Bool.{true, false}
use Rattle.std.proofs.Math.Decide.{dec_lt, dec_le}
use Rattle.std.proofs.Common.{arith}
use Rattle.std.proofs.Math.Dec.{eqb-suc-zero}
use Rattle.producer.specs.Machine.{when◌then◌else◌}
use Rattle.producer.specs.Callees.{Callees}
use Rattle.producer.specs.Numbers as P
use Rattle.walk.specs.State.{Thing, M}
use Rattle.walk.specs.Walk.Reference as D
use Rattle.walk.specs.Walk.Numbers as B
use Rattle.link.specs.Tables.{j_lt, j_le, j_max}
use Rattle.link.specs.Holds.{Before, less, at_most}
use Rattle.link.specs.Match.{Matches, stopping, branch, Same, cite_0, cite_1, emitting}
use Rattle.link.specs.Linked.{Linked, row_then, less_one, larger_is}

module _ {o : Before} {rd : M (Unit {0})} (c : Callees) (d : D.Callees) (L : Linked o rd c d) where
  lt_matches : {xs : List Thing} (m n : ℕ) → m < n → Matches o xs (P.lt_by c m n) (B.lt_by d m n) Same
  unfolding P.lt_by B.lt_by when◌then◌else◌
  lt_matches m ℕ.zero l = absurd (omega arith)
  lt_matches ℕ.zero (ℕ.suc n) l = emitting j_lt _ cite_0
  lt_matches (ℕ.suc m) (ℕ.suc n) l = rw (eqb-suc-zero m, less_one m, less_one n) (row_then (L.comparison m n true) λ x _ _. emitting j_lt _ cite_1)

  le_matches : {xs : List Thing} (m n : ℕ) → m ≤ n → Matches o xs (P.le_by c m n) (B.le_by d m n) Same
  unfolding P.le_by B.le_by when◌then◌else◌
  le_matches ℕ.zero n l = emitting j_le _ cite_0
  le_matches (ℕ.suc m) ℕ.zero l = absurd (omega arith)
  le_matches (ℕ.suc m) (ℕ.suc n) l = rw (eqb-suc-zero m, less_one m, less_one n) (row_then (L.comparison m n false) λ x _ _. emitting j_le _ cite_1)

  pub comparison_matches : {xs : List Thing} (m n : ℕ) (strict : Bool) → Matches o xs (P.comparison_body c m n strict) (B.comparison_body d m n strict) Same
  unfolding P.comparison_body B.comparison_body when◌then◌else◌
  comparison_matches m n true = branch _ (dec_lt m n) (less m n) (λ l. lt_matches m n l) (λ _. stopping _)
  comparison_matches m n false = branch _ (dec_le m n) (at_most m n) (λ l. le_matches m n l) (λ _. stopping _)

  pub max_matches : {xs : List Thing} (m n : ℕ) → Matches o xs (P.max_body c m n) (B.max_body d m n) Same
  unfolding P.max_body B.max_body when◌then◌else◌
  max_matches ℕ.zero n = emitting j_max _ cite_0
  max_matches (ℕ.suc m) ℕ.zero = rw (eqb-suc-zero m) (emitting j_max _ cite_0)
  max_matches (ℕ.suc m) (ℕ.suc n) = rw (eqb-suc-zero m, eqb-suc-zero n, less_one m, less_one n, ← larger_is (suc m) (suc n)) (row_then (L.max m n) λ x _ _. emitting j_max _ cite_1)
