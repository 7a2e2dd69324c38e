-- Past the last rule, judgment and node names are empty, and nothing is taken or shown. No name is longer than 16 bytes, no judgment takes
-- more than five arguments, and no node shows more than three parts. Assumes nothing.
use mathlib.Core.Path.{◌≡◌, ap, sym}
use mathlib.Core.List.{List, []}
use Prim.Native.Nat.{ℕ, ◌+◌, ◌*◌, ◌<◌, ◌≤◌}
use native.Mathlib.Nat.{le_trans}
use native.Mathlib.Decide.{dec_lt}
use native.Mathlib.Omega.{arith}
use lib.Arith.{digits_lt}
use lib.Dec.{T, leb}
use lib.ListN.{length, get_or-eq_default}
use Rattle.std.specs.Prelude.{Option, None, slice_get}
use Rattle.std.proofs.lemmas.Option.{slice_get_past}
use Rattle.walk.specs.Rule.{rules, no_rule, rule_count}
use Rattle.rules.specs.Names.{bytes, rule_name, judgment_name, node_name}
use Rattle.rules.specs.Kinds.{judgments, no_judgment, judgment_count, sorts_of, sort_of, nodes, no_node, node_count, parts_of, part_of}
use Rattle.rules.proofs.Bounds.{all, at_most}

-- A byte of a name: which name, which place, and where it stands where names have 16 bytes each.
pub record Within (count n k : ℕ) : Type 0 where
  pub name : n < count
  pub place : k < 16
  pub spot : n * 16 + k < count * 16

module _ (name : ℕ → List ℕ) (count : ℕ) (test : T (all (λ n. leb (length (name n)) 16) count)) (past : (n : ℕ) → count ≤ n → name n ≡ []) where
  known : (n k : ℕ) → k < length (name n) → n < count
  known n k h = elim (dec_lt n count) [
    | yes l ↦ l
    | no l ↦ absurd (let e : length (name n) ≡ 0 = ap length (past n (omega arith)) in let z : ⊥ = omega arith in z)
  ]

  within : (n k : ℕ) → k < length (name n) → Within count n k
  within n k h =
      let l : n < count = known n k h in
      let p : k < 16 = omega (arith, at_most (λ m. length (name m)) count 16 test (λ m g. ap length (past m g)) n) in
      record { name = l; place = p; spot = digits_lt l p }

pub rule_past : (n : ℕ) → rule_count ≤ n → rule_name n ≡ []
unfolding rule_name
rule_past n h = ap (λ r. bytes r.name) (get_or-eq_default rules no_rule h)

pub rule_within : (n k : ℕ) → k < length (rule_name n) → Within rule_count n k
unfolding rule_name
rule_within = within rule_name rule_count tt rule_past

pub judgment_past : (n : ℕ) → judgment_count ≤ n → judgment_name n ≡ []
unfolding judgment_name
judgment_past n h = ap (λ r. bytes r.name) (get_or-eq_default judgments no_judgment h)

pub judgment_within : (n k : ℕ) → k < length (judgment_name n) → Within judgment_count n k
unfolding judgment_name
judgment_within = within judgment_name judgment_count tt judgment_past

pub node_past : (n : ℕ) → node_count ≤ n → node_name n ≡ []
unfolding node_name
node_past n h = ap (λ r. bytes r.name) (get_or-eq_default nodes no_node h)

pub node_within : (n k : ℕ) → k < length (node_name n) → Within node_count n k
unfolding node_name
node_within = within node_name node_count tt node_past

-- Past the last argument, and past the last judgment; the same of parts and nodes.
pub sorts_past : (k : ℕ) → judgment_count ≤ k → sorts_of k ≡ []
unfolding sorts_of
sorts_past k h = ap (λ j. j.sorts) (get_or-eq_default judgments no_judgment h)

pub sort_far : (k n : ℕ) → 5 ≤ n → None ≡ sort_of k n
unfolding sorts_of sort_of
sort_far k n h = sym (slice_get_past (sorts_of k) n (le_trans (at_most (λ m. length (sorts_of m)) judgment_count 5 tt (λ m g. ap length (sorts_past m g)) k) h))

pub sort_past : (k n : ℕ) → judgment_count ≤ k → None ≡ sort_of k n
unfolding sort_of
sort_past k n h = sym (ap (λ l. slice_get l n) (sorts_past k h))

parts_past : (k : ℕ) → node_count ≤ k → parts_of k ≡ []
unfolding parts_of
parts_past k h = ap (λ j. j.parts) (get_or-eq_default nodes no_node h)

pub part_far : (k n : ℕ) → 3 ≤ n → None ≡ part_of k n
unfolding parts_of part_of
part_far k n h = sym (slice_get_past (parts_of k) n (le_trans (at_most (λ m. length (parts_of m)) node_count 3 tt (λ m g. ap length (parts_past m g)) k) h))

pub part_past : (k n : ℕ) → node_count ≤ k → None ≡ part_of k n
unfolding part_of
part_past k n h = sym (ap (λ l. slice_get l n) (parts_past k h))
