-- A turn of the loop over a term's limits.
use Prim.Native.Nat.{ℕ, zero, suc, ◌+◌, ◌*◌, ◌-◌, ◌/◌, ◌%◌, ◌≤◌, ◌<◌}
use mathlib.Core.Path.{◌≡◌, refl, ap₂, ◌∙◌}
use mathlib.Core.List.{List, [], ◌∷◌, ◌++◌}
use mathlib.Core.Option.{none, some}
use mathlib.Core.Bool.{true, false, ◌||◌}
use native.Mathlib.Omega.{arith}
use native.Mathlib.Numerals.{add-one}
use borrow.Author.Tests.{lt-ltb, le-ltb}
use lib.Dec.{ltb, leb}
use lib.ListN.{length, get_or, drop, drop_of_length-le}
use lib.Seq.{drop-cons}
use Rattle.ast.specs.declared.refusals.Refusal.TheVariants as refusal
use Rattle.syntax.specs.Parts.{Part, index, term, interval, after, part, word, pushed, Count, reached}
use Rattle.std.specs.Prelude.{Err}
use Rattle.syntax.specs.declared.limits.Uncounted.TheVariants.{Refused, Bad}
use Rattle.syntax.proofs.Stack.{piled, piled_top, piled_pushed}
use Rattle.syntax.proofs.Measure.{Deep, deep, all_at, unless, allowed, enter, measure}

-- A word of the stack is a part and three times its depth.
unfoldable pub means : ℕ → Deep
means word = deep (part (word % 3)) (word / 3)

means_word : (w depth : ℕ) → w ≤ 2 → means (w + 3 * depth) ≡ deep (part w) depth
unfolding means
means_word w depth h = ap₂ (λ (a b : ℕ). deep (part a) b) (omega arith) (omega arith)

means_deeper : (depth : ℕ) (p : Part) → means (word p + 3 * depth) ≡ deep p depth
unfolding part
means_deeper depth index = means_word 0 depth (omega arith)
means_deeper depth term = means_word 1 depth (omega arith)
means_deeper depth interval = means_word 2 depth (omega arith)

pub turn_done : (bs words : List ℕ) (nodes at d : ℕ) → d ≤ 0 → measure bs (piled means words d) nodes at ≡ reached nodes at
unfolding piled measure
turn_done [] words nodes at zero h = refl
turn_done (b ∷ bs) words nodes at zero h = refl
turn_done bs words nodes at (suc d) h = absurd (let z : ⊥ = omega arith in z)

-- a part that is no number
enter_node : (p : Part) (depth b n at : ℕ) (f : List Deep → ℕ → Count) → (p ≡ index → ⊥) → enter p depth b n at f ≡ unless (ltb 32 depth || leb 10000 n) refusal.Size (allowed (after p b) at (λ new. f (all_at (depth + 1) new) (n + 1)))
unfolding enter
enter_node index depth b n at f h = absurd (h refl)
enter_node term depth b n at f h = refl
enter_node interval depth b n at f h = refl

module _ (bytes words : List ℕ) (nodes at d : ℕ) (h : 0 < d) where
  pub turn_end : length bytes ≤ at → measure (drop at bytes) (piled means words d) nodes at ≡ Err (Bad at)
  unfolding measure means
  turn_end l = rw (drop_of_length-le bytes l, piled_top means words d h)

  module _ (l : at < length bytes) where
    turn : measure (drop at bytes) (piled means words d) nodes at ≡ enter (part (get_or words (d - 1) 0 % 3)) (get_or words (d - 1) 0 / 3) (get_or bytes at 0) nodes at (λ new n. measure (drop (suc at) bytes) (new ++ piled means words (d - 1)) n (at + 1))
    unfolding measure means
    turn = rw (drop-cons bytes at 0 l, piled_top means words d h)

    pub turn_index_over : part (get_or words (d - 1) 0 % 3) ≡ index → 32 < get_or bytes at 0 → measure (drop at bytes) (piled means words d) nodes at ≡ Err (Refused refusal.Index)
    unfolding enter unless
    turn_index_over z k = turn ∙ rw (z, lt-ltb 32 (get_or bytes at 0) k)

    pub turn_index : part (get_or words (d - 1) 0 % 3) ≡ index → get_or bytes at 0 ≤ 32 → measure (drop at bytes) (piled means words d) nodes at ≡ measure (drop (at + 1) bytes) (piled means words (d - 1)) nodes (at + 1)
    unfolding enter unless
    turn_index z k = turn ∙ rw (z, le-ltb 32 (get_or bytes at 0) k, add-one at)

    module _ (z : part (get_or words (d - 1) 0 % 3) ≡ index → ⊥) where
      pub turn_over : (ltb 32 (get_or words (d - 1) 0 / 3) || leb 10000 nodes) ≡ true → measure (drop at bytes) (piled means words d) nodes at ≡ Err (Refused refusal.Size)
      unfolding unless
      turn_over t = turn ∙ enter_node _ _ _ _ _ _ z ∙ rw t

      module _ (t : (ltb 32 (get_or words (d - 1) 0 / 3) || leb 10000 nodes) ≡ false) where
        pub turn_bad : after (part (get_or words (d - 1) 0 % 3)) (get_or bytes at 0) ≡ none → measure (drop at bytes) (piled means words d) nodes at ≡ Err (Bad at)
        unfolding unless allowed
        turn_bad e = turn ∙ enter_node _ _ _ _ _ _ z ∙ rw (t, e)

        pub turn_on : (new : List Part) → after (part (get_or words (d - 1) 0 % 3)) (get_or bytes at 0) ≡ some new → (d - 1) + length new ≤ length words → measure (drop at bytes) (piled means words d) nodes at ≡ measure (drop (at + 1) bytes) (piled means (pushed words (d - 1) (get_or words (d - 1) 0 / 3 + 1) new) ((d - 1) + length new)) (nodes + 1) (at + 1)
        unfolding unless allowed
        turn_on new e r =
            let depth = get_or words (d - 1) 0 / 3 in
            rw (piled_pushed means (λ p. deep p (depth + 1)) words (d - 1) (depth + 1) new (means_deeper (depth + 1)) r) (turn ∙ enter_node _ _ _ _ _ _ z ∙ rw (t, e, add-one at))
