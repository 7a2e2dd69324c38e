-- The stack of parts as it lies in a slice, and a turn of the scan's loop over it.
use Prim.Native.Nat.{ℕ, zero, suc, ◌+◌, ◌-◌, ◌*◌, ◌≤◌, ◌<◌}
use mathlib.Core.Path.{◌≡◌, refl, ap, ◌∙◌}
use mathlib.Core.List.{List, [], ◌∷◌, ◌++◌, append_assoc}
use mathlib.Core.Option.{none, some}
use native.Mathlib.Omega.{arith}
use native.Mathlib.Nat.{add-zero, add-suc}
use native.Mathlib.Numerals.{add-one, sub-one}
use lib.ListN.{length, get_or, set, length-set, drop, drop_of_length-le}
use lib.Seq.{get_or-set_same, get_or-set_other, drop-cons}
use Rattle.std.specs.Prelude.{map}
use Rattle.std.proofs.Common.{length-append}
use Rattle.syntax.specs.Parts.{Part, index, term, interval, after, part, word, pushed}
use Rattle.std.specs.Prelude.{Ok, Err}
use Rattle.syntax.specs.declared.scan.Unread.TheVariants.{Bad}
use Rattle.syntax.proofs.Over.{opened, over}

-- The first so many words, the last of them first, each as what it stands for.
unfoldable pub piled : {X : Type 0} → (ℕ → X) → List ℕ → ℕ → List X
piled means words zero = []
piled means words (suc n) = means (get_or words n 0) ∷ piled means words n

module _ {X : Type 0} (means : ℕ → X) where
  piled_set : (words : List ℕ) (n i v : ℕ) → n ≤ i → piled means (set words i v) n ≡ piled means words n
  unfolding piled
  piled_set words zero i v h = refl
  piled_set words (suc n) i v h = rw (get_or-set_other words i n v 0 (λ e. omega arith), piled_set words n i v (omega arith))

  pub piled_top : (words : List ℕ) (d : ℕ) → 0 < d → piled means words d ≡ means (get_or words (d - 1) 0) ∷ piled means words (d - 1)
  unfolding piled
  piled_top words zero p = absurd (let z : ⊥ = omega arith in z)
  piled_top words (suc n) p = rw (sub-one (suc n))

length_pushed : (words : List ℕ) (top depth : ℕ) (ps : List Part) → length (pushed words top depth ps) ≡ length words
length_pushed words top depth [] = refl
length_pushed words top depth (p ∷ ps) = length-set (pushed words top depth ps) (top + length ps) (word p + 3 * depth) ∙ length_pushed words top depth ps

-- What is pushed lies on top, each word as what it stands for.
pub piled_pushed : {X : Type 0} (means : ℕ → X) (what : Part → X) (words : List ℕ) (top depth : ℕ) (ps : List Part) → ((p : Part) → means (word p + 3 * depth) ≡ what p) → top + length ps ≤ length words → piled means (pushed words top depth ps) (top + length ps) ≡ map what ps ++ piled means words top
unfolding piled
piled_pushed means what words top depth [] each h = rw (add-zero top) refl
piled_pushed means what words top depth (p ∷ ps) each h =
    let inside : top + length ps < length (pushed words top depth ps) = omega (arith, length_pushed words top depth ps) in
    rw (add-suc top (length ps), get_or-set_same (pushed words top depth ps) (top + length ps) (word p + 3 * depth) 0 inside, piled_set means (pushed words top depth ps) (top + length ps) (top + length ps) (word p + 3 * depth) (omega arith), each p, piled_pushed means what words top depth ps each (omega arith)) refl

-- The word of a part at no depth is that part.
pub part_word : (p : Part) → part (word p + 3 * 0) ≡ p
unfolding part
part_word index = refl
part_word term = refl
part_word interval = refl

pub map_same : (ps : List Part) → map (λ p. p) ps ≡ ps
map_same [] = refl
map_same (p ∷ ps) = ap (λ (l : List Part). p ∷ l) (map_same ps)

pub all_left : (ps : List Part) → ps ≡ ps ++ []
all_left [] = refl
all_left (p ∷ ps) = ap (λ (l : List Part). p ∷ l) (all_left ps)

-- What is left of the parts, and what of them was pushed.
pub one_less : (parts rest less done : List Part) (p : Part) → parts ≡ rest ++ done → rest ≡ less ++ p ∷ [] → (parts ≡ less ++ p ∷ done) × (length done < length parts)
one_less parts rest less done p a b =
    let same : parts ≡ less ++ p ∷ done = a ∙ ap (λ (l : List Part). l ++ done) b ∙ append_assoc less (p ∷ []) done in
    (same, omega (arith, ap length same, length-append less (p ∷ done)))

pub none_left : (parts rest done : List Part) → parts ≡ rest ++ done → length rest ≡ 0 → parts ≡ done
none_left parts [] done a b = a
none_left parts (p ∷ ps) done a b = absurd (let z : ⊥ = omega arith in z)

-- A turn: nothing is left to be read; the run ends; the byte may not stand here; it may.
pub turn_done : (bs words : List ℕ) (at d : ℕ) → d ≤ 0 → over bs (piled part words d) at ≡ Ok at
unfolding piled over
turn_done [] words at zero h = refl
turn_done (b ∷ bs) words at zero h = refl
turn_done bs words at (suc d) h = absurd (let z : ⊥ = omega arith in z)

module _ (bytes words : List ℕ) (at d : ℕ) (h : 0 < d) where
  pub turn_end : length bytes ≤ at → over (drop at bytes) (piled part words d) at ≡ Err (Bad at)
  unfolding over
  turn_end l = rw (drop_of_length-le bytes l, piled_top part words d h)

  module _ (l : at < length bytes) where
    pub turn_bad : after (part (get_or words (d - 1) 0)) (get_or bytes at 0) ≡ none → over (drop at bytes) (piled part words d) at ≡ Err (Bad at)
    unfolding over opened
    turn_bad e = rw (drop-cons bytes at 0 l, piled_top part words d h, e)

    pub turn : (new : List Part) → after (part (get_or words (d - 1) 0)) (get_or bytes at 0) ≡ some new → (d - 1) + length new ≤ length words → over (drop at bytes) (piled part words d) at ≡ over (drop (at + 1) bytes) (piled part (pushed words (d - 1) 0 new) ((d - 1) + length new)) (at + 1)
    unfolding over opened
    turn new e r = rw (piled_pushed part (λ p. p) words (d - 1) 0 new part_word r, map_same new, drop-cons bytes at 0 l, piled_top part words d h, e, add-one at)
