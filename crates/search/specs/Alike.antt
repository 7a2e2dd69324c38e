-- Whether two cells show the same, over any words: by kind, and part by part where the quote shows a part. Parts have lower numbers than
-- the whole. Assumes nothing.
use Rattle.std.specs.Prelude.{ℕ, zero, suc, ◌+◌, ◌*◌, ◌<◌, ◌≡◌, refl, Bool, true, false, List, Option, Some, None, get_or, ltb, eqb}
use Rattle.std.proofs.Common.{ap, arith, ltb-true}
use Rattle.ast.specs.Words.{ifb}
use Rattle.rules.specs.Kinds.{part_of}
use Rattle.rules.specs.declared.Part.{Part}
use Rattle.rules.specs.declared.Sort.{Sort}
use Rattle.rules.specs.declared.Sort.TheVariants.{Number, Term, Interval, Context}

abbrev pub cell_word : List ℕ → ℕ → ℕ → ℕ
cell_word C i w = get_or C (i * 8 + w) 0

abbrev pub kind_word : List ℕ → ℕ → ℕ
kind_word C i = get_or C (i * 8) 0

-- lower cells alike
abbrev pub both_lower : (ℕ → ℕ → Bool) → (i j x y : ℕ) → Bool
both_lower same i j x y = ifb (ltb x i) (ifb (ltb y j) (same x y) false) false

-- word w of two cells by its sort: numbers are equal, cells are alike
abbrev pub part_at : (ℕ → ℕ → Bool) → List ℕ → Sort → (w i j : ℕ) → Bool
part_at same C Number w i j = eqb (cell_word C i w) (cell_word C j w)
part_at same C Term w i j = both_lower same i j (cell_word C i w) (cell_word C j w)
part_at same C Interval w i j = both_lower same i j (cell_word C i w) (cell_word C j w)
part_at same C Context w i j = both_lower same i j (cell_word C i w) (cell_word C j w)

abbrev pub part_by : (ℕ → ℕ → Bool) → List ℕ → Option Part → (i j : ℕ) → Bool
part_by same C None i j = true
part_by same C (Some p) i j = part_at same C p.sort p.word i j

-- a part of the cells i and j, both of the kind k, counted from 0
unfoldable pub same_part : (ℕ → ℕ → Bool) → List ℕ → (k n i j : ℕ) → Bool
same_part same C k n i j = part_by same C (part_of k n) i j

abbrev pub all_parts : (ℕ → ℕ → Bool) → List ℕ → (k i j : ℕ) → Bool
all_parts same C k i j = ifb (same_part same C k 0 i j) (ifb (same_part same C k 1 i j) (same_part same C k 2 i j) false) false

-- A cell is like itself: no deeper look is needed.
unfoldable pub same_node : (ℕ → ℕ → Bool) → List ℕ → (i j : ℕ) → Bool
same_node same C i j = ifb (eqb i j) true (ifb (eqb (kind_word C j) (kind_word C i)) (all_parts same C (kind_word C i) i j) false)

-- The first number only bounds the depth, so that the definition ends; since numbers fall, one more than the cell's is enough.
unfoldable pub same_within : ℕ → List ℕ → (i j : ℕ) → Bool
same_within zero C i j = false
same_within (suc depth) C i j = same_node (same_within depth C) C i j

unfoldable pub same_cells : List ℕ → (i j : ℕ) → Bool
same_cells C i j = same_within (suc i) C i j

-- enough depth is as good as any

module _ (C : List ℕ) (i j : ℕ) {s s' : ℕ → ℕ → Bool} (h : (x y : ℕ) → x < i → s x y ≡ s' x y) where
  lower_alike : (x y : ℕ) → both_lower s i j x y ≡ both_lower s' i j x y
  lower_alike x y = go (ltb x i) refl
    where
      go : (b : Bool) → ltb x i ≡ b → ifb b (ifb (ltb y j) (s x y) false) false ≡ ifb b (ifb (ltb y j) (s' x y) false) false
      go true e = ap (λ (c : Bool). ifb (ltb y j) c false) (h x y (ltb-true x i e))
      go false e = refl

  sort_alike : (sort : Sort) (w : ℕ) → part_at s C sort w i j ≡ part_at s' C sort w i j
  sort_alike Number w = refl
  sort_alike Term w = lower_alike _ _
  sort_alike Interval w = lower_alike _ _
  sort_alike Context w = lower_alike _ _

  option_alike : (o : Option Part) → part_by s C o i j ≡ part_by s' C o i j
  option_alike None = refl
  option_alike (Some p) = sort_alike p.sort p.word

  part_alike : (k n : ℕ) → same_part s C k n i j ≡ same_part s' C k n i j
  unfolding same_part
  part_alike k n = option_alike (part_of k n)

  node_alike : same_node s C i j ≡ same_node s' C i j
  unfolding same_node
  node_alike = rw (part_alike (kind_word C i) 0, part_alike (kind_word C i) 1, part_alike (kind_word C i) 2)

enough : (C : List ℕ) (f g i j : ℕ) → i < f → i < g → same_within f C i j ≡ same_within g C i j
unfolding same_within
enough C zero g i j l m = absurd (let z : ⊥ = omega arith in z)
enough C (suc f) zero i j l m = absurd (let z : ⊥ = omega arith in z)
enough C (suc f) (suc g) i j l m = node_alike C i j (λ x y a. enough C f g x y (omega arith) (omega arith))

pub cells_within : (C : List ℕ) (f i j : ℕ) → i < f → same_cells C i j ≡ same_within f C i j
unfolding same_cells
cells_within C f i j l = enough C (suc i) f i j (omega arith) l

-- two cells by their parts
pub cells_node : (C : List ℕ) (i j : ℕ) → same_cells C i j ≡ same_node (same_cells C) C i j
unfolding same_cells same_within
cells_node C i j = node_alike C i j (λ x y a. enough C i (suc x) x y a (omega arith))
