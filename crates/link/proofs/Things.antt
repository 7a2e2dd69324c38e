-- The cell of a thing is the one that `cell` finds, and the lowest cell with a quote is the one that `quoted` finds. Assumes nothing.
use Rattle.std.specs.Prelude.{ℕ, ◌≡◌, Bool, true, false, length, List, [], ◌∷◌, Some, None}
use Rattle.std.proofs.Math.Path.{refl}
use Rattle.std.proofs.Common.{sym, ap, ◌∙◌, arith}
use Rattle.std.proofs.Math.Option.{Option, none, some}
use Rattle.ast.specs.Words.{ifb}
use Rattle.ast.specs.Cells.{or_else}
use Rattle.walk.specs.State.{Thing}
use Rattle.link.specs.Lists.{found_of, first}
use Rattle.link.specs.Things.{Shown, is_thing, shows, or_this, lowest, cell, quoted, Cell, Low}

module _ (p : Thing → Bool) where
  or_else_this : (o q : Option ℕ) → found_of (or_this o q) ≡ or_else (found_of o) (found_of q)
  or_else_this (some n) q = refl
  or_else_this none q = refl

  one_found : (b : Bool) (n : ℕ) → found_of (elim b as (λ _. Option ℕ) [ true ↦ some n | false ↦ none ]) ≡ ifb b (Some n) None
  one_found true n = refl
  one_found false n = refl

  lowest_first : (xs : List Thing) → found_of (lowest p xs) ≡ first p xs
  unfolding lowest first
  lowest_first [] = refl
  lowest_first (x ∷ xs) = or_else_this (lowest p xs) _ ∙ rw (lowest_first xs, one_found (p x) (length xs))

  to_lowest : {n : ℕ} (xs : List Thing) → first p xs ≡ Some n → some n ≡ lowest p xs
  to_lowest {n} xs e = go (lowest p xs) (lowest_first xs ∙ e)
    where
      go : (o : Option ℕ) → found_of o ≡ Some n → some n ≡ o
      go (some m) q = let k : n ≡ m = cc in ap some k
      go none q = let z : ◌≡◌ {A = ℕ} 0 1 = cc in absurd (omega arith)

  from_lowest : {n : ℕ} (xs : List Thing) → some n ≡ lowest p xs → first p xs ≡ Some n
  from_lowest xs e = sym (ap found_of e ∙ lowest_first xs)

pub cell_is : {n : ℕ} {x : Thing} {xs : List Thing} → Cell n x xs → some n ≡ cell xs x
cell_is {x = x} {xs = xs} h = to_lowest (is_thing x) xs h.found

pub is_cell : {n : ℕ} {x : Thing} {xs : List Thing} → some n ≡ cell xs x → Cell n x xs
is_cell {x = x} {xs = xs} e = record { found = from_lowest (is_thing x) xs e }

pub low_is : {n : ℕ} {s : Shown} {xs : List Thing} → Low n s xs → some n ≡ quoted xs s
low_is {s = s} {xs = xs} h = to_lowest (shows s) xs h.found

pub is_low : {n : ℕ} {s : Shown} {xs : List Thing} → some n ≡ quoted xs s → Low n s xs
is_low {s = s} {xs = xs} e = record { found = from_lowest (shows s) xs e }
