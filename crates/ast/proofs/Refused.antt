-- A refusal is one value alone: two with the same number are the same. Assumes nothing.
use Rattle.std.specs.Prelude.{nat_lt}
use Rattle.std.proofs.Common.{◌≡◌, ◌<◌, ℕ, Bool, true, false, List, [], ◌∷◌, refl, inl, inr}
use Rattle.std.proofs.lemmas.Bool.{ltb-true}
use Rattle.std.proofs.Math.Bridge.{le_prop}
use native.Mathlib.Omega.{arith}
use Rattle.ast.specs.Words.{ifb}
use Rattle.ast.specs.Refusals.{refusal_number}
use Rattle.ast.specs.declared.others.OtherRefusal as OtherRefusal
use Rattle.ast.specs.declared.refusals.Refusal.{Refusal}
use Rattle.ast.specs.declared.refusals.Refusal.TheVariants as refusal
use Rattle.ast.proofs.Alone.{found, Seen, alone}

-- what has no name; `none-type n` is what its ghost field says of the number n
abbrev other : (n : ℕ) → OtherRefusal.none-type n → Refusal
other n h = refusal.Other record { number = n; none = h }

-- whether a refusal with a name has the number
abbrev has : ℕ → Bool
has n = ifb (nat_lt 0 n) (nat_lt n 24) false

apart : (n : ℕ) → OtherRefusal.none-type n → has n ≡ false
apart n h = go (nat_lt 0 n) refl (nat_lt n 24) refl
  where
    clash : 23 < n → n < 24 → ⊥
    clash p q = omega arith

    go : (a : Bool) → nat_lt 0 n ≡ a → (b : Bool) → nat_lt n 24 ≡ b → ifb a b false ≡ false
    go false p b q = refl
    go true p false q = refl
    go true p true q = absurd (clash (h (ltb-true 0 n p)) (ltb-true n 24 q))

-- written by tools/written.py: refusals
abbrev every_refusal : List Refusal
every_refusal = refusal.Slices ∷ refusal.Bytes ∷ refusal.Unread ∷ refusal.Answers ∷ refusal.Scope ∷ refusal.Size ∷ refusal.Index ∷ refusal.Unbound ∷ refusal.NoFunction ∷ refusal.NoPath ∷ refusal.NoType ∷ refusal.Levels ∷ refusal.Quotes ∷ refusal.StepType ∷ refusal.Reductions ∷ refusal.Conversions ∷ refusal.Dimension ∷ refusal.Rows ∷ refusal.Nesting ∷ refusal.Cells ∷ refusal.NoSigma ∷ refusal.Annotation ∷ refusal.Count ∷ []

seen : (x : Refusal) → Seen refusal_number (found refusal_number refusal.Slices every_refusal) has OtherRefusal.none-type other x
unfolding refusal_number found
seen refusal.Slices = inl (refl, refl)
seen refusal.Bytes = inl (refl, refl)
seen refusal.Unread = inl (refl, refl)
seen refusal.Answers = inl (refl, refl)
seen refusal.Scope = inl (refl, refl)
seen refusal.Size = inl (refl, refl)
seen refusal.Index = inl (refl, refl)
seen refusal.Unbound = inl (refl, refl)
seen refusal.NoFunction = inl (refl, refl)
seen refusal.NoPath = inl (refl, refl)
seen refusal.NoType = inl (refl, refl)
seen refusal.Levels = inl (refl, refl)
seen refusal.Quotes = inl (refl, refl)
seen refusal.StepType = inl (refl, refl)
seen refusal.Reductions = inl (refl, refl)
seen refusal.Conversions = inl (refl, refl)
seen refusal.Dimension = inl (refl, refl)
seen refusal.Rows = inl (refl, refl)
seen refusal.Nesting = inl (refl, refl)
seen refusal.Cells = inl (refl, refl)
seen refusal.NoSigma = inl (refl, refl)
seen refusal.Annotation = inl (refl, refl)
seen refusal.Count = inl (refl, refl)
seen (refusal.Other o) = inr (o.number, o.none, refl)

-- end of refusals

pub refusal_alone : (x y : Refusal) → refusal_number x ≡ refusal_number y → x ≡ y
unfolding refusal_number
refusal_alone = alone refusal_number (found refusal_number refusal.Slices every_refusal) has OtherRefusal.none-type other seen (λ n h. refl) apart (λ n. hlevel (le_prop))
