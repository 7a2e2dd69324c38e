-- A value alone has its number: of a type whose values have names, each with a number, or none, with a number of another sort. Assumes
-- nothing.
use Rattle.std.proofs.Common.{◌≡◌, ◌==◌, ℕ, Bool, true, false, true≢false, List, [], ◌∷◌, sym, ◌∙◌, ap, subst, ◌⊎◌, inl, inr}
use Rattle.ast.specs.Words.{ifb}

-- the first of these with the number
unfoldable pub found : {A : Type 0} → (A → ℕ) → A → List A → ℕ → A
found number none [] n = none
found number none (x ∷ xs) n = ifb (n == number x) x (found number none xs n)

-- the number of a value; the value with a number, and which numbers have one with a name; what the other numbers are, and the value
-- without a name that has one
module _ {A : Type 0} (number : A → ℕ) (back : ℕ → A) (has : ℕ → Bool) (Other : ℕ → Type 0) (other : (n : ℕ) → Other n → A) where
  -- a value with a name, found by its number; or one without
  abbrev pub Seen : A → Type 0
  Seen x = ((back (number x) ≡ x) × (has (number x) ≡ true)) ⊎ ((n : ℕ) × (h : Other n) × (x ≡ other n h))

  module _ (seen : (x : A) → Seen x) (tells : (n : ℕ) (h : Other n) → number (other n h) ≡ n) (apart : (n : ℕ) → Other n → has n ≡ false) (prop : (n : ℕ) → IsProp (Other n)) where
    same : {m n : ℕ} (h : Other m) (k : Other n) → m ≡ n → other m h ≡ other n k
    same {m} h k e = subst (λ n. (k : Other n) → other m h ≡ other n k) e (λ k. ap (other m) (prop m h k)) k

    unlike : {x y : A} {n : ℕ} (h : Other n) → has (number x) ≡ true → y ≡ other n h → number x ≡ number y → ⊥
    unlike {n = n} h p q e = true≢false (sym p ∙ ap has (e ∙ ap number q ∙ tells n h) ∙ apart n h)

    pub alone : (x y : A) → number x ≡ number y → x ≡ y
    alone x y e = go (seen x) (seen y)
      where
        go : Seen x → Seen y → x ≡ y
        go (inl a) (inl b) = sym (a.0) ∙ ap back e ∙ b.0
        go (inl a) (inr (n, h, q)) = absurd (unlike h (a.1) q e)
        go (inr (n, h, q)) (inl b) = absurd (unlike h (b.1) q (sym e))
        go (inr (m, h, p)) (inr (n, k, q)) = p ∙ same h k (sym (ap number p ∙ tells m h) ∙ e ∙ ap number q ∙ tells n k) ∙ sym q
