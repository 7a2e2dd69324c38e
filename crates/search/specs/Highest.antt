-- There is one last number with a property, and a search that tests each number from the last down finds it. Assumes nothing.
use Rattle.std.specs.Prelude.{ℕ, zero, suc, ◌<◌, ◌≡◌, refl, Bool, true, false, Some, None}
use Rattle.std.proofs.Common.{ap, sym, ◌∙◌, arith}
use Rattle.std.proofs.Math.Decide.{dec_lt, ℕ_discrete}
use Rattle.ast.specs.Words.{ifb}
use Rattle.ast.specs.Cells.{Found, last_of}
use Rattle.search.specs.Newest.{Last, last, no_one}

pub only : {P : ℕ → Type 0} {n : ℕ} {f g : Found} → Last P n f → Last P n g → f ≡ g
only {P} (last {i = i} l p h) (last {i = k} m q g) = go (dec_lt i k) (dec_lt k i)
  where
    go : Dec (i < k) → Dec (k < i) → Some i ≡ Some k
    go (yes a) b = absurd (h k a m q)
    go (no a) (yes b) = absurd (g i b l p)
    go (no a) (no b) = ap Some (let e : i ≡ k = omega arith in e)
only (last l p h) (no_one g) = absurd (g _ l p)
only (no_one h) (last m q g) = absurd (h _ m q)
only (no_one h) (no_one g) = refl

-- Both directions: the number i is given if and only if it has the property and no later one has, and none if and only if none has.
pub record BothWays (P : ℕ → Type 0) (n : ℕ) (f : Found) : Type 0 where
  pub at : (i : ℕ) → f ≡ Some i → (i < n) × ((P i) × ((k : ℕ) → i < k → k < n → P k → ⊥))
  pub is_at : (i : ℕ) → i < n → P i → ((k : ℕ) → i < k → k < n → P k → ⊥) → f ≡ Some i
  pub nothing : f ≡ None → (k : ℕ) → k < n → P k → ⊥
  pub is_nothing : ((k : ℕ) → k < n → P k → ⊥) → f ≡ None

pub both_ways : {P : ℕ → Type 0} {n : ℕ} {f : Found} → Last P n f → BothWays P n f
both_ways {P} {n} {f} x = record { at = λ i e. at x i e; is_at = λ i l p h. only x (last l p h); nothing = λ e. nothing x e; is_nothing = λ h. only x (no_one h) }
  where
    at : {f : Found} → Last P n f → (i : ℕ) → f ≡ Some i → (i < n) × ((P i) × ((k : ℕ) → i < k → k < n → P k → ⊥))
    at (last {i = m} l p h) i e = let q : m ≡ i = cc in rw (← q) (l, (p, h))
    at (no_one h) i e = let z : ◌≡◌ {A = ℕ} 0 1 = cc in absurd (omega arith)

    nothing : {f : Found} → Last P n f → f ≡ None → (k : ℕ) → k < n → P k → ⊥
    nothing (last l p h) e = let z : ◌≡◌ {A = ℕ} 0 1 = cc in absurd (omega arith)
    nothing (no_one h) e = h

-- a search whose test decides the property
pub last_found : {P : ℕ → Type 0} (t : ℕ → Bool) (n : ℕ) → ((i : ℕ) → i < n → t i ≡ true → P i) → ((i : ℕ) → i < n → P i → t i ≡ true) → Last P n (last_of t n)
unfolding last_of
last_found t zero has tells = no_one (λ k l p. absurd (let z : ⊥ = omega arith in z))
last_found {P} t (suc n) has tells = go (t n) refl (last_found t n (λ i l. has i (omega arith)) (λ i l. tells i (omega arith)))
  where
    more : {f : Found} → (P n → ⊥) → Last P n f → Last P (suc n) f
    more h (last {i = i} l p g) = last {i = i} (omega arith) p (λ k a b q. below k a b q (ℕ_discrete k n))
      where
        below : (k : ℕ) → i < k → k < suc n → P k → Dec (k ≡ n) → ⊥
        below k a b q (yes e) = h (rw e at q)
        below k a b q (no e) = g k a (omega arith) q
    more h (no_one g) = no_one (λ k l q. below k l q (ℕ_discrete k n))
      where
        below : (k : ℕ) → k < suc n → P k → Dec (k ≡ n) → ⊥
        below k b q (yes e) = h (rw e at q)
        below k b q (no e) = g k (omega arith) q

    go : (b : Bool) → t n ≡ b → Last P n (last_of t n) → Last P (suc n) (ifb b (Some n) (last_of t n))
    go true e x = last {i = n} (omega arith) (has n (omega arith) e) (λ k a b q. absurd (let z : ⊥ = omega arith in z))
    go false e x = more (λ p. let f = sym e ∙ tells n (omega arith) p in let z : ◌≡◌ {A = ℕ} 0 1 = cc in absurd (omega arith)) x

pub last_below : (t : ℕ → Bool) (n i : ℕ) → last_of t n ≡ Some i → i < n
unfolding last_of
last_below t zero i e = let z : ◌≡◌ {A = ℕ} 0 1 = cc in absurd (omega arith)
last_below t (suc n) i e = go (t n) e (last_below t n i)
  where
    go : (b : Bool) → ifb b (Some n) (last_of t n) ≡ Some i → (last_of t n ≡ Some i → i < n) → i < suc n
    go true f h = let q : n ≡ i = cc in omega arith
    go false f h = let l = h f in omega arith
