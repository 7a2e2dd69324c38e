-- What a shift at k and a substitution at k make of an index n, of a variable or of a dimension.
use Rattle.std.specs.Prelude.{ℕ, suc, ◌-◌, ◌≤◌, ◌<◌, ◌≡◌, refl}
use Rattle.std.proofs.Common.{ap, arith}
use Rattle.std.proofs.Math.Decide.{ℕ_discrete, dec_lt}
use Rattle.laws.specs.Indices.{choose◌then◌else◌, up, put, Place, below, at, above}

-- each by where n lies

holds : {P A : Type 0} (x y : A) (d : Dec P) → P → (choose d then x else y) ≡ x
unfolding choose◌then◌else◌
holds x y (yes h) p = refl
holds x y (no h) p = absurd (h p)

fails : {P A : Type 0} (x y : A) (d : Dec P) → (P → ⊥) → (choose d then x else y) ≡ y
unfolding choose◌then◌else◌
fails x y (yes h) p = absurd (p h)
fails x y (no h) p = refl

pub up_below : (k n : ℕ) → n < k → up k n ≡ n
unfolding up
up_below k n l = holds _ _ (dec_lt n k) l

pub up_above : (k n : ℕ) → k ≤ n → up k n ≡ suc n
unfolding up
up_above k n l = fails _ _ (dec_lt n k) (omega arith)

module _ {A : Type 0} (v : ℕ → A) (k : ℕ) (a : A) where
  pub put_at : (n : ℕ) → n ≡ k → put v k a n ≡ a
  unfolding put
  put_at n e = holds _ _ (ℕ_discrete n k) e

  pub put_below : (n : ℕ) → n < k → put v k a n ≡ v n
  unfolding put
  put_below n l = rw (fails _ _ (ℕ_discrete n k) (omega arith)) (holds _ _ (dec_lt n k) l)

  pub put_above : (n : ℕ) → k ≤ n → put v k a (suc n) ≡ v n
  unfolding put
  put_above n l =
      let e : suc n - 1 ≡ n = omega arith in
      rw (fails _ _ (ℕ_discrete (suc n) k) (omega arith), fails _ _ (dec_lt (suc n) k) (omega arith)) (ap v e)

place : (k n : ℕ) → Place k n
place ℕ.zero ℕ.zero = at
place ℕ.zero (ℕ.suc n) = above n (omega arith)
place (ℕ.suc k) ℕ.zero = below 0 (omega arith)
place (ℕ.suc k) (ℕ.suc n) = next (place k n)
  where
    next : {n : ℕ} → Place k n → Place (suc k) (suc n)
    next (below n l) = below (suc n) (omega arith)
    next at = at
    next (above n l) = above (suc n) (omega arith)

-- two of them

pub up_up : (i k n : ℕ) → i ≤ k → up i (up k n) ≡ up (suc k) (up i n)
up_up i k n l = go (dec_lt n i) (dec_lt n k)
  where
    go : Dec (n < i) → Dec (n < k) → up i (up k n) ≡ up (suc k) (up i n)
    go (yes h) d = rw (up_below k n (omega arith), up_below i n h, up_below (suc k) n (omega arith))
    go (no h) (yes g) = rw (up_below k n g, up_above i n (omega arith), up_below (suc k) (suc n) (omega arith))
    go (no h) (no g) =
        rw (up_above k n (omega arith), up_above i n (omega arith))
        (rw (up_above i (suc n) (omega arith), up_above (suc k) (suc n) (omega arith)))

pub up_low : (k n : ℕ) → up k n ≤ suc n
up_low k n = go (dec_lt n k)
  where
    go : Dec (n < k) → up k n ≤ suc n
    go (yes h) = rw (up_below k n h) (omega arith)
    go (no h) = rw (up_above k n (omega arith)) (omega arith)

module _ {A : Type 0} (v : ℕ → A) where
  -- a shift makes k free, and anything may be put there
  pub put_up : (k : ℕ) (a : A) (n : ℕ) → put v k a (up k n) ≡ v n
  put_up k a n = go (dec_lt n k)
    where
      go : Dec (n < k) → put v k a (up k n) ≡ v n
      go (yes h) = rw (up_below k n h, put_below v k a n h)
      go (no h) = rw (up_above k n (omega arith), put_above v k a n (omega arith))

  -- f leaves indices alone
  pub map_put : (f : A → A) → ((n : ℕ) → f (v n) ≡ v n) → (k : ℕ) (a : A) (n : ℕ) → f (put v k a n) ≡ put v k (f a) n
  map_put f keeps k a n = go (place k n)
    where
      go : {n : ℕ} → Place k n → f (put v k a n) ≡ put v k (f a) n
      go (below n l) = rw (put_below v k a n l, put_below v k (f a) n l, keeps n)
      go at = rw (put_at v k a k refl, put_at v k (f a) k refl)
      go (above n l) = rw (put_above v k a n l, put_above v k (f a) n l, keeps n)

  -- f shifts at i
  pub up_put :
      (f : A → A) (i : ℕ) → ((n : ℕ) → f (v n) ≡ v (up i n)) →
      (k : ℕ) (a : A) (n : ℕ) → i ≤ k → f (put v k a n) ≡ put v (suc k) (f a) (up i n)
  up_put f i shifts k a n l = go (place k n)
    where
      go : {n : ℕ} → Place k n → f (put v k a n) ≡ put v (suc k) (f a) (up i n)
      go (below n h) = rw (put_below v k a n h, shifts n, put_below v (suc k) (f a) (up i n) (omega (arith, up_low i n)))
      go at = rw (put_at v k a k refl, up_above i k l, put_at v (suc k) (f a) (suc k) refl)
      go (above n h) =
          rw (put_above v k a n h, shifts n, up_above i (suc n) (omega arith), up_above i n (omega arith))
          (rw (put_above v (suc k) (f a) (suc n) (omega arith)))

  -- p puts b for k, q puts a' for i, which is what p makes of a
  module _ (p q : A → A) (i k : ℕ) (l : i ≤ k) (a b a' b' : A)
      (p_puts : (n : ℕ) → p (v n) ≡ put v k b n) (q_puts : (n : ℕ) → q (v n) ≡ put v i a' n) (p_a : p a ≡ a') (q_b : q b' ≡ b) where
    put_put_above : {n : ℕ} → Place k n → i ≤ n → p (v n) ≡ q (put v (suc k) b' (suc n))
    put_put_above (below n h) g =
        rw (put_below v (suc k) b' (suc n) (omega arith), p_puts n, q_puts (suc n))
        (rw (put_below v k b n h, put_above v i a' n g))
    put_put_above at g = rw (put_at v (suc k) b' (suc k) refl, q_b, p_puts k, put_at v k b k refl)
    put_put_above (above n h) g =
        rw (put_above v (suc k) b' (suc n) (omega arith), p_puts (suc n), q_puts (suc n))
        (rw (put_above v k b n h, put_above v i a' n (omega arith)))

    pub put_put : (n : ℕ) → p (put v i a n) ≡ q (put v (suc k) b' n)
    put_put n = go (place i n)
      where
        go : {n : ℕ} → Place i n → p (put v i a n) ≡ q (put v (suc k) b' n)
        go (below n h) =
            rw (put_below v i a n h, put_below v (suc k) b' n (omega arith), p_puts n, q_puts n)
            (rw (put_below v k b n (omega arith), put_below v i a' n h))
        go at = rw (put_at v i a i refl, put_below v (suc k) b' i (omega arith), q_puts i, put_at v i a' i refl, p_a)
        go (above n h) = rw (put_above v i a n h) (put_put_above (place k n) h)
