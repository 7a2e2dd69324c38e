-- Every used entry lies on the path of its own key's hash: then a search along a path finds what a search through all finds, and the
-- entry that comes is linked at the end of its path. Assumes nothing.
use Rattle.std.specs.Prelude.{◌≡◌, ℕ, zero, suc, ◌+◌, ◌<◌, ◌≤◌, Bool, true, false, List, ◌≢◌, nat_lt, slice_index, slice_index_or, Some, None}
use Rattle.std.proofs.Math.Path.{refl}
use Rattle.std.proofs.Common.{sym, ◌∙◌}
use native.Mathlib.Omega.{arith}
use Rattle.std.proofs.Math.Decide.{ℕ_discrete}
use borrow.Author.Tests.{ltb-true, ltb-false, lt-ltb}
use Rattle.ast.specs.Words.{ifb}
use Rattle.ast.specs.Cells.{Found, or_else, first_of, last_of}
use Rattle.ast.specs.Index.{after, onward, first_on, last_on, end_on}
use Rattle.ast.specs.Paths.{after_rises, after_most, first_step, first_end, last_step, last_end, place_step, place_end}
use Rattle.ast.specs.Indexed.{On, ends, goes, Index, Lowest, lowest_at, no_lowest, Highest, highest_at, no_highest, Reaches}

module _ (t : ℕ → Bool) where
  none_first : (n : ℕ) → ((k : ℕ) → k < n → t k ≡ false) → first_of t n ≡ None
  unfolding first_of
  none_first zero h = refl
  none_first (suc n) h = rw (none_first n (λ k l. h k (omega arith)), h n (omega arith))

  first_here : (n m : ℕ) → m < n → t m ≡ true → ((k : ℕ) → k < m → t k ≡ false) → first_of t n ≡ Some m
  unfolding first_of
  first_here zero m l e h = absurd (let z : ⊥ = omega arith in z)
  first_here (suc n) m l e h = go (first_here n m) (ℕ_discrete m n)
    where
      go : (m < n → t m ≡ true → ((k : ℕ) → k < m → t k ≡ false) → first_of t n ≡ Some m) → Dec (m ≡ n) → or_else (first_of t n) (ifb (t n) (Some n) None) ≡ Some m
      go ih (yes q) = rw (← q, none_first m h, e)
      go ih (no q) = rw (ih (omega arith) e h)

  none_last : (n : ℕ) → ((k : ℕ) → k < n → t k ≡ false) → last_of t n ≡ None
  unfolding last_of
  none_last zero h = refl
  none_last (suc n) h = rw (h n (omega arith), none_last n (λ k l. h k (omega arith)))

  last_here : (n m : ℕ) → m < n → t m ≡ true → ((k : ℕ) → m < k → k < n → t k ≡ false) → last_of t n ≡ Some m
  unfolding last_of
  last_here zero m l e h = absurd (let z : ⊥ = omega arith in z)
  last_here (suc n) m l e h = go (last_here n m) (ℕ_discrete m n)
    where
      go : (m < n → t m ≡ true → ((k : ℕ) → m < k → k < n → t k ≡ false) → last_of t n ≡ Some m) → Dec (m ≡ n) → ifb (t n) (Some n) (last_of t n) ≡ Some m
      go ih (yes q) = rw (← q, e)
      go ih (no q) = rw (h n (omega arith) (omega arith), ih (omega arith) e (λ k a b. h k a (omega arith)))

  pub lowest_first : {n : ℕ} {r : Found} → Lowest t 0 n r → r ≡ first_of t n
  lowest_first {n} (lowest_at {m = m} a b e h) = sym (first_here n m b e (λ k l. h k (omega arith) l))
  lowest_first {n} (no_lowest h) = sym (none_first n (λ k l. h k (omega arith) l))

  pub highest_last : {n : ℕ} {r : Found} → Highest t 0 n r → r ≡ last_of t n
  highest_last {n} (highest_at {m = m} a b e h) = sym (last_here n m b e h)
  highest_last {n} (no_highest h) = sym (none_last n (λ k l. h k (omega arith) l))

  -- none between i and j
  lower : {i j n : ℕ} {r : Found} → i ≤ j → ((k : ℕ) → i ≤ k → k < j → t k ≡ false) → Lowest t j n r → Lowest t i n r
  lower {i} {j} {n} l g (lowest_at {m = m} a b e h) = lowest_at {m = m} (omega arith) b e (λ k p q. between t i j m l g h k p q)
    where
      between : (t : ℕ → Bool) (i j m : ℕ) → i ≤ j → ((k : ℕ) → i ≤ k → k < j → t k ≡ false) → ((k : ℕ) → j ≤ k → k < m → t k ≡ false) → (k : ℕ) → i ≤ k → k < m → t k ≡ false
      between t i j m l g h k p q = go (nat_lt k j) refl
        where
          go : (b : Bool) → nat_lt k j ≡ b → t k ≡ false
          go true e = g k p (ltb-true k j e)
          go false e = h k (ltb-false k j e) q
  lower {i} {j} {n} l g (no_lowest h) = no_lowest (λ k p q. go k p q (nat_lt k j) refl)
    where
      go : (k : ℕ) → i ≤ k → k < n → (b : Bool) → nat_lt k j ≡ b → t k ≡ false
      go k p q true e = g k p (ltb-true k j e)
      go k p q false e = h k (ltb-false k j e) q

module _ (slot : ℕ → ℕ → ℕ) (rest : ℕ → ℕ) (W : List ℕ) (n : ℕ) where
  -- the number after i on a path, the entry that a search goes on to, and what it finds
  abbrev child : (i h : ℕ) → ℕ
  child i h = slice_index W (slot i h)

  abbrev next : (i h : ℕ) → ℕ
  next i h = onward slot rest W n i h

  abbrev Path : (i h m : ℕ) → Type 0
  Path i h m = On slot rest W n i h m

  abbrev first : (ℕ → Bool) → (i h : ℕ) → Found
  first t i h = first_on slot rest W n t i h

  abbrev last : (ℕ → Bool) → (i h : ℕ) → Found
  last t i h = last_on slot rest W n t i h

  after_is : (i j : ℕ) → i < j → j < n → after n i j ≡ j
  unfolding after
  after_is i j a b = rw (lt-ltb i j a, lt-ltb j n b)

  on_above : {i h m : ℕ} → Path i h m → i ≤ m
  on_above ends = omega arith
  on_above (goes a b o) = let l = on_above o in omega arith

  on_down : {i h m : ℕ} → Path i h m → i < m → (next i h ≤ m) × Path (next i h) (rest h) m
  on_down ends l = absurd (let z : ⊥ = omega arith in z)
  on_down {i} {h} (goes a b o) l = rw (after_is i (child i h) a b) (on_above o, o)

  module _ (t : ℕ → Bool) where
    -- whatever passes from i on lies on the path
    abbrev AllOn : (i h : ℕ) → Type 0
    AllOn i h = (m : ℕ) → i ≤ m → m < n → t m ≡ true → Path i h m

    all_down : (i h : ℕ) → i < n → AllOn i h → AllOn (next i h) (rest h)
    all_down i h l a m p q e = let r = after_rises n i (child i h) l in (on_down (a m (omega arith) q e) (omega arith)).1

    between : (i h : ℕ) → AllOn i h → (k : ℕ) → i < k → k < n → k < next i h → t k ≡ false
    between i h a k p l q = go (t k) refl
      where
        go : (b : Bool) → t k ≡ b → b ≡ false
        go true e = let r = (on_down (a k (omega arith) l e) p).0 in absurd (let z : ⊥ = omega arith in z)
        go false e = refl

    first_lowest : (f i h : ℕ) → n ≤ i + f → AllOn i h → Lowest t i n (first t i h)
    first_lowest zero i h l a = rw (first_end slot rest W n t i h (omega arith)) (no_lowest (λ k p q. absurd (let z : ⊥ = omega arith in z)))
    first_lowest (suc f) i h l a = go (nat_lt i n) refl (λ p. first_lowest f (next i h) (rest h) (let r = after_rises n i (child i h) p in omega arith) (all_down i h p a))
      where
        at : i < n → (b : Bool) → t i ≡ b → Lowest t (next i h) n (first t (next i h) (rest h)) → Lowest t i n (ifb b (Some i) (first t (next i h) (rest h)))
        at p true e r = lowest_at {m = i} (omega arith) p e (λ k x y. absurd (let z : ⊥ = omega arith in z))
        at p false e r = lower t (let r = after_rises n i (child i h) p in omega arith) (λ k x y. skip k x y (ℕ_discrete k i)) r
          where
            skip : (k : ℕ) → i ≤ k → k < next i h → Dec (k ≡ i) → t k ≡ false
            skip k x y (yes q) = rw (q, e)
            skip k x y (no q) = let m = after_most n i (child i h) in between i h a k (omega arith) (omega arith) y

        go : (b : Bool) → nat_lt i n ≡ b → (i < n → Lowest t (next i h) n (first t (next i h) (rest h))) → Lowest t i n (first t i h)
        go true e ih = rw (first_step slot rest W n t i h (ltb-true i n e)) (at (ltb-true i n e) (t i) refl (ih (ltb-true i n e)))
        go false e ih = let q = ltb-false i n e in rw (first_end slot rest W n t i h q) (no_lowest (λ k x y. absurd (let z : ⊥ = omega arith in z)))

    last_highest : (f i h : ℕ) → n ≤ i + f → AllOn i h → Highest t i n (last t i h)
    last_highest zero i h l a = rw (last_end slot rest W n t i h (omega arith)) (no_highest (λ k p q. absurd (let z : ⊥ = omega arith in z)))
    last_highest (suc f) i h l a = go (nat_lt i n) refl (λ p. last_highest f (next i h) (rest h) (let r = after_rises n i (child i h) p in omega arith) (all_down i h p a))
      where
        above : (j : ℕ) → j ≡ next i h → ((k : ℕ) → j ≤ k → k < n → t k ≡ false) → (k : ℕ) → i < k → k < n → t k ≡ false
        above j q g k x y = by (nat_lt k j) refl
          where
            by : (b : Bool) → nat_lt k j ≡ b → t k ≡ false
            by true e = let z = ltb-true k j e in between i h a k x y (omega arith)
            by false e = g k (ltb-false k j e) y

        at : i < n → (b : Bool) → t i ≡ b → {r : Found} → Highest t (next i h) n r → Highest t i n (or_else r (ifb b (Some i) None))
        at p b e (highest_at {m = m} x y z g) = let r = after_rises n i (child i h) p in highest_at {m = m} (omega arith) y z g
        at p true e (no_highest g) = highest_at {m = i} (omega arith) p e (above _ refl g)
        at p false e (no_highest g) = no_highest (λ k x y. skip k x y (ℕ_discrete k i))
          where
            skip : (k : ℕ) → i ≤ k → k < n → Dec (k ≡ i) → t k ≡ false
            skip k x y (yes q) = rw (q, e)
            skip k x y (no q) = above _ refl g k (omega arith) y

        go : (b : Bool) → nat_lt i n ≡ b → (i < n → Highest t (next i h) n (last t (next i h) (rest h))) → Highest t i n (last t i h)
        go true e ih = rw (last_step slot rest W n t i h (ltb-true i n e)) (at (ltb-true i n e) (t i) refl (ih (ltb-true i n e)))
        go false e ih = let q = ltb-false i n e in rw (last_end slot rest W n t i h q) (no_highest (λ k x y. absurd (let z : ⊥ = omega arith in z)))

  -- the place of the number that a path lacks to go on
  abbrev lacking : (i h at : ℕ) → ℕ
  lacking i h at = end_on slot rest W n i h at

  abbrev Ends : (i h at : ℕ) → Type 0
  Ends i h at = Reaches slot rest W n i h at

  steps : (U : List ℕ) (i h m j : ℕ) → slice_index U (slot i h) ≡ j → i < j → j < suc n → On slot rest U (suc n) j (rest h) m → On slot rest U (suc n) i h m
  steps U i h m j e a b o = goes {i = i} {h = h} {m = m} (rw e a) (rw e b) (rw e o)

  pub reaches : (f i h at : ℕ) → i < n → n ≤ i + f → Ends i h (lacking i h at)
  unfolding after
  reaches zero i h at l k = absurd (let z : ⊥ = omega arith in z)
  reaches (suc f) i h at l k = rw (place_step slot rest W n i h at l) (go (nat_lt i (child i h)) (nat_lt (child i h) n) refl refl (λ a b. reaches f (child i h) (rest h) (slot i h) b (omega arith)))
    where
      stop : next i h ≡ n → (i < child i h → child i h < n → ⊥) → Ends i h (lacking (next i h) (rest h) (slot i h))
      stop e s = rw (e, place_end slot rest W n n (rest h) (slot i h) (omega arith)) (record { node = i; left = h; place = refl; low = omega arith; high = l; stops = s; path = λ U g q. steps U i h n n q l (omega arith) ends })

      go : (a b : Bool) → nat_lt i (child i h) ≡ a → nat_lt (child i h) n ≡ b → (i < child i h → child i h < n → Ends (child i h) (rest h) (lacking (child i h) (rest h) (slot i h))) → Ends i h (lacking (next i h) (rest h) (slot i h))
      go true true p q ih =
          let a = ltb-true i (child i h) p in
          let b = ltb-true (child i h) n q in
          let r = ih a b in
          rw (p, q) (record { node = r.node; left = r.left; place = r.place; low = (let z = r.low in omega arith); high = r.high; stops = r.stops; path = λ U g e. let z = r.low in steps U i h n (child i h) (g i h (omega arith)) a (omega arith) (r.path U g e) })
      go true false p q ih = stop (rw (p, q)) (λ a b. let z = ltb-false (child i h) n q in omega arith)
      go false b p q ih = stop (rw p) (λ a b. let z = ltb-false i (child i h) p in omega arith)

-- the searches
module _ {slot : ℕ → ℕ → ℕ} {rest : ℕ → ℕ} {W : List ℕ} {hash : ℕ → ℕ} {n : ℕ} (x : Index slot rest W hash n) (t : ℕ → Bool) (h : ℕ) (keyed : (m : ℕ) → t m ≡ true → hash m ≡ h) where
  all_on : (m : ℕ) → 0 ≤ m → m < n → t m ≡ true → On slot rest W n 0 h m
  all_on m a b e = rw (keyed m e) at (x.on_path m b)

  pub first_is : first_on slot rest W n t 0 h ≡ first_of t n
  first_is = lowest_first t (first_lowest slot rest W n t n 0 h (omega arith) all_on)

  pub last_is : last_on slot rest W n t 0 h ≡ last_of t n
  last_is = highest_last t (last_highest slot rest W n t n 0 h (omega arith) all_on)

pub index_none : {slot : ℕ → ℕ → ℕ} {rest : ℕ → ℕ} {W : List ℕ} {hash : ℕ → ℕ} → Index slot rest W hash 0
index_none = record { on_path = λ m l. absurd (let z : ⊥ = omega (arith, l) in z); below = λ i h l. absurd (let z : ⊥ = omega (arith, l) in z) }

module _ {slot : ℕ → ℕ → ℕ} {rest : ℕ → ℕ} {W : List ℕ} {hash : ℕ → ℕ} {n : ℕ} (x : Index slot rest W hash n) (U : List ℕ) (hash' : ℕ → ℕ) where
  -- other words, with the same children and keys
  pub index_same : ((j k : ℕ) → j < n → slice_index U (slot j k) ≡ slice_index W (slot j k)) → ((m : ℕ) → m < n → hash' m ≡ hash m) → Index slot rest U hash' n
  index_same g e = record { on_path = λ m l. rw (e m l) (moves (x.on_path m l)); below = λ i h l. rw (g i h l) (x.below i h l) }
    where
      moves : {i h m : ℕ} → On slot rest W n i h m → On slot rest U n i h m
      moves ends = ends
      moves {i} {h} {m} (goes a b o) = let q = g i h (omega arith) in goes {i = i} {h = h} {m = m} (rw q a) (rw q b) (rw q (moves o))

  -- one entry more
  module _ (h : ℕ) (apart : (i j k l : ℕ) → slot i k ≡ slot j l → i ≡ j) (some : 0 < n)
      (other : (j k : ℕ) → j < n → (slot j k ≢ end_on slot rest W n 0 h 0) → slice_index U (slot j k) ≡ slice_index W (slot j k))
      (here : slice_index_or U (end_on slot rest W n 0 h 0) 0 ≡ n) (new : (k : ℕ) → slice_index U (slot n k) ≡ 0)
      (old : (m : ℕ) → m < n → hash' m ≡ hash m) (key : hash' n ≡ h) where
    end : Reaches slot rest W n 0 h (end_on slot rest W n 0 h 0)
    end = reaches slot rest W n n 0 h 0 some (omega arith)

    stays : (i k : ℕ) → i < slice_index W (slot i k) → slice_index W (slot i k) < n → slice_index U (slot i k) ≡ slice_index W (slot i k)
    stays i k a b = other i k (omega arith) (λ e.
        let q = e ∙ end.place in
        let m = apart i end.node k end.left q in
        end.stops (rw (← q, ← m) a) (rw (← q) b))

    grows : {i k m : ℕ} → On slot rest W n i k m → On slot rest U (suc n) i k m
    grows ends = ends
    grows {i} {k} {m} (goes a b o) = let q = stays i k a b in goes {i = i} {h = k} {m = m} (rw q a) (rw q (omega arith)) (rw q (grows o))

    reached : On slot rest U (suc n) 0 h n
    reached = end.path U (λ j k l. let z = end.high in other j k (omega arith) (λ e. let m = apart j end.node k end.left (e ∙ end.place) in omega arith)) (rw (← end.place) here)

    low_child : (i k : ℕ) → i < suc n → slice_index U (slot i k) < suc n
    low_child i k l = go (ℕ_discrete i n) (ℕ_discrete (slot i k) (end_on slot rest W n 0 h 0))
      where
        go : Dec (i ≡ n) → Dec (slot i k ≡ end_on slot rest W n 0 h 0) → slice_index U (slot i k) < suc n
        go (yes q) d = rw (q, new k) (omega arith)
        go (no q) (yes e) = rw (e, here) (omega arith)
        go (no q) (no e) = let z = x.below i k (omega arith) in rw (other i k (omega arith) e) (omega arith)

    pub index_more : Index slot rest U hash' (suc n)
    index_more = record { on_path = λ m l. at m l (ℕ_discrete m n); below = low_child }
      where
        at : (m : ℕ) → m < suc n → Dec (m ≡ n) → On slot rest U (suc n) 0 (hash' m) m
        at m l (yes q) = rw (q, key) reached
        at m l (no q) = rw (old m (omega arith)) (grows (x.on_path m (omega arith)))

-- the first entry
pub index_one : {slot : ℕ → ℕ → ℕ} {rest : ℕ → ℕ} {W : List ℕ} {hash : ℕ → ℕ} → ((k : ℕ) → slice_index W (slot 0 k) ≡ 0) → Index slot rest W hash 1
index_one {slot} {rest} {W} {hash} e = record { on_path = λ m l. (let q : m ≡ 0 = omega arith in rw q ends); below = λ i h l. (let q : i ≡ 0 = omega arith in rw (q, e h) (omega arith)) }
