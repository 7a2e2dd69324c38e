-- Searches and blocks: the two that the row table and the cell store are made of.
-- A list has the newest first; its words have the oldest first, one block for each. Assumes nothing.
use Rattle.std.specs.Prelude.{ℕ, ◌-◌, ◌+◌, ◌*◌, ◌≤◌, ◌<◌, Bool, get_or, drop, List, [], ◌∷◌, ◌++◌, Some, None}
use Rattle.std.proofs.Math.Path.{◌≡◌, refl}
use Rattle.std.proofs.Common.{sym, ap, ◌∙◌, subst, arith, length-append, get_or-append-add, get_or-drop, suc-mul, zero-mul, append_assoc}
use Rattle.std.proofs.Math.Option.{Option, none, some}
use Rattle.std.proofs.Math.Bool.{true, false}
use Rattle.std.proofs.Math.ListN.{length, get_or-append}
use Rattle.std.proofs.lemmas.List.Edits.{sets, sets-eq}
use Rattle.std.proofs.Math.Seq.{take-append_seam, drop-append-add}
use Rattle.ast.specs.Words.{ifb}
use Rattle.ast.specs.Cells.{Found, or_else, first_of}

abbrev pub yes? : {P : Type 0} → Dec P → Bool
yes? (yes h) = true
yes? (no h) = false

abbrev pub found_of : Option ℕ → Found
found_of (some n) = Some n
found_of none = None

module _ {A : Type 0} where
  -- the number of the first that passes
  unfoldable pub first : (A → Bool) → List A → Found
  first p [] = None
  first p (x ∷ xs) = or_else (first p xs) (ifb (p x) (Some (length xs)) None)

  pub data Nth (n : ℕ) (x : A) : List A → Type 0 where
    here : {xs : List A} → n ≡ length xs → Nth n x (x ∷ xs)
    there : {y : A} {xs : List A} → Nth n x xs → Nth n x (y ∷ xs)

  pub data Extends (xs : List A) : List A → Type 0 where
    same : Extends xs xs
    more : {x : A} {ys : List A} → Extends xs ys → Extends xs (x ∷ ys)

  pub extends_trans : {a b c : List A} → Extends a b → Extends b c → Extends a c
  extends_trans e same = e
  extends_trans e (more f) = more (extends_trans e f)

  pub nth_below : {n : ℕ} {x : A} {xs : List A} → Nth n x xs → n < length xs
  nth_below (here e) = omega arith
  nth_below (there h) = let l = nth_below h in omega arith

  pub nth_lift : {n : ℕ} {x : A} {xs ys : List A} → Extends xs ys → Nth n x xs → Nth n x ys
  nth_lift same h = h
  nth_lift (more e) h = there (nth_lift e h)

  pub nth_unique : {n : ℕ} {x y : A} {xs : List A} → Nth n x xs → Nth n y xs → x ≡ y
  nth_unique (here e) (here f) = refl
  nth_unique (here e) (there h) = let l = nth_below h in absurd (omega arith)
  nth_unique (there h) (here e) = let l = nth_below h in absurd (omega arith)
  nth_unique (there h) (there k) = nth_unique h k

  -- what was found stays found
  pub first_stays : (p : A → Bool) {xs ys : List A} {n : ℕ} → Extends xs ys → first p xs ≡ Some n → first p ys ≡ Some n
  unfolding first
  first_stays p same e = e
  first_stays p (more f) e = rw (first_stays p f e)

  pub record Passes (p : A → Bool) (n : ℕ) (xs : List A) : Type 0 where
    pub one : A
    pub nth : Nth n one xs
    pub passes : p one ≡ true

  pub first_passes : (p : A → Bool) (xs : List A) (n : ℕ) → first p xs ≡ Some n → Passes p n xs
  unfolding first
  first_passes p [] n e = let z : ◌≡◌ {A = ℕ} 0 1 = cc in absurd (omega arith)
  first_passes p (x ∷ xs) n e = go (first p xs) (p x) refl refl (first_passes p xs n) e
    where
      go : (o : Found) (b : Bool) → first p xs ≡ o → p x ≡ b → (first p xs ≡ Some n → Passes p n xs) → or_else o (ifb b (Some (length xs)) None) ≡ Some n → Passes p n (x ∷ xs)
      go (Some m) b g q ih f = let r = ih (g ∙ f) in record { one = r.one; nth = there r.nth; passes = r.passes }
      go None true g q ih f = let l : n ≡ length xs = cc in record { one = x; nth = here l; passes = q }
      go None false g q ih f = let z : ◌≡◌ {A = ℕ} 0 1 = cc in absurd (omega arith)

  -- a search over numbers finds what a search over the list does
  pub first_found : (p : A → Bool) (t : ℕ → Bool) (xs : List A) → ((n : ℕ) (x : A) → Nth n x xs → t n ≡ p x) → first_of t (length xs) ≡ first p xs
  unfolding first first_of
  first_found p t [] h = refl
  first_found p t (x ∷ xs) h = rw (first_found p t xs (λ n y k. h n y (there k)), h (length xs) x (here refl))

-- the words of a list: a block for each, the oldest first, over those below
pub data Blocks {A : Type 0} (z : ℕ) (B : List A → A → List ℕ → Type 0) : List A → List ℕ → Type 0 where
  no_block : Blocks z B [] []
  block : {x : A} {xs : List A} {ws bs : List ℕ} → B xs x bs → length bs ≡ z → Blocks z B xs ws → Blocks z B (x ∷ xs) (ws ++ bs)

-- the block of the nth
pub record Read {A : Type 0} (z : ℕ) (B : List A → A → List ℕ → Type 0) (n : ℕ) (x : A) (xs : List A) (all : List ℕ) : Type 0 where
  pub below : List A
  pub words : List ℕ
  pub place : n ≡ length below
  pub is : B below x words
  pub under : Extends (x ∷ below) xs
  pub at : (k : ℕ) → k < z → get_or all (n * z + k) 0 ≡ get_or words k 0

module _ {A : Type 0} {z : ℕ} {B : List A → A → List ℕ → Type 0} where
  pub blocks_length : {xs : List A} {ws : List ℕ} → Blocks z B xs ws → length ws ≡ length xs * z
  blocks_length no_block = rw zero-mul
  blocks_length (block {xs = xs} {ws = ws} {bs = bs} b e h) = rw (length-append, blocks_length h, e, suc-mul)

  pub last_block : {xs : List A} {ws : List ℕ} (bs rest : List ℕ) → length bs ≡ z → Blocks z B xs ws → (k : ℕ) → k < z → get_or ((ws ++ bs) ++ rest) (length xs * z + k) 0 ≡ get_or bs k 0
  last_block bs rest s h k l = rw (append_assoc, ← blocks_length h, get_or-append-add) (get_or-append bs rest 0 k (subst (λ (m : ℕ). k < m) (sym s) l))

  pub read : {n : ℕ} {x : A} {xs : List A} {ws : List ℕ} (rest : List ℕ) → Nth n x xs → Blocks z B xs ws → Read z B n x xs (ws ++ rest)
  read {n} rest (here e) (block {xs = xs} {ws = ws} {bs = bs} b s h) = record { below = xs; words = bs; place = e; is = b; under = same; at = λ k l. rw e (last_block bs rest s h k l) }
  read rest (there k) (block {ws = ws} {bs = bs} b e h) = let r = read (bs ++ rest) k h in record { below = r.below; words = r.words; place = r.place; is = r.is; under = more r.under; at = λ k l. rw append_assoc (r.at k l) }

-- one more block, written over what is past the words
pub written : (ws bs rest : List ℕ) (n : ℕ) → length ws ≡ n → length bs ≤ length rest → sets (ws ++ rest) n bs ≡ (ws ++ bs) ++ drop (length bs) rest
written ws bs rest n e l = rw (← e, sets-eq bs (ws ++ rest) (length ws) (simp length-append (omega arith)), take-append_seam, drop-append-add)

-- what lies past the words stays
pub stays : (ws old : List ℕ) (i : ℕ) → length ws ≤ i → get_or (ws ++ drop (length ws) old) i 0 ≡ get_or old i 0
stays ws old i l =
    let j : i ≡ length ws + (i - length ws) = omega arith in
    ap (λ (n : ℕ). get_or (ws ++ drop (length ws) old) n 0) j ∙ get_or-append-add ws _ _ 0 ∙ get_or-drop (length ws) old (i - length ws) 0 ∙ ap (λ (n : ℕ). get_or old n 0) (sym j)
