-- Laws of the count of repeats: call by call, and a call against those before it, the newest first. Assumes nothing.
use Rattle.std.specs.Prelude.{◌≡◌, Bool, true, false, ◌||◌, ◌⊎◌, List, [], ◌∷◌, ◌++◌, cond, eqb}
use Rattle.std.specs.List.{range_with_len, count_by}
use Rattle.std.proofs.Math.Path.{refl}
use Rattle.std.proofs.Common.{sym, ap, ◌∙◌, inl, inr, add-zero, zero-add, sub-one, eq-eqb, ne_eqb}
use Prim.Native.Nat.{ℕ, zero, suc, ◌+◌, ◌-◌, ◌<◌, ◌≤◌}
use Rattle.std.proofs.Math.Nat.{sub-zero}
use Rattle.std.proofs.Math.Decide.{ℕ_discrete}
use Rattle.std.proofs.lemmas.List.{reverse-append}
use Rattle.std.proofs.lemmas.List.Sums.{sum_by-cons}
use native.Mathlib.Omega.{arith}
use Rattle.lines.specs.Calls.{answer_word, code}
use Rattle.lines.specs.Repeats.{Accepted, call, with_call, accepted, same, occurs, repeats_after, repeats, seen, is_repeat, is_call}

pub occurs_yes : (x y : Accepted) (l : List Accepted) → same x y ≡ true → occurs x (y ∷ l) ≡ 1
unfolding occurs
occurs_yes x y l h = rw (h, occurs)

pub occurs_no : (x y : Accepted) (l : List Accepted) → same x y ≡ false → occurs x (y ∷ l) ≡ occurs x l
unfolding occurs
occurs_no x y l h = rw (h, occurs)

cases : (b : Bool) → (b ≡ true) ⊎ (b ≡ false)
cases true = inl refl
cases false = inr refl

occurs_most : (x : Accepted) (l : List Accepted) → occurs x l ≤ 1
unfolding occurs
occurs_most x [] = omega arith
occurs_most x (y ∷ l) = elim (cases (same x y)) [
  | inl h ↦ (let e : occurs x (y ∷ l) ≡ 1 = occurs_yes x y l h in omega arith)
  | inr h ↦ (let e : occurs x (y ∷ l) ≡ occurs x l = occurs_no x y l h in let r : occurs x l ≤ 1 = occurs_most x l in omega arith)
]

never : true ≡ false → ⊥
never e = let z : ◌≡◌ {A = ℕ} 0 1 = cc in omega arith

-- One more number, at the end.
range_more : (a n : ℕ) → range_with_len a (suc n) ≡ range_with_len a n ++ (a + n) ∷ []
range_more a zero = rw add-zero
range_more a (suc n) = let e : a + suc n ≡ a + 1 + n = omega arith in rw e (ap (λ l. a ∷ l) (range_more (a + 1) n))

module _ (codes A : List ℕ) where
  pub with_yes : (i : ℕ) (l : List Accepted) → answer_word A i 0 ≡ 0 → with_call codes A i l ≡ call (code codes i) (answer_word A i 1) ∷ l
  unfolding with_call
  with_yes i l h = rw (eq-eqb _ _ h, with_call)

  pub with_no : (i : ℕ) (l : List Accepted) → (answer_word A i 0 ≡ 0 → ⊥) → with_call codes A i l ≡ l
  unfolding with_call
  with_no i l h = rw (ne_eqb _ _ h, with_call)

  is_yes : (j c row : ℕ) → answer_word A j 0 ≡ 0 → is_call codes A j c row ≡ same (call c row) (call (code codes j) (answer_word A j 1))
  unfolding is_call
  is_yes j c row h = rw (eq-eqb _ _ h, is_call)

  is_no : (j c row : ℕ) → (answer_word A j 0 ≡ 0 → ⊥) → is_call codes A j c row ≡ false
  unfolding is_call
  is_no j c row h = rw (ne_eqb _ _ h, is_call)

  -- The accepted before call i, the newest first.
  abbrev pub before : ℕ → List Accepted
  before zero = []
  before (suc i) = with_call codes A i (before i)

  -- A call against one more.
  one_more : (c row i : ℕ) (l : List Accepted) → occurs (call c row) (with_call codes A i l) ≡ cond (is_call codes A i c row) 1 (occurs (call c row) l)
  one_more c row i l = elim (ℕ_discrete (answer_word A i 0) 0) [
    | yes h ↦ elim (cases (same (call c row) (call (code codes i) (answer_word A i 1)))) [
      | inl e ↦ rw (with_yes i l h, is_yes i c row h, e) (occurs_yes _ _ l e)
      | inr e ↦ rw (with_yes i l h, is_yes i c row h, e) (occurs_no _ _ l e)
    ]
    | no h ↦ rw (with_no i l h, is_no i c row h)
  ]

  seen_more : (c row i : ℕ) → seen codes A c row (suc i) ≡ (is_call codes A i c row || seen codes A c row i)
  seen_more c row i = rw (range_more 0 i, reverse-append, zero-add)

  -- By the call before the j-th.
  pub seen_yes : (c row j : ℕ) → 0 < j → is_call codes A (j - 1) c row ≡ true → seen codes A c row j ≡ true
  seen_yes c row zero h e = absurd (let z : ⊥ = omega arith in z)
  seen_yes c row (suc j) h e = rw (seen_more c row j, rw sub-one at e)

  pub seen_no : (c row j : ℕ) → 0 < j → is_call codes A (j - 1) c row ≡ false → seen codes A c row j ≡ seen codes A c row (j - 1)
  seen_no c row zero h e = absurd (let z : ⊥ = omega arith in z)
  seen_no c row (suc j) h e = rw (seen_more c row j, rw sub-one at e, sub-one)

  occurs_seen : (c row i : ℕ) → occurs (call c row) (before i) ≡ cond (seen codes A c row i) 1 0
  unfolding occurs
  occurs_seen c row zero = refl
  occurs_seen c row (suc i) = elim (cases (is_call codes A i c row)) [
    | inl e ↦ rw (one_more c row i (before i), seen_more c row i, e)
    | inr e ↦ rw (one_more c row i (before i), seen_more c row i, e) (occurs_seen c row i)
  ]

  is_repeat_yes : (i : ℕ) → answer_word A i 0 ≡ 0 → is_repeat codes A i ≡ seen codes A (code codes i) (answer_word A i 1) i
  unfolding is_repeat
  is_repeat_yes i h = rw (eq-eqb _ _ h)

  is_repeat_no : (i : ℕ) → (answer_word A i 0 ≡ 0 → ⊥) → is_repeat codes A i ≡ false
  unfolding is_repeat
  is_repeat_no i h = rw (ne_eqb _ _ h)

  -- The same as numbers: 1 where call i repeats an earlier one, else 0.
  unfoldable pub repeat : ℕ → ℕ
  repeat i = elim (eqb (answer_word A i 0) 0) [ true ↦ occurs (call (code codes i) (answer_word A i 1)) (before i) | false ↦ 0 ]

  pub repeat_yes : (i : ℕ) → answer_word A i 0 ≡ 0 → repeat i ≡ occurs (call (code codes i) (answer_word A i 1)) (before i)
  unfolding repeat
  repeat_yes i h = rw (eq-eqb _ _ h, repeat)

  pub repeat_no : (i : ℕ) → (answer_word A i 0 ≡ 0 → ⊥) → repeat i ≡ 0
  unfolding repeat
  repeat_no i h = rw (ne_eqb _ _ h, repeat)

  pub repeat_most : (i : ℕ) → repeat i ≤ 1
  repeat_most i = elim (ℕ_discrete (answer_word A i 0) 0) [
    | yes h ↦ rw (repeat_yes i h) (occurs_most _ _)
    | no h ↦ rw (repeat_no i h) (omega arith)
  ]

  repeat_as : (i : ℕ) → repeat i ≡ cond (is_repeat codes A i) 1 0
  repeat_as i = elim (ℕ_discrete (answer_word A i 0) 0) [
    | yes h ↦ rw (repeat_yes i h, is_repeat_yes i h) (occurs_seen _ _ i)
    | no h ↦ rw (repeat_no i h, is_repeat_no i h)
  ]

  -- a call against the one before the j-th

  hit : (c row j : ℕ) → is_call codes A j c row ≡ true → occurs (call c row) (before (suc j)) ≡ 1
  hit c row j e = elim (ℕ_discrete (answer_word A j 0) 0) [
    | yes h ↦ rw (with_yes j (before j) h) (occurs_yes _ _ _ (sym (is_yes j c row h) ∙ e))
    | no h ↦ absurd (never (sym e ∙ is_no j c row h))
  ]

  miss : (c row j : ℕ) → is_call codes A j c row ≡ false → occurs (call c row) (before (suc j)) ≡ occurs (call c row) (before j)
  miss c row j e = elim (ℕ_discrete (answer_word A j 0) 0) [
    | yes h ↦ rw (with_yes j (before j) h) (occurs_no _ _ _ (sym (is_yes j c row h) ∙ e))
    | no h ↦ rw (with_no j (before j) h)
  ]

  pub hit_down : (c row j : ℕ) → 0 < j → is_call codes A (j - 1) c row ≡ true → occurs (call c row) (before j) ≡ 1
  hit_down c row zero h e = absurd (let z : ⊥ = omega arith in z)
  hit_down c row (suc j) h e = hit c row j (rw sub-one at e)

  pub miss_down : (c row j : ℕ) → 0 < j → is_call codes A (j - 1) c row ≡ false → occurs (call c row) (before j) ≡ occurs (call c row) (before (j - 1))
  miss_down c row zero h e = absurd (let z : ⊥ = omega arith in z)
  miss_down c row (suc j) h e = rw sub-one (miss c row j (rw sub-one at e))

  pub none_left : (c row j : ℕ) → j ≤ 0 → occurs (call c row) (before j) ≡ 0
  unfolding occurs
  none_left c row zero h = refl
  none_left c row (suc j) h = absurd (let z : ⊥ = omega arith in z)

  -- one call more

  turn : (i m : ℕ) → repeats_after (before i) (accepted codes A i (suc m)) ≡ repeat i + repeats_after (before (suc i)) (accepted codes A (suc i) m)
  unfolding accepted repeats_after
  turn i m = elim (ℕ_discrete (answer_word A i 0) 0) [
    | yes h ↦ rw (with_yes i (accepted codes A (suc i) m) h, with_yes i (before i) h, repeat_yes i h)
    | no h ↦ rw (with_no i (accepted codes A (suc i) m) h, with_no i (before i) h, repeat_no i h, zero-add)
  ]

  -- What is still to be counted from call i on, of n.
  abbrev pub rest : ℕ → ℕ → ℕ
  rest n i = repeats_after (before i) (accepted codes A i (n - i))

  pub rest_turn : (n i : ℕ) → i < n → rest n i ≡ repeat i + rest n (i + 1)
  rest_turn n i h = let e : n - i ≡ suc (n - (i + 1)) = omega arith in let g : i + 1 ≡ suc i = omega arith in rw (e, g) (turn i (n - suc i))

  pub rest_end : (n i : ℕ) → n ≤ i → rest n i ≡ 0
  unfolding accepted repeats_after
  rest_end n i h = let e : n - i ≡ 0 = omega arith in rw e

  pub rest_start : (n : ℕ) → rest n 0 ≡ repeats codes A n
  unfolding repeats
  rest_start n = rw sub-zero

  -- The same as a count over the numbers of the calls, which the function makes.
  abbrev pub counted : ℕ → ℕ → ℕ
  counted n i = count_by (is_repeat codes A) (range_with_len i (n - i))

  counted_from : (m i : ℕ) → repeats_after (before i) (accepted codes A i m) ≡ count_by (is_repeat codes A) (range_with_len i m)
  unfolding accepted repeats_after
  counted_from zero i = refl
  counted_from (suc m) i = let g : i + 1 ≡ suc i = omega arith in turn i m ∙ rw (repeat_as i, g, counted_from m (suc i)) (sym (sum_by-cons _ i (range_with_len (suc i) m)))

  pub rest_counted : (n i : ℕ) → rest n i ≡ counted n i
  rest_counted n i = counted_from (n - i) i

  pub counted_turn : (n i : ℕ) → i < n → counted n i ≡ cond (is_repeat codes A i) 1 0 + counted n (i + 1)
  counted_turn n i h = let e : n - i ≡ suc (n - (i + 1)) = omega arith in rw e (sum_by-cons _ i (range_with_len (i + 1) (n - (i + 1))))

  pub counted_start : (n : ℕ) → counted n 0 ≡ repeats codes A n
  counted_start n = sym (rest_counted n 0) ∙ rest_start n
