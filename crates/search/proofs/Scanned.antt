-- The plain search gives the highest row that states a judgment, over any rows and any cells; and the search by the index is the same
-- wherever arguments are lowest cells.
use Rattle.std.specs.Prelude.{ℕ, suc, ◌+◌, ◌*◌, ◌<◌, ◌≤◌, ◌≡◌, List, [], ◌∷◌, map, Bool, true, false, length, get_or, slice_get, Some, None, eqb, ltb}
use Rattle.std.proofs.Math.Path.{refl, sym, ap}
use Rattle.std.proofs.Common.{◌∙◌, add-zero, arith, eq-eqb, ltb-true}
use Rattle.std.proofs.Math.Option.{Option, none, some}
use Rattle.ast.specs.Words.{ifb}
use Rattle.producer.specs.Machine.{find_row}
use Rattle.rules.specs.Kinds.{sort_of}
use Rattle.rules.specs.Sorts.{sort, sorted}
use Rattle.rules.specs.declared.Sort.{Sort}
use Rattle.walk.specs.Judgment.{Judgment, kind, Argument, number, of_interval, of_quote, of_context, arguments}
use Rattle.walk.specs.Rule.{kind_of}
use Rattle.link.proofs.Back.{under_5}
use Rattle.link.specs.Store.{ifb_true, eqb_true}
use Rattle.link.specs.Table.{below, row_word, interval_at, quote_at, context_at}
use Rattle.search.specs.declared.plain.Wanted.{Wanted}
use Rattle.search.specs.Newest.{RowStates, Newest, asked, Finds, LowestWords, LowestRows}
use Rattle.search.specs.Highest.{only, last_found, last_below}
use Rattle.search.specs.Alike.{same_within, same_cells, cells_within}
use Rattle.search.specs.Shown.{Like, like_none, unlike, none_some, intervals_like, quotes_like, contexts_like}
use Rattle.search.specs.Arguments.{ArgumentRead, ReadAll, none_left, ◌then◌, Told, told, arguments_asked, read_length, lowest_read}
use Rattle.search.specs.Indexing.{Indexed}
use Rattle.search.specs.Found.{states, stated, newest}
use Rattle.search.specs.Plain.{same_word, same_argument, row_is, scan_rows}
use Rattle.ast.specs.Cells.{Found}

-- a word of a row against one that is asked for

below_like : {A : Type 0} (at : ℕ → List ℕ → ℕ → Option A) (m : ℕ) (C : List ℕ) → ((i j : ℕ) → i < m → j < m → Like (at m C i) (at m C j) (same_within m C i j)) → (x y : ℕ) → Like (below at m C x) (below at m C y) (ifb (ltb y m) (same_cells C x y) false)
below_like {A} at m C h x y = go (ltb x m) (ltb y m) refl refl
  where
    go : (b c : Bool) → ltb x m ≡ b → ltb y m ≡ c → Like {A = A} (elim b as (λ _. Option A) [ true ↦ at m C x | false ↦ none ]) (elim c as (λ _. Option A) [ true ↦ at m C y | false ↦ none ]) (ifb c (same_cells C x y) false)
    go false c e f = like_none _ _
    go true false e f = unlike _ _ (λ z p q. none_some q)
    go true true e f = rw (cells_within C m x y (ltb-true x m e)) (h x y (ltb-true x m e) (ltb-true y m f))

record ToldWord (m : ℕ) (C : List ℕ) (a : Argument) (x y : ℕ) : Type 0 where
  reads : same_word C m (Some (sort a)) x y ≡ true → ArgumentRead m C a y
  tells : ArgumentRead m C a y → same_word C m (Some (sort a)) x y ≡ true

by_like : {A : Type 0} {o o' : Option A} {b : Bool} {t : A} → Like o o' b → o ≡ some t → (b ≡ true → o' ≡ some t) × (o' ≡ some t → b ≡ true)
by_like {t = t} l e = (l.same t e, l.tells t e)

told_word : (m : ℕ) (C : List ℕ) (a : Argument) (x y : ℕ) → ArgumentRead m C a x → ToldWord m C a x y
unfolding same_word
told_word m C (number n) x y p = record { reads = λ t. eqb_true y x t ∙ p; tells = λ q. eq-eqb y x (q ∙ sym p) }
told_word m C (of_interval r) x y p = let l = by_like (below_like interval_at m C (λ i j. intervals_like m C i j) x y) p in record { reads = l.0; tells = l.1 }
told_word m C (of_quote t) x y p = let l = by_like (below_like quote_at m C (λ i j. quotes_like m C i j) x y) p in record { reads = l.0; tells = l.1 }
told_word m C (of_context g) x y p = let l = by_like (below_like context_at m C (λ i j. contexts_like m C i j) x y) p in record { reads = l.0; tells = l.1 }

-- all words of a row

module _ (m : ℕ) (C : List ℕ) where
  abbrev SameAt : List Argument → List ℕ → List ℕ → ℕ → Type 0
  SameAt as' xs ys k = same_word C m (slice_get (map sort as') k) (get_or xs k 0) (get_or ys k 0) ≡ true

  rows_read : (as' : List Argument) (xs ys : List ℕ) → length as' ≤ length ys → ReadAll m C as' xs → ((k : ℕ) → k < length as' → SameAt as' xs ys k) → ReadAll m C as' ys
  rows_read [] xs ys l none_left h = none_left
  rows_read (a ∷ as') [] ys l x4 h = elim x4 [ ]
  rows_read (a ∷ as') (x ∷ xs) [] l (p then ps) h = absurd (let z : ⊥ = omega arith in z)
  rows_read (a ∷ as') (x ∷ xs) (y ∷ ys) l (p then ps) h = (told_word m C a x y p).reads (h 0 (omega arith)) then rows_read as' xs ys (omega arith) ps (λ k i. h (suc k) (omega arith))

  absent_same : (x y : ℕ) → same_word C m None x y ≡ true
  unfolding same_word
  absent_same x y = refl

  rows_same : (as' : List Argument) (xs ys : List ℕ) → ReadAll m C as' xs → ReadAll m C as' ys → (k : ℕ) → SameAt as' xs ys k
  rows_same [] xs ys none_left none_left k = absent_same _ _
  rows_same (a ∷ as') [] ys x4 _ k = elim x4 [ ]
  rows_same (a ∷ as') (x ∷ xs) [] _ x9 k = elim x9 [ ]
  rows_same (a ∷ as') (x ∷ xs) (y ∷ ys) (p then ps) (q then qs) ℕ.zero = (told_word m C a x y p).tells q
  rows_same (a ∷ as') (x ∷ xs) (y ∷ ys) (p then ps) (q then qs) (ℕ.suc k) = rows_same as' xs ys ps qs k

sort_is : (j : Judgment) (k : ℕ) → sort_of (kind j) k ≡ slice_get (map sort (arguments j)) k
unfolding sort_of
sort_is j k = ap (λ (l : List Sort). slice_get l k) (sym (sorted j))

-- over any words, where what is asked for is a judgment
module _ (R : List ℕ) (C : List ℕ) (m : ℕ) (w : Wanted) (j : Judgment) (asks : asked m C w.kind w.a w.b w.c w.d w.e ≡ some j) where
  abbrev five : List ℕ
  five = w.a ∷ w.b ∷ w.c ∷ w.d ∷ w.e ∷ []

  abbrev words : ℕ → List ℕ
  words i = row_word 13 R i ∷ row_word 14 R i ∷ row_word 15 R i ∷ row_word 16 R i ∷ row_word 17 R i ∷ []

  wanted : Told w.kind m C w.a w.b w.c w.d w.e j
  wanted = told asks

  argument_is : (i k x : ℕ) → same_argument R C m i w.kind k x ≡ same_word C m (slice_get (map sort (arguments j)) k) x (get_or R (i * 24 + (13 + k)) 0)
  unfolding same_argument
  argument_is i k x = rw (← wanted.is, sort_is j k)

  first_word : (i : ℕ) → row_word 0 R i ≡ get_or R (i * 24) 0
  first_word i = rw add-zero

  has : (i : ℕ) → row_is R C m w i ≡ true → RowStates m R C j i
  unfolding row_is
  has i q =
      let p₀ = ifb_true (eqb (kind_of (get_or R (i * 24) 0)) w.kind) _ q in
      let p₁ = ifb_true (same_argument R C m i w.kind 0 w.a) _ p₀.1 in
      let p₂ = ifb_true (same_argument R C m i w.kind 1 w.b) _ p₁.1 in
      let p₃ = ifb_true (same_argument R C m i w.kind 2 w.c) _ p₂.1 in
      let p₄ = ifb_true (same_argument R C m i w.kind 3 w.d) (same_argument R C m i w.kind 4 w.e) p₃.1 in
      let few = read_length wanted.all in
      let all = rows_read m C (arguments j) five (words i) few wanted.all (λ k l. under_5 (λ k. same_word C m (slice_get (map sort (arguments j)) k) (get_or five k 0) (get_or (words i) k 0) ≡ true)
      (sym (argument_is i 0 w.a) ∙ p₁.0)
      (sym (argument_is i 1 w.b) ∙ p₂.0)
      (sym (argument_is i 2 w.c) ∙ p₃.0)
      (sym (argument_is i 3 w.d) ∙ p₄.0)
      (sym (argument_is i 4 w.e) ∙ p₄.1) k (omega arith)) in
      let e : kind_of (row_word 0 R i) ≡ kind j = ap kind_of (first_word i) ∙ eqb_true _ _ p₀.0 ∙ sym wanted.is in
      states m R C j i (rw e (arguments_asked j m C _ _ _ _ _ all))

  tells : (i : ℕ) → RowStates m R C j i → row_is R C m w i ≡ true
  unfolding row_is
  tells i x =
      let t = told (stated x) in
      let same = rows_same m C (arguments j) five (words i) wanted.all t.all in
      rw (eq-eqb (kind_of (get_or R (i * 24) 0)) w.kind (ap kind_of (sym (first_word i)) ∙ sym t.is ∙ wanted.is), argument_is i 0 w.a ∙ same 0, argument_is i 1 w.b ∙ same 1, argument_is i 2 w.c ∙ same 2, argument_is i 3 w.d ∙ same 3, argument_is i 4 w.e ∙ same 4)

  pub scanned : (n : ℕ) → Newest n m R C j (scan_rows R n C m w)
  unfolding scan_rows
  scanned n = last_found (row_is R C m w) n (λ i l. has i) (λ i l. tells i)

pub finds : {R C : List ℕ} {n m : ℕ} {w : Wanted} {f : Found} → f ≡ scan_rows R n C m w → Finds R n C m w f
unfolding scan_rows
finds {R} {C} {n} {m} {w} e = record { newest = λ j asks. rw e (scanned R C m w j asks n); below = λ i q. last_below (row_is R C m w) n i (sym e ∙ q) }

-- The two searches are one, over rows that are indexed, where arguments are lowest cells.
pub same_search : {R C : List ℕ} {n m a b c d e : ℕ} {j : Judgment} → Indexed R n → LowestRows n m R C → LowestWords m C a b c d e j → find_row R n (kind j) a b c d e ≡ scan_rows R n C m (record { kind = kind j; a = a; b = b; c = c; d = d; e = e })
same_search {R} {C} {n} {m} {a} {b} {c} {d} {e} {j} x rows wanted = only (newest x rows wanted) (scanned R C m (record { kind = kind j; a = a; b = b; c = c; d = d; e = e }) j (lowest_read wanted) n)
