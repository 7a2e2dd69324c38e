-- The search by the index gives the highest row with a judgment, over any rows that are indexed and whose arguments, like those asked for,
-- are lowest cells: then two judgments are equal exactly where their words are.
use Rattle.std.specs.Prelude.{ℕ, suc, ◌≤◌, ◌<◌, ◌*◌, ◌≡◌, refl, List, [], ◌∷◌, true, length, get_or, eqb}
use Rattle.std.proofs.Common.{sym, ap, ◌∙◌, arith, eq-eqb, lit<}
use Rattle.std.proofs.Math.Option.{Option, none, some}
use Rattle.std.proofs.Math.Decide.{ℕ_discrete}
use Rattle.ast.specs.Words.{all_eq}
use Rattle.producer.specs.declared.rows.Refs.{Refs}
use Rattle.producer.specs.Machine.{Machine, same_row, find_row, row_block, add_row}
use Rattle.walk.specs.Judgment.{Judgment, kind, Argument, number, of_interval, of_quote, of_context, arguments}
use Rattle.walk.specs.Rule.{kind_of}
use Rattle.walk.specs.State.{Row}
use Rattle.link.specs.Holds.{found_row}
use Rattle.link.specs.Store.{all_eq_true, ifb_true, eqb_true}
use Rattle.link.specs.Table.{◌>>=◌, row_word, cited_at, row_at}
use Rattle.search.specs.Newest.{Last, last, no_one, RowStates, Newest, asked, Lowest, ArgumentWord, LowestWords, LowestRows}
use Rattle.search.specs.Arguments.{lowest_read}
use Rattle.search.specs.Highest.{last_found}
use Rattle.search.specs.Indexing.{Indexed, indexed, reindexed, new_word, row_stays_then, still_indexed}
use Rattle.ast.specs.Cells.{Found}

-- a row states what its words are read as

abbrev pub row_asked : ℕ → List ℕ → List ℕ → ℕ → Option Judgment
row_asked cells R C i = asked cells C (kind_of (row_word 0 R i)) (row_word 13 R i) (row_word 14 R i) (row_word 15 R i) (row_word 16 R i) (row_word 17 R i)

pub states : (cells : ℕ) (R C : List ℕ) (j : Judgment) (i : ℕ) → row_asked cells R C i ≡ some j → RowStates cells R C j i
unfolding row_at ◌>>=◌
states cells R C j i e = record { row = record { rule = row_word 0 R i; refs = cited_at R i; judgment = j }; read = rw e; judgment = refl }

pub stated : {cells : ℕ} {R C : List ℕ} {j : Judgment} {i : ℕ} → RowStates cells R C j i → row_asked cells R C i ≡ some j
unfolding row_at ◌>>=◌
stated {cells} {R} {C} {j} {i} x = go (row_asked cells R C i) x.row x.read x.judgment
  where
    go : (o : Option Judgment) (r : Row) → (o >>= λ k. some (record { rule = row_word 0 R i; refs = cited_at R i; judgment = k })) ≡ some r → r.judgment ≡ j → o ≡ some j
    go none r e q = let z : ◌≡◌ {A = ℕ} 0 1 = cc in absurd (omega arith)
    go (some k) r e q = let p : ◌≡◌ {A = Row} (record { rule = row_word 0 R i; refs = cited_at R i; judgment = k }) r = cc in ap some (ap (λ (r : Row). r.judgment) p ∙ q)

-- words that are fixed

lowest_one : {A : Type 0} {at : ℕ → Option A} {w u : ℕ} {x : A} → Lowest at w x → Lowest at u x → w ≡ u
lowest_one {w = w} {u = u} h k = let a = h.least u k.read in let b = k.least w h.read in omega arith

one_word : (cells : ℕ) (C : List ℕ) (x : Argument) (w u : ℕ) → ArgumentWord cells C x w → ArgumentWord cells C x u → w ≡ u
one_word cells C (number n) w u p q = p ∙ sym q
one_word cells C (of_interval r) w u p q = lowest_one p q
one_word cells C (of_quote t) w u p q = lowest_one p q
one_word cells C (of_context g) w u p q = lowest_one p q

pub same_words : {cells : ℕ} {C : List ℕ} {a b c d e a' b' c' d' e' : ℕ} {j : Judgment} → LowestWords cells C a b c d e j → LowestWords cells C a' b' c' d' e' j → (k : ℕ) → k < 5 → get_or (a ∷ b ∷ c ∷ d ∷ e ∷ []) k 0 ≡ get_or (a' ∷ b' ∷ c' ∷ d' ∷ e' ∷ []) k 0
same_words {cells} {C} {j = j} x y k l = one_word cells C (get_or (arguments j) k (number 0)) _ _ (x.words k l) (y.words k l)

-- equal words pass the test, and only those

test_yes : (R : List ℕ) (k a b c d e i : ℕ) → row_word 19 R i ≡ k → row_word 13 R i ≡ a → row_word 14 R i ≡ b → row_word 15 R i ≡ c → row_word 16 R i ≡ d → row_word 17 R i ≡ e → same_row R k a b c d e i ≡ true
unfolding same_row all_eq
test_yes R k a b c d e i q p₁ p₂ p₃ p₄ p₅ = rw (eq-eqb _ _ q, eq-eqb _ _ p₁, eq-eqb _ _ p₂, eq-eqb _ _ p₃, eq-eqb _ _ p₄, eq-eqb _ _ p₅)

record EqualWords (R : List ℕ) (k a b c d e i : ℕ) : Type 0 where
  kind_word : row_word 19 R i ≡ k
  first : row_word 13 R i ≡ a
  second : row_word 14 R i ≡ b
  third : row_word 15 R i ≡ c
  fourth : row_word 16 R i ≡ d
  fifth : row_word 17 R i ≡ e

test_told : (R : List ℕ) (k a b c d e i : ℕ) → same_row R k a b c d e i ≡ true → EqualWords R k a b c d e i
unfolding same_row
test_told R k a b c d e i q =
    let p = ifb_true (all_eq (row_word 19 R i) (row_word 13 R i) (row_word 14 R i) (row_word 15 R i) k a b c) _ q in
    let f = all_eq_true (row_word 19 R i) (row_word 13 R i) (row_word 14 R i) (row_word 15 R i) k a b c p.0 in
    let r = ifb_true (eqb (row_word 16 R i) d) (eqb (row_word 17 R i) e) p.1 in
    record { kind_word = f.one; first = f.two; second = f.three; third = f.four; fourth = eqb_true (row_word 16 R i) d r.0; fifth = eqb_true (row_word 17 R i) e r.1 }

-- over rows that are indexed
pub newest : {R : List ℕ} {n cells : ℕ} {C : List ℕ} {a b c d e : ℕ} {j : Judgment} → Indexed R n → LowestRows n cells R C → LowestWords cells C a b c d e j → Newest n cells R C j (find_row R n (kind j) a b c d e)
newest {R} {n} {cells} {C} {a} {b} {c} {d} {e} {j} x rows wanted = rw (found_row x.index (kind j) a b c d e) (last_found (same_row R (kind j) a b c d e) n has tells)
  where
    has : (i : ℕ) → i < n → same_row R (kind j) a b c d e i ≡ true → RowStates cells R C j i
    has i l q =
        let t = test_told R (kind j) a b c d e i q in
        states cells R C j i (rw (← x.kinds i l, t.kind_word, t.first, t.second, t.third, t.fourth, t.fifth) (lowest_read wanted))

    tells : (i : ℕ) → i < n → RowStates cells R C j i → same_row R (kind j) a b c d e i ≡ true
    tells i l s =
        let r = rows.each i j l s in
        let w = same_words r.1 wanted in
        test_yes R (kind j) a b c d e i (x.kinds i l ∙ r.0) (w 0 (lit< tt)) (w 1 (lit< tt)) (w 2 (lit< tt)) (w 3 (lit< tt)) (w 4 (lit< tt))

-- words that differ in working words alone state the same
pub record SameRows (R U : List ℕ) : Type 0 where
  pub same : (i k : ℕ) → k < 18 → row_word k U i ≡ row_word k R i

same_asked : {R U : List ℕ} → SameRows R U → (cells : ℕ) (C : List ℕ) (i : ℕ) → row_asked cells U C i ≡ row_asked cells R C i
same_asked s cells C i = rw (s.same i 0 (lit< tt), s.same i 13 (lit< tt), s.same i 14 (lit< tt), s.same i 15 (lit< tt), s.same i 16 (lit< tt), s.same i 17 (lit< tt))

pub same_states : {R U : List ℕ} {cells : ℕ} {C : List ℕ} {j : Judgment} {i : ℕ} → SameRows R U → RowStates cells R C j i → RowStates cells U C j i
same_states {R} {U} {cells} {C} {j} {i} s x = states cells U C j i (same_asked s cells C i ∙ stated x)

turned : {R U : List ℕ} → SameRows R U → SameRows U R
turned s = record { same = λ i k l. sym (s.same i k l) }

same_lowest : {R U : List ℕ} {n cells : ℕ} {C : List ℕ} → SameRows R U → LowestRows n cells R C → LowestRows n cells U C
same_lowest s x = record { each = λ i j l t. rw (s.same i 0 (lit< tt), s.same i 13 (lit< tt), s.same i 14 (lit< tt), s.same i 15 (lit< tt), s.same i 16 (lit< tt), s.same i 17 (lit< tt)) (x.each i j l (same_states (turned s) t)) }

last_same : {P Q : ℕ → Type 0} {n : ℕ} {f : Found} → ((i : ℕ) → P i → Q i) → ((i : ℕ) → Q i → P i) → Last P n f → Last Q n f
last_same f g (last {i = i} l p h) = last {i = i} l (f i p) (λ k a b q. h k a b (g k q))
last_same f g (no_one h) = no_one (λ k l q. h k l (g k q))

-- Over any rows, once they are indexed.
pub newest_indexed : {n cells : ℕ} {C : List ℕ} {a b c d e : ℕ} {j : Judgment} (R : List ℕ) → n * 24 ≤ length R → LowestRows n cells R C → LowestWords cells C a b c d e j → Newest n cells R C j (find_row (indexed R n) n (kind j) a b c d e)
newest_indexed {n} {cells} {C} R fits rows wanted =
    let r = reindexed R n fits in
    let s : SameRows R (indexed R n) = record { same = λ i k l. r.stays i k (omega arith) } in
    last_same (λ i x. same_states (turned s) x) (λ i x. same_states s x) (newest r.index (same_lowest s rows) wanted)

-- A row more, as `emit` adds it: what it states, and what the others do.
module _ (w : Machine) (rule : ℕ) (l : Refs) (count : ℕ) {a b c d e cells : ℕ} {C : List ℕ} {j : Judgment} (x : Indexed w.rows w.state.rows) (fits : suc w.state.rows * 24 ≤ length w.rows) (is : kind j ≡ kind_of rule) (rows : LowestRows w.state.rows cells w.rows C) (wanted : LowestWords cells C a b c d e j) where
  abbrev then : List ℕ
  then = (add_row (row_block rule l (kind j) count a b c d e) w).rows

  new_asked : row_asked cells then C w.state.rows ≡ some j
  new_asked =
      let f = new_word w rule l (kind j) count a b c d e x fits is in
      rw (f 0 (lit< tt), f 13 (lit< tt), f 14 (lit< tt), f 15 (lit< tt), f 16 (lit< tt), f 17 (lit< tt), ← is) (lowest_read wanted)

  new_row_states : RowStates cells then C j w.state.rows
  new_row_states = states cells then C j w.state.rows new_asked

  old_asked : (i : ℕ) → i < w.state.rows → row_asked cells then C i ≡ row_asked cells w.rows C i
  old_asked i m =
      let f : (k : ℕ) → k < 20 → row_word k then i ≡ row_word k w.rows i = λ k n. row_stays_then w rule l (kind j) count a b c d e x fits is i k m n in
      rw (f 0 (lit< tt), f 13 (lit< tt), f 14 (lit< tt), f 15 (lit< tt), f 16 (lit< tt), f 17 (lit< tt))

  still_lowest : LowestRows (suc w.state.rows) cells then C
  still_lowest = record { each = λ i k m s. at i k m s (ℕ_discrete i w.state.rows) }
    where
      at : (i : ℕ) (k : Judgment) → i < suc w.state.rows → RowStates cells then C k i → Dec (i ≡ w.state.rows) → (kind_of (row_word 0 then i) ≡ kind k) × LowestWords cells C (row_word 13 then i) (row_word 14 then i) (row_word 15 then i) (row_word 16 then i) (row_word 17 then i) k
      at i k m s (no q) =
          let o : i < w.state.rows = omega arith in
          let f : (k : ℕ) → k < 20 → row_word k then i ≡ row_word k w.rows i = λ k n. row_stays_then w rule l (kind j) count a b c d e x fits is i k o n in
          rw (f 0 (lit< tt), f 13 (lit< tt), f 14 (lit< tt), f 15 (lit< tt), f 16 (lit< tt), f 17 (lit< tt)) (rows.each i k o (states cells w.rows C k i (sym (old_asked i o) ∙ stated s)))
      at i k m s (yes q) =
          let f = new_word w rule l (kind j) count a b c d e x fits is in
          let p : some j ≡ some k = sym new_asked ∙ stated (rw q at s) in
          let z : j ≡ k = cc in
          rw (q, f 0 (lit< tt), f 13 (lit< tt), f 14 (lit< tt), f 15 (lit< tt), f 16 (lit< tt), f 17 (lit< tt), ← z) (sym is, wanted)

  pub newest_added : {a' b' c' d' e' : ℕ} {k : Judgment} → LowestWords cells C a' b' c' d' e' k → Newest (suc w.state.rows) cells then C k (find_row then (suc w.state.rows) (kind k) a' b' c' d' e')
  newest_added = newest (still_indexed w rule l (kind j) count a b c d e x fits is) still_lowest
