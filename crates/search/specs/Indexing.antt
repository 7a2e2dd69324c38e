-- Any rows can be indexed: one after the other, each with the kind that its rule concludes and with no child, is linked at the end of its
-- path. Then each lies on the path of its judgment's hash, and so after a row more as `emit` adds it; all but the working words stay.
use Rattle.std.specs.Prelude.{ℕ, zero, suc, ◌+◌, ◌*◌, ◌-◌, ◌%◌, ◌≤◌, ◌<◌, ◌≡◌, List, [], ◌∷◌, Bool, true, false, length, get_or, set, ltb}
use Rattle.std.proofs.Math.Path.{refl}
use Rattle.std.proofs.Common.{sym, ap, ◌∙◌, subst, ltb-true, ltb-false, lit<, lit≤}
use Rattle.std.proofs.Math.Decide.{dec_lt, ℕ_discrete}
use Rattle.std.proofs.Common.{arith}
use Rattle.std.proofs.Math.ListN.{length-set}
use Rattle.std.proofs.lemmas.List.Edits.{sets}
use Rattle.std.proofs.Math.Seq.{get_or-set_same, get_or-set_other, length-sets}
use Rattle.ast.specs.Words.{ifb}
use Rattle.ast.specs.Index.{end_on, linked}
use Rattle.ast.specs.Indexed.{Reaches}
use Rattle.ast.proofs.Indexed.{reaches, index_none, index_one, index_more}
use Rattle.producer.specs.declared.rows.Refs.{Refs}
use Rattle.producer.specs.Machine.{Machine, row_slot, quarter, row_hash, link_row, row_block, add_row}
use Rattle.walk.specs.Rule.{kind_of}
use Rattle.link.specs.Holds.{row_key, RowsIndexed}
use Rattle.link.specs.Table.{row_word}

-- the last five words of a row of a kind: no child yet
abbrev pub last_five : ℕ → List ℕ
last_five kind = kind ∷ 0 ∷ 0 ∷ 0 ∷ 0 ∷ []

-- the row n is indexed, those below it being so
unfoldable pub index_row : List ℕ → ℕ → List ℕ
index_row R n = sets (link_row R n (kind_of (row_word 0 R n)) (row_word 13 R n) (row_word 14 R n) (row_word 15 R n) (row_word 16 R n) (row_word 17 R n)) (n * 24 + 19) (last_five (kind_of (row_word 0 R n)))

-- the words once the first n rows are indexed
unfoldable pub indexed : List ℕ → ℕ → List ℕ
indexed R zero = R
indexed R (suc n) = index_row (indexed R n) n

-- the first n rows are there, each on the path of its hash, and with the kind that its rule concludes
pub record Indexed (R : List ℕ) (n : ℕ) : Type 0 where
  pub fits : n * 24 ≤ length R
  pub index : RowsIndexed R n
  pub kinds : (i : ℕ) → i < n → row_word 19 R i ≡ kind_of (row_word 0 R i)

-- words that are stored one after the other

sets_other : (l : List ℕ) (i : ℕ) (vs : List ℕ) (p : ℕ) → ((k : ℕ) → k < length vs → p ≡ i + k → ⊥) → get_or (sets l i vs) p 0 ≡ get_or l p 0
sets_other l i [] p h = refl
sets_other l i (w ∷ vs) p h = sets_other (set l i w) (suc i) vs p (λ k m e. h (suc k) (omega arith) (omega arith)) ∙ get_or-set_other l i p w 0 (λ e. h 0 (omega arith) (omega arith))

sets_at : (l : List ℕ) (i : ℕ) (vs : List ℕ) (k : ℕ) → i + length vs ≤ length l → k < length vs → get_or (sets l i vs) (i + k) 0 ≡ get_or vs k 0
sets_at l i [] k f m = absurd (let z : ⊥ = omega arith in z)
sets_at l i (w ∷ vs) zero f m =
    let e : i + 0 ≡ i = omega arith in
    rw e (sets_other (set l i w) (suc i) vs i (λ k n q. omega arith) ∙ get_or-set_same l i w 0 (omega arith))
sets_at l i (w ∷ vs) (suc k) f m =
    let e : i + suc k ≡ suc i + k = omega arith in
    rw e (sets_at (set l i w) (suc i) vs k (rw length-set (omega arith)) (omega arith))

row_slot_is : (i h : ℕ) → row_slot i h ≡ i * 24 + (20 + h % 4)
unfolding row_slot
row_slot_is i h = omega arith

-- A row more: it is linked, then its last words are stored, from the place o on.
pub record Added (W : List ℕ) (n h o : ℕ) (vs U : List ℕ) : Type 0 where
  pub long : length U ≡ length W
  -- all but the index's words
  pub old : (i k : ℕ) → i < n → k < 20 → get_or U (i * 24 + k) 0 ≡ get_or W (i * 24 + k) 0
  pub here : (k : ℕ) → k < o → get_or U (n * 24 + k) 0 ≡ get_or W (n * 24 + k) 0
  pub new : (k : ℕ) → k < length vs → get_or U (n * 24 + o + k) 0 ≡ get_or vs k 0
  pub past : (p : ℕ) → suc n * 24 ≤ p → get_or U p 0 ≡ get_or W p 0
  pub index : row_key U n ≡ h → RowsIndexed U (suc n)

module _ {W : List ℕ} {n : ℕ} (x : RowsIndexed W n) (fits : suc n * 24 ≤ length W) (h o : ℕ) (vs : List ℕ) (size : o + length vs ≡ 24) (most : o ≤ 20) (empty : (k : ℕ) → k < 4 → get_or vs (20 - o + k) 0 ≡ 0) where
  abbrev place : ℕ
  place = end_on row_slot quarter W n 0 h 0

  -- the words once the row n is linked
  record Tied (L : List ℕ) : Type 0 where
    long : length L ≡ length W
    old : (i k : ℕ) → k < 20 → get_or L (i * 24 + k) 0 ≡ get_or W (i * 24 + k) 0
    past : (p : ℕ) → n * 24 ≤ p → get_or L p 0 ≡ get_or W p 0
    other : (i k : ℕ) → (row_slot i k ≡ place → ⊥) → get_or L (row_slot i k) 0 ≡ get_or W (row_slot i k) 0
    there : 0 < n → (place < n * 24) × (get_or L place 0 ≡ n)

  tied : Tied (linked row_slot quarter W n h)
  unfolding linked
  tied = go (ltb 0 n) refl
    where
      at : Reaches row_slot quarter W n 0 h place → Tied (set W place n)
      at r =
          let q = r.place ∙ row_slot_is r.node r.left in
          let a = r.high in
          record {
            long = length-set W _ n;
            old = λ i k l. get_or-set_other W _ (i * 24 + k) n 0 (λ e. let f = e ∙ q in omega arith);
            past = λ p l. get_or-set_other W _ p n 0 (λ e. let f = e ∙ q in omega arith);
            other = λ i k e. get_or-set_other W _ (row_slot i k) n 0 e;
            there = λ l. (rw q (omega arith), get_or-set_same W _ n 0 (rw q (omega arith)));
          }

      go : (b : Bool) → ltb 0 n ≡ b → Tied (ifb b (set W place n) W)
      go true e = at (reaches row_slot quarter W n n 0 h 0 (ltb-true 0 n e) (omega arith))
      go false e = record { long = refl; old = λ i k l. refl; past = λ p l. refl; other = λ i k f. refl; there = λ l. absurd (let z = ltb-false 0 n e in let y : ⊥ = omega arith in y) }

  abbrev then : List ℕ
  then = sets (linked row_slot quarter W n h) (n * 24 + o) vs

  beside : (p : ℕ) → ((k : ℕ) → k < length vs → p ≡ n * 24 + o + k → ⊥) → get_or then p 0 ≡ get_or (linked row_slot quarter W n h) p 0
  beside p f = sets_other (linked row_slot quarter W n h) (n * 24 + o) vs p f

  then_new : (k : ℕ) → k < length vs → get_or then (n * 24 + o + k) 0 ≡ get_or vs k 0
  then_new k l = let z = tied.long in sets_at (linked row_slot quarter W n h) (n * 24 + o) vs k (rw z (omega arith)) l

  then_old : (i k : ℕ) → i < n → k < 20 → get_or then (i * 24 + k) 0 ≡ get_or W (i * 24 + k) 0
  then_old i k l m = beside (i * 24 + k) (λ j a e. omega arith) ∙ tied.old i k m

  then_other : (i k : ℕ) → i < n → (row_slot i k ≡ place → ⊥) → get_or then (row_slot i k) 0 ≡ get_or W (row_slot i k) 0
  then_other i k l e = beside (row_slot i k) (λ j a f. let q = row_slot_is i k in omega arith) ∙ tied.other i k e

  then_there : 0 < n → get_or then place 0 ≡ n
  then_there l = let t = tied.there l in beside place (λ j a f. let z = t.0 in omega arith) ∙ t.1

  then_empty : (k : ℕ) → get_or then (row_slot n k) 0 ≡ 0
  then_empty k =
      let e : n * 24 + (20 + k % 4) ≡ n * 24 + o + (20 - o + k % 4) = omega arith in
      rw (row_slot_is n k, e) (then_new (20 - o + k % 4) (omega arith) ∙ empty (k % 4) (omega arith))

  then_key : (m : ℕ) → m < n → row_key then m ≡ row_key W m
  unfolding row_key
  then_key m l = rw (then_old m 19 l (lit< tt), then_old m 13 l (lit< tt), then_old m 14 l (lit< tt), then_old m 15 l (lit< tt), then_old m 16 l (lit< tt), then_old m 17 l (lit< tt))

  then_index : row_key then n ≡ h → RowsIndexed then (suc n)
  then_index q = go (ltb 0 n) refl
    where
      apart : (i j k l : ℕ) → row_slot i k ≡ row_slot j l → i ≡ j
      apart i j k l e = let f = sym (row_slot_is i k) ∙ e ∙ row_slot_is j l in omega arith

      go : (b : Bool) → ltb 0 n ≡ b → RowsIndexed then (suc n)
      go true e = let s = ltb-true 0 n e in index_more x then (row_key then) h apart s then_other (then_there s) then_empty then_key q
      go false e = let s = ltb-false 0 n e in let z : n ≡ 0 = omega arith in subst (λ (m : ℕ). RowsIndexed then (suc m)) (sym z) (index_one (λ k. ap (λ (i : ℕ). get_or then (row_slot i k) 0) (sym z) ∙ then_empty k))

  pub added : Added W n h o vs then
  added = record {
    long = length-sets (linked row_slot quarter W n h) (n * 24 + o) vs ∙ tied.long;
    old = then_old;
    here = λ k l. beside (n * 24 + k) (λ j a e. omega arith) ∙ tied.past (n * 24 + k) (omega arith);
    new = then_new;
    past = λ p l. beside p (λ j a e. omega arith) ∙ tied.past p (omega arith);
    index = then_index;
  }

-- no child in the last words
no_child : (kind k : ℕ) → k < 4 → get_or (last_five kind) (20 - 19 + k) 0 ≡ 0
no_child kind zero l = refl
no_child kind (suc zero) l = refl
no_child kind (suc (suc zero)) l = refl
no_child kind (suc (suc (suc zero))) l = refl
no_child kind (suc (suc (suc (suc k)))) l = absurd (let z : ⊥ = omega arith in z)

no_child_yet : (rule : ℕ) (l : Refs) (kind count a b c d e k : ℕ) → k < 4 → get_or (row_block rule l kind count a b c d e) (20 - 0 + k) 0 ≡ 0
no_child_yet rule l kind count a b c d e zero m = refl
no_child_yet rule l kind count a b c d e (suc zero) m = refl
no_child_yet rule l kind count a b c d e (suc (suc zero)) m = refl
no_child_yet rule l kind count a b c d e (suc (suc (suc zero))) m = refl
no_child_yet rule l kind count a b c d e (suc (suc (suc (suc k)))) m = absurd (let z : ⊥ = omega arith in z)

-- a row more is indexed, whose words before the last five are there already
module _ {W : List ℕ} {n : ℕ} (x : Indexed W n) (fits : suc n * 24 ≤ length W) where
  abbrev key : ℕ
  key = row_hash (kind_of (row_word 0 W n)) (row_word 13 W n) (row_word 14 W n) (row_word 15 W n) (row_word 16 W n) (row_word 17 W n)

  comes : Added W n key 19 (last_five (kind_of (row_word 0 W n))) (index_row W n)
  unfolding index_row link_row
  comes = added x.index fits key 19 (last_five (kind_of (row_word 0 W n))) refl (lit≤ tt) (no_child (kind_of (row_word 0 W n)))

  word_19 : row_word 19 (index_row W n) n ≡ kind_of (row_word 0 W n)
  word_19 = let e : n * 24 + 19 ≡ n * 24 + 19 + 0 = omega arith in rw e (comes.new 0 (lit< tt))

  key_is : row_key (index_row W n) n ≡ key
  unfolding row_key
  key_is = rw (word_19, comes.here 13 (lit< tt), comes.here 14 (lit< tt), comes.here 15 (lit< tt), comes.here 16 (lit< tt), comes.here 17 (lit< tt))

  row_indexed : Indexed (index_row W n) (suc n)
  row_indexed = record { fits = rw comes.long fits; index = comes.index key_is; kinds = λ i l. at i l (ℕ_discrete i n) }
    where
      at : (i : ℕ) → i < suc n → Dec (i ≡ n) → row_word 19 (index_row W n) i ≡ kind_of (row_word 0 (index_row W n) i)
      at i l (yes e) = rw e (word_19 ∙ ap kind_of (sym (comes.here 0 (lit< tt))))
      at i l (no e) = let m : i < n = omega arith in comes.old i 19 m (lit< tt) ∙ x.kinds i m ∙ ap kind_of (sym (comes.old i 0 m (lit< tt)))

  row_stays : (i k : ℕ) → k < 19 → row_word k (index_row W n) i ≡ row_word k W i
  row_stays i k l = at (dec_lt i n) (ℕ_discrete i n)
    where
      at : Dec (i < n) → Dec (i ≡ n) → row_word k (index_row W n) i ≡ row_word k W i
      at (yes m) d = comes.old i k m (omega arith)
      at (no m) (yes e) = rw e (comes.here k l)
      at (no m) (no e) = comes.past (i * 24 + k) (omega arith)

-- What indexing n rows leaves: an index, and every word as it was but the last five of these rows.
pub record Reindexed (R U : List ℕ) (n : ℕ) : Type 0 where
  pub long : length U ≡ length R
  pub stays : (i k : ℕ) → k < 19 → row_word k U i ≡ row_word k R i
  pub past : (p : ℕ) → n * 24 ≤ p → get_or U p 0 ≡ get_or R p 0
  pub index : Indexed U n

pub reindexed : (R : List ℕ) (n : ℕ) → n * 24 ≤ length R → Reindexed R (indexed R n) n
unfolding indexed
reindexed R zero l = record { long = refl; stays = λ i k m. refl; past = λ p m. refl; index = record { fits = l; index = index_none; kinds = λ i m. absurd (let z : ⊥ = omega arith in z) } }
reindexed R (suc n) l = go (reindexed R n (omega arith))
  where
    go : Reindexed R (indexed R n) n → Reindexed R (index_row (indexed R n) n) (suc n)
    go r = (let f : suc n * 24 ≤ length (indexed R n) = rw r.long l in record {
      long = (comes r.index f).long ∙ r.long;
      stays = λ i k m. row_stays r.index f i k m ∙ r.stays i k m;
      past = λ p m. (comes r.index f).past p m ∙ r.past p (omega arith);
      index = row_indexed r.index f;
    })

-- A row that `emit` adds keeps rows indexed, and leaves the words of those before it, but the index's.
module _ (w : Machine) (rule : ℕ) (l : Refs) (kind count a b c d e : ℕ) (x : Indexed w.rows w.state.rows) (fits : suc w.state.rows * 24 ≤ length w.rows) (is : kind ≡ kind_of rule) where
  emitted : Added w.rows w.state.rows (row_hash kind a b c d e) 0 (row_block rule l kind count a b c d e) (add_row (row_block rule l kind count a b c d e) w).rows
  unfolding add_row link_row
  emitted = rw (let z : w.state.rows * 24 ≡ w.state.rows * 24 + 0 = omega arith in z) (added x.index fits (row_hash kind a b c d e) 0 (row_block rule l kind count a b c d e) refl (lit≤ tt) (no_child_yet rule l kind count a b c d e))

  pub new_word : (k : ℕ) → k < 24 → row_word k (add_row (row_block rule l kind count a b c d e) w).rows w.state.rows ≡ get_or (row_block rule l kind count a b c d e) k 0
  new_word k m = let z : w.state.rows * 24 + k ≡ w.state.rows * 24 + 0 + k = omega arith in rw z (emitted.new k m)

  new_key : row_key (add_row (row_block rule l kind count a b c d e) w).rows w.state.rows ≡ row_hash kind a b c d e
  unfolding row_key
  new_key = rw (new_word 19 (lit< tt), new_word 13 (lit< tt), new_word 14 (lit< tt), new_word 15 (lit< tt), new_word 16 (lit< tt), new_word 17 (lit< tt))

  pub row_stays_then : (i k : ℕ) → i < w.state.rows → k < 20 → row_word k (add_row (row_block rule l kind count a b c d e) w).rows i ≡ row_word k w.rows i
  row_stays_then = emitted.old

  pub still_indexed : Indexed (add_row (row_block rule l kind count a b c d e) w).rows (suc w.state.rows)
  still_indexed = record { fits = rw emitted.long fits; index = emitted.index new_key; kinds = λ i m. at i m (ℕ_discrete i w.state.rows) }
    where
      at : (i : ℕ) → i < suc w.state.rows → Dec (i ≡ w.state.rows) → row_word 19 (add_row (row_block rule l kind count a b c d e) w).rows i ≡ kind_of (row_word 0 (add_row (row_block rule l kind count a b c d e) w).rows i)
      at i m (yes q) = rw (q, new_word 19 (lit< tt), new_word 0 (lit< tt)) is
      at i m (no q) = let n : i < w.state.rows = omega arith in emitted.old i 19 n (lit< tt) ∙ x.kinds i n ∙ ap kind_of (sym (emitted.old i 0 n (lit< tt)))
