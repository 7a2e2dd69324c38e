-- Which call made a row, of any calls from any state, refused ones included: `makers`.
use Rattle.std.specs.Prelude.{ℕ, suc, ◌+◌, ◌≤◌, ◌<◌, ◌≡◌, refl, List, [], ◌∷◌, ◌++◌, Bool, true, false, ltb, length}
use Rattle.std.proofs.Common.{sym, ap, ◌∙◌, arith, ltb-true, ltb-false}
use Rattle.walk.specs.State.{Row, State}
use Rattle.walk.specs.Reader.{Call}
use Rattle.walk.specs.Run.{play, play_all, added_by, carried_in, made_by}
use Rattle.walk.specs.Demand.{Extends, same, more}
use Rattle.order.specs.Counts.{play_counts, play_all_counts}

-- what the first calls of a list leave, and then one call more
abbrev pub before : List Call → State → State
before first s = (play_all first s).1

abbrev pub after : List Call → Call → State → State
after first call s = (play call (before first s)).1

pub record Makers (calls : List Call) (s : State) : Type 0 where
  -- rows that were there are no call's
  pub carried : (n : ℕ) → n < length s.rows → made_by n calls s ≡ carried_in
  -- along the others the numbers never fall, and each is that of a call
  pub rising : (m n : ℕ) → length s.rows ≤ m → m ≤ n → made_by m calls s ≤ made_by n calls s
  pub of_a_call : (n : ℕ) → length s.rows ≤ n → n < length (play_all calls s).1.rows → made_by n calls s < length calls
  -- the rows with the number of a call are those from the table before it to the table after it
  pub its_rows : (first others : List Call) (call : Call) → calls ≡ first ++ call ∷ others → (n : ℕ) → length (before first s).rows ≤ n → n < length (after first call s).rows → made_by n calls s ≡ length first
  pub only_its : (first others : List Call) (call : Call) → calls ≡ first ++ call ∷ others → (n : ℕ) → length s.rows ≤ n → made_by n calls s ≡ length first → (length (before first s).rows ≤ n) × (n < length (after first call s).rows)
  -- so a call that adds nothing is held by none
  pub none_its : (first others : List Call) (call : Call) → calls ≡ first ++ call ∷ others → length (after first call s).rows ≡ length (before first s).rows → (n : ℕ) → length s.rows ≤ n → made_by n calls s ≡ length first → ⊥
  -- later calls leave the numbers as they are
  pub stays : (first others : List Call) → calls ≡ first ++ others → (n : ℕ) → n < length (before first s).rows → made_by n calls s ≡ made_by n first s

longer : {rs rs' : List Row} → Extends rs rs' → length rs ≤ length rs'
longer same = omega arith
longer (more e) = let l = longer e in omega arith

pub played_more : (call : Call) (s : State) → length s.rows ≤ length (play call s).1.rows
played_more call s = longer (play_counts call s).grown.rows

pub all_played_more : (calls : List Call) (s : State) → length s.rows ≤ length (play_all calls s).1.rows
all_played_more calls s = longer (play_all_counts calls s).grown.rows

-- by whether the row is there after the first call
abbrev adds : Bool → (n : ℕ) → List Call → State → ℕ
adds b n calls s = elim b [ true ↦ 0 | false ↦ suc (added_by n calls s) ]

adds_rising : (m n : ℕ) (calls : List Call) (s : State) → m ≤ n → added_by m calls s ≤ added_by n calls s
unfolding added_by
adds_rising m n [] s l = omega arith
adds_rising m n (call ∷ calls) s l = go (ltb m (length (play call s).1.rows)) (ltb n (length (play call s).1.rows)) refl refl (adds_rising m n calls (play call s).1 l)
  where
    go : (a b : Bool) → ltb m (length (play call s).1.rows) ≡ a → ltb n (length (play call s).1.rows) ≡ b → added_by m calls (play call s).1 ≤ added_by n calls (play call s).1 → adds a m calls (play call s).1 ≤ adds b n calls (play call s).1
    go true b e f ih = omega arith
    go false true e f ih = absurd (omega (arith, ltb-false m (length (play call s).1.rows) e, ltb-true n (length (play call s).1.rows) f))
    go false false e f ih = omega arith

adds_below : (n : ℕ) (calls : List Call) (s : State) → length s.rows ≤ n → n < length (play_all calls s).1.rows → added_by n calls s < length calls
unfolding added_by play_all
adds_below n [] s l m = absurd (omega arith)
adds_below n (call ∷ calls) s l m = go (ltb n (length (play call s).1.rows)) refl (λ k. adds_below n calls (play call s).1 k m)
  where
    go : (b : Bool) → ltb n (length (play call s).1.rows) ≡ b → (length (play call s).1.rows ≤ n → added_by n calls (play call s).1 < length calls) → adds b n calls (play call s).1 < length (call ∷ calls)
    go true e ih = omega arith
    go false e ih = let k = ih (ltb-false n (length (play call s).1.rows) e) in omega arith

adds_its : (n : ℕ) (first others : List Call) (call : Call) (s : State) → length (before first s).rows ≤ n → n < length (after first call s).rows → added_by n (first ++ call ∷ others) s ≡ length first
unfolding added_by play_all
adds_its n [] others call s l m = go (ltb n (length (play call s).1.rows)) refl
  where
    go : (b : Bool) → ltb n (length (play call s).1.rows) ≡ b → adds b n others (play call s).1 ≡ 0
    go true e = refl
    go false e = absurd (omega (arith, ltb-false n (length (play call s).1.rows) e))
adds_its n (c ∷ first) others call s l m = go (ltb n (length (play c s).1.rows)) refl (adds_its n first others call (play c s).1 l m)
  where
    go : (b : Bool) → ltb n (length (play c s).1.rows) ≡ b → added_by n (first ++ call ∷ others) (play c s).1 ≡ length first → adds b n (first ++ call ∷ others) (play c s).1 ≡ suc (length first)
    go true e ih = absurd (omega (arith, ltb-true n (length (play c s).1.rows) e, all_played_more first (play c s).1))
    go false e ih = ap suc ih

adds_only : (n : ℕ) (first others : List Call) (call : Call) (s : State) → length s.rows ≤ n → added_by n (first ++ call ∷ others) s ≡ length first → (length (before first s).rows ≤ n) × (n < length (after first call s).rows)
unfolding added_by play_all
adds_only n [] others call s l q = go (ltb n (length (play call s).1.rows)) refl q
  where
    go : (b : Bool) → ltb n (length (play call s).1.rows) ≡ b → adds b n others (play call s).1 ≡ 0 → (length s.rows ≤ n) × (n < length (play call s).1.rows)
    go true e q = (l, ltb-true n (length (play call s).1.rows) e)
    go false e q = absurd (omega arith)
adds_only n (c ∷ first) others call s l q = go (ltb n (length (play c s).1.rows)) refl q (λ k p. adds_only n first others call (play c s).1 k p)
  where
    go : (b : Bool) → ltb n (length (play c s).1.rows) ≡ b → adds b n (first ++ call ∷ others) (play c s).1 ≡ suc (length first) → (length (play c s).1.rows ≤ n → added_by n (first ++ call ∷ others) (play c s).1 ≡ length first → (length (before first (play c s).1).rows ≤ n) × (n < length (after first call (play c s).1).rows)) → (length (before first (play c s).1).rows ≤ n) × (n < length (after first call (play c s).1).rows)
    go true e q ih = absurd (omega arith)
    go false e q ih = ih (ltb-false n (length (play c s).1.rows) e) (omega arith)

adds_stays : (n : ℕ) (first others : List Call) (s : State) → length s.rows ≤ n → n < length (before first s).rows → added_by n (first ++ others) s ≡ added_by n first s
unfolding added_by play_all
adds_stays n [] others s l m = absurd (omega arith)
adds_stays n (c ∷ first) others s l m = go (ltb n (length (play c s).1.rows)) refl (λ k. adds_stays n first others (play c s).1 k m)
  where
    go : (b : Bool) → ltb n (length (play c s).1.rows) ≡ b → (length (play c s).1.rows ≤ n → added_by n (first ++ others) (play c s).1 ≡ added_by n first (play c s).1) → adds b n (first ++ others) (play c s).1 ≡ adds b n first (play c s).1
    go true e ih = refl
    go false e ih = ap suc (ih (ltb-false n (length (play c s).1.rows) e))

-- a row that was there, and one that was not

made_before : (n : ℕ) (calls : List Call) (s : State) → n < length s.rows → made_by n calls s ≡ carried_in
unfolding made_by
made_before n calls s l = go (ltb n (length s.rows)) refl
  where
    go : (b : Bool) → ltb n (length s.rows) ≡ b → elim b as (λ _. ℕ) [ true ↦ carried_in | false ↦ added_by n calls s ] ≡ carried_in
    go true e = refl
    go false e = absurd (omega (arith, ltb-false n (length s.rows) e))

pub made_after : (n : ℕ) (calls : List Call) (s : State) → length s.rows ≤ n → made_by n calls s ≡ added_by n calls s
unfolding made_by
made_after n calls s l = go (ltb n (length s.rows)) refl
  where
    go : (b : Bool) → ltb n (length s.rows) ≡ b → elim b as (λ _. ℕ) [ true ↦ carried_in | false ↦ added_by n calls s ] ≡ added_by n calls s
    go true e = absurd (omega (arith, ltb-true n (length s.rows) e))
    go false e = refl

pub makers : (calls : List Call) (s : State) → Makers calls s
makers calls s = record {
  carried = λ n l. made_before n calls s l;
  rising = λ m n l k. rw (made_after m calls s l, made_after n calls s (omega arith)) (adds_rising m n calls s k);
  of_a_call = λ n l m. rw (made_after n calls s l) (adds_below n calls s l m);
  its_rows = λ first others call e n l m. (let k = all_played_more first s in rw (made_after n calls s (omega arith), e) (adds_its n first others call s l m));
  only_its = only;
  none_its = λ first others call e z n l q. (let o = only first others call e n l q in omega (arith, o.0, o.1));
  stays = kept;
}
  where
    only : (first others : List Call) (call : Call) → calls ≡ first ++ call ∷ others → (n : ℕ) → length s.rows ≤ n → made_by n calls s ≡ length first → (length (before first s).rows ≤ n) × (n < length (after first call s).rows)
    only first others call e n l q = adds_only n first others call s l (ap (λ (c : List Call). added_by n c s) (sym e) ∙ sym (made_after n calls s l) ∙ q)

    kept : (first others : List Call) → calls ≡ first ++ others → (n : ℕ) → n < length (before first s).rows → made_by n calls s ≡ made_by n first s
    kept first others e n l = go (ltb n (length s.rows)) refl
      where
        go : (b : Bool) → ltb n (length s.rows) ≡ b → made_by n calls s ≡ made_by n first s
        go true f = let k = ltb-true n (length s.rows) f in made_before n calls s k ∙ sym (made_before n first s k)
        go false f = let k = ltb-false n (length s.rows) f in made_after n calls s k ∙ ap (λ (c : List Call). added_by n c s) e ∙ adds_stays n first others s k l ∙ sym (made_after n first s k)
