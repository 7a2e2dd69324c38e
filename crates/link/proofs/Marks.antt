-- The number of a call, set in rows that it made: the words still stand for the state, with these numbers: `marks`.
use Rattle.std.specs.Prelude.{ℕ, suc, ◌+◌, ◌*◌, ◌≤◌, ◌<◌, ◌≡◌, List, length, get_or, set, drop}
use Rattle.std.proofs.Math.Path.{refl, ap}
use Rattle.std.proofs.Common.{◌∙◌, arith, length-append, get_or-set_same, get_or-set_other, lit<}
use Rattle.std.proofs.Math.Decide.{ℕ_discrete, dec_lt}
use Rattle.ast.proofs.Indexed.{index_same}
use Rattle.producer.specs.Machine.{Machine, machine, row_slot}
use Rattle.walk.specs.State.{State}
use Rattle.link.specs.Lists.{blocks_length}
use Rattle.link.specs.Store.{Line, line_made}
use Rattle.link.specs.Linking.{Put, put_in}
use Rattle.link.specs.Holds.{Before, Holds, RowsIndexed, row_key}
use Rattle.link.specs.Asked.{marked}
use Rattle.link.specs.Runs.{numbered, Marks}

-- one row
module _ {o : Before} {w : Machine} {s : State} (h : Holds o w s) (i call : ℕ) (l : i < length s.rows) where
  abbrev rows_then : List ℕ
  rows_then = set w.rows (i * 24 + 18) call

  abbrev made_then : ℕ → ℕ
  made_then n = elim (ℕ_discrete n i) [ yes e ↦ call | no ne ↦ o.made n ]

  put : Put 24 (Line s.cells) s.rows h.words.rows_used i 18 call (drop (length s.rows * 24) o.rows)
  put = put_in (drop (length s.rows * 24) o.rows) i 18 call (line_made call) l (lit< tt) h.words.rows_are

  inside : i * 24 + 18 < length w.rows
  inside = let e = blocks_length h.words.rows_are in rw (h.words.rows_end, length-append) (omega arith)

  other : (n k : ℕ) → k < 24 → (k ≡ 18 → ⊥) → get_or rows_then (n * 24 + k) 0 ≡ get_or w.rows (n * 24 + k) 0
  other n k m ne = get_or-set_other w.rows (i * 24 + 18) (n * 24 + k) call 0 (λ e. ne (omega arith))

  indexed : RowsIndexed rows_then (length s.rows)
  unfolding row_slot row_key
  indexed =
      index_same h.rows_index _ _ (λ j k m. get_or-set_other w.rows (i * 24 + 18) _ call 0 (λ e. omega arith))
      (λ m n. rw (other m 19 (lit< tt) (λ e. omega arith), other m 13 (lit< tt) (λ e. omega arith), other m 14 (lit< tt) (λ e. omega arith), other m 15 (lit< tt) (λ e. omega arith), other m 16 (lit< tt) (λ e. omega arith), other m 17 (lit< tt) (λ e. omega arith)))

  made : (n : ℕ) → n < length s.rows → get_or rows_then (n * 24 + 18) 0 ≡ made_then n
  made n m = go (ℕ_discrete n i)
    where
      go : (d : Dec (n ≡ i)) → get_or rows_then (n * 24 + 18) 0 ≡ elim d as (λ _. ℕ) [ yes e ↦ call | no ne ↦ o.made n ]
      go (yes e) = rw e (get_or-set_same w.rows (i * 24 + 18) call 0 inside)
      go (no ne) = get_or-set_other w.rows (i * 24 + 18) (n * 24 + 18) call 0 (λ e. ne (omega arith)) ∙ h.made n m

  this : made_then i ≡ call
  this = go (ℕ_discrete i i)
    where
      go : (d : Dec (i ≡ i)) → elim d as (λ _. ℕ) [ yes e ↦ call | no ne ↦ o.made i ] ≡ call
      go (yes e) = refl
      go (no ne) = absurd (ne refl)

  those : (n : ℕ) → (n ≡ i → ⊥) → made_then n ≡ o.made n
  those n ne = go (ℕ_discrete n i)
    where
      go : (d : Dec (n ≡ i)) → elim d as (λ _. ℕ) [ yes e ↦ call | no ne ↦ o.made n ] ≡ o.made n
      go (yes e) = absurd (ne e)
      go (no ne) = refl

  one_holds : Holds (numbered made_then o) (machine rows_then w.cells w.state) s
  one_holds = record {
    words = record {
      cells_used = h.words.cells_used;
      rows_used = put.used;
      cells_are = h.words.cells_are;
      rows_are = put.are;
      memory = h.words.memory;
      distinct = h.words.distinct;
      cells_end = h.words.cells_end;
      rows_end = ap (λ (v : List ℕ). set v (i * 24 + 18) call) h.words.rows_end ∙ put.words;
    };
    counts = h.counts;
    cells_fit = h.cells_fit;
    rows_fit = h.rows_fit;
    rows_index = indexed;
    cells_index = h.cells_index;
    made = made;
    to_come = λ n m. those n (λ e. omega arith) ∙ h.to_come n m;
  }

-- so many, from one on
pub marks : {o : Before} {w : Machine} {s : State} (n from call : ℕ) → from + n ≤ length s.rows → Holds o w s → Marks o w s n from call
unfolding marked
marks {o} ℕ.zero from call l h = record { made = o.made; holds = h; below = λ k m. refl; inside = λ k m i. absurd (omega arith); above = λ k m. refl }
marks {o} {w} {s} (ℕ.suc n) from call l h =
    let i : from < length s.rows = omega arith in
    let a = marks {o = numbered (made_then h from call i) o} {w = machine (rows_then h from call i) w.cells w.state} n (suc from) call (omega arith) (one_holds h from call i) in
    record {
      made = a.made;
      holds = a.holds;
      below = λ k m. a.below k (omega arith) ∙ those h from call i k (λ e. omega arith);
      inside = λ k m j. go (ℕ_discrete k from) (λ e. a.below k (omega arith) ∙ rw e (this h from call i)) (λ ne. a.inside k (omega arith) (omega arith));
      above = λ k m. a.above k (omega arith) ∙ those h from call i k (λ e. omega arith);
    }
  where
    go : {P R : Type 0} → Dec P → (P → R) → ((P → ⊥) → R) → R
    go (yes e) f g = f e
    go (no ne) f g = g ne
