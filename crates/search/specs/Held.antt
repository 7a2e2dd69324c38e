-- The rows of a run: they are indexed, their arguments are lowest cells, and no judgment has two of them. So the search gives the one row
-- that states a judgment, whichever way it went.
use Rattle.std.specs.Prelude.{ℕ, ◌+◌, ◌*◌, ◌≤◌, ◌<◌, List, [], ◌∷◌, Bool, false, length, get_or, drop, ltb, Some, None}
use Rattle.std.proofs.Math.Path.{◌≡◌, refl}
use Rattle.std.proofs.Common.{sym, ap, ◌∙◌, ltb-true, length-append, lit<}
use Rattle.std.proofs.Math.Option.{Option, none, some}
use Rattle.std.proofs.Math.Bool.{true}
use Rattle.std.proofs.Common.{arith}
use Rattle.ast.specs.Words.{ifb}
use Rattle.ast.specs.Cells.{Found, or_else}
use Rattle.producer.specs.Machine.{Machine, find_row}
use Rattle.schemas.proofs.Concludes.{concludes}
use Rattle.walk.specs.Syntax.{Interval, I0, I1, Dim, Neg, Meet, Join, Universe, Var, Nat, Zero, Pi, Lam, App, Path, PathLam, PathApp, Sigma, Pair, Fst, Snd, Nil, Cons, Quote, Quotes}
use Rattle.walk.specs.Judgment.{Judgment, kind, Argument, number, of_interval, of_quote, of_context, arguments}
use Rattle.walk.specs.Reader.{kinds, ikinds, Call}
use Rattle.walk.specs.Rule.{kind_of}
use Rattle.walk.specs.State.{State, Row, Thing, term, interval, context, inference, key}
use Rattle.walk.specs.Demand.{RowAt, newest, older, DerivationOrder, Distinct, here, there}
use Rattle.walk.specs.Demand as D
use Rattle.link.specs.Lists.{Nth, nth_below, first, first_passes, blocks_length, read, yes?}
use Rattle.link.specs.Lists as L
use Rattle.link.specs.Things.{Shown, shown?, show, shows, Low}
use Rattle.link.proofs.Things.{is_low}
use Rattle.link.specs.Tables.{Spoken, j_ctx, j_dshiftctx, j_lookup, j_lt, j_le, j_max, j_interval, j_ishift, j_isubst, j_shift, j_subst, j_dshift, j_dsubst, j_has, j_eq, j_iend}
use Rattle.link.specs.Store.{Line, line}
use Rattle.link.specs.Holds.{Before, Holds, nth_of}
use Rattle.link.specs.Table.{◌>>=◌, kind_word, lower, ckinds, interval_at, quote_at, context_at, row_word, cell_words, words_at, CellsWords, argument_word, TableWords}
use Rattle.walk.specs.Run.{play_all}
use Rattle.walk.specs.Run as R
use Rattle.walk.proofs.Calls.{play_all_left}
use Rattle.order.specs.Derivation.{derivation_order, distinct}
use Rattle.order.specs.Theorem.{start_good}
use Rattle.link.specs.Asked.{ask_all, start}
use Rattle.link.proofs.Runs.{runs}
use Rattle.link.proofs.Back.{interval_back, quote_back, context_back, interval_read, quote_read, context_read, counted, under_5, table_told}
use Rattle.search.specs.Newest.{last, no_one, RowStates, Newest, Lowest, ArgumentWord, LowestWords, LowestRows}
use Rattle.search.specs.Highest.{only}
use Rattle.search.specs.Shown.{none_some, some_is, bound}
use Rattle.search.specs.Arguments.{lowest_read}
use Rattle.search.specs.Indexing.{Indexed}
use Rattle.search.specs.Found.{stated}
use Rattle.search.specs.Found as F

-- the first that passes is no later than any that does

module _ {A : Type 0} (p : A → Bool) where
  no_first : {m : ℕ} {x : A} (xs : List A) → Nth m x xs → p x ≡ true → first p xs ≡ None → ⊥
  unfolding first
  no_first {m = m} [] x4 t e = elim x4 [ ]
  no_first (y ∷ xs) (L.here q) t e = go (first p xs) (rw t at e)
    where
      go : (o : Found) → or_else o (Some (length xs)) ≡ None → ⊥
      go (Some n) f = let z : ◌≡◌ {A = ℕ} 0 1 = cc in omega arith
      go None f = let z : ◌≡◌ {A = ℕ} 0 1 = cc in omega arith
  no_first (y ∷ xs) (L.there h) t e = go (first p xs) refl e (no_first xs h t)
    where
      go : (o : Found) → first p xs ≡ o → or_else o (ifb (p y) (Some (length xs)) None) ≡ None → (first p xs ≡ None → ⊥) → ⊥
      go (Some n) q f ih = let z : ◌≡◌ {A = ℕ} 0 1 = cc in omega arith
      go None q f ih = ih q

  first_least : {n m : ℕ} {x : A} (xs : List A) → first p xs ≡ Some n → Nth m x xs → p x ≡ true → n ≤ m
  unfolding first
  first_least {n = n} {m = m} [] e x4 t = elim x4 [ ]
  first_least {n} (y ∷ xs) e (L.here q) t = let l = nth_below (first_passes p (y ∷ xs) n e).nth in omega arith
  first_least {n} {m} (y ∷ xs) e (L.there h) t = go (first p xs) refl e (λ f. first_least xs f h t) (no_first xs h t)
    where
      go : (o : Found) → first p xs ≡ o → or_else o (ifb (p y) (Some (length xs)) None) ≡ Some n → (first p xs ≡ Some n → n ≤ m) → (first p xs ≡ None → ⊥) → n ≤ m
      go (Some k) q f ih bare = ih (q ∙ f)
      go None q f ih bare = absurd (bare q)

-- A cell is read as what its thing is, and as nothing else.

abbrev is_some : {A : Type 0} → Option A → Bool
is_some (some x) = true
is_some none = false

abbrev is_term : Thing → Bool
is_term (term t) = true
is_term (interval r) = false
is_term (context g) = false
is_term (inference k) = false

abbrev is_interval : Thing → Bool
is_interval (term t) = false
is_interval (interval r) = true
is_interval (context g) = false
is_interval (inference k) = false

abbrev is_context : Thing → Bool
is_context (term t) = false
is_context (interval r) = false
is_context (context g) = true
is_context (inference k) = false

abbrev Sorts : ℕ → Thing → Type 0
Sorts k x = (is_some (get_or kinds k none) ≡ is_term x) × ((is_some (get_or ikinds k none) ≡ is_interval x) × (is_some (get_or ckinds k none) ≡ is_context x))

kind_sorts : (xs : List Thing) (x : Thing) (k : ℕ) → get_or (cell_words xs x) 0 none ≡ some k → Sorts k x
unfolding cell_words
-- written by tools/written.py: kinds of things
kind_sorts xs (inference (key d g t)) k e = rw (← some_is e) (refl, (refl, refl))
kind_sorts xs (term (Universe n)) k e = rw (← some_is e) (refl, (refl, refl))
kind_sorts xs (term (Var n)) k e = rw (← some_is e) (refl, (refl, refl))
kind_sorts xs (term Nat) k e = rw (← some_is e) (refl, (refl, refl))
kind_sorts xs (term Zero) k e = rw (← some_is e) (refl, (refl, refl))
kind_sorts xs (term (Pi a b)) k e = rw (← some_is e) (refl, (refl, refl))
kind_sorts xs (term (Lam a b)) k e = rw (← some_is e) (refl, (refl, refl))
kind_sorts xs (term (App a b)) k e = rw (← some_is e) (refl, (refl, refl))
kind_sorts xs (term (Path a b c)) k e = rw (← some_is e) (refl, (refl, refl))
kind_sorts xs (term (PathLam a b)) k e = rw (← some_is e) (refl, (refl, refl))
kind_sorts xs (term (PathApp a b)) k e = rw (← some_is e) (refl, (refl, refl))
kind_sorts xs (term (Sigma a b)) k e = rw (← some_is e) (refl, (refl, refl))
kind_sorts xs (term (Pair a b c)) k e = rw (← some_is e) (refl, (refl, refl))
kind_sorts xs (term (Fst a)) k e = rw (← some_is e) (refl, (refl, refl))
kind_sorts xs (term (Snd a)) k e = rw (← some_is e) (refl, (refl, refl))
kind_sorts xs (interval I0) k e = rw (← some_is e) (refl, (refl, refl))
kind_sorts xs (interval I1) k e = rw (← some_is e) (refl, (refl, refl))
kind_sorts xs (interval (Dim n)) k e = rw (← some_is e) (refl, (refl, refl))
kind_sorts xs (interval (Neg a)) k e = rw (← some_is e) (refl, (refl, refl))
kind_sorts xs (interval (Meet a b)) k e = rw (← some_is e) (refl, (refl, refl))
kind_sorts xs (interval (Join a b)) k e = rw (← some_is e) (refl, (refl, refl))
kind_sorts xs (context Nil) k e = rw (← some_is e) (refl, (refl, refl))
kind_sorts xs (context (Cons a b)) k e = rw (← some_is e) (refl, (refl, refl))

-- end of kinds of things

spoken_kind : {xs : List Thing} {k n a b c d e : ℕ} {j : Judgment} → Spoken xs k n a b c d e j → k ≡ kind j
-- written by tools/written.py: kinds of judgments
spoken_kind (j_ctx h0) = refl
spoken_kind (j_dshiftctx h0 h1) = refl
spoken_kind (j_lookup h0 h1) = refl
spoken_kind j_lt = refl
spoken_kind j_le = refl
spoken_kind j_max = refl
spoken_kind (j_interval h0) = refl
spoken_kind (j_ishift h0 h1) = refl
spoken_kind (j_isubst h0 h1 h2) = refl
spoken_kind (j_shift h0 h1) = refl
spoken_kind (j_subst h0 h1 h2) = refl
spoken_kind (j_dshift h0 h1) = refl
spoken_kind (j_dsubst h0 h1 h2) = refl
spoken_kind (j_has h0 h1 h2) = refl
spoken_kind (j_eq h0 h1 h2 h3) = refl
spoken_kind (j_iend h0 h1) = refl

-- end of kinds of judgments

-- what a cell below is read from

lower_told : {A : Type 0} (n : ℕ) (at : ℕ → Option A) (i : ℕ) {t : A} → lower n at i ≡ some t → (i < n) × (at i ≡ some t)
lower_told {A} n at i {t} e = go (ltb i n) refl e
  where
    go : (b : Bool) → ltb i n ≡ b → elim b as (λ _. Option A) [ true ↦ at i | false ↦ none ] ≡ some t → (i < n) × (at i ≡ some t)
    go true q f = (ltb-true i n q, f)
    go false q f = absurd (none_some f)

module _ {xs : List Thing} {C : List ℕ} (cs : CellsWords xs C) where
  sorts_at : {n : ℕ} {x : Thing} → Nth n x xs → Sorts (kind_word C n) x
  sorts_at {n} {x} h = let (before, (e, c)) = counted h in go before e (cs.each x before c)
    where
      go : (before : List Thing) → n ≡ length before → words_at C (length before) ≡ cell_words before x → Sorts (kind_word C n) x
      go before e w = kind_sorts before x (kind_word C n) (ap (λ (l : List (Option ℕ)). get_or l 0 none) (sym w) ∙ ap (λ (m : ℕ). some (kind_word C m)) (sym e))

  -- a cell that is read as a term, an interval or a context
  known : {A K : Type 0} (n : ℕ) (table : List (Option K)) (by : K → Option A) {t : A} → (get_or table (kind_word C n) none >>= by) ≡ some t → is_some (get_or table (kind_word C n) none) ≡ true
  known n table by e = let b = bound (get_or table (kind_word C n) none) by e in rw b.is

  quote_kind : (f n : ℕ) (t : Quote) → quote_at f C n ≡ some t → is_some (get_or kinds (kind_word C n) none) ≡ true
  unfolding quote_at
  quote_kind ℕ.zero n t e = absurd (none_some e)
  quote_kind (ℕ.suc f) n t e = known n kinds _ e

  interval_kind : (f n : ℕ) (r : Interval) → interval_at f C n ≡ some r → is_some (get_or ikinds (kind_word C n) none) ≡ true
  unfolding interval_at
  interval_kind ℕ.zero n r e = absurd (none_some e)
  interval_kind (ℕ.suc f) n r e = known n ikinds _ e

  context_kind : (f n : ℕ) (g : Quotes) → context_at f C n ≡ some g → is_some (get_or ckinds (kind_word C n) none) ≡ true
  unfolding context_at
  context_kind ℕ.zero n g e = absurd (none_some e)
  context_kind (ℕ.suc f) n g e = known n ckinds _ e

  shows_quote : (i : ℕ) (x : Thing) (t : Quote) → Nth i x xs → quote_at (length xs) C i ≡ some t → show x ≡ Shown.a_quote t
  shows_quote i x t h e = go x h (sorts_at h) (quote_kind (length xs) i t e)
    where
      go : (x : Thing) → Nth i x xs → Sorts (kind_word C i) x → is_some (get_or kinds (kind_word C i) none) ≡ true → show x ≡ Shown.a_quote t
      go (term s) h q k = ap Shown.a_quote (some_is (sym (quote_back cs (length xs) i s (nth_below h) h) ∙ e))
      go (interval r) h q k = let z = sym q.0 ∙ k in let y : ◌≡◌ {A = ℕ} 0 1 = cc in absurd (omega arith)
      go (context g) h q k = let z = sym q.0 ∙ k in let y : ◌≡◌ {A = ℕ} 0 1 = cc in absurd (omega arith)
      go (inference m) h q k = let z = sym q.0 ∙ k in let y : ◌≡◌ {A = ℕ} 0 1 = cc in absurd (omega arith)

  shows_interval : (i : ℕ) (x : Thing) (r : Interval) → Nth i x xs → interval_at (length xs) C i ≡ some r → show x ≡ Shown.an_interval r
  shows_interval i x r h e = go x h (sorts_at h) (interval_kind (length xs) i r e)
    where
      go : (x : Thing) → Nth i x xs → Sorts (kind_word C i) x → is_some (get_or ikinds (kind_word C i) none) ≡ true → show x ≡ Shown.an_interval r
      go (interval s) h q k = ap Shown.an_interval (some_is (sym (interval_back cs (length xs) i s (nth_below h) h) ∙ e))
      go (term t) h q k = let z = sym q.1.0 ∙ k in let y : ◌≡◌ {A = ℕ} 0 1 = cc in absurd (omega arith)
      go (context g) h q k = let z = sym q.1.0 ∙ k in let y : ◌≡◌ {A = ℕ} 0 1 = cc in absurd (omega arith)
      go (inference m) h q k = let z = sym q.1.0 ∙ k in let y : ◌≡◌ {A = ℕ} 0 1 = cc in absurd (omega arith)

  shows_context : (i : ℕ) (x : Thing) (g : Quotes) → Nth i x xs → context_at (length xs) C i ≡ some g → show x ≡ Shown.a_context g
  shows_context i x g h e = go x h (sorts_at h) (context_kind (length xs) i g e)
    where
      go : (x : Thing) → Nth i x xs → Sorts (kind_word C i) x → is_some (get_or ckinds (kind_word C i) none) ≡ true → show x ≡ Shown.a_context g
      go (context s) h q k = ap Shown.a_context (some_is (sym (context_back cs (length xs) i s (nth_below h) h) ∙ e))
      go (term t) h q k = let z = sym q.1.1 ∙ k in let y : ◌≡◌ {A = ℕ} 0 1 = cc in absurd (omega arith)
      go (interval r) h q k = let z = sym q.1.1 ∙ k in let y : ◌≡◌ {A = ℕ} 0 1 = cc in absurd (omega arith)
      go (inference m) h q k = let z = sym q.1.1 ∙ k in let y : ◌≡◌ {A = ℕ} 0 1 = cc in absurd (omega arith)

  -- the lowest cell that shows something is the lowest that is read as it
  least_shown : {w : ℕ} {s : Shown} → Low w s xs → (i : ℕ) (x : Thing) → Nth i x xs → show x ≡ s → w ≤ i
  unfolding shows
  least_shown {w} {s} low i x h e = first_least (shows s) xs low.found h (told (shown? s (show x)))
    where
      told : (d : Dec (s ≡ show x)) → yes? d ≡ true
      told (yes q) = refl
      told (no q) = absurd (q (sym e))

  lowest_at : {A : Type 0} {w : ℕ} {s : Shown} {t : A} (at : ℕ → Option A) → Low w s xs → lower (length xs) at w ≡ some t → ((i : ℕ) (x : Thing) → Nth i x xs → at i ≡ some t → show x ≡ s) → Lowest (lower (length xs) at) w t
  lowest_at at low e f = record { read = e; least = λ i q. let (l, g) = lower_told (length xs) at i q in let (x, h) = nth_of xs i l in least_shown low i x h (f i x h g) }

  fixed_word : (a : Argument) (w : ℕ) → some w ≡ argument_word xs a → ArgumentWord (length xs) C a w
  fixed_word (number n) w e = some_is e
  fixed_word (of_interval r) w e = let low = is_low e in lowest_at (interval_at (length xs) C) low (interval_read cs low) (λ i x h q. shows_interval i x r h q)
  fixed_word (of_quote t) w e = let low = is_low e in lowest_at (quote_at (length xs) C) low (quote_read cs low) (λ i x h q. shows_quote i x t h q)
  fixed_word (of_context g) w e = let low = is_low e in lowest_at (context_at (length xs) C) low (context_read cs low) (λ i x h q. shows_context i x g h q)

-- the rows that a state's words hold

nth_row : {n : ℕ} {r : Row} {rs : List Row} → Nth n r rs → RowAt n r rs
nth_row (L.here e) = newest e
nth_row (L.there h) = older (nth_row h)

nth_states : {n : ℕ} {r : Row} {rs : List Row} {j : Judgment} → j ≡ r.judgment → Nth n r rs → D.At n j rs
nth_states q (L.here e) = here e q
nth_states q (L.there h) = there (nth_states q h)

line_kind : {xs : List Thing} {rs : List Row} {r : Row} {bs : List ℕ} → Line xs rs r bs → get_or bs 19 0 ≡ kind r.judgment
line_kind (line s) = spoken_kind s

-- Any row with the property, where there is one: what a search in any other order gives.
pub data Any (P : ℕ → Type 0) (n : ℕ) : Found → Type 0 where
  one : {i : ℕ} → i < n → P i → Any P n (Some i)
  no_one_has : ((k : ℕ) → k < n → P k → ⊥) → Any P n None

module _ {o : Before} {w : Machine} {s : State} (h : Holds o w s) (d : DerivationOrder s.rows) where
  table : TableWords s w.rows w.cells
  table = table_told h d

  kind_told : {i : ℕ} {r : Row} → Nth i r s.rows → kind_of (row_word 0 w.rows i) ≡ kind r.judgment
  kind_told {i} {r} k = ap kind_of (table.each_row i r (nth_row k)).rule ∙ sym (concludes (d.follows i r (nth_row k)).follows)

  word_19 : {i : ℕ} {r : Row} → Nth i r s.rows → row_word 19 w.rows i ≡ kind r.judgment
  word_19 {i} k =
      let q = read (drop (length s.rows * 24) o.rows) k h.words.rows_are in
      ap (λ (l : List ℕ). get_or l (i * 24 + 19) 0) h.words.rows_end ∙ q.at 19 (lit< tt) ∙ line_kind q.is

  pub run_indexed : Indexed w.rows (length s.rows)
  run_indexed = record {
    fits = (let e = blocks_length h.words.rows_are in rw (h.words.rows_end, length-append) (omega arith));
    index = h.rows_index;
    kinds = λ i l. (let (r, k) = nth_of s.rows i l in word_19 k ∙ sym (kind_told k));
  }

  row_lowest : {i : ℕ} {r : Row} → Nth i r s.rows → LowestWords (length s.cells) w.cells (row_word 13 w.rows i) (row_word 14 w.rows i) (row_word 15 w.rows i) (row_word 16 w.rows i) (row_word 17 w.rows i) r.judgment
  row_lowest {i} {r} k =
      let x = (table.each_row i r (nth_row k)).judgment in
      let f = fixed_word table.cells in
      record { words = under_5 (λ k. ArgumentWord (length s.cells) w.cells (get_or (arguments r.judgment) k (number 0)) (get_or (row_word 13 w.rows i ∷ row_word 14 w.rows i ∷ row_word 15 w.rows i ∷ row_word 16 w.rows i ∷ row_word 17 w.rows i ∷ []) k 0)) (f (get_or (arguments r.judgment) 0 (number 0)) (row_word 13 w.rows i) (x 0 (lit< tt))) (f (get_or (arguments r.judgment) 1 (number 0)) (row_word 14 w.rows i) (x 1 (lit< tt))) (f (get_or (arguments r.judgment) 2 (number 0)) (row_word 15 w.rows i) (x 2 (lit< tt))) (f (get_or (arguments r.judgment) 3 (number 0)) (row_word 16 w.rows i) (x 3 (lit< tt))) (f (get_or (arguments r.judgment) 4 (number 0)) (row_word 17 w.rows i) (x 4 (lit< tt))) }

  row_told : {i : ℕ} {r : Row} {j : Judgment} → Nth i r s.rows → RowStates (length s.cells) w.rows w.cells j i → j ≡ r.judgment
  row_told {i} {r} {j} k x = some_is (sym (stated x) ∙ (rw (kind_told k) (lowest_read (row_lowest k))))

  pub run_lowest : LowestRows (length s.rows) (length s.cells) w.rows w.cells
  run_lowest = record { each = λ i j l x. (let (r, k) = nth_of s.rows i l in rw (row_told k x) (kind_told k, row_lowest k)) }

  -- the highest row that states the judgment
  pub run_newest : {a b c d e : ℕ} {j : Judgment} → LowestWords (length s.cells) w.cells a b c d e j → Newest (length s.rows) (length s.cells) w.rows w.cells j (find_row w.rows (length s.rows) (kind j) a b c d e)
  run_newest wanted = F.newest run_indexed run_lowest wanted

  -- and the only one: each answer is what it was
  pub unchanged : {a b c d e : ℕ} {j : Judgment} → Distinct s.rows → LowestWords (length s.cells) w.cells a b c d e j → (f : Found) → Any (RowStates (length s.cells) w.rows w.cells j) (length s.rows) f → f ≡ find_row w.rows (length s.rows) (kind j) a b c d e
  unchanged {j = j} once wanted f x = only (only_one x) (run_newest wanted)
    where
      one_row : (i k : ℕ) → i < length s.rows → k < length s.rows → RowStates (length s.cells) w.rows w.cells j i → RowStates (length s.cells) w.rows w.cells j k → i ≡ k
      one_row i k l m p q =
          let (r, n) = nth_of s.rows i l in
          let (r', n') = nth_of s.rows k m in
          once.same_row i k j (nth_states (row_told n p) n) (nth_states (row_told n' q) n')

      only_one : {f : Found} → Any (RowStates (length s.cells) w.rows w.cells j) (length s.rows) f → Newest (length s.rows) (length s.cells) w.rows w.cells j f
      only_one (one {i = i} l p) = last {i = i} l p (λ k a b q. let e = one_row i k l b p q in omega arith)
      only_one (no_one_has g) = no_one g

-- what the search gives in a run
pub record InRun (w : Machine) (s : State) : Type 0 where
  pub newest : (a b c d e : ℕ) (j : Judgment) → LowestWords (length s.cells) w.cells a b c d e j → Newest (length s.rows) (length s.cells) w.rows w.cells j (find_row w.rows (length s.rows) (kind j) a b c d e)
  pub unchanged : (a b c d e : ℕ) (j : Judgment) → LowestWords (length s.cells) w.cells a b c d e j → (f : Found) → Any (RowStates (length s.cells) w.rows w.cells j) (length s.rows) f → f ≡ find_row w.rows (length s.rows) (kind j) a b c d e

-- So after any calls of a run.
pub in_a_run : (limit : ℕ) (rows cells : List ℕ) (calls : List Call) → limit ≤ 4096 → InRun (ask_all calls (start limit rows cells)).1 (play_all calls (R.start limit (length rows) (length cells))).1
in_a_run limit rows cells calls most =
    let h = (runs limit rows cells calls most).holds in
    let o = (play_all_left calls (R.start limit (length rows) (length cells)) (start_good limit (length rows) (length cells))).good.order in
    record { newest = λ a b c d e j wanted. run_newest h (derivation_order o) wanted; unchanged = λ a b c d e j wanted f x. unchanged h (derivation_order o) (distinct o) wanted f x }
