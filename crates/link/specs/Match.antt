-- A step of the machine and a step of the walk: `Matches o xs m d Q`: from any store that has the cells xs and stands for the
-- walk's state, m and d end alike, in states that stand for each other, with values that Q relates. One lemma a combinator.
use Rattle.std.specs.Prelude.{ℕ, suc, ◌+◌, ◌*◌, ◌-◌, ◌%◌, ◌<◌, max, List, [], ◌∷◌, ◌++◌, Bool, drop, ltb, Some, None}
use Rattle.std.proofs.Math.Path.{◌≡◌, refl}
use Rattle.std.proofs.Common.{sym, ap, ◌∙◌, subst, append-nil, arith, lit<}
use Rattle.std.proofs.Math.Option.{Option, none, some}
use Rattle.std.proofs.Math.Bool.{true, false}
use Rattle.std.proofs.Math.Decide.{dec_lt}
use Rattle.std.proofs.Math.ListN.{length, get_or}
use Rattle.ast.specs.Words.{ifb, up}
use Rattle.ast.specs.Cells.{Found, on_found, same_node, look_1, look_2, look_3}
use Rattle.ast.specs.Nodes.{find_node, find_look, lowest_of, recall_of}
use Rattle.ast.specs.declared.cells.Cell.{Cell as Words}
use Rattle.producer.specs.declared.rows.Refs.{Refs}
use Rattle.producer.specs.Machine.{Machine, machine, Result, is, not, W, next, give, stop, when◌then◌else◌, open_cell, lowest, add_cell, new_cell, known_or, intern, no_refs, cons_refs, join_refs, refs_1, refs_2, refs_3, refs_4, refs_5, refs_6, refs_7, refs_10, row_block, same_row, find_row, add_row, new_row, known_row, emit, recalled_or, recall_or, replace, remembered_or, new_memory, remember, with_conversions, enter, deeper_of}
use Rattle.producer.specs.Machine as C
use Rattle.producer.specs.Callees.{Callees, prepared}
use Rattle.walk.specs.Syntax.{Interval, Term, Context}
use Rattle.walk.specs.Refusal as Refusal
use Rattle.walk.specs.Judgment.{Judgment}
use Rattle.walk.specs.State.{State, Thing, term, interval, context, inference, key, row_of, of_interval, of_term, of_context, Outcome, done, refused, M, go_on, looking, pure, refuse, choose◌then◌else◌, from◌get◌or◌, count, count_all, with_cell, push, with_row, note, with_deepest, recall, with_memory, store}
use Rattle.walk.specs.State as D
use Rattle.order.specs.Guarded.{beyond}
use Rattle.link.specs.Lists.{yes?, found_of, first, Extends, same, more, extends_trans, first_found}
use Rattle.link.specs.Things.{show, Cell, Low, is_thing, shows, cell_lift, Plain, Held, held, Known, none_left, known, known_append, known_head, held_lift}
use Rattle.link.specs.Tables.{Shape, s_lift, s_plain, Spoken, j_lift}
use Rattle.link.specs.Store.{refs_of, plain, line, Cells, cell_by, quote_is, node_test, looks, look_test, row_test, rows_found, among_found, among_none, comes, lowest_comes, interval_known, term_known, context_known, Kept, no_memory, a_memory_at, memory_test}
use Rattle.link.specs.Holds.{Before, Holds, less, read_cell, more_cells, more_rows, no_cell_children, no_row_children, found_node, found_look, found_row, converted, deeper, replaced_holds, added_holds}

-- both end alike; nothing is said where the guard stops the walk (never met)
pub data Agree {A B : Type 0} (o : Before) (xs : List Thing) (Q : B → A → List Thing → Type 0) : Result B → Outcome A → Type 0 where
  both_done : {a : A} {b : B} {w : Machine} {s : State} → Extends xs s.cells → Holds o w s → Q b a s.cells → Agree o xs Q (is b w) (done a s)
  both_refused : {n : ℕ} {w : Machine} {s : State} → Extends xs s.cells → Holds o w s → Agree o xs Q (not n w) (refused n s)
  by_guard : {r : Result B} {s : State} → Agree o xs Q r (refused beyond s)

pub record Matches {A B : Type 0} (o : Before) (xs : List Thing) (m : W B) (d : M A) (Q : B → A → List Thing → Type 0) : Type 0 where
  pub holds : (w : Machine) (s : State) → Extends xs s.cells → Holds o w s → Agree o xs Q (m w) (d s)

later : {A B : Type 0} {o : Before} {xs ys : List Thing} {Q : B → A → List Thing → Type 0} {r : Result B} {d : Outcome A} → Extends xs ys → Agree o ys Q r d → Agree o xs Q r d
later e (both_done f h q) = both_done (extends_trans e f) h q
later e (both_refused f h) = both_refused (extends_trans e f) h
later e by_guard = by_guard

module _ {A A' B B' : Type 0} {o : Before} {xs : List Thing} {Q : B → A → List Thing → Type 0} {R : B' → A' → List Thing → Type 0} where
  then_agrees : {r : Result B} {d : Outcome A} {f : B → W B'} {g : A → M A'} → Agree o xs Q r d → ((b : B) (a : A) (ys : List Thing) → Extends xs ys → Q b a ys → Matches o ys (f b) (g a) R) → Agree o xs R (next r f) (go_on d g)
  unfolding next go_on
  then_agrees (both_done {a = a} {b = b} {w = w} {s = s} e h q) k = later e ((k b a s.cells e q).holds w s same h)
  then_agrees (both_refused e h) k = both_refused e h
  then_agrees by_guard k = by_guard

  pub bind : {m : W B} {d : M A} {f : B → W B'} {g : A → M A'} → Matches o xs m d Q → ((b : B) (a : A) (ys : List Thing) → Extends xs ys → Q b a ys → Matches o ys (f b) (g a) R) → Matches o xs (C.◌>>=◌ m f) (D.◌>>=◌ d g) R
  unfolding C.◌>>=◌ D.◌>>=◌
  bind h k = record { holds = λ w s e i. then_agrees (h.holds w s e i) k }

module _ {A B : Type 0} {o : Before} {xs : List Thing} {Q : B → A → List Thing → Type 0} where
  pub giving : (b : B) (a : A) → ((ys : List Thing) → Extends xs ys → Q b a ys) → Matches o xs (give b) (pure a) Q
  unfolding give pure
  giving b a q = record { holds = λ w s e h. both_done e h (q s.cells e) }

  pub stopping : (n : ℕ) → Matches o xs (stop n) (refuse n) Q
  unfolding stop refuse
  stopping n = record { holds = λ w s e h. both_refused e h }

  -- a test of the machine and a decision that it makes
  pub branch : {P : Type 0} {m n : W B} {d e : M A} (t : Bool) (c : Dec P) → t ≡ yes? c → (P → Matches o xs m d Q) → ((P → ⊥) → Matches o xs n e Q) → Matches o xs (when t then m else n) (choose c then d else e) Q
  unfolding when◌then◌else◌ choose◌then◌else◌
  branch true (yes h) q f g = f h
  branch false (yes h) q f g = let z : ◌≡◌ {A = ℕ} 0 1 = cc in absurd (omega arith)
  branch true (no h) q f g = let z : ◌≡◌ {A = ℕ} 0 1 = cc in absurd (omega arith)
  branch false (no h) q f g = g h

module _ {A B : Type 0} {o : Before} {xs : List Thing} {Q : B → A → List Thing → Type 0} where
  -- a cell is opened, or the lowest with its quote is looked up
  pub opening : {i : ℕ} {x : Thing} {f : Words → W B} {d : M A} → Plain x → Cell i x xs → ((v : Words) → Shape xs v.kind v.a v.b v.c x → Low v.quote (show x) xs → Matches o xs (f v) d Q) → Matches o xs (open_cell i f) d Q
  unfolding open_cell
  opening p c k = record { holds = λ w s e h. let r = read_cell p c e h in rw r.words ((k (cell_by r.kind r.a r.b r.c r.low) r.shape r.lowest).holds w s e h) }

  pub lowest_of_cell : {i : ℕ} {x : Thing} {f : ℕ → W B} {d : M A} → Plain x → Cell i x xs → ((q : ℕ) → Low q (show x) xs → Matches o xs (f q) d Q) → Matches o xs (lowest i f) d Q
  unfolding lowest
  lowest_of_cell {i = i} {x = x} p c k = record { holds = λ w s e h. let r = read_cell p c e h in rw (quote_is r) ((k r.low r.lowest).holds w s e h) }

-- what has a cell has cells for its parts too
infixl 30 ◌with◌
pub data Present (xs : List Thing) : List Thing → Type 0 where
  nothing : Present xs []
  the_interval : {n : ℕ} {r : Interval} → Cell n (interval r) xs → Present xs (of_interval r)
  the_term : {n : ℕ} {t : Term} → Cell n (term t) xs → Present xs (of_term t)
  the_context : {n : ℕ} {g : Context} → Cell n (context g) xs → Present xs (of_context g)
  ◌with◌ : {as' bs : List Thing} → Present xs as' → Present xs bs → Present xs (as' ++ bs)

present_known : {xs ys zs : List Thing} {ws : List ℕ} → Present xs zs → Extends xs ys → Cells ys ws → Known ys zs
present_known nothing e cs = none_left
present_known (the_interval {r = r} c) e cs = interval_known cs r (held (cell_lift e c))
present_known (the_term {t = t} c) e cs = term_known cs t (held (cell_lift e c))
present_known (the_context {g = g} c) e cs = context_known cs g (held (cell_lift e c))
present_known (◌with◌ h k) e cs = known_append (present_known h e cs) (present_known k e cs)

-- to count what has cells changes nothing
count_known : (s : State) (x : Thing) → Held x s.cells → count x s ≡ done tt s
unfolding count
count_known s x h = rw (among_found x s.cells h.number h.cell.found, count)

count_past : (s : State) {zs : List Thing} (bs : List Thing) → Known s.cells zs → count_all (zs ++ bs) s ≡ count_all bs s
unfolding count_all D.◌>>=◌ go_on
count_past s bs none_left = refl
count_past s bs (known {z = z} h k) = rw (count_known s z h) (count_past s bs k)

count_one : (s : State) (x : Thing) → count_all (x ∷ []) s ≡ count x s
unfolding count_all D.◌>>=◌ go_on pure
count_one s x = go (count x s)
  where
    go : (o : Outcome (Unit {0})) → go_on o (λ _. pure tt) ≡ o
    go (done tt s) = refl
    go (refused n s) = refl

-- what a count does where there is no cell yet
fresh : (x : Thing) (s : State) → Dec (length s.cells < s.cell_room) → Outcome (Unit {0})
fresh x s (yes h) = done tt (with_cell x s)
fresh x s (no h) = refused Refusal.cells s

count_new : (x : Thing) (s : State) → first (is_thing x) s.cells ≡ None → count x s ≡ fresh x s (dec_lt (length s.cells) s.cell_room)
unfolding count fresh
count_new x s e = rw (among_none x s.cells e, count) (go (dec_lt (length s.cells) s.cell_room))
  where
    go : (d : Dec (length s.cells < s.cell_room)) → elim d as (λ _. Outcome (Unit {0})) [ yes h ↦ done tt (with_cell x s) | no h ↦ refused Refusal.cells s ] ≡ fresh x s d
    go (yes h) = refl
    go (no h) = refl

-- the lowest cell with the quote of a node that comes
module _ {o : Before} {xs : List Thing} {k a b c : ℕ} {x : Thing} (shape : Shape xs k a b c x) (w : Machine) (s : State) (e : Extends xs s.cells) (h : Holds o w s) where
  looked : find_look w.cells w.state.cells k (look_1 w.cells k a) (look_2 w.cells k b) (look_3 w.cells k c) ≡ first (shows (show x)) s.cells
  looked =
      let rest = drop (length s.cells * 8) o.cells in
      rw (h.counts, found_look h.cells_index _ _ _ _, h.words.cells_end) (first_found (shows (show x)) _ s.cells (λ n y m. look_test rest (looks rest h.words.cells_are (s_lift e shape)) h.words.cells_are m))

  low : Low (lowest_of w.cells w.state.cells k a b c) (show x) (x ∷ s.cells)
  unfolding lowest_of
  low = rw (looked, h.counts) (lowest_comes x s.cells)

-- a cell for a node whose parts have cells
pub interning : {o : Before} {xs : List Thing} {k a b c : ℕ} {x : Thing} → Shape xs k a b c x → Matches o xs (intern k a b c) (count x) (λ n _ ys. Cell n x ys)
unfolding intern known_or give new_cell fresh with_cell
interning {o} {xs} {k} {a} {b} {c} {x} shape = record { holds = λ w s e h. rw (searched w s e h) (go w s e h (first (is_thing x) s.cells) refl) }
  where
    searched : (w : Machine) (s : State) → Extends xs s.cells → Holds o w s → find_node w.cells w.state.cells k a b c ≡ first (is_thing x) s.cells
    searched w s e h = rw (h.counts, found_node h.cells_index k a b c) (first_found (is_thing x) (same_node w.cells k a b c) s.cells (λ n y m. rw h.words.cells_end (node_test (drop (length s.cells * 8) o.cells) (s_lift e shape) h.words.cells_are m)))

    new : (w : Machine) (s : State) → Extends xs s.cells → Holds o w s → first (is_thing x) s.cells ≡ None → (d : Dec (length s.cells < s.cell_room)) → (t : Bool) → t ≡ yes? d → Agree {A = Unit {0}} o xs (λ n _ ys. Cell n x ys) (ifb t (is w.state.cells (add_cell (k ∷ a ∷ b ∷ c ∷ lowest_of w.cells w.state.cells k a b c ∷ 0 ∷ 0 ∷ 0 ∷ []) w)) (not Refusal.cells w)) (fresh x s d)
    new w s e h f (yes l) true g = both_done {b = w.state.cells} {s = with_cell x s} (more e) (more_cells (s_plain shape).1 f h (plain (s_lift e shape) (low shape w s e h)) refl (no_cell_children k a b c _ 0) l) (rw h.counts (comes x s.cells f))
    new w s e h f (yes l) false g = let z : ◌≡◌ {A = ℕ} 0 1 = cc in absurd (omega arith)
    new w s e h f (no l) true g = let z : ◌≡◌ {A = ℕ} 0 1 = cc in absurd (omega arith)
    new w s e h f (no l) false g = both_refused e h

    go : (w : Machine) (s : State) → Extends xs s.cells → Holds o w s → (t : Found) → first (is_thing x) s.cells ≡ t → Agree {A = Unit {0}} o xs (λ n _ ys. Cell n x ys) (known_or t (new_cell k a b c) w) (count x s)
    go w s e h (Some n) f = rw (count_known s x (held (record { found = f }))) (both_done e h (record { found = f }))
    go w s e h None f = rw (count_new x s f) (new w s e h f (dec_lt (length s.cells) s.cell_room) (ltb w.state.cells w.state.cellroom) (rw h.counts (less (length s.cells) s.cell_room)))

-- the node at the end of what is counted, whose parts have cells
pub counting : {o : Before} {xs zs : List Thing} {k a b c : ℕ} {x : Thing} → Present xs zs → Shape xs k a b c x → Matches o xs (intern k a b c) (count_all (zs ++ x ∷ [])) (λ n _ ys. Cell n x ys)
counting {x = x} p s = record { holds = λ w t e h. rw (count_past t (x ∷ []) (present_known p e h.words.cells_are), count_one t x) ((interning s).holds w t e h) }

-- what has cells is counted in passing
counted : (s : State) (zs : List Thing) → Known s.cells zs → count_all zs s ≡ done tt s
unfolding count_all pure
counted s zs k = ap (λ (l : List Thing). count_all l s) (sym (append-nil zs)) ∙ count_past s [] k

pub passing : {A B : Type 0} {o : Before} {xs zs : List Thing} {Q : B → A → List Thing → Type 0} {m : W B} {d : M A} → Present xs zs → Matches o xs m d Q → Matches o xs m (D.◌>>=◌ (count_all zs) (λ _. d)) Q
unfolding D.◌>>=◌ go_on
passing {zs = zs} p k = record { holds = λ w s e h. rw (counted s zs (present_known p e h.words.cells_are)) (k.holds w s e h) }

-- what has a cell is counted, and has it
pub having : {o : Before} {xs zs : List Thing} {n : ℕ} {x : Thing} → Present xs zs → Cell n x xs → Matches o xs (give n) (count_all zs) (λ n _ ys. Cell n x ys)
unfolding give
having {zs = zs} p c = record { holds = λ w s e h. rw (counted s zs (present_known p e h.words.cells_are)) (both_done e h (cell_lift e c)) }

-- what a row cites: the words, and the list

pub record Cites (l : Refs) (ns : List ℕ) : Type 0 where
  pub are : l ≡ refs_of ns

pub cite_0 : Cites no_refs []
unfolding no_refs
cite_0 = record { are = refl }

-- one more, where there is room
cite_on : {l : Refs} {ns : List ℕ} (x : ℕ) → length ns < 10 → Cites l ns → Cites (cons_refs x l) (x ∷ ns)
unfolding cons_refs up
cite_on {ns = ns} x m c = let e : (length ns + 1) % 4294967296 ≡ suc (length ns) = omega arith in record { are = rw (c.are, e) }

pub cite_1 : {x : ℕ} → Cites (refs_1 x) (x ∷ [])
unfolding refs_1
cite_1 = cite_on _ (lit< tt) cite_0

pub cite_2 : {x y : ℕ} → Cites (refs_2 x y) (x ∷ y ∷ [])
unfolding refs_2
cite_2 = cite_on _ (lit< tt) cite_1

pub cite_3 : {x y z : ℕ} → Cites (refs_3 x y z) (x ∷ y ∷ z ∷ [])
unfolding refs_3
cite_3 = cite_on _ (lit< tt) cite_2

pub cite_4 : {x y z u : ℕ} → Cites (refs_4 x y z u) (x ∷ y ∷ z ∷ u ∷ [])
unfolding refs_4
cite_4 = cite_on _ (lit< tt) cite_3

pub cite_5 : {x y z u v : ℕ} → Cites (refs_5 x y z u v) (x ∷ y ∷ z ∷ u ∷ v ∷ [])
unfolding refs_5
cite_5 = cite_on _ (lit< tt) cite_4

pub cite_6 : {x₀ x₁ x₂ x₃ x₄ x₅ : ℕ} → Cites (refs_6 x₀ x₁ x₂ x₃ x₄ x₅) (x₀ ∷ x₁ ∷ x₂ ∷ x₃ ∷ x₄ ∷ x₅ ∷ [])
unfolding refs_6
cite_6 = cite_on _ (lit< tt) cite_5

pub cite_7 : {x₀ x₁ x₂ x₃ x₄ x₅ x₆ : ℕ} → Cites (refs_7 x₀ x₁ x₂ x₃ x₄ x₅ x₆) (x₀ ∷ x₁ ∷ x₂ ∷ x₃ ∷ x₄ ∷ x₅ ∷ x₆ ∷ [])
unfolding refs_7
cite_7 = cite_on _ (lit< tt) cite_6

pub cite_10 : {x₀ x₁ x₂ x₃ x₄ x₅ x₆ x₇ x₈ x₉ : ℕ} → Cites (refs_10 x₀ x₁ x₂ x₃ x₄ x₅ x₆ x₇ x₈ x₉) (x₀ ∷ x₁ ∷ x₂ ∷ x₃ ∷ x₄ ∷ x₅ ∷ x₆ ∷ x₇ ∷ x₈ ∷ x₉ ∷ [])
unfolding refs_10
cite_10 = cite_on _ (lit< tt) (cite_on _ (lit< tt) (cite_on _ (lit< tt) cite_7))

-- none or one
pub data Few : Refs → List ℕ → Type 0 where
  no_row : Few no_refs []
  one_row : {x : ℕ} → Few (refs_1 x) (x ∷ [])

-- the few, then others
pub cite_join : {k l : Refs} {ms ns : List ℕ} → Few k ms → length ns < 9 → Cites l ns → Cites (join_refs k l) (ms ++ ns)
unfolding join_refs no_refs refs_1 cons_refs up
cite_join no_row m c = c
cite_join (one_row {x = x}) m c = cite_on x (omega arith) c

-- one, then the few, then others
pub cite_and : {k l : Refs} {ms ns : List ℕ} (x : ℕ) → Few k ms → length ns < 9 → Cites l ns → Cites (cons_refs x (join_refs k l)) (x ∷ ms ++ ns)
cite_and x no_row m c = cite_on x (omega arith) (cite_join no_row m c)
cite_and x one_row m c = cite_on x (omega arith) (cite_join one_row m c)

pub cite_few : {k : Refs} {ms : List ℕ} (x : ℕ) → Few k ms → Cites (cons_refs x k) (x ∷ ms)
cite_few x no_row = cite_on x (omega arith) cite_0
cite_few x one_row = cite_on x (omega arith) cite_1

-- rows: the same number
abbrev pub Same : ℕ → ℕ → List Thing → Type 0
Same x y xs = x ≡ y

module _ {o : Before} {xs : List Thing} {k n a b c d e : ℕ} {j : Judgment} (spoken : Spoken xs k n a b c d e j) where
  rows_searched : (w : Machine) (s : State) → Extends xs s.cells → Holds o w s → find_row w.rows w.state.rows k a b c d e ≡ found_of (row_of j s.rows)
  rows_searched w s i h = rw (h.counts, found_row h.rows_index k a b c d e) (rows_found j (same_row w.rows k a b c d e) s.rows (λ n y m. rw h.words.rows_end (row_test (drop (length s.rows * 24) o.rows) (j_lift i spoken) h.words.rows_are m)))

  known_agrees : (m : W ℕ) (g : M ℕ) (w : Machine) (s : State) → Extends xs s.cells → Holds o w s → Agree o xs Same (m w) (g s) → Agree o xs Same (known_row k a b c d e m w) ((from row_of j s.rows get pure or g) s)
  unfolding known_row known_or from◌get◌or◌ give pure
  known_agrees m g w s i h r = rw (rows_searched w s i h) (go (row_of j s.rows))
    where
      go : (t : Option ℕ) → Agree o xs Same (known_or (found_of t) m w) ((from t get pure or g) s)
      go (some n) = both_done i h refl
      go none = r

  -- a known judgment answers its row
  pub knowing : {m : W ℕ} {g : M ℕ} → Matches o xs m g Same → Matches o xs (known_row k a b c d e m) (looking λ s. from row_of j s.rows get pure or g) Same
  unfolding looking
  knowing {m} {g} r = record { holds = λ w s i h. known_agrees m g w s i h (r.holds w s i h) }

  pub emitting : {l : Refs} {refs : List ℕ} (rule : ℕ) → Cites l refs → Matches o xs (emit rule l k n a b c d e) (D.emit rule refs j) Same
  unfolding emit D.emit looking new_row choose◌then◌else◌ push refuse with_row
  emitting {refs = refs} rule q = rw q.are (record { holds = λ w s i h. known_agrees (new_row (row_block rule (refs_of refs) k n a b c d e)) (choose dec_lt (length s.rows) s.row_room then push (record { rule = rule; refs = refs; judgment = j }) else refuse Refusal.rows) w s i h (new w s i h (dec_lt (length s.rows) s.row_room) (ltb w.state.rows w.state.rowroom) (rw h.counts (less (length s.rows) s.row_room))) })
    where
      new : (w : Machine) (s : State) → Extends xs s.cells → Holds o w s → (f : Dec (length s.rows < s.row_room)) (t : Bool) → t ≡ yes? f → Agree o xs Same (ifb t (is w.state.rows (add_row (row_block rule (refs_of refs) k n a b c d e) w)) (not Refusal.rows w)) ((choose f then push (record { rule = rule; refs = refs; judgment = j }) else refuse Refusal.rows) s)
      new w s i h (yes l) true g = both_done {a = length s.rows} {b = w.state.rows} {s = with_row (record { rule = rule; refs = refs; judgment = j }) s} i (more_rows h (line (j_lift i spoken)) refl (no_row_children rule (refs_of refs) k n a b c d e) refl l) (rw h.counts)
      new w s i h (yes l) false g = let z : ◌≡◌ {A = ℕ} 0 1 = cc in absurd (omega arith)
      new w s i h (no l) true g = let z : ◌≡◌ {A = ℕ} 0 1 = cc in absurd (omega arith)
      new w s i h (no l) false g = both_refused i h

-- a pair: what rel relates, and the same
pub record Pairs {P A E : Type 0} (rel : P → A → List Thing → Type 0) (p : P × E) (r : A × E) (xs : List Thing) : Type 0 where
  pub left : rel p.0 r.0 xs
  pub right : p.1 ≡ r.1

-- a cell and a row
abbrev pub Returns : {A : Type 0} → (A → Thing) → ℕ × ℕ → A × ℕ → List Thing → Type 0
Returns of = Pairs λ n a. Cell n (of a)

-- an entry: its arguments have cells
pub entering : {A B : Type 0} {o : Before} {xs zs : List Thing} {Q : B → A → List Thing → Type 0} {m : W B} {d : M A} (left : ℕ) → Present xs zs → Matches o xs m d Q → Matches o xs (enter left m) (D.enter left zs d) Q
unfolding enter D.enter note D.◌>>=◌ go_on with_deepest
entering left p k = record { holds = λ w s e h. (passing p k).holds (machine w.rows w.cells (deeper_of w.state left)) (with_deepest (max s.deepest (s.limit - left)) s) e (deeper left h) }

-- memory

module _ {o : Before} {xs : List Thing} {g t : ℕ} {G : Context} {t' : Term} (d : ℕ) (hg : Cell g (context G) xs) (ht : Cell t (term t') xs) where
  memory_searched : (w : Machine) (s : State) → Extends xs s.cells → Holds o w s → find_node w.cells w.state.cells 40 d g t ≡ first (is_thing (inference (key d G t'))) s.cells
  memory_searched w s e h = rw (h.counts, found_node h.cells_index 40 d g t) (first_found (is_thing (inference (key d G t'))) (same_node w.cells 40 d g t) s.cells (λ n y m. rw h.words.cells_end (memory_test (drop (length s.cells * 8) o.cells) d (cell_lift e hg) (cell_lift e ht) h.words.cells_are m)))

  pub recalling : {m : W (ℕ × ℕ)} {e : M (Term × ℕ)} → Matches o xs m e (Returns term) → Matches o xs (recall_or d g t m) (looking λ s. from recall (key d G t') s.memory get pure or e) (Returns term)
  unfolding recall_or recall_of recalled_or looking from◌get◌or◌ pure give
  recalling {m} {e = f} k = record { holds = λ w s e h. rw (memory_searched w s e h) (go w s e h _ _ (h.words.memory (key d G t'))) }
    where
      go : (w : Machine) (s : State) → Extends xs s.cells → Holds o w s → (a : Found) (b : Option (Term × ℕ)) → Kept s.cells w.cells a b → Agree o xs (Returns term) (recalled_or (on_found a (λ i. Some (get_or w.cells (i * 8 + 4) 0, get_or w.cells (i * 8 + 5) 0)) None) m w) ((from b get pure or f) s)
      go w s e h a b no_memory = k.holds w s e h
      go w s e h a b (a_memory_at {n = n} {ty = ty} {row = row} c q) = both_done {a = (ty, row)} {b = (get_or w.cells (n * 8 + 4) 0, get_or w.cells (n * 8 + 5) 0)} e h (record { left = c; right = q })

  -- what is remembered has one cell for its key; a value that was there is replaced
  pub remembering : {y : ℕ} {y' : Term} (row : ℕ) → Cell y (term y') xs → Matches o xs (remember d g t y row) (D.remember (key d G t') y' row) (λ _ _ _. Unit {0})
  unfolding remember remembered_or new_memory D.remember D.◌>>=◌ go_on store fresh with_cell with_memory
  remembering {y} {y'} row hy = record { holds = λ w s e h. rw (memory_searched w s e h) (go w s e h (first (is_thing (inference (key d G t'))) s.cells) refl) }
    where
      new : (w : Machine) (s : State) → Extends xs s.cells → Holds o w s → first (is_thing (inference (key d G t'))) s.cells ≡ None → (f : Dec (length s.cells < s.cell_room)) (b : Bool) → b ≡ yes? f → Agree {A = Unit {0}} o xs (λ _ _ _. Unit {0}) (ifb {A = Result (Unit {0})} b (is tt (add_cell (40 ∷ d ∷ g ∷ t ∷ y ∷ row ∷ 0 ∷ 0 ∷ []) w)) (not Refusal.cells w)) (go_on (fresh (inference (key d G t')) s f) (λ _. store (record { of = key d G t'; type = y'; row = row })))
      new w s e h n (yes l) true q = both_done {b = tt} {s = with_memory (record { of = key d G t'; type = y'; row = row }) (with_cell (inference (key d G t')) s)} (more e) (added_holds d row h n (cell_lift e hg) (cell_lift e ht) (cell_lift e hy) l) tt
      new w s e h n (yes l) false q = let z : ◌≡◌ {A = ℕ} 0 1 = cc in absurd (omega arith)
      new w s e h n (no l) true q = let z : ◌≡◌ {A = ℕ} 0 1 = cc in absurd (omega arith)
      new w s e h n (no l) false q = both_refused e h

      go : (w : Machine) (s : State) → Extends xs s.cells → Holds o w s → (a : Found) → first (is_thing (inference (key d G t'))) s.cells ≡ a → Agree {A = Unit {0}} o xs (λ _ _ _. Unit {0}) (remembered_or a y row (new_memory (40 ∷ d ∷ g ∷ t ∷ y ∷ row ∷ 0 ∷ 0 ∷ [])) w) (go_on (count (inference (key d G t')) s) (λ _. store (record { of = key d G t'; type = y'; row = row })))
      go w s e h None f = rw (count_new (inference (key d G t')) s f) (new w s e h f (dec_lt (length s.cells) s.cell_room) (ltb w.state.cells w.state.cellroom) (rw h.counts (less (length s.cells) s.cell_room)))
      go w s e h (Some n) f = rw (count_known s (inference (key d G t')) (held (record { found = f }))) (both_done {b = tt} {w = replace n y row w} {s = with_memory (record { of = key d G t'; type = y'; row = row }) s} e (replaced_holds row h (record { found = f }) (cell_lift e hy)) tt)

-- conversions
ended_agrees : {A B : Type 0} {o : Before} {xs : List Thing} {Q : B → A → List Thing → Type 0} {r : Result B} {d : Outcome A} → Agree o xs Q r d → Agree o xs Q (C.ended r) (D.ended d)
unfolding C.ended D.ended D.with_conversions
ended_agrees (both_done {w = w} {s = s} e h q) = both_done {w = with_conversions (w.state.conversions - 1) w} {s = D.with_conversions (s.conversions - 1) s} e (converted (rw h.counts) h) q
ended_agrees (both_refused {w = w} {s = s} e h) = both_refused {w = with_conversions (w.state.conversions - 1) w} {s = D.with_conversions (s.conversions - 1) s} e (converted (rw h.counts) h)
ended_agrees (by_guard {s = s}) = by_guard {s = D.with_conversions (s.conversions - 1) s}

pub converting : {A B : Type 0} {o : Before} {xs : List Thing} {Q : B → A → List Thing → Type 0} {m : W B} {d : M A} → Matches o xs m d Q → Matches o xs (C.converting m) (D.converting d) Q
unfolding C.converting D.converting D.converted looking choose◌then◌else◌ refuse D.with_conversions
converting {o = o} {xs = xs} {Q = Q} {m = m} {d = d} k = record { holds = λ w s e h. go w s e h (dec_lt s.conversions 32) (ltb w.state.conversions 32) (rw h.counts (less s.conversions 32)) }
  where
    go : (w : Machine) (s : State) → Extends xs s.cells → Holds o w s → (f : Dec (s.conversions < 32)) (b : Bool) → b ≡ yes? f → Agree o xs Q (ifb b (C.ended (m (with_conversions (w.state.conversions + 1) w))) (not Refusal.conversions w)) ((choose f then D.converted d else refuse Refusal.conversions) s)
    go w s e h (yes l) true g = ended_agrees (k.holds (with_conversions (w.state.conversions + 1) w) (D.with_conversions (s.conversions + 1) s) e (converted (rw h.counts) h))
    go w s e h (yes l) false g = let z : ◌≡◌ {A = ℕ} 0 1 = cc in absurd (omega arith)
    go w s e h (no l) true g = let z : ◌≡◌ {A = ℕ} 0 1 = cc in absurd (omega arith)
    go w s e h (no l) false g = both_refused e h

-- arguments that have no cell yet: they are made once the function is entered

-- what a count leaves
pub record Counted (zs : List Thing) (s t : State) : Type 0 where
  pub extends : Extends s.cells t.cells
  pub known : Known t.cells zs
  pub deepest : t.deepest ≡ s.deepest
  pub limit : t.limit ≡ s.limit

count_leaves : (x : Thing) (s t : State) → count x s ≡ done tt t → Counted (x ∷ []) s t
unfolding fresh with_cell
count_leaves x s t e = go (first (is_thing x) s.cells) refl
  where
    new : first (is_thing x) s.cells ≡ None → (d : Dec (length s.cells < s.cell_room)) → fresh x s d ≡ done tt t → Counted (x ∷ []) s t
    new f (yes l) g =
        let q : with_cell x s ≡ t = cc in
        subst (λ (r : State). Counted (x ∷ []) s r) q (record { extends = more same; known = known (held (comes x s.cells f)) none_left; deepest = refl; limit = refl })
    new f (no l) g = let z : ◌≡◌ {A = ℕ} 0 1 = cc in absurd (omega arith)

    go : (o : Found) → first (is_thing x) s.cells ≡ o → Counted (x ∷ []) s t
    go (Some n) f =
        let h : Held x s.cells = record { number = n; cell = record { found = f } } in
        let c = count_known s x h in
        let q : s ≡ t = cc in
        subst (λ (r : State). Counted (x ∷ []) s r) q (record { extends = same; known = known h none_left; deepest = refl; limit = refl })
    go None f = new f (dec_lt (length s.cells) s.cell_room) (sym (count_new x s f) ∙ e)

counts_leave : (zs : List Thing) (s t : State) → count_all zs s ≡ done tt t → Counted zs s t
unfolding count_all D.◌>>=◌ go_on pure
counts_leave [] s t e = let q : s ≡ t = cc in subst (λ (r : State). Counted [] s r) q (record { extends = same; known = none_left; deepest = refl; limit = refl })
counts_leave (x ∷ xs) s t e = go (λ r. counts_leave xs r t) (count x s) refl e
  where
    go : ((r : State) → count_all xs r ≡ done tt t → Counted xs r t) → (o : Outcome (Unit {0})) → count x s ≡ o → go_on o (λ _. count_all xs) ≡ done tt t → Counted (x ∷ xs) s t
    go ih (done u r) f g =
        let a = count_leaves x s r f in
        let b = ih r g in
        record { extends = extends_trans a.extends b.extends; known = known (held_lift b.extends (known_head a.known)) b.known; deepest = b.deepest ∙ a.deepest; limit = b.limit ∙ a.limit }
    go ih (refused n r) f g = let z : ◌≡◌ {A = ℕ} 0 1 = cc in absurd (omega arith)

-- a function that is entered may be readied and its arguments counted before
pub record Absorbs {A : Type 0} (r : M (Unit {0})) (zs : List Thing) (d : M A) : Type 0 where
  pub first_counted : (s : State) → d s ≡ (D.◌>>=◌ r (λ _. D.◌>>=◌ (count_all zs) (λ _. d))) s

pub absorbs_entered : {A : Type 0} (n : ℕ) (zs : List Thing) (d : M A) → Absorbs (note n) zs (D.enter n zs d)
unfolding D.enter note D.◌>>=◌ go_on with_deepest
absorbs_entered n zs d = record { first_counted = λ s. go s (count_all zs (with_deepest (max s.deepest (s.limit - n)) s)) refl }
  where
    again : (s t : State) → Counted zs (with_deepest (max s.deepest (s.limit - n)) s) t → d t ≡ D.enter n zs d t
    again s t c =
        let a : t.deepest ≡ max s.deepest (s.limit - n) = c.deepest in
        let b : t.limit ≡ s.limit = c.limit in
        let m : max t.deepest (t.limit - n) ≡ t.deepest = omega arith in
        rw (m, counted t zs c.known)

    go : (s : State) (o : Outcome (Unit {0})) → count_all zs (with_deepest (max s.deepest (s.limit - n)) s) ≡ o → go_on o (λ _. d) ≡ go_on o (λ _. D.enter n zs d)
    go s (done u t) f = again s t (counts_leave zs _ t f)
    go s (refused m t) f = refl

pub absorbs_none : {A : Type 0} (zs : List Thing) (n : ℕ) → Absorbs {A = A} (refuse n) zs (refuse n)
unfolding refuse D.◌>>=◌ go_on
absorbs_none zs n = record { first_counted = λ s. refl }

-- counted before, or after, what is made
pub preceding : {o : Before} {xs zs : List Thing} {m : W ℕ} {Q : ℕ → Unit {0} → List Thing → Type 0} (bs : List Thing) → Present xs zs → Matches o xs m (count_all bs) Q → Matches o xs m (count_all (zs ++ bs)) Q
preceding bs p k = record { holds = λ w s e h. rw (count_past s bs (present_known p e h.words.cells_are)) (k.holds w s e h) }

count_append : (zs bs : List Thing) (s : State) → count_all (zs ++ bs) s ≡ go_on (count_all zs s) (λ _. count_all bs)
unfolding count_all D.◌>>=◌ go_on pure
count_append [] bs s = refl
count_append (x ∷ zs) bs s = go (count_append zs bs) (count x s)
  where
    go : ((t : State) → count_all (zs ++ bs) t ≡ go_on (count_all zs t) (λ _. count_all bs)) → (o : Outcome (Unit {0})) → go_on o (λ _. count_all (zs ++ bs)) ≡ go_on (go_on o (λ _. count_all zs)) (λ _. count_all bs)
    go ih (done u t) = ih t
    go ih (refused n t) = refl

pub following : {o : Before} {xs bs : List Thing} {m : W ℕ} {Q : ℕ → Unit {0} → List Thing → Type 0} (zs : List Thing) → Matches o xs m (count_all zs) Q → Present xs bs → Matches o xs m (count_all (zs ++ bs)) Q
unfolding go_on
following {o = o} {xs = xs} {bs = bs} {Q = Q} zs k p = record { holds = λ w s e h. rw (count_append zs bs s) (go (k.holds w s e h)) }
  where
    go : {r : Result ℕ} {d : Outcome (Unit {0})} → Agree o xs Q r d → Agree o xs Q r (go_on d (λ _. count_all bs))
    go (both_done {s = s} e h q) = rw (counted s bs (present_known p e h.words.cells_are)) (both_done e h q)
    go (both_refused e h) = both_refused e h
    go by_guard = by_guard

-- the entry alone
pub noting : {o : Before} {xs : List Thing} (n : ℕ) → Matches o xs (C.note n) (note n) (λ _ _ _. Unit {0})
unfolding C.note note with_deepest
noting n = record { holds = λ w s e h. both_done {s = with_deepest (max s.deepest (s.limit - n)) s} e (deeper n h) tt }

-- a step in two parts, then a third
pub regrouped : {A B E F : Type 0} {o : Before} {xs : List Thing} {Q : F → A → List Thing → Type 0} {d : M A} (m : W B) (f : B → W E) (g : E → W F) → Matches o xs (C.◌>>=◌ m λ b. C.◌>>=◌ (f b) g) d Q → Matches o xs (C.◌>>=◌ (C.◌>>=◌ m f) g) d Q
unfolding C.◌>>=◌ next
regrouped {B = B} m f g k = record { holds = λ w s e h. rw (← assoc (m w)) (k.holds w s e h) }
  where
    assoc : (r : Result B) → next r (λ b w. next (f b w) g) ≡ next (next r f) g
    assoc (is b w) = refl
    assoc (not n w) = refl

-- what is given goes on
pub given : {A B E : Type 0} {o : Before} {xs : List Thing} {Q : E → A → List Thing → Type 0} {d : M A} (b : B) (f : B → W E) → Matches o xs (f b) d Q → Matches o xs (C.◌>>=◌ (give b) f) d Q
unfolding C.◌>>=◌ next give
given b f k = record { holds = λ w s e h. k.holds w s e h }

-- a call of a function with an argument that is made for it
pub calling : {A B : Type 0} {o : Before} {xs zs : List Thing} {Q : B → A → List Thing → Type 0} {P : ℕ → Unit {0} → List Thing → Type 0} {r : M (Unit {0})} {make : W ℕ} {d : M A} (c : Callees) (f : ℕ → W B) → Absorbs r zs d → Matches o xs c.ready r (λ _ _ _. Unit {0}) → ((ys : List Thing) → Extends xs ys → Matches o ys make (count_all zs) P) → ((n : ℕ) (ys : List Thing) → Extends xs ys → P n tt ys → Matches o ys (f n) d Q) → Matches o xs (C.◌>>=◌ (prepared c make) f) d Q
unfolding prepared
calling {make = make} c f a m k n = regrouped _ (λ _. make) f (record { holds = λ w s e h. rw (a.first_counted s) ((bind m (λ _ _ ys e₁ _. bind (k ys e₁) (λ i _ zs e₂ q. n i zs (extends_trans e₁ e₂) q))).holds w s e h) })

-- what is counted in two parts
pub split_last : {B : Type 0} {o : Before} {xs : List Thing} {Q : B → Unit {0} → List Thing → Type 0} {m : W B} (zs bs : List Thing) → Matches o xs m (D.◌>>=◌ (count_all zs) (λ _. count_all bs)) Q → Matches o xs m (count_all (zs ++ bs)) Q
unfolding D.◌>>=◌
split_last zs bs k = record { holds = λ w s e h. rw (count_append zs bs s) (k.holds w s e h) }

pub split : {A B : Type 0} {o : Before} {xs : List Thing} {Q : B → A → List Thing → Type 0} {m : W B} (zs bs : List Thing) (d : M A) → Matches o xs m (D.◌>>=◌ (count_all zs) (λ _. D.◌>>=◌ (count_all bs) (λ _. d))) Q → Matches o xs m (D.◌>>=◌ (count_all (zs ++ bs)) (λ _. d)) Q
unfolding D.◌>>=◌ go_on
split {o = o} {xs = xs} {Q = Q} {m = m} zs bs d k = record { holds = λ w s e h. rw (count_append zs bs s, ← assoc (count_all zs s)) (k.holds w s e h) }
  where
    assoc : (t : Outcome (Unit {0})) → go_on t (λ _ s. go_on (count_all bs s) (λ _. d)) ≡ go_on (go_on t (λ _. count_all bs)) (λ _. d)
    assoc (done u s) = refl
    assoc (refused n s) = refl

-- a call whose arguments are all counted first
pub starting : {A B : Type 0} {o : Before} {xs zs : List Thing} {Q : B → A → List Thing → Type 0} {mr : W (Unit {0})} {r : M (Unit {0})} {m : W B} {d : M A} → Absorbs r zs d → Matches o xs mr r (λ _ _ _. Unit {0}) → ((ys : List Thing) → Extends xs ys → Matches o ys m (D.◌>>=◌ (count_all zs) (λ _. d)) Q) → Matches o xs (C.◌>>=◌ mr (λ _. m)) d Q
starting a m k = record { holds = λ w s e h. rw (a.first_counted s) ((bind m (λ _ _ ys e₁ _. k ys e₁)).holds w s e h) }
