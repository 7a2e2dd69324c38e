-- A list of calls over words: each call's four answer words say what the walk answers, and the words that are left stand for
-- the walk's state: `runs`.
use Rattle.std.specs.Prelude.{ℕ, suc, ◌+◌, ◌-◌, ◌≤◌, ◌<◌, ◌≡◌, refl, List, [], ◌∷◌, Bool, true, false, length, ltb}
use Rattle.std.proofs.Common.{sym, ◌∙◌, subst, arith, add-zero, ltb-true, ltb-false}
use Rattle.std.proofs.Math.Path.{ap}
use Rattle.ast.specs.Cells.{quote_of}
use Rattle.producer.specs.declared.State.{State as Counts}
use Rattle.producer.specs.Machine.{Machine, Result}
use Rattle.producer.specs.Callees.{Callees}
use Rattle.producer.specs.Calls.{callees}
use Rattle.walk.specs.Syntax.{Term, Context, Nil}
use Rattle.walk.specs.State.{State, Thing, term, Outcome, with_deepest}
use Rattle.walk.specs.Walk.{callees as walk_callees}
use Rattle.walk.specs.Reader.{Code, c_context, c_universe, c_infer, c_check, c_normalise, c_equal, c_many, c_headwise, lists_types, Call}
use Rattle.walk.specs.Limits.{Sized, fits, scope_over, size_over, index_over, size_call}
use Rattle.walk.specs.Run.{a_term, Answer, answered, scope_of, nth, walk, play_sized, play_counted, play, play_all, added_by}
use Rattle.walk.specs.Run as R
use Rattle.order.specs.Numbers.{context_top}
use Rattle.order.specs.Guarded.{guarded}
use Rattle.order.specs.Made.{played_more}
use Rattle.order.specs.Bound.{Fit}
use Rattle.order.specs.Sent.{Lows, nth_low, scope_low, let_in}
use Rattle.order.proofs.Never.{start_fits}
use Rattle.link.specs.Lists.{Extends, same, extends_trans}
use Rattle.link.specs.Things.{Cell, low_lift}
use Rattle.link.specs.Store.{quote_is}
use Rattle.link.specs.Holds.{Before, Holds, read_cell}
use Rattle.link.specs.Linked.{Linked}
use Rattle.link.specs.Link.{ready, link}
use Rattle.link.specs.Asked.{Said, told, ask, turned, afresh, ask_sized, ask_counted, ask_call, with_marks, ask_from, ask_all, start}
use Rattle.link.specs.Ends.{Ends, in_value, in_refusal}
use Rattle.link.proofs.Ends.{starts, contexted, levelled, inferred, checked, normalised, head_normalised, equalled}
use Rattle.link.specs.Runs.{Results, no_word, level_word, term_word, Says, Leaves, Fits, none_say, says_on, numbered, Marks, EndsRun}
use Rattle.link.proofs.Marks.{marks}

results_lift : {xs ys : List Thing} {n : ℕ} {r : R.Result} → Extends xs ys → Results xs n r → Results ys n r
results_lift e no_word = no_word
results_lift e (level_word q) = level_word q
results_lift e (term_word l) = term_word (low_lift e l)

says_lift : {xs ys : List Thing} {a : Said} {b : Answer} → Extends xs ys → Says xs a b → Says ys a b
says_lift e s = record { number = s.number; row = s.row; deepest = s.deepest; result = results_lift e s.result }

module _ {A C : Type 0} {o : Before} {xs : List Thing} {Q : C → A → List Thing → Type 0} (row : C → ℕ) (result : C → Machine → ℕ) (row' : A → ℕ) (result' : A → R.Result) (f : (c : C) (a : A) (w : Machine) (s : State) → Holds o w s → Q c a s.cells → Fits row result row' result' c a w s.cells) where
  leaves : {r : Result C} {d : Outcome A} → Ends o xs Q r d → Leaves o xs (told row result r) (answered row' result' d)
  unfolding told answered
  leaves (in_value {a = a} {b = c} {w = w} {s = s} e h g q) = let p = f c a w s h q in record { extends = e; holds = h; fit = g; says = record { number = refl; row = p.same_row; deepest = ap (λ (n : Counts). n.deepest) h.counts; result = p.same_result } }
  leaves (in_refusal e h g) = record { extends = e; holds = h; fit = g; says = record { number = refl; row = refl; deepest = ap (λ (n : Counts). n.deepest) h.counts; result = no_word } }

-- the lowest cell with the quote of a term stands in its cell
low_word : {o : Before} {w : Machine} {s : State} {n : ℕ} {t : Term} → Holds o w s → Cell n (term t) s.cells → Results s.cells (quote_of w.cells n) (a_term t)
low_word {w = w} {n = n} {t = t} h c = let r = read_cell {x = term t} tt c same h in term_word {n = quote_of w.cells n} {t = t} (rw (quote_is r) r.lowest)

-- a call that is not let in
turned_leaves : {o : Before} {w : Machine} {s : State} (n : ℕ) → Fit s → Holds o w s → Leaves o s.cells (turned n, w) (R.refusal n 0, s)
turned_leaves n f h = record { extends = same; holds = h; fit = f; says = record { number = refl; row = refl; deepest = refl; result = no_word } }

-- over any functions that match the guarded walk's
pub asked : {o : Before} {w : Machine} {s : State} {c : Callees} (n : ℕ) → Linked o (ready n) c (guarded n) → (code : Code) (d : ℕ) (g : Context) (ts : List Term) → d + n ≤ 4200 → context_top g ≤ 32 → Lows ts → Fit s → Holds o w s → Leaves o s.cells (ask c code d g ts w) (walk (walk_callees n) code d g ts s)
unfolding ask walk
asked n L c_context d g ts l i k f h = leaves _ _ _ _ (λ c a w s h q. record { same_row = q; same_result = no_word }) (contexted n L d g l i f h)
asked n L c_universe d g ts l i k f h = leaves _ _ _ _ (λ c a w s h q. record { same_row = q.right; same_result = level_word q.left }) (levelled n L d g (nth ts 0) l i (nth_low ts 0 k) f h)
asked n L c_infer d g ts l i k f h = leaves _ _ _ _ (λ c a w s h q. record { same_row = q.right; same_result = low_word h q.left }) (inferred n L d g (nth ts 0) l i (nth_low ts 0 k) f h)
asked n L c_check d g ts l i k f h = leaves _ _ _ _ (λ c a w s h q. record { same_row = q; same_result = no_word }) (checked n L d g (nth ts 0) (nth ts 1) l i (nth_low ts 0 k) (nth_low ts 1 k) f h)
asked n L c_normalise d g ts l i k f h = leaves _ _ _ _ (λ c a w s h q. record { same_row = q.right; same_result = low_word h q.left }) (normalised n L d g (nth ts 0) (nth ts 1) l i (nth_low ts 0 k) (nth_low ts 1 k) f h)
asked n L c_equal d g ts l i k f h = leaves _ _ _ _ (λ c a w s h q. record { same_row = q; same_result = no_word }) (equalled n L d g (nth ts 0) (nth ts 1) (nth ts 2) l i (nth_low ts 0 k) (nth_low ts 1 k) (nth_low ts 2 k) f h)
asked n L c_many d g ts l i k f h = turned_leaves _ f h
asked n L c_headwise d g ts l i k f h = leaves _ _ _ _ (λ c a w s h q. record { same_row = q.right; same_result = low_word h q.left }) (head_normalised n L d g (nth ts 0) (nth ts 1) l i (nth_low ts 0 k) (nth_low ts 1 k) f h)

-- deepest starts from 0
pub afresh_holds : {o : Before} {w : Machine} {s : State} → Holds o w s → Holds o (afresh w) (with_deepest 0 s)
unfolding afresh with_deepest
afresh_holds h = record { words = h.words; counts = rw h.counts; cells_fit = h.cells_fit; rows_fit = h.rows_fit; rows_index = h.rows_index; cells_index = h.cells_index; made = h.made; to_come = h.to_come }

asked_sized : {o : Before} {w : Machine} {s : State} (call : Call) → Fit s → Holds o w s → Leaves o s.cells (ask_sized (size_call call) call w) (play_sized (size_call call) call s)
unfolding play_sized ask_sized with_deepest
asked_sized {o} {w} {s} call f h = go (size_call call) refl
  where
    go : (z : Sized) → size_call call ≡ z → Leaves o s.cells (ask_sized z call w) (play_sized z call s)
    go scope_over e = turned_leaves _ f h
    go size_over e = turned_leaves _ f h
    go index_over e = turned_leaves _ f h
    go (fits n) e =
        let k = let_in call n e in
        let d = k.dims in
        let l = f.low in
        subst (λ (m : ℕ). Leaves o s.cells (ask (callees m) call.code call.dims (scope_of Nil call.types) call.terms (afresh w)) (walk (walk_callees s.limit) call.code call.dims (scope_of Nil call.types) call.terms (with_deepest 0 s))) (ap (λ (n : Counts). n.limit) (sym h.counts)) (asked {s = with_deepest 0 s} s.limit (link s.limit) call.code call.dims (scope_of Nil call.types) call.terms (omega arith) (scope_low Nil call.types (omega arith) k.types) k.terms f (afresh_holds h))

pub asked_call : {o : Before} {w : Machine} {s : State} (call : Call) → Fit s → Holds o w s → Leaves o s.cells (ask_call call w) (play call s)
unfolding play play_counted ask_counted
asked_call {o} {w} {s} call f h = go (lists_types call.code)
  where
    go : (b : Bool) → Leaves o s.cells (ask_counted b call w) (play_counted b call s)
    go true = turned_leaves _ f h
    go false = asked_sized call f h

-- the rows of a call get its number
pub marked_call : {o : Before} {w : Machine} {s : State} (n : ℕ) (call : Call) → Holds o w s → Holds o (ask_call call w).1 (play call s).1 → Marks o (ask_call call w).1 (play call s).1 ((ask_call call w).1.state.rows - w.state.rows) w.state.rows n
marked_call {w = w} {s = s} n call h k =
    let e : w.state.rows ≡ length s.rows = ap (λ (c : Counts). c.rows) h.counts in
    let f : (ask_call call w).1.state.rows ≡ length (play call s).1.rows = ap (λ (c : Counts). c.rows) k.counts in
    let l = played_more call s in
    marks {w = (ask_call call w).1} {s = (play call s).1} _ _ n (omega arith) k

pub asked_from : {o : Before} {w : Machine} {s : State} (n : ℕ) (calls : List Call) → Fit s → Holds o w s → EndsRun o s n calls (ask_from n calls w)
unfolding ask_from play_all added_by
asked_from {o} n [] f h = record { made = o.made; extends = same; holds = h; fit = f; says = none_say; before = λ k l. refl; added = λ k l m. absurd (omega arith) }
asked_from {o} {w} {s} n (call ∷ calls) f h =
    let a = asked_call call f h in
    let c = marked_call n call h a.holds in
    let b = asked_from {o = numbered c.made o} {w = with_marks n w.state.rows (ask_call call w).1} {s = (play call s).1} (suc n) calls a.fit c.holds in
    let e : w.state.rows ≡ length s.rows = ap (λ (c : Counts). c.rows) h.counts in
    let g : (ask_call call w).1.state.rows ≡ length (play call s).1.rows = ap (λ (c : Counts). c.rows) a.holds.counts in
    let l = played_more call s in
    record {
      made = b.made;
      extends = extends_trans a.extends b.extends;
      holds = b.holds;
      fit = b.fit;
      says = says_on (says_lift b.extends a.says) b.says;
      before = λ k m. b.before k (omega arith) ∙ c.below k (omega arith);
      added = λ k m i. go b.made k (ltb k (length (play call s).1.rows)) refl (λ j. b.before k j ∙ c.inside k (omega arith) (omega arith)) (λ j. b.added k j i);
    }
  where
    go : (made : ℕ → ℕ) (k : ℕ) (t : Bool) → ltb k (length (play call s).1.rows) ≡ t → (k < length (play call s).1.rows → made k ≡ n) → (length (play call s).1.rows ≤ k → made k ≡ suc n + added_by k calls (play call s).1) → made k ≡ n + (elim t as (λ _. ℕ) [ true ↦ 0 | false ↦ suc (added_by k calls (play call s).1) ])
    go made k true q x y = rw add-zero (x (ltb-true k (length (play call s).1.rows) q))
    go made k false q x y = y (ltb-false k (length (play call s).1.rows) q) ∙ omega arith

-- from the start, over slices that held anything
pub runs : (limit : ℕ) (rows cells : List ℕ) (calls : List Call) → limit ≤ 4096 → EndsRun (record { rows = rows; cells = cells; made = λ _. 0 }) (R.start limit (length rows) (length cells)) 0 calls (ask_all calls (start limit rows cells))
runs limit rows cells calls l = asked_from 0 calls (start_fits limit (length rows) (length cells) l) (starts limit rows cells)
