-- A call over words ends as the walk's does, from any state that the calls before it left.
use Rattle.std.specs.Prelude.{ℕ, ◌+◌, ◌*◌, ◌≤◌, ◌≡◌, refl, List, [], length, get_or}
use Rattle.std.proofs.Common.{arith}
use Rattle.ast.proofs.Indexed.{index_none}
use Rattle.producer.specs.Machine.{Machine, Result, W}
use Rattle.producer.specs.Callees.{Callees}
use Rattle.walk.specs.Syntax.{Term, Context}
use Rattle.walk.specs.State.{recall, State, Thing, term, Outcome, M}
use Rattle.walk.specs.Walk.{callees as walk_callees}
use Rattle.walk.specs.Run.{start as walk_start}
use Rattle.order.specs.Numbers.{context_top, term_top}
use Rattle.order.specs.Guarded.{guarded}
use Rattle.order.specs.Bound.{Fit, After, fine, stopped, Within}
use Rattle.order.proofs.Bound.{bounds}
use Rattle.link.specs.Lists.{first, same, no_block, blocks_length, stays}
use Rattle.link.specs.Things.{none_distinct}
use Rattle.link.specs.Store.{no_memory, Remembers}
use Rattle.link.specs.Holds.{Before, Holds}
use Rattle.link.specs.Match.{Agree, both_done, both_refused, by_guard, Matches, Same, Pairs, Returns}
use Rattle.link.specs.Linked.{Linked, Alike}
use Rattle.link.specs.Link.{ready}
use Rattle.link.specs.Asked.{start, call_ctx, call_universe, call_infer, call_check, call_normalize, call_head_normalize, call_equal}
use Rattle.link.proofs.Calls.{call_ctx_matches, call_universe_matches, call_infer_matches, call_check_matches, call_normalize_matches, call_head_normalize_matches, call_equal_matches}
use Rattle.link.specs.Ends.{Ends, in_value, in_refusal}

nothing_yet : {ws : List ℕ} → Remembers [] [] ws
unfolding first recall
nothing_yet k = no_memory

pub starts : (limit : ℕ) (rows cells : List ℕ) → Holds (record { rows = rows; cells = cells; made = λ _. 0 }) (start limit rows cells) (walk_start limit (length rows) (length cells))
unfolding start walk_start
starts limit rows cells = record {
  words = record { cells_used = []; rows_used = []; cells_are = no_block; rows_are = no_block; memory = nothing_yet; distinct = none_distinct; cells_end = refl; rows_end = refl };
  counts = refl;
  cells_fit = omega arith;
  rows_fit = omega arith;
  rows_index = index_none;
  cells_index = index_none;
  made = λ n l. absurd (omega arith);
  to_come = λ n l. refl;
}

-- the words past the rows stay
pub past : {o : Before} {w : Machine} {s : State} → Holds o w s → (i : ℕ) → length s.rows * 24 ≤ i → get_or w.rows i 0 ≡ get_or o.rows i 0
past {o} {w} {s} h i l = let e = blocks_length h.words.rows_are in rw (h.words.rows_end, ← e) (stays h.words.rows_used o.rows i (omega arith))

pub past_cells : {o : Before} {w : Machine} {s : State} → Holds o w s → (i : ℕ) → length s.cells * 8 ≤ i → get_or w.cells i 0 ≡ get_or o.cells i 0
past_cells {o} {w} {s} h i l = let e = blocks_length h.words.cells_are in rw (h.words.cells_end, ← e) (stays h.words.cells_used o.cells i (omega arith))

not_by_guard : {A B : Type 0} {o : Before} {xs : List Thing} {Q : B → A → List Thing → Type 0} {b : ℕ} {P : A → ℕ → Type 0} {r : Result B} {d : Outcome A} → Agree o xs Q r d → After b P d → Ends o xs Q r d
not_by_guard (both_done e h q) (fine l f p) = in_value e h f q
not_by_guard (both_refused e h) (stopped z l f) = in_refusal e h f
not_by_guard by_guard (stopped z l f) = absurd (z refl)

-- the machine that matches the guarded walk matches the walk
pub ends : {A B : Type 0} {o : Before} {Q : B → A → List Thing → Type 0} {P : A → ℕ → Type 0} {w : Machine} {s : State} {m : W B} {g d : M A} → Matches o s.cells m g Q → Within (length s.rows) g d P → Fit s → Holds o w s → Ends o s.cells Q (m w) (d s)
ends {w = w} {s = s} k b f h = rw (b.same s (omega arith) f) (not_by_guard (k.holds w s same h) (b.holds s (omega arith) f))

-- a call, from any state that the calls before it left: n entries left, d dimensions, no number above 32; over any functions that match the
-- guarded walk's
module _ {o : Before} (n : ℕ) {c : Callees} (L : Linked o (ready n) c (guarded n)) where
  pub inferred : {w : Machine} {s : State} (d : ℕ) (g : Context) (t : Term) → d + n ≤ 4200 → context_top g ≤ 32 → term_top t ≤ 32 → Fit s → Holds o w s → Ends o s.cells (Returns term) (call_infer c d g t w) ((walk_callees n).infer d g t s)
  inferred d g t l i j f h = ends (call_infer_matches c (guarded n) L d g t) ((bounds n (omega arith)).infer d g t (omega arith)) f h

  pub checked : {w : Machine} {s : State} (d : ℕ) (g : Context) (t y : Term) → d + n ≤ 4200 → context_top g ≤ 32 → term_top t ≤ 32 → term_top y ≤ 32 → Fit s → Holds o w s → Ends o s.cells Same (call_check c d g t y w) ((walk_callees n).check d g t y s)
  checked d g t y l i j k f h = ends (call_check_matches c (guarded n) L d g t y) ((bounds n (omega arith)).check d g t y (omega arith)) f h

  pub contexted : {w : Machine} {s : State} (d : ℕ) (g : Context) → d + n ≤ 4200 → context_top g ≤ 32 → Fit s → Holds o w s → Ends o s.cells Same (call_ctx c d g w) ((walk_callees n).ctx d g s)
  contexted d g l i f h = ends (call_ctx_matches c (guarded n) L d g) ((bounds n (omega arith)).ctx d g (omega arith)) f h

  pub levelled : {w : Machine} {s : State} (d : ℕ) (g : Context) (t : Term) → d + n ≤ 4200 → context_top g ≤ 32 → term_top t ≤ 32 → Fit s → Holds o w s → Ends o s.cells (Pairs Alike) (call_universe c d g t w) ((walk_callees n).universe d g t s)
  levelled d g t l i j f h = ends (call_universe_matches c (guarded n) L d g t) ((bounds n (omega arith)).universe d g t (omega arith)) f h

  pub normalised : {w : Machine} {s : State} (d : ℕ) (g : Context) (t y : Term) → d + n ≤ 4200 → context_top g ≤ 32 → term_top t ≤ 32 → term_top y ≤ 32 → Fit s → Holds o w s → Ends o s.cells (Returns term) (call_normalize c d g t y w) ((walk_callees n).normalize d g t y s)
  normalised d g t y l i j k f h = ends (call_normalize_matches c (guarded n) L d g t y) ((bounds n (omega arith)).normalize d g t y (omega arith)) f h

  pub head_normalised : {w : Machine} {s : State} (d : ℕ) (g : Context) (t y : Term) → d + n ≤ 4200 → context_top g ≤ 32 → term_top t ≤ 32 → term_top y ≤ 32 → Fit s → Holds o w s → Ends o s.cells (Returns term) (call_head_normalize c d g t y w) ((walk_callees n).head_normalize d g t y s)
  head_normalised d g t y l i j k f h = ends (call_head_normalize_matches c (guarded n) L d g t y) ((bounds n (omega arith)).head_normalize d g t y (omega arith)) f h

  pub equalled : {w : Machine} {s : State} (d : ℕ) (g : Context) (a b y : Term) → d + n ≤ 4200 → context_top g ≤ 32 → term_top a ≤ 32 → term_top b ≤ 32 → term_top y ≤ 32 → Fit s → Holds o w s → Ends o s.cells Same (call_equal c d g a b y w) ((walk_callees n).equal d g a b y s)
  equalled d g a b y l i j k m f h = ends (call_equal_matches c (guarded n) L d g a b y) ((bounds n (omega arith)).equal d g a b y (omega arith)) f h
