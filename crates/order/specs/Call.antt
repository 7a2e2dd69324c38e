-- What each call of a run leaves alone, wherever in the list it came. That it is so is proved in proofs/Call: `each_call`.
use Rattle.std.specs.Prelude.{ℕ, ◌≤◌, ◌≡◌, List, ◌∷◌, ◌++◌, length}
use Rattle.walk.specs.State.{State}
use Rattle.walk.specs.Reader.{Call, terms_of}
use Rattle.walk.specs.Run.{play, play_all, Ran, start}
use Rattle.walk.specs.Demand.{Extends, Stated}

-- of a call that finds the state s
pub record Leaves (s : State) (call : Call) : Type 0 where
  -- it has the terms of its code
  pub full : length call.terms ≡ terms_of call.code
  -- accepted or refused, it leaves all rows as they were, and only adds
  pub rows_stay : Extends s.rows (play call s).1.rows
  -- accepted with no new row, its judgment was known
  pub known : (play call s).0.number ≡ 0 → length (play call s).1.rows ≡ length s.rows → Stated s.rows call (play call s).0
  -- deepest is at most the limit
  pub deepest : (play call s).0.deepest ≤ s.limit
  -- accepted or refused, conversions are back at 0
  pub conversions : (play call s).1.conversions ≡ 0

-- for all bytes and all lengths of the slices, of every call of the run, with the state that the calls before it leave
abbrev pub EveryCall : ℕ → ℕ → Ran → Type 0
EveryCall row_words cell_words ran = (first : List Call) (call : Call) (others : List Call) → ran.calls ≡ first ++ call ∷ others → Leaves (play_all first (start ran.limit row_words cell_words)).1 call
