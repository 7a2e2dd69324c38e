-- The run over words: its own answer, and the words of the three slices after it.
use Rattle.std.specs.Prelude.{ℕ, zero, suc, ◌+◌, ◌*◌, ◌-◌, ◌/◌, ◌%◌, List, [], ◌∷◌, Bool, eqb, ltb, length, Option, Some, None, Result as Outcome, Ok, Err}
use Rattle.std.proofs.lemmas.List.Edits.{sets}
use Rattle.walk.specs.Refusal as Refusal
use Rattle.walk.specs.Reader.{c_many}
use Rattle.ast.specs.declared.refusals.Refusal.TheVariants.{Count}
use Rattle.ast.specs.Refusals.{refusal_number}
use Rattle.ast.specs.Words.{ifb, up}
use Rattle.producer.specs.declared.State.{State}
use Rattle.producer.specs.Answers.{Answer}
use Rattle.producer.specs.Machine.{Machine, machine, new_state, fresh, Result, is, not}
use Rattle.syntax.specs.declared.limits.Fitting.{Fitting}
use Rattle.syntax.specs.declared.limits.Unfit.{Unfit}
use Rattle.syntax.specs.declared.limits.Unfit.TheVariants.{Refused, Unread as NotRead}
use Rattle.syntax.specs.declared.scan.Unread.{Unread}
use Rattle.syntax.specs.declared.scan.Unread.TheVariants.{Bad, Short}
use Rattle.syntax.specs.declared.scan.Scanned.{Scanned}
use Rattle.syntax.specs.declared.scan.RefusedRun.{RefusedRun}
use Rattle.syntax.specs.declared.sent.Checks.{Checks}
use Rattle.syntax.specs.declared.sent.Sent.{Sent}
use Rattle.syntax.specs.Told.{term_at, call_at, code_number, size_in, size_draft_in, scanned}
use Rattle.syntax.specs.Sent.{sent_in}
use Rattle.link.specs.Asked.{with_marks}
use Rattle.ran.specs.declared.Ran.{Ran}
use Rattle.run.specs.declared.entry.Plan.{Plan}
use Rattle.run.specs.declared.entry.Spot.{Spot}
use Rattle.run.specs.declared.entry.Turn.{Turn}
use Rattle.run.specs.Build.{byte_at}
use Rattle.run.specs.Call.{called, head_bytes}

-- a word of a number, and a number that is at most a word
unfoldable pub low_of : ℕ → ℕ
low_of n = n % 4294967296

unfoldable pub at_most : ℕ → ℕ → ℕ
at_most n most = ifb (ltb most n) most (low_of n)

-- no rows, cells or memory, in slices of so many words
unfoldable pub started : ℕ → ℕ → ℕ → State
started limit rows cells = new_state (low_of limit) (at_most (rows / 24) 50000) (at_most (cells / 8) 4294967295)

-- where the first call stands, and the one after a call that ends at an offset: of one with many types, the next that is checked
abbrev pub first_spot : Spot
first_spot = record { at = 2; ty = 2; left = 0 }

unfoldable pub spot_after : (at next left : ℕ) → Spot
spot_after at next left = record { at = ifb (eqb left 0) next at; ty = next; left = left }

-- what a call leaves: its answer, where the next one stands, and the machine
pub record Told : Type 0 where
  pub number : ℕ
  pub row : ℕ
  pub result : ℕ
  pub deepest : ℕ
  pub next : Spot
  pub left : Machine

abbrev pub turn_end : Turn → List ℕ → List ℕ → Told
turn_end t R C = record { number = t.number; row = t.row; result = t.result; deepest = t.deepest; next = t.next; left = machine R C t.state }

unfoldable pub refused_of : State → ℕ → Spot → Turn
refused_of s number next = record { state = s; number = number; row = 4294967295; result = 0; deepest = 0; next = next }

unfoldable pub answered_of : Answer (ℕ × ℕ) → Spot → Turn
answered_of (Ok (s, (row, result))) next = record { state = s; number = 0; row = row; result = result; deepest = s.deepest; next = next }
answered_of (Err e) next = record { state = e.state; number = refusal_number e.refusal; row = 4294967295; result = 0; deepest = e.state.deepest; next = next }

unfoldable pub told : Result (ℕ × ℕ) → Spot → Told
told (is a w) next = record { number = 0; row = a.0; result = a.1; deepest = w.state.deepest; next = next; left = w }
told (not e w) next = record { number = e; row = 4294967295; result = 0; deepest = w.state.deepest; next = next; left = w }

-- whether a stack of so many bytes has no room
abbrev pub tight : ℕ → List ℕ → Bool
tight room bytes = ltb room (2 * length bytes + 1)

-- The limits of the call that stands somewhere, read over a stack of so many bytes, where its type stands, and how many types are to be
-- checked after it: of a call by itself; of a check of the call with many types at an offset; and of that call, its first check or the
-- refusal of its count.
unfoldable pub planned_alone : Outcome Fitting Unfit → ℕ → Plan
planned_alone size at = record { size = size; ty = at; left = 0 }

unfoldable pub planned_type : ℕ → List ℕ → (at ty n : ℕ) → Plan
planned_type room bytes at ty n = record { size = size_draft_in (tight room bytes) (call_at bytes at) (term_at bytes ty); ty = ty; left = n - 1 }

unfoldable pub planned_checks : Option Checks → (next room : ℕ) → List ℕ → ℕ → Plan
planned_checks (Some checks) next room bytes at = planned_type room bytes at checks.first checks.count
planned_checks None next room bytes at = planned_alone (Err (Refused Count next)) at

unfoldable pub planned_by : Outcome Sent Unread → ℕ → List ℕ → ℕ → Plan
planned_by (Ok sent) room bytes at = planned_checks sent.checks sent.next room bytes at
planned_by (Err unread) room bytes at = planned_alone (Err (NotRead unread)) at

unfoldable pub planned_many : ℕ → List ℕ → ℕ → Plan
planned_many room bytes at = planned_by (sent_in (tight room bytes) bytes at) room bytes at

unfoldable pub planned : ℕ → List ℕ → Spot → Plan
planned room bytes spot =
    ifb (ltb 0 spot.left) (planned_type room bytes spot.at spot.ty spot.left)
    (ifb (eqb (byte_at bytes (low_of spot.at)) (code_number c_many)) (planned_many room bytes spot.at)
    (planned_alone (size_in (tight room bytes) (call_at bytes spot.at)) spot.at))

-- a call of a size, at an offset: in a run that was read, none is bad or short
unfoldable pub turned_by : Outcome Fitting Unfit → List ℕ → (at ty left : ℕ) → Machine → Told
turned_by (Ok fitting) bytes at ty left w = told (called bytes (low_of at) (low_of ty) (head_bytes fitting.head) (machine w.rows w.cells (fresh w.state))) (spot_after at fitting.next left)
turned_by (Err (Refused why next)) bytes at ty left w = turn_end (refused_of w.state (refusal_number why) (spot_after at next left)) w.rows w.cells
turned_by (Err (NotRead (Bad place))) bytes at ty left w = turn_end (refused_of w.state Refusal.unread (spot_after at place left)) w.rows w.cells
turned_by (Err (NotRead Short)) bytes at ty left w = turn_end (refused_of w.state Refusal.unread (spot_after at at left)) w.rows w.cells

abbrev pub turned_as : Plan → List ℕ → ℕ → Machine → Told
turned_as p bytes at w = turned_by p.size bytes at p.ty p.left w

-- the call that stands there, read over a stack of so many bytes
unfoldable pub turned : ℕ → List ℕ → Spot → Machine → Told
turned room bytes spot w = turned_as (planned room bytes spot) bytes spot.at w

-- so many calls from there on, of which `done` were played before: the machine, and the answers' words
pub record Played : Type 0 where
  pub left : Machine
  pub answers : List ℕ

abbrev pub play_end : State → List ℕ → List ℕ → List ℕ → Played
play_end s R C A = record { left = machine R C s; answers = A }

unfoldable pub played : (left room : ℕ) → List ℕ → Spot → ℕ → Machine → List ℕ → Played
played zero room bytes spot done w A = record { left = w; answers = A }
played (suc left) room bytes spot done w A =
    let t = turned room bytes spot w in
    played left room bytes t.next (up done) (with_marks done w.state.rows t.left) (sets A (done * 4) (t.number ∷ t.row ∷ t.result ∷ t.deepest ∷ []))

-- the run's answer with the slices after it
pub record Ended : Type 0 where
  pub ran : Ran
  pub rows : List ℕ
  pub cells : List ℕ
  pub answers : List ℕ

abbrev pub end_run : Ran → List ℕ → List ℕ → List ℕ → Ended
end_run r R C A = record { ran = r; rows = R; cells = C; answers = A }

unfoldable pub refused_run : (number place : ℕ) → Ran
refused_run number place = record { number = number; place = low_of place; calls = 0; rows = 0; cells = 0 }

unfoldable pub read_run : ℕ → Played → Ended
read_run calls p = end_run (record { number = 0; place = 0; calls = calls; rows = p.left.state.rows; cells = p.left.state.cells }) p.left.rows p.left.cells p.answers

-- the stack of the reader has 131,073 bytes
unfoldable pub run_by : Outcome Scanned RefusedRun → List ℕ → List ℕ → List ℕ → List ℕ → Ended
run_by (Err refused) bytes R C A = end_run (refused_run (refusal_number refused.refusal) refused.place) R C A
run_by (Ok scanned) bytes R C A =
    ifb (ltb (length A / 4) scanned.calls) (end_run (refused_run Refusal.answers 0) R C A)
    (read_run (low_of scanned.calls) (played (low_of scanned.calls) 131073 bytes first_spot 0 (machine R C (started scanned.limit (length R) (length C))) A))

-- refusals 1 to 4, the lowest first; else the calls are played
unfoldable pub run_of : List ℕ → List ℕ → List ℕ → List ℕ → Ended
run_of bytes R C A =
    ifb (ltb (length R) 24) (end_run (refused_run Refusal.slices 0) R C A)
    (ifb (ltb (length C) 8) (end_run (refused_run Refusal.slices 0) R C A)
    (run_by (scanned bytes) bytes R C A))
