-- What `listing` prints of a run is the listing of the walk's run: `listing_is`. Of the entry nothing but its contract is used.
use Rattle.std.specs.Prelude.{ℕ, suc, Bool, List, [], ◌∷◌, ◌++◌, eqb, length}
use Rattle.std.proofs.Math.Path.{◌≡◌, refl}
use Rattle.std.proofs.Common.{sym, ap, ◌∙◌, subst}
use Rattle.std.proofs.Math.Bool.{true, false}
use Rattle.std.proofs.Math.Nat.{zero-add}
use Rattle.std.proofs.Math.ListN.{get_or-append}
use Rattle.walk.specs.Reader.{Call}
use Rattle.walk.specs.Run.{start}
use Rattle.walk.specs.Run as W
use Rattle.walk.specs.Demand.{DerivationOrder}
use Rattle.order.specs.Cases.{run_cases}
use Rattle.order.specs.Theorem.{demand_3}
use Rattle.ran.specs.declared.Ran.{Ran}
use Rattle.run.specs.Contract.{walked, numbers_of, Runs}
use Rattle.writer.specs.Text.{Text, each}
use Rattle.lines.specs.Calls.{call_line}
use Rattle.lines.specs.Repeats.{repeats}
use Rattle.lines.specs.Rows.{row_line}
use Rattle.text.specs.Listing.{totals, read_listing, refused_listing, listing}
use Rattle.syntax.specs.Codes.{codes_of}
use Rattle.listed.specs.Said.{CallsIn}
use Rattle.listed.specs.Repeated.{repeats_said}
use Rattle.listed.specs.Listed.{call_lines, row_lines, total_line, listed_read, listed_refused, listed}
use Rattle.listed.specs.Cells.{some_is}
use Rattle.listed.proofs.Rows.{rows_said}
use Rattle.listed.specs.Calls.{AllBare, no_answer}
use Rattle.listed.proofs.Calls.{all_bare, calls_in, calls_said}
use Rattle.listed.specs.Theorem.{CodesOf}

pub codes_many : (calls : List Call) → length (codes_of calls) ≡ length calls
codes_many [] = refl
codes_many (call ∷ calls) = ap suc (codes_many calls)

pub codes_first : (calls : List Call) (rest : List ℕ) → CodesOf calls (codes_of calls ++ rest)
codes_first calls rest = record { each_code = λ i l. get_or-append (codes_of calls) rest 0 i (rw (codes_many calls) l) }

-- a listing by its parts
module _ (ran : W.Ran) (codes A R C : List ℕ) (calls : each (call_line codes A C) 0 (length ran.calls) ≡ call_lines 0 ran.answers) (rows : each (row_line R C) 0 (length ran.last.rows) ≡ row_lines ran.last.rows) (again : repeats codes A (length ran.calls) ≡ W.repeats ran) where
  read_parts : read_listing (numbers_of ran) codes A R C ≡ listed_read ran
  unfolding read_listing totals listed_read total_line
  read_parts = rw (calls, rows, again)

  refused_parts : refused_listing (numbers_of ran) ≡ listed_refused ran
  unfolding refused_listing listed_refused
  refused_parts = refl

  by_parts : listing (numbers_of ran) codes A R C ≡ listed ran
  unfolding listing listed
  by_parts = go (eqb ran.number 0)
    where
      go : (b : Bool) → ◌≡◌ {A = Text} (elim b [ true ↦ read_listing (numbers_of ran) codes A R C | false ↦ refused_listing (numbers_of ran) ]) (elim b [ true ↦ listed_read ran | false ↦ listed_refused ran ])
      go true = read_parts
      go false = refused_parts

module _ (bytes rows cells answers : List ℕ) where
  -- a run is refused, or read and played
  bare : AllBare (walked bytes rows cells answers).answers
  bare = run_cases (length rows) (length cells) (length answers) bytes (λ ran. AllBare ran.answers) (λ n place. no_answer) (λ limit calls r. all_bare calls (start limit (length rows) (length cells)))

  -- the table of which the contract promises demand 3 is the walk's
  table_is : {r : Ran} {rows' cells' answers' : List ℕ} (h : Runs bytes rows cells answers r rows' cells' answers') → h.derived.table ≡ (walked bytes rows cells answers).last.rows
  table_is h = some_is (sym (rw h.numbers at h.derived.read) ∙ h.table.read)

  in_order : {r : Ran} {rows' cells' answers' : List ℕ} → Runs bytes rows cells answers r rows' cells' answers' → DerivationOrder (walked bytes rows cells answers).last.rows
  in_order h = subst DerivationOrder (table_is h) h.derived.order

  listing_of : (rows' cells' answers' codes : List ℕ) → Runs bytes rows cells answers (numbers_of (walked bytes rows cells answers)) rows' cells' answers' → CodesOf (walked bytes rows cells answers).calls codes → listing (numbers_of (walked bytes rows cells answers)) codes answers' rows' cells' ≡ listed (walked bytes rows cells answers)
  unfolding W.repeats
  listing_of rows' cells' answers' codes h c =
      let cs = h.table.cells in
      let calls : CallsIn codes answers' cells' 0 (walked bytes rows cells answers).calls (walked bytes rows cells answers).answers = calls_in cs codes answers' 0 (demand_3 (length rows) (length cells) (length answers) bytes).stated bare (λ k l. rw zero-add (c.each_code k l)) (λ k a at. rw zero-add (h.each_answer k a at)) in
      by_parts (walked bytes rows cells answers) codes answers' rows' cells' (calls_said cs codes answers' calls) (rows_said cs rows' _ (in_order h) h.table.each_row) (repeats_said calls)

-- For all bytes and slices, whatever the entry answers and leaves in the slices, if its contract holds.
pub listing_is : (bytes rows cells answers : List ℕ) (r : Ran) (rows' cells' answers' codes : List ℕ) → Runs bytes rows cells answers r rows' cells' answers' → CodesOf (walked bytes rows cells answers).calls codes → listing r codes answers' rows' cells' ≡ listed (walked bytes rows cells answers)
listing_is bytes rows cells answers r rows' cells' answers' codes h c = rw h.numbers (listing_of bytes rows cells answers rows' cells' answers' codes (rw h.numbers at h) c)
