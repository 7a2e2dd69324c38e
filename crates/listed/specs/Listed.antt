-- The listing of a run of the walk, as docs/FORMAT.md says what the listing program prints: over the run's answers and its table, with
-- no words. A row's line and a call's line are `row_text` and `call_text` of Said. Assumes nothing.
use Rattle.std.specs.Prelude.{ℕ, suc, true, false, List, [], ◌∷◌, ◌++◌, eqb, length}
use Rattle.walk.specs.State.{Row}
use Rattle.walk.specs.Run.{Answer, Ran, repeats}
use Rattle.rules.specs.Names.{bytes}
use Rattle.writer.specs.Text.{Text, decimal}
use Rattle.listed.specs.Said.{row_text, call_text}

-- The lines of answers, from call i on.
unfoldable pub call_lines : ℕ → List Answer → Text
call_lines i [] = []
call_lines i (a ∷ answers) = call_text i a ++ call_lines (suc i) answers

-- The lines of a table, the oldest row first: the table has the newest first, and a row's number is that of the rows below it.
unfoldable pub row_lines : List Row → Text
row_lines [] = []
row_lines (r ∷ rows) = row_lines rows ++ row_text (length rows) r

-- The line of the numbers of rows, of cells and of repeats.
unfoldable pub total_line : Ran → Text
total_line ran = decimal (length ran.last.rows) ++ bytes " " ++ decimal (length ran.last.cells) ++ bytes " " ++ decimal (repeats ran) ++ bytes "\n"

-- A run that is read: calls, rows and totals, each part under its line of names.
unfoldable pub listed_read : Ran → Text
listed_read ran =
    bytes "call code row result deepest\n" ++
    call_lines 0 ran.answers ++
    bytes "row rule refs judgment\n" ++
    row_lines ran.last.rows ++
    bytes "rows cells repeats\n" ++
    total_line ran

unfoldable pub listed_refused : Ran → Text
listed_refused ran = bytes "number place\n" ++ decimal ran.number ++ bytes " " ++ decimal ran.place ++ bytes "\n"

-- A run that is refused as a whole has another number than 0.
unfoldable pub listed : Ran → Text
listed ran = elim (eqb ran.number 0) [ true ↦ listed_read ran | false ↦ listed_refused ran ]
