-- The listing of a run: its calls' lines, its rows' lines and the totals. Assumes nothing.
use Rattle.std.specs.Prelude.{ℕ, true, false, List, ◌++◌, eqb}
use Rattle.rules.specs.Names.{bytes}
use Rattle.writer.specs.Text.{Text, each, decimal}
use Rattle.lines.specs.Rows.{refs, rule, judgment, row_line}
use Rattle.lines.specs.Calls.{call_line}
use Rattle.lines.specs.Repeats.{repeats}
use Rattle.ran.specs.declared.Ran.{Ran}
use Rattle.text.specs.declared.Piece.{Piece}
use Rattle.text.specs.declared.Piece.TheVariants.{Listing, CallLine, RowLine, Totals, RowNumber, RuleName, Refs, Judgment}

-- The numbers of rows, of cells and of repeats.
unfoldable pub totals : Ran → List ℕ → List ℕ → Text
totals run codes A = decimal run.rows ++ bytes " " ++ decimal run.cells ++ bytes " " ++ decimal (repeats codes A run.calls) ++ bytes "\n"

unfoldable pub read_listing : Ran → List ℕ → List ℕ → List ℕ → List ℕ → Text
read_listing run codes A R C =
    bytes "call code row result deepest\n" ++
    each (call_line codes A C) 0 run.calls ++
    bytes "row rule refs judgment\n" ++
    each (row_line R C) 0 run.rows ++
    bytes "rows cells repeats\n" ++
    totals run codes A

unfoldable pub refused_listing : Ran → Text
refused_listing run = bytes "number place\n" ++ decimal run.number ++ bytes " " ++ decimal run.place ++ bytes "\n"

-- A run that is refused as a whole has another number than 0.
unfoldable pub listing : Ran → List ℕ → List ℕ → List ℕ → List ℕ → Text
listing run codes A R C = elim (eqb run.number 0) [ true ↦ read_listing run codes A R C | false ↦ refused_listing run ]

-- What can be asked for: the whole, a line (of a call, of a row, the totals), or a field of a row's line.
unfoldable pub piece : Piece → Ran → List ℕ → List ℕ → List ℕ → List ℕ → Text
piece Listing run codes A R C = listing run codes A R C
piece (CallLine i) run codes A R C = call_line codes A C i
piece (RowLine i) run codes A R C = row_line R C i
piece Totals run codes A R C = totals run codes A
piece (RowNumber i) run codes A R C = decimal i
piece (RuleName i) run codes A R C = rule R i
piece (Refs i) run codes A R C = refs R i
piece (Judgment i) run codes A R C = judgment R C i
