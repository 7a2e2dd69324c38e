-- Listings, by their parts: a heading is kept whole. Assumes nothing.
use mathlib.Core.Path.{◌≡◌}
use mathlib.Core.List.{List}
use Prim.Native.Nat.{ℕ}
use Rattle.rules.specs.Names.{bytes}
use Rattle.writer.specs.Text.{each, decimal}
use Rattle.writer.specs.Window.{written}
use Rattle.writer.specs.declared.Output.{Output}
use Rattle.writer.proofs.Laws.{written_append}
use Rattle.lines.specs.Rows.{row_line}
use Rattle.lines.specs.Calls.{call_line}
use Rattle.text.specs.Listing.{totals, refused_listing, read_listing}
use Rattle.ran.specs.declared.Ran.{Ran}

pub written_refused : (run : Ran) (o : Output) → written (refused_listing run) o ≡ written (bytes "\n") (written (decimal run.place) (written (bytes " ") (written (decimal run.number) (written (bytes "number place\n") o))))
unfolding refused_listing
written_refused run o = simp written_append

pub written_read :
    (run : Ran) (codes A R C : List ℕ) (o : Output)
    → written (read_listing run codes A R C) o
    ≡ written (totals run codes A) (written (bytes "rows cells repeats\n") (written (each (row_line R C) 0 run.rows) (written (bytes "row rule refs judgment\n") (written (each (call_line codes A C) 0 run.calls) (written (bytes "call code row result deepest\n") o)))))
unfolding read_listing
written_read run codes A R C o = simp written_append
