use Rattle.std.proofs.Common.{◌≡◌}
use Rattle.ast.specs.Cells.{last_of}
use Rattle.search.specs.Plain.{row_is}
use Rattle.search.proofs.plain.scan_rows.Given as goal

abbrev pub invariant-loop-i : goal.invariant-loop-i
invariant-loop-i l = last_of (row_is l.rows l.cells l.m l.wanted) l.n ≡ last_of (row_is l.rows l.cells l.m l.wanted) l.i
