-- What is left of the lines, written from here, is all, written from the start.
use Rattle.std.proofs.Common.{◌-◌, ◌≡◌}
use Rattle.writer.specs.Text.{each}
use Rattle.writer.specs.Window.{written}
use Rattle.lines.specs.Rows.{row_line}
use Rattle.text.proofs.Words.row_lines.Given as goal

abbrev pub invariant-loop-i : goal.invariant-loop-i
invariant-loop-i l =
    let line = row_line l.self.table.rows.now l.self.table.cells.now in
    written (each line l.i (l.self.run.rows - l.i)) l.output ≡ written (each line 0 (l.self.run.rows - 0)) l.initial.output
