-- What is left of the lines, written from here, is all, written from the start.
use Rattle.std.proofs.Common.{◌-◌, ◌≡◌}
use Rattle.writer.specs.Text.{each}
use Rattle.writer.specs.Window.{written}
use Rattle.lines.specs.Calls.{call_line}
use Rattle.text.proofs.Words.call_lines.Given as goal

abbrev pub invariant-loop-i : goal.invariant-loop-i
invariant-loop-i l =
    let line = call_line l.self.calls.codes.now l.self.calls.answers.now l.self.table.cells.now in
    written (each line l.i (l.self.run.calls - l.i)) l.output ≡ written (each line 0 (l.self.run.calls - 0)) l.initial.output
