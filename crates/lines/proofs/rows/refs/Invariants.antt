-- What is left of the cited rows, written from here, is all after the first.
use Rattle.std.proofs.Common.{◌-◌, ◌≡◌}
use Rattle.writer.specs.Text.{each}
use Rattle.writer.specs.Window.{written}
use Rattle.lines.specs.Rows.{reference}
use Rattle.lines.proofs.rows.refs.Given as goal

abbrev pub invariant-loop-k : goal.invariant-loop-k
invariant-loop-k l = written (each (reference l.table.rows.now l.i) l.k (l.n - l.k)) l.output ≡ written (each (reference l.table.rows.now l.i) 1 (l.n - 1)) l.initial.output
