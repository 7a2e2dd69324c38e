-- What is left of the slice, written from here, is the whole, written from the start.
use Rattle.std.proofs.Common.{◌≡◌, drop}
use Rattle.writer.specs.Window.{written}
use Rattle.writer.proofs.Output.bytes.Given as goal

abbrev pub invariant-loop-b : goal.invariant-loop-b
invariant-loop-b l = written (drop l.b-index l.s) l.self ≡ written l.s l.initial.self
