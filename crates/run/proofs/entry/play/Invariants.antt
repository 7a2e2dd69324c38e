use Rattle.std.proofs.Common.{◌≡◌, ◌-◌, length}
use Rattle.producer.specs.Machine.{machine}
use Rattle.run.specs.Run.{first_spot, played}
use Rattle.run.proofs.entry.play.Given as goal

abbrev pub invariant-loop-i : goal.invariant-loop-i
invariant-loop-i l =
    played l.calls (length l.initial.stack) l.bytes first_spot 0 (machine l.initial.rows l.initial.cells l.initial.s) l.initial.answers ≡ played (l.calls - l.i) (length l.initial.stack) l.bytes l.spot l.i (machine l.rows l.cells l.s) l.answers
