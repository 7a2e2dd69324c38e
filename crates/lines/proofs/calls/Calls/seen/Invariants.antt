-- The calls from j on are not such.
use Rattle.std.proofs.Common.{◌≡◌}
use Rattle.lines.specs.Repeats.{seen}
use Rattle.lines.proofs.calls.Calls.seen.Given as goal

abbrev pub invariant-loop-j : goal.invariant-loop-j
invariant-loop-j l = seen l.self.codes.now l.self.answers.now l.code l.row l.i ≡ seen l.self.codes.now l.self.answers.now l.code l.row l.j
