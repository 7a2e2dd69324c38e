-- What is counted, with what is still to be counted, is the whole.
use Rattle.std.proofs.Common.{◌+◌, ◌≡◌, ◌≤◌}
use Rattle.lines.specs.Repeats.{repeats}
use Rattle.lines.specs.Counting.{counted}
use Rattle.lines.proofs.calls.Calls.repeats.Given as goal

abbrev pub invariant-loop-i : goal.invariant-loop-i
invariant-loop-i l =
    let codes = l.self.codes.now in
    let answers = l.self.answers.now in
    (l.n ≤ l.i) × (l.n + counted codes answers l.calls l.i ≡ repeats codes answers l.calls)
