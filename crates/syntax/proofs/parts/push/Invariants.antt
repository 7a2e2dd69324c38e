-- The last parts were pushed, and the others are left.
use Rattle.std.proofs.Common.{◌≡◌, ◌+◌, List, ◌++◌, length}
use Rattle.syntax.specs.Parts.{Part, pushed}
use Rattle.syntax.proofs.parts.push.Given as goal

abbrev pub invariant-loop-part : goal.invariant-loop-part
invariant-loop-part l = (done : List Part) × (l.parts ≡ l.part-iterator.iter.rest.now ++ done) × (l.height ≡ l.top + length done) × (l.stack ≡ pushed l.fn.stack l.top l.depth done)
