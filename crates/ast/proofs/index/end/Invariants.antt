use Rattle.std.proofs.Common.{◌-◌, ◌≡◌}
use Rattle.ast.specs.Index.{end_on}
use Rattle.ast.proofs.index.end.Given as goal

abbrev pub invariant-loop-i : goal.invariant-loop-i
invariant-loop-i g l = end_on g.T.Indexed.slot g.T.Indexed.rest l.words l.n 0 l.hash 0 ≡ end_on g.T.Indexed.slot g.T.Indexed.rest l.words l.n l.i l.h l.at

abbrev pub decreases-loop-i : goal.decreases-loop-i
decreases-loop-i g l = l.n - l.i
