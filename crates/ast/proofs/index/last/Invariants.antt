use Rattle.std.proofs.Common.{ℕ, ◌<◌, ◌-◌, ◌≡◌, Bool}
use Rattle.ast.specs.Cells.{or_else}
use Rattle.ast.specs.Index.{last_on}
use Rattle.ast.proofs.index.last.Given as goal

abbrev pub invariant-loop-i : goal.invariant-loop-i
invariant-loop-i g l =
    (passes : ℕ → Bool)
    → ((i : ℕ) (b : Bool) → i < l.n → goal.F-post g l.test i b → b ≡ passes i)
    → last_on g.T.Indexed.slot g.T.Indexed.rest l.words l.n passes 0 l.hash ≡ or_else (last_on g.T.Indexed.slot g.T.Indexed.rest l.words l.n passes l.i l.h) l.found

abbrev pub decreases-loop-i : goal.decreases-loop-i
decreases-loop-i g l = l.n - l.i
