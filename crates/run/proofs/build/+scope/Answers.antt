-- Made by tools/prove.py: to make it again, run `python3 tools/prove.py run`.
use Rattle.run.specs.Build.{scoped_body}
use Rattle.run.proofs.At as law
use Rattle.run.proofs.Steps.{steps}
use Rattle.run.proofs.build.+scope.Goals as goal

pub returns-then-left-eq0 : goal.returns-then-left-eq0
unfolding scoped_body steps
returns-then-left-eq0 t c = rw (law.scoped_none _ _ _ _ _ c.if-left-eq0.true)

pub returns-in_err-s1 : goal.returns-in_err-s1
unfolding scoped_body steps
returns-in_err-s1 t c = rw (law.scoped_in _ _ _ _ _ c.if-left-eq0.false, law.residual _ _ c.from_residual.ensures.1, ← c.in_err-s1.ensures)

pub returns-in_err-s2 : goal.returns-in_err-s2
unfolding scoped_body steps
returns-in_err-s2 t c = rw (law.scoped_in _ _ _ _ _ c.if-left-eq0.false, ← c.in_ok-s1.ensures, law.node c.new.ensures, law.residual _ _ c.from_residual-in_err-s2.ensures.1, ← c.in_err-s2.ensures)

pub returns : goal.returns
unfolding scoped_body steps
returns t c = rw (law.scoped_in _ _ _ _ _ c.if-left-eq0.false, ← c.in_ok-s1.ensures, law.node c.new.ensures, ← c.in_ok-s2.ensures, ← c.scope.ensures)
