-- Made by tools/prove.py: to make it again, run `python3 tools/prove.py producer`.
use borrow.Author.Tests.{eq-eqb, ne_eqb}
use Rattle.producer.specs.Numbers.{max_body}
use Rattle.producer.proofs.At as law
use Rattle.producer.proofs.Steps.{steps, stated}
use Rattle.producer.proofs.State.+max.Goals as goal

pub returns-then-left-eq0 : goal.returns-then-left-eq0
unfolding max_body steps stated
returns-then-left-eq0 t c = rw (law.max_none _ _ _ _ c.if-left-eq0.true, c.refused.ensures)

pub returns-then-m-eq0 : goal.returns-then-m-eq0
unfolding max_body steps stated
returns-then-m-eq0 t c = rw (law.max_in _ _ _ _ c.if-left-eq0.false, ← c.deeper-s0.ensures, eq-eqb _ _ c.if-m-eq0.true, ← c.cite.ensures, ← c.emit.ensures)

pub returns-then-n-eq0 : goal.returns-then-n-eq0
unfolding max_body steps stated
returns-then-n-eq0 t c = rw (law.max_in _ _ _ _ c.if-left-eq0.false, ← c.deeper-s0.ensures, ne_eqb _ _ c.if-m-eq0.false, eq-eqb _ _ c.if-n-eq0.true, ← c.cite-then-n-eq0.ensures, ← c.emit-then-n-eq0.ensures)

pub returns-in_err-s1 : goal.returns-in_err-s1
unfolding max_body steps stated
returns-in_err-s1 t c = rw (law.max_in _ _ _ _ c.if-left-eq0.false, ← c.deeper-s0.ensures, ne_eqb _ _ c.if-m-eq0.false, ne_eqb _ _ c.if-n-eq0.false, law.residual _ _ c.from_residual.ensures.1, ← c.in_err-s1.ensures)

pub returns : goal.returns
unfolding max_body steps stated
returns t c = rw (law.max_in _ _ _ _ c.if-left-eq0.false, ← c.deeper-s0.ensures, ne_eqb _ _ c.if-m-eq0.false, ne_eqb _ _ c.if-n-eq0.false, ← c.in_ok-s1.ensures, ← c.cite-2.ensures)
    (rw (law.greater_is _ _, ← c.max-2.ensures, ← c.emit-2.ensures))
