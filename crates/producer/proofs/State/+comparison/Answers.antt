-- Made by tools/prove.py: to make it again, run `python3 tools/prove.py producer`.
use borrow.Author.Tests.{eq-eqb, le-leb, le-ltb, lt-leb, lt-ltb, ne_eqb}
use Rattle.producer.specs.Numbers.{comparison_body}
use Rattle.producer.proofs.At as law
use Rattle.producer.proofs.Steps.{steps, stated}
use Rattle.producer.proofs.State.+comparison.Goals as goal

pub returns-then-left-eq0 : goal.returns-then-left-eq0
unfolding comparison_body steps stated
returns-then-left-eq0 t c = rw (law.comparison_none _ _ _ _ _ c.if-left-eq0.true, c.refused.ensures)

pub returns-then-n-m : goal.returns-then-n-m
unfolding comparison_body steps stated
returns-then-n-m t c = rw (law.comparison_in _ _ _ _ _ c.if-left-eq0.false, ← c.deeper-s0.ensures, c.if-strict.true, le-ltb _ _ c.if-n-m.true, c.refused-then-n-m.ensures)

pub returns-then-m-eq0 : goal.returns-then-m-eq0
unfolding comparison_body steps stated
returns-then-m-eq0 t c = rw (law.comparison_in _ _ _ _ _ c.if-left-eq0.false, ← c.deeper-s0.ensures, c.if-strict.true, lt-ltb _ _ c.if-n-m.false, eq-eqb _ _ c.if-m-eq0.true, ← c.cite.ensures)
    (rw (← c.emit.ensures))

pub returns-in_err-s1 : goal.returns-in_err-s1
unfolding comparison_body steps stated
returns-in_err-s1 t c = rw (law.comparison_in _ _ _ _ _ c.if-left-eq0.false, ← c.deeper-s0.ensures, c.if-strict.true, lt-ltb _ _ c.if-n-m.false, ne_eqb _ _ c.if-m-eq0.false, law.residual _ _ c.from_residual.ensures.1)
    (rw (← c.in_err-s1.ensures))

pub returns-then-strict : goal.returns-then-strict
unfolding comparison_body steps stated
returns-then-strict t c = rw (law.comparison_in _ _ _ _ _ c.if-left-eq0.false, ← c.deeper-s0.ensures, c.if-strict.true, lt-ltb _ _ c.if-n-m.false, ne_eqb _ _ c.if-m-eq0.false, ← c.in_ok-s1.ensures)
    (rw (← c.cite-then-strict.ensures, ← c.emit-then-strict.ensures))

pub returns-then-n-m-2 : goal.returns-then-n-m-2
unfolding comparison_body steps stated
returns-then-n-m-2 t c = rw (law.comparison_in _ _ _ _ _ c.if-left-eq0.false, ← c.deeper-s0.ensures, c.if-strict.false, lt-leb _ _ c.if-n-m-2.true, c.refused-then-n-m-2.ensures)

pub returns-then-m-eq0-2 : goal.returns-then-m-eq0-2
unfolding comparison_body steps stated
returns-then-m-eq0-2 t c = rw (law.comparison_in _ _ _ _ _ c.if-left-eq0.false, ← c.deeper-s0.ensures, c.if-strict.false, le-leb _ _ c.if-n-m-2.false, eq-eqb _ _ c.if-m-eq0-2.true, ← c.cite-then-m-eq0-2.ensures)
    (rw (← c.emit-then-m-eq0-2.ensures))

pub returns-in_err-s1-2 : goal.returns-in_err-s1-2
unfolding comparison_body steps stated
returns-in_err-s1-2 t c = rw (law.comparison_in _ _ _ _ _ c.if-left-eq0.false, ← c.deeper-s0.ensures, c.if-strict.false, le-leb _ _ c.if-n-m-2.false, ne_eqb _ _ c.if-m-eq0-2.false, law.residual _ _ c.from_residual-in_err-s1-2.ensures.1)
    (rw (← c.in_err-s1-2.ensures))

pub returns : goal.returns
unfolding comparison_body steps stated
returns t c = rw (law.comparison_in _ _ _ _ _ c.if-left-eq0.false, ← c.deeper-s0.ensures, c.if-strict.false, le-leb _ _ c.if-n-m-2.false, ne_eqb _ _ c.if-m-eq0-2.false, ← c.in_ok-s1-2.ensures)
    (rw (← c.cite-2.ensures, ← c.emit-2.ensures))
