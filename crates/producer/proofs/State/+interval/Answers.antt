-- Made by tools/prove.py: to make it again, run `python3 tools/prove.py producer`.
use Rattle.std.proofs.Common.{refl}
use Rattle.producer.specs.Intervals.{interval_body, interval_parts}
use Rattle.producer.proofs.At as law
use Rattle.producer.proofs.Steps.{steps, stated}
use Rattle.producer.proofs.State.+interval.Goals as goal

pub interval-returns-then-left-eq0 : goal.interval-returns-then-left-eq0
unfolding interval_body steps stated
interval-returns-then-left-eq0 t c = rw (law.interval_none _ _ _ _ c.if-left-eq0.true, c.refused.ensures)

pub interval-returns-in_err-s1-in-Dim : goal.interval-returns-in_err-s1-in-Dim
unfolding interval_body steps stated
interval-returns-in_err-s1-in-Dim t c = rw (law.interval_in _ _ _ _ c.if-left-eq0.false, ← c.deeper-s0.ensures, ← c.read-cell.ensures, law.kind_is _ c.of.ensures c.in-Dim.is, law.residual _ _ c.from_residual.ensures.1, ← c.in_err-s1-in-Dim.ensures)

pub interval-returns-in_err-s1-in-Neg : goal.interval-returns-in_err-s1-in-Neg
unfolding interval_body steps stated
interval-returns-in_err-s1-in-Neg t c = rw (law.interval_in _ _ _ _ c.if-left-eq0.false, ← c.deeper-s0.ensures, ← c.read-cell.ensures, law.kind_is _ c.of.ensures c.in-Neg.is, law.residual _ _ c.from_residual-in_err-s1-in-Neg.ensures.1, ← c.in_err-s1-in-Neg.ensures)

pub interval-returns-in-I0 : goal.interval-returns-in-I0
unfolding interval_body steps stated
interval-returns-in-I0 t c = rw (law.interval_in _ _ _ _ c.if-left-eq0.false, ← c.deeper-s0.ensures, ← c.read-cell.ensures, law.kind_is _ c.of.ensures c.in-I0.is, ← c.cite.ensures, ← c.emit.ensures)

pub interval-returns-in-I1 : goal.interval-returns-in-I1
unfolding interval_body steps stated
interval-returns-in-I1 t c = rw (law.interval_in _ _ _ _ c.if-left-eq0.false, ← c.deeper-s0.ensures, ← c.read-cell.ensures, law.kind_is _ c.of.ensures c.in-I1.is, ← c.cite-in-I1.ensures, ← c.emit-in-I1.ensures)

pub interval-returns-in_ok-s1-in-Dim : goal.interval-returns-in_ok-s1-in-Dim
unfolding interval_body steps stated
interval-returns-in_ok-s1-in-Dim t c = rw (law.interval_in _ _ _ _ c.if-left-eq0.false, ← c.deeper-s0.ensures, ← c.read-cell.ensures, law.kind_is _ c.of.ensures c.in-Dim.is, ← c.in_ok-s1-in-Dim.ensures, ← c.cite-in-Dim.ensures)
    (rw (← c.emit-in-Dim.ensures))

pub interval-returns-in_ok-s1-in-Neg : goal.interval-returns-in_ok-s1-in-Neg
unfolding interval_body steps stated
interval-returns-in_ok-s1-in-Neg t c = rw (law.interval_in _ _ _ _ c.if-left-eq0.false, ← c.deeper-s0.ensures, ← c.read-cell.ensures, law.kind_is _ c.of.ensures c.in-Neg.is, ← c.in_ok-s1-in-Neg.ensures, ← c.cite-in-Neg.ensures)
    (rw (← c.emit-in-Neg.ensures))

pub interval-returns-in-Meet : goal.interval-returns-in-Meet
unfolding interval_body steps stated
interval-returns-in-Meet t c = rw (law.interval_in _ _ _ _ c.if-left-eq0.false, ← c.deeper-s0.ensures, ← c.read-cell.ensures, law.kind_is _ c.of.ensures c.in-Meet.is, ← c.interval_parts.ensures)

pub interval-returns-in_default : goal.interval-returns-in_default
unfolding interval_body steps stated
interval-returns-in_default t c = rw (law.interval_in _ _ _ _ c.if-left-eq0.false, ← c.deeper-s0.ensures, ← c.read-cell.ensures, law.kind_isnt _ c.of.ensures c.in_default.not-I0 refl, law.kind_isnt _ c.of.ensures c.in_default.not-I1 refl, law.kind_isnt _ c.of.ensures c.in_default.not-Dim refl)
    (rw (law.kind_isnt _ c.of.ensures c.in_default.not-Neg refl, law.kind_isnt _ c.of.ensures c.in_default.not-Meet refl, ← c.interval_parts-in_default.ensures))

pub interval_parts-returns-in_err-s1 : goal.interval_parts-returns-in_err-s1
unfolding interval_parts steps stated
interval_parts-returns-in_err-s1 t c = rw (law.residual _ _ c.from_residual.ensures.1, ← c.in_err-s1.ensures)

pub interval_parts-returns-in_err-s2 : goal.interval_parts-returns-in_err-s2
unfolding interval_parts steps stated
interval_parts-returns-in_err-s2 t c = rw (← c.in_ok-s1.ensures, law.residual _ _ c.from_residual-in_err-s2.ensures.1, ← c.in_err-s2.ensures)

pub interval_parts-returns : goal.interval_parts-returns
unfolding interval_parts steps stated
interval_parts-returns t c = rw (← c.in_ok-s1.ensures, ← c.in_ok-s2.ensures, ← c.cite.ensures, ← c.emit.ensures)
