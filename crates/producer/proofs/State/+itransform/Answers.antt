-- Made by tools/prove.py: to make it again, run `python3 tools/prove.py producer`.
use Rattle.std.proofs.Common.{refl}
use Rattle.producer.specs.Intervals.{ineg, ipair, itransform_body}
use Rattle.producer.proofs.At as law
use Rattle.producer.proofs.Steps.{steps, stated}
use Rattle.producer.proofs.State.+itransform.Goals as goal

pub ineg-returns-in_err-s1 : goal.ineg-returns-in_err-s1
unfolding ineg steps stated
ineg-returns-in_err-s1 t c = rw (law.residual _ _ c.from_residual.ensures.1, ← c.in_err-s1.ensures)

pub ineg-returns : goal.ineg-returns
unfolding ineg steps stated
ineg-returns t c = rw (← c.in_ok-s1.ensures, ← c.by_iop-rule.ensures, law.node c.new-node.ensures, ← c.cite.ensures, ← c.imake.ensures)

pub ipair-returns-in_err-s1 : goal.ipair-returns-in_err-s1
unfolding ipair steps stated
ipair-returns-in_err-s1 t c = rw (law.residual _ _ c.from_residual.ensures.1, ← c.in_err-s1.ensures)

pub ipair-returns-in_err-s2 : goal.ipair-returns-in_err-s2
unfolding ipair steps stated
ipair-returns-in_err-s2 t c = rw (← c.in_ok-s1.ensures, law.residual _ _ c.from_residual-in_err-s2.ensures.1, ← c.in_err-s2.ensures)

pub ipair-returns : goal.ipair-returns
unfolding ipair steps stated
ipair-returns t c = rw (← c.in_ok-s1.ensures, ← c.in_ok-s2.ensures, law.node c.new-node.ensures, ← c.cite.ensures, ← c.imake.ensures)

pub itransform-returns-then-left-eq0 : goal.itransform-returns-then-left-eq0
unfolding itransform_body steps stated
itransform-returns-then-left-eq0 t c = rw (law.itransform_none _ _ _ _ c.if-left-eq0.true, c.refused.ensures)

pub itransform-returns-in-I0 : goal.itransform-returns-in-I0
unfolding itransform_body steps stated
itransform-returns-in-I0 t c = rw (law.itransform_in _ _ _ _ c.if-left-eq0.false, ← c.deeper-s0.ensures, ← c.read-cell.ensures, law.kind_is _ c.of.ensures c.in-I0.is, ← c.by_iop-rule.ensures, ← c.cite.ensures)
    (rw (← c.ifinish.ensures))

pub itransform-returns-in-I1 : goal.itransform-returns-in-I1
unfolding itransform_body steps stated
itransform-returns-in-I1 t c = rw (law.itransform_in _ _ _ _ c.if-left-eq0.false, ← c.deeper-s0.ensures, ← c.read-cell.ensures, law.kind_is _ c.of.ensures c.in-I1.is, ← c.by_iop-rule-in-I1.ensures, ← c.cite-in-I1.ensures)
    (rw (← c.ifinish-in-I1.ensures))

pub itransform-returns-in-Dim : goal.itransform-returns-in-Dim
unfolding itransform_body steps stated
itransform-returns-in-Dim t c = rw (law.itransform_in _ _ _ _ c.if-left-eq0.false, ← c.deeper-s0.ensures, ← c.read-cell.ensures, law.kind_is _ c.of.ensures c.in-Dim.is, ← c.idim.ensures)

pub itransform-returns-in-Neg : goal.itransform-returns-in-Neg
unfolding itransform_body steps stated
itransform-returns-in-Neg t c = rw (law.itransform_in _ _ _ _ c.if-left-eq0.false, ← c.deeper-s0.ensures, ← c.read-cell.ensures, law.kind_is _ c.of.ensures c.in-Neg.is, ← c.ineg.ensures)

pub itransform-returns-in-Meet : goal.itransform-returns-in-Meet
unfolding itransform_body steps stated
itransform-returns-in-Meet t c = rw (law.itransform_in _ _ _ _ c.if-left-eq0.false, ← c.deeper-s0.ensures, ← c.read-cell.ensures, law.kind_is _ c.of.ensures c.in-Meet.is, ← c.by_iop-rule-in-Meet.ensures, ← c.ipair.ensures)

pub itransform-returns-in_default : goal.itransform-returns-in_default
unfolding itransform_body steps stated
itransform-returns-in_default t c = rw (law.itransform_in _ _ _ _ c.if-left-eq0.false, ← c.deeper-s0.ensures, ← c.read-cell.ensures, law.kind_isnt _ c.of.ensures c.in_default.not-I0 refl, law.kind_isnt _ c.of.ensures c.in_default.not-I1 refl, law.kind_isnt _ c.of.ensures c.in_default.not-Dim refl)
    (rw (law.kind_isnt _ c.of.ensures c.in_default.not-Neg refl, law.kind_isnt _ c.of.ensures c.in_default.not-Meet refl, ← c.by_iop-rule-in_default.ensures, ← c.ipair-in_default.ensures))
