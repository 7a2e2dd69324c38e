-- Made by tools/prove.py: to make it again, run `python3 tools/prove.py producer`.
use Rattle.std.proofs.Common.{refl}
use Rattle.producer.specs.Endpoints.{endpoint_body, right_part, two_parts}
use Rattle.producer.proofs.At as law
use Rattle.producer.proofs.Steps.{steps, stated}
use Rattle.producer.proofs.State.+endpoint.Goals as goal

pub endpoint-returns-then-left-eq0 : goal.endpoint-returns-then-left-eq0
unfolding endpoint_body steps stated
endpoint-returns-then-left-eq0 t c = rw (law.endpoint_none _ _ _ c.if-left-eq0.true, c.refused.ensures)

pub endpoint-returns-in_err-s1-in-Neg : goal.endpoint-returns-in_err-s1-in-Neg
unfolding endpoint_body steps stated
endpoint-returns-in_err-s1-in-Neg t c = rw (law.endpoint_in _ _ _ c.if-left-eq0.false, ← c.deeper-s0.ensures, ← c.read-cell.ensures, law.kind_is _ c.of.ensures c.in-Neg.is, law.residual _ _ c.from_residual.ensures.1, ← c.in_err-s1-in-Neg.ensures)

pub endpoint-returns-in_default-end : goal.endpoint-returns-in_default-end
unfolding endpoint_body steps stated
endpoint-returns-in_default-end t c = rw (law.endpoint_in _ _ _ c.if-left-eq0.false, ← c.deeper-s0.ensures, ← c.read-cell.ensures, law.kind_is _ c.of.ensures c.in-Neg.is, ← c.in_ok-s1-in-Neg.ensures, c.in_default-end.is)

pub endpoint-returns-in-I0 : goal.endpoint-returns-in-I0
unfolding endpoint_body steps stated
endpoint-returns-in-I0 t c = rw (law.endpoint_in _ _ _ c.if-left-eq0.false, ← c.deeper-s0.ensures, ← c.read-cell.ensures, law.kind_is _ c.of.ensures c.in-I0.is, ← c.cite.ensures, ← c.iend.ensures)

pub endpoint-returns-in-I1 : goal.endpoint-returns-in-I1
unfolding endpoint_body steps stated
endpoint-returns-in-I1 t c = rw (law.endpoint_in _ _ _ c.if-left-eq0.false, ← c.deeper-s0.ensures, ← c.read-cell.ensures, law.kind_is _ c.of.ensures c.in-I1.is, ← c.cite-in-I1.ensures, ← c.iend-in-I1.ensures)

pub endpoint-returns-in-Dim : goal.endpoint-returns-in-Dim
unfolding endpoint_body steps stated
endpoint-returns-in-Dim t c = rw (law.endpoint_in _ _ _ c.if-left-eq0.false, ← c.deeper-s0.ensures, ← c.read-cell.ensures, law.kind_is _ c.of.ensures c.in-Dim.is)

pub endpoint-returns-in-Some : goal.endpoint-returns-in-Some
unfolding endpoint_body steps stated
endpoint-returns-in-Some t c = rw (law.endpoint_in _ _ _ c.if-left-eq0.false, ← c.deeper-s0.ensures, ← c.read-cell.ensures, law.kind_is _ c.of.ensures c.in-Neg.is, ← c.in_ok-s1-in-Neg.ensures, c.in-Some.is)
    (rw (← c.other.ensures, ← c.cite-in-Neg.ensures, ← c.iend-in-Neg.ensures))

pub endpoint-returns-in-Meet : goal.endpoint-returns-in-Meet
unfolding endpoint_body steps stated
endpoint-returns-in-Meet t c = rw (law.endpoint_in _ _ _ c.if-left-eq0.false, ← c.deeper-s0.ensures, ← c.read-cell.ensures, law.kind_is _ c.of.ensures c.in-Meet.is, ← c.two_parts.ensures)

pub endpoint-returns-in_default : goal.endpoint-returns-in_default
unfolding endpoint_body steps stated
endpoint-returns-in_default t c = rw (law.endpoint_in _ _ _ c.if-left-eq0.false, ← c.deeper-s0.ensures, ← c.read-cell.ensures, law.kind_isnt _ c.of.ensures c.in_default.not-I0 refl, law.kind_isnt _ c.of.ensures c.in_default.not-I1 refl, law.kind_isnt _ c.of.ensures c.in_default.not-Dim refl)
    (rw (law.kind_isnt _ c.of.ensures c.in_default.not-Neg refl, law.kind_isnt _ c.of.ensures c.in_default.not-Meet refl, ← c.two_parts-in_default.ensures))

pub right_part-returns-in_err-s1 : goal.right_part-returns-in_err-s1
unfolding right_part steps stated
right_part-returns-in_err-s1 t c = rw (law.residual _ _ c.from_residual.ensures.1, ← c.in_err-s1.ensures)

pub right_part-returns-in_default : goal.right_part-returns-in_default
unfolding right_part steps stated
right_part-returns-in_default t c = rw (← c.in_ok-s1.ensures, c.in_default.is)

pub right_part-returns-then-is : goal.right_part-returns-then-is
unfolding right_part steps stated
right_part-returns-then-is t c = rw (← c.in_ok-s1.ensures, c.in-Some.is, ← c.is.ensures, c.if-is.true, ← c.cite.ensures, ← c.iend.ensures)

pub right_part-returns-in_default-first : goal.right_part-returns-in_default-first
unfolding right_part steps stated
right_part-returns-in_default-first t c = rw (← c.in_ok-s1.ensures, c.in-Some.is, ← c.is.ensures, c.if-is.false, c.in_default-first.is)

pub right_part-returns : goal.right_part-returns
unfolding right_part steps stated
right_part-returns t c = rw (← c.in_ok-s1.ensures, c.in-Some.is, ← c.is.ensures, c.if-is.false, c.in-Some-first.is, ← c.other.ensures)
    (rw (← c.cite-2.ensures, ← c.iend-2.ensures))

pub two_parts-returns-in_err-s1 : goal.two_parts-returns-in_err-s1
unfolding two_parts steps stated
two_parts-returns-in_err-s1 t c = rw (law.residual _ _ c.from_residual.ensures.1, ← c.in_err-s1.ensures)

pub two_parts-returns-in_default : goal.two_parts-returns-in_default
unfolding two_parts steps stated
two_parts-returns-in_default t c = rw (← c.in_ok-s1.ensures, c.in_default.is, ← c.right_part.ensures)

pub two_parts-returns-then-is : goal.two_parts-returns-then-is
unfolding two_parts steps stated
two_parts-returns-then-is t c = rw (← c.in_ok-s1.ensures, c.in-Some.is, ← c.is.ensures, c.if-is.true, ← c.cite.ensures, ← c.iend.ensures)

pub two_parts-returns : goal.two_parts-returns
unfolding two_parts steps stated
two_parts-returns t c = rw (← c.in_ok-s1.ensures, c.in-Some.is, ← c.is.ensures, c.if-is.false, ← c.right_part-2.ensures)
