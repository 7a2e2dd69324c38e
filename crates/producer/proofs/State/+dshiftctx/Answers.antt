-- Made by tools/prove.py: to make it again, run `python3 tools/prove.py producer`.
use Rattle.std.proofs.Common.{refl}
use Rattle.producer.specs.Contexts.{context_row, dshiftctx_body}
use Rattle.producer.proofs.At as law
use Rattle.producer.proofs.Steps.{steps, stated}
use Rattle.producer.proofs.State.+dshiftctx.Goals as goal

pub returns-then-left-eq0 : goal.returns-then-left-eq0
unfolding dshiftctx_body context_row steps stated
returns-then-left-eq0 t c = rw (law.dshiftctx_none _ _ _ c.if-left-eq0.true, c.refused.ensures)

pub returns-in_err-s : goal.returns-in_err-s
unfolding dshiftctx_body context_row steps stated
returns-in_err-s t c = rw (law.dshiftctx_in _ _ _ c.if-left-eq0.false, ← c.deeper-s0.ensures, ← c.read-cell.ensures, law.kind_is _ c.of.ensures c.in-Nil.is, ← c.quote-to.ensures, ← c.cite.ensures)
    (rw (law.residual _ _ c.from_residual.ensures.1, ← c.in_err-s.ensures))

pub returns-in-Nil : goal.returns-in-Nil
unfolding dshiftctx_body context_row steps stated
returns-in-Nil t c = rw (law.dshiftctx_in _ _ _ c.if-left-eq0.false, ← c.deeper-s0.ensures, ← c.read-cell.ensures, law.kind_is _ c.of.ensures c.in-Nil.is, ← c.quote-to.ensures, ← c.cite.ensures)
    (rw (← c.in_ok-s.ensures))

pub returns-in_err-s1 : goal.returns-in_err-s1
unfolding dshiftctx_body context_row steps stated
returns-in_err-s1 t c = rw (law.dshiftctx_in _ _ _ c.if-left-eq0.false, ← c.deeper-s0.ensures, ← c.read-cell.ensures, law.kind_isnt _ c.of.ensures c.in_default.not-Nil refl, law.residual _ _ c.from_residual-in_err-s1.ensures.1, ← c.in_err-s1.ensures)

pub returns-in_err-s2 : goal.returns-in_err-s2
unfolding dshiftctx_body context_row steps stated
returns-in_err-s2 t c = rw (law.dshiftctx_in _ _ _ c.if-left-eq0.false, ← c.deeper-s0.ensures, ← c.read-cell.ensures, law.kind_isnt _ c.of.ensures c.in_default.not-Nil refl, ← c.in_ok-s1.ensures, law.residual _ _ c.from_residual-in_err-s2.ensures.1)
    (rw (← c.in_err-s2.ensures))

pub returns-in_err-s3 : goal.returns-in_err-s3
unfolding dshiftctx_body context_row steps stated
returns-in_err-s3 t c = rw (law.dshiftctx_in _ _ _ c.if-left-eq0.false, ← c.deeper-s0.ensures, ← c.read-cell.ensures, law.kind_isnt _ c.of.ensures c.in_default.not-Nil refl, ← c.in_ok-s1.ensures, ← c.in_ok-s2.ensures)
    (rw (law.node c.new.ensures, law.residual _ _ c.from_residual-in_err-s3.ensures.1, ← c.in_err-s3.ensures))

pub returns-in_err-s-2 : goal.returns-in_err-s-2
unfolding dshiftctx_body context_row steps stated
returns-in_err-s-2 t c = rw (law.dshiftctx_in _ _ _ c.if-left-eq0.false, ← c.deeper-s0.ensures, ← c.read-cell.ensures, law.kind_isnt _ c.of.ensures c.in_default.not-Nil refl, ← c.in_ok-s1.ensures, ← c.in_ok-s2.ensures)
    (rw (law.node c.new.ensures, ← c.in_ok-s3.ensures, ← c.quote-to-2.ensures, ← c.cite-2.ensures, law.residual _ _ c.from_residual-in_err-s-2.ensures.1, ← c.in_err-s-2.ensures))

pub returns : goal.returns
unfolding dshiftctx_body context_row steps stated
returns t c = rw (law.dshiftctx_in _ _ _ c.if-left-eq0.false, ← c.deeper-s0.ensures, ← c.read-cell.ensures, law.kind_isnt _ c.of.ensures c.in_default.not-Nil refl, ← c.in_ok-s1.ensures, ← c.in_ok-s2.ensures)
    (rw (law.node c.new.ensures, ← c.in_ok-s3.ensures, ← c.quote-to-2.ensures, ← c.cite-2.ensures, ← c.in_ok-s-2.ensures))
