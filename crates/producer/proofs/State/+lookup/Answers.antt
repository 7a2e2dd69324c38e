-- Made by tools/prove.py: to make it again, run `python3 tools/prove.py producer`.
use Rattle.std.proofs.Common.{refl}
use borrow.Author.Tests.{eq-eqb, ne_eqb}
use Rattle.producer.specs.Contexts.{context_row, lookup_body}
use Rattle.producer.proofs.At as law
use Rattle.producer.proofs.Steps.{steps, stated}
use Rattle.producer.proofs.State.+lookup.Goals as goal

pub returns-then-left-eq0 : goal.returns-then-left-eq0
unfolding lookup_body context_row steps stated
returns-then-left-eq0 t c = rw (law.lookup_none _ _ _ _ c.if-left-eq0.true, c.refused.ensures)

pub returns-in-Nil : goal.returns-in-Nil
unfolding lookup_body context_row steps stated
returns-in-Nil t c = rw (law.lookup_in _ _ _ _ c.if-left-eq0.false, ← c.deeper-s0.ensures, ← c.read-cell.ensures, law.kind_is _ c.of.ensures c.in-Nil.is, c.refused-in-Nil.ensures)

pub returns-in_err-s1 : goal.returns-in_err-s1
unfolding lookup_body context_row steps stated
returns-in_err-s1 t c = rw (law.lookup_in _ _ _ _ c.if-left-eq0.false, ← c.deeper-s0.ensures, ← c.read-cell.ensures, law.kind_isnt _ c.of.ensures c.in_default.not-Nil refl, eq-eqb _ _ c.if-n-eq0.true, law.residual _ _ c.from_residual.ensures.1)
    (rw (← c.in_err-s1.ensures))

pub returns-in_err-s : goal.returns-in_err-s
unfolding lookup_body context_row steps stated
returns-in_err-s t c = rw (law.lookup_in _ _ _ _ c.if-left-eq0.false, ← c.deeper-s0.ensures, ← c.read-cell.ensures, law.kind_isnt _ c.of.ensures c.in_default.not-Nil refl, eq-eqb _ _ c.if-n-eq0.true, ← c.in_ok-s1.ensures)
    (rw (← c.quote-to.ensures, ← c.cite.ensures, law.residual _ _ c.from_residual-in_err-s.ensures.1, ← c.in_err-s.ensures))

pub returns-then-n-eq0 : goal.returns-then-n-eq0
unfolding lookup_body context_row steps stated
returns-then-n-eq0 t c = rw (law.lookup_in _ _ _ _ c.if-left-eq0.false, ← c.deeper-s0.ensures, ← c.read-cell.ensures, law.kind_isnt _ c.of.ensures c.in_default.not-Nil refl, eq-eqb _ _ c.if-n-eq0.true, ← c.in_ok-s1.ensures)
    (rw (← c.quote-to.ensures, ← c.cite.ensures, ← c.in_ok-s.ensures))

pub returns-in_err-s2 : goal.returns-in_err-s2
unfolding lookup_body context_row steps stated
returns-in_err-s2 t c = rw (law.lookup_in _ _ _ _ c.if-left-eq0.false, ← c.deeper-s0.ensures, ← c.read-cell.ensures, law.kind_isnt _ c.of.ensures c.in_default.not-Nil refl, ne_eqb _ _ c.if-n-eq0.false, law.residual _ _ c.from_residual-in_err-s2.ensures.1)
    (rw (← c.in_err-s2.ensures))

pub returns-in_err-s3 : goal.returns-in_err-s3
unfolding lookup_body context_row steps stated
returns-in_err-s3 t c = rw (law.lookup_in _ _ _ _ c.if-left-eq0.false, ← c.deeper-s0.ensures, ← c.read-cell.ensures, law.kind_isnt _ c.of.ensures c.in_default.not-Nil refl, ne_eqb _ _ c.if-n-eq0.false, ← c.in_ok-s2.ensures)
    (rw (law.residual _ _ c.from_residual-in_err-s3.ensures.1, ← c.in_err-s3.ensures))

pub returns-in_err-s-2 : goal.returns-in_err-s-2
unfolding lookup_body context_row steps stated
returns-in_err-s-2 t c = rw (law.lookup_in _ _ _ _ c.if-left-eq0.false, ← c.deeper-s0.ensures, ← c.read-cell.ensures, law.kind_isnt _ c.of.ensures c.in_default.not-Nil refl, ne_eqb _ _ c.if-n-eq0.false, ← c.in_ok-s2.ensures)
    (rw (← c.in_ok-s3.ensures, ← c.quote-to-2.ensures, ← c.cite-2.ensures, law.residual _ _ c.from_residual-in_err-s-2.ensures.1, ← c.in_err-s-2.ensures))

pub returns : goal.returns
unfolding lookup_body context_row steps stated
returns t c = rw (law.lookup_in _ _ _ _ c.if-left-eq0.false, ← c.deeper-s0.ensures, ← c.read-cell.ensures, law.kind_isnt _ c.of.ensures c.in_default.not-Nil refl, ne_eqb _ _ c.if-n-eq0.false, ← c.in_ok-s2.ensures)
    (rw (← c.in_ok-s3.ensures, ← c.quote-to-2.ensures, ← c.cite-2.ensures, ← c.in_ok-s-2.ensures))
