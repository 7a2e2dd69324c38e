-- Made by tools/prove.py: to make it again, run `python3 tools/prove.py producer`.
use Rattle.std.proofs.Common.{arith, refl}
use borrow.Author.Tests.{eq-eqb, le-ltb, lt-ltb, ne_eqb}
use Rattle.ast.specs.Words.{up}
use Rattle.producer.specs.Equality.{along, at_end, at_ends, at_val, beta, equal_body, equal_normal, fst_beta, normal_by, normalize_body, pbeta, reduce_body, reduce_papp, round, snd_beta}
use Rattle.producer.specs.Machine.{known_or, known_row}
use Rattle.producer.specs.Typing.{as_path, as_pi, as_sigma, check_body, converted, ctx_body, ctx_cons, expose_body, exposed, find, find_app, find_atom, find_binder, find_compound, find_fst, find_lam, find_pair, find_papp, find_path, find_plam, find_snd, find_var, headed, infer_body, new_infer, pair_typed, path_ends, plam_ends, retyped, universe_body}
use Rattle.producer.proofs.At as law
use Rattle.producer.proofs.Steps.{steps, stated}
use Rattle.producer.proofs.State.+typing.Goals as goal

pub along-returns-in_err-s1 : goal.along-returns-in_err-s1
unfolding along at_ends as_path steps stated
along-returns-in_err-s1 t c = rw (law.residual _ _ c.from_residual.ensures.1, ← c.in_err-s1.ensures)

pub along-returns-in_default : goal.along-returns-in_default
unfolding along at_ends as_path steps stated
along-returns-in_default t c = rw (← c.in_ok-s1.ensures, ← c.shape_of.ensures, law.not_path _ c.in_default.not-Path, c.refused.ensures)

pub along-returns-in_err-s2 : goal.along-returns-in_err-s2
unfolding along at_ends as_path steps stated
along-returns-in_err-s2 t c = rw (← c.in_ok-s1.ensures, ← c.shape_of.ensures, c.in-Path.is, law.residual _ _ c.from_residual-in_err-s2.ensures.1, ← c.in_err-s2.ensures)

pub along-returns-in-Plam : goal.along-returns-in-Plam
unfolding along at_ends as_path steps stated
along-returns-in-Plam t c = rw (← c.in_ok-s1.ensures, ← c.shape_of.ensures, c.in-Path.is, ← c.in_ok-s2.ensures, ← c.shape_of-2.ensures, c.in-Plam.is)
    (rw (← c.pbeta.ensures))

pub along-returns-in-I0 : goal.along-returns-in-I0
unfolding along at_ends as_path steps stated
along-returns-in-I0 t c = rw (← c.in_ok-s1.ensures, ← c.shape_of.ensures, c.in-Path.is, ← c.in_ok-s2.ensures, ← c.shape_of-2.ensures, law.not_plam _ c.in_default-shape_of.not-Plam)
    (rw (← c.read.ensures, law.kind_is _ c.of.ensures c.in-I0.is, ← c.step.ensures))

pub along-returns-in-I1 : goal.along-returns-in-I1
unfolding along at_ends as_path steps stated
along-returns-in-I1 t c = rw (← c.in_ok-s1.ensures, ← c.shape_of.ensures, c.in-Path.is, ← c.in_ok-s2.ensures, ← c.shape_of-2.ensures, law.not_plam _ c.in_default-shape_of.not-Plam)
    (rw (← c.read.ensures, law.kind_is _ c.of.ensures c.in-I1.is, ← c.step-in-I1.ensures))

pub along-returns-in_default-of : goal.along-returns-in_default-of
unfolding along at_ends as_path steps stated
along-returns-in_default-of t c = rw (← c.in_ok-s1.ensures, ← c.shape_of.ensures, c.in-Path.is, ← c.in_ok-s2.ensures, ← c.shape_of-2.ensures, law.not_plam _ c.in_default-shape_of.not-Plam)
    (rw (← c.read.ensures, law.kind_isnt _ c.of.ensures c.in_default-of.not-I0 refl, law.kind_isnt _ c.of.ensures c.in_default-of.not-I1 refl))

pub app-returns-in_err-s1 : goal.app-returns-in_err-s1
unfolding find_app as_pi steps stated
app-returns-in_err-s1 t c = rw (law.residual _ _ c.from_residual.ensures.1, ← c.in_err-s1.ensures)

pub app-returns-in_default : goal.app-returns-in_default
unfolding find_app as_pi steps stated
app-returns-in_default t c = rw (← c.in_ok-s1.ensures, ← c.shape_of.ensures, law.not_pi _ c.in_default.not-Pi, c.refused.ensures)

pub app-returns-in_err-s2 : goal.app-returns-in_err-s2
unfolding find_app as_pi steps stated
app-returns-in_err-s2 t c = rw (← c.in_ok-s1.ensures, ← c.shape_of.ensures, c.in-Pi.is, law.residual _ _ c.from_residual-in_err-s2.ensures.1, ← c.in_err-s2.ensures)

pub app-returns-in_err-s3 : goal.app-returns-in_err-s3
unfolding find_app as_pi steps stated
app-returns-in_err-s3 t c = rw (← c.in_ok-s1.ensures, ← c.shape_of.ensures, c.in-Pi.is, ← c.in_ok-s2.ensures, law.residual _ _ c.from_residual-in_err-s3.ensures.1, ← c.in_err-s3.ensures)

pub app-returns : goal.app-returns
unfolding find_app as_pi steps stated
app-returns t c = rw (← c.in_ok-s1.ensures, ← c.shape_of.ensures, c.in-Pi.is, ← c.in_ok-s2.ensures, ← c.in_ok-s3.ensures, ← c.cite.ensures)

pub atom-returns-in_err-s1 : goal.atom-returns-in_err-s1
unfolding find_atom steps stated
atom-returns-in_err-s1 t c = rw (law.residual _ _ c.from_residual.ensures.1, ← c.in_err-s1.ensures)

pub atom-returns-in_err-s2 : goal.atom-returns-in_err-s2
unfolding find_atom steps stated
atom-returns-in_err-s2 t c = rw (← c.in_ok-s1.ensures, law.node c.new.ensures, law.residual _ _ c.from_residual-in_err-s2.ensures.1, ← c.in_err-s2.ensures)

pub atom-returns : goal.atom-returns
unfolding find_atom steps stated
atom-returns t c = rw (← c.in_ok-s1.ensures, law.node c.new.ensures, ← c.in_ok-s2.ensures, ← c.cite.ensures)

pub beta-returns-in_err-s1 : goal.beta-returns-in_err-s1
unfolding beta steps stated
beta-returns-in_err-s1 t c = rw (law.residual _ _ c.from_residual.ensures.1, ← c.in_err-s1.ensures)

pub beta-returns-in_err-s2 : goal.beta-returns-in_err-s2
unfolding beta steps stated
beta-returns-in_err-s2 t c = rw (← c.in_ok-s1.ensures, law.node c.new-context.ensures, law.residual _ _ c.from_residual-in_err-s2.ensures.1, ← c.in_err-s2.ensures)

pub beta-returns-in_err-s3 : goal.beta-returns-in_err-s3
unfolding beta steps stated
beta-returns-in_err-s3 t c = rw (← c.in_ok-s1.ensures, law.node c.new-context.ensures, ← c.in_ok-s2.ensures, law.residual _ _ c.from_residual-in_err-s3.ensures.1, ← c.in_err-s3.ensures)

pub beta-returns-in_err-s4 : goal.beta-returns-in_err-s4
unfolding beta steps stated
beta-returns-in_err-s4 t c = rw (← c.in_ok-s1.ensures, law.node c.new-context.ensures, ← c.in_ok-s2.ensures, ← c.in_ok-s3.ensures, law.residual _ _ c.from_residual-in_err-s4.ensures.1, ← c.in_err-s4.ensures)

pub beta-returns-in_err-s5 : goal.beta-returns-in_err-s5
unfolding beta steps stated
beta-returns-in_err-s5 t c = rw (← c.in_ok-s1.ensures, law.node c.new-context.ensures, ← c.in_ok-s2.ensures, ← c.in_ok-s3.ensures, ← c.in_ok-s4.ensures, law.residual _ _ c.from_residual-in_err-s5.ensures.1)
    (rw (← c.in_err-s5.ensures))

pub beta-returns-in_err-s6 : goal.beta-returns-in_err-s6
unfolding beta steps stated
beta-returns-in_err-s6 t c = rw (← c.in_ok-s1.ensures, law.node c.new-context.ensures, ← c.in_ok-s2.ensures, ← c.in_ok-s3.ensures, ← c.in_ok-s4.ensures, ← c.in_ok-s5.ensures)
    (rw (law.residual _ _ c.from_residual-in_err-s6.ensures.1, ← c.in_err-s6.ensures))

pub beta-returns : goal.beta-returns
unfolding beta steps stated
beta-returns t c = rw (← c.in_ok-s1.ensures, law.node c.new-context.ensures, ← c.in_ok-s2.ensures, ← c.in_ok-s3.ensures, ← c.in_ok-s4.ensures, ← c.in_ok-s5.ensures)
    (rw (← c.in_ok-s6.ensures, ← c.beta_row.ensures))

pub check-returns-then-left-eq0 : goal.check-returns-then-left-eq0
unfolding check_body steps stated
check-returns-then-left-eq0 t c = rw (law.check_none _ _ _ _ _ _ c.if-left-eq0.true, c.refused.ensures)

pub check-returns-in_err-s1 : goal.check-returns-in_err-s1
unfolding check_body steps stated
check-returns-in_err-s1 t c = rw (law.check_in _ _ _ _ _ _ c.if-left-eq0.false, ← c.deeper-s0.ensures, law.residual _ _ c.from_residual.ensures.1, ← c.in_err-s1.ensures)

pub check-returns-then-same_quote : goal.check-returns-then-same_quote
unfolding check_body steps stated
check-returns-then-same_quote t c = rw (law.check_in _ _ _ _ _ _ c.if-left-eq0.false, ← c.deeper-s0.ensures, ← c.in_ok-s1.ensures, ← c.same_quote.ensures, c.if-same_quote.true)

pub check-returns-then-s1-ge32 : goal.check-returns-then-s1-ge32
unfolding check_body steps stated
check-returns-then-s1-ge32 t c = rw (law.check_in _ _ _ _ _ _ c.if-left-eq0.false, ← c.deeper-s0.ensures, ← c.in_ok-s1.ensures, ← c.same_quote.ensures, c.if-same_quote.false, le-ltb _ _ c.if-s1-ge32.true)
    (rw (c.refused-then-s1-ge32.ensures))

pub check-returns : goal.check-returns
unfolding check_body steps stated
check-returns t c = rw (law.check_in _ _ _ _ _ _ c.if-left-eq0.false, ← c.deeper-s0.ensures, ← c.in_ok-s1.ensures, ← c.same_quote.ensures, c.if-same_quote.false, lt-ltb _ _ c.if-s1-ge32.false)
    (rw (← c.converting-s2.ensures, ← c.conv.ensures, law.ended_end _ _ _, ← c.ended.ensures))

pub conv-returns-in_err-s1 : goal.conv-returns-in_err-s1
unfolding converted steps stated
conv-returns-in_err-s1 t c = rw (law.residual _ _ c.from_residual.ensures.1, ← c.in_err-s1.ensures)

pub conv-returns-in_err-s2 : goal.conv-returns-in_err-s2
unfolding converted steps stated
conv-returns-in_err-s2 t c = rw (← c.in_ok-s1.ensures, law.residual _ _ c.from_residual-in_err-s2.ensures.1, ← c.in_err-s2.ensures)

pub conv-returns-then-i-j : goal.conv-returns-then-i-j
unfolding converted steps stated
conv-returns-then-i-j t c = rw (← c.in_ok-s1.ensures, ← c.in_ok-s2.ensures, ne_eqb _ _ c.if-i-j.true, c.refused.ensures)

pub conv-returns-in_err-s3 : goal.conv-returns-in_err-s3
unfolding converted steps stated
conv-returns-in_err-s3 t c = rw (← c.in_ok-s1.ensures, ← c.in_ok-s2.ensures, eq-eqb _ _ c.if-i-j.false, law.node c.new.ensures, law.residual _ _ c.from_residual-in_err-s3.ensures.1, ← c.in_err-s3.ensures)

pub conv-returns-in_err-s4 : goal.conv-returns-in_err-s4
unfolding converted steps stated
conv-returns-in_err-s4 t c = rw (← c.in_ok-s1.ensures, ← c.in_ok-s2.ensures, eq-eqb _ _ c.if-i-j.false, law.node c.new.ensures, ← c.in_ok-s3.ensures, law.residual _ _ c.from_residual-in_err-s4.ensures.1)
    (rw (← c.in_err-s4.ensures))

pub conv-returns : goal.conv-returns
unfolding converted steps stated
conv-returns t c = rw (← c.in_ok-s1.ensures, ← c.in_ok-s2.ensures, eq-eqb _ _ c.if-i-j.false, law.node c.new.ensures, ← c.in_ok-s3.ensures, ← c.in_ok-s4.ensures)
    (rw (← c.cite.ensures, ← c.emit_has.ensures))

pub ctx-returns-then-left-eq0 : goal.ctx-returns-then-left-eq0
unfolding ctx_body known_row known_or ctx_cons steps stated
ctx-returns-then-left-eq0 t c = rw (law.ctx_none _ _ _ _ c.if-left-eq0.true, c.refused.ensures)

pub ctx-returns-in-Nil : goal.ctx-returns-in-Nil
unfolding ctx_body known_row known_or ctx_cons steps stated
ctx-returns-in-Nil t c = rw (law.ctx_in _ _ _ _ c.if-left-eq0.false, ← c.deeper-s0.ensures, ← c.read-cell.ensures, ← c.known.ensures, c.in-None.is, law.kind_is _ c.of.ensures c.in-Nil.is)
    (rw (← c.cite.ensures, ← c.emit.ensures))

pub ctx-returns-in_err-s1-in-None : goal.ctx-returns-in_err-s1-in-None
unfolding ctx_body known_row known_or ctx_cons steps stated
ctx-returns-in_err-s1-in-None t c = rw (law.ctx_in _ _ _ _ c.if-left-eq0.false, ← c.deeper-s0.ensures, ← c.read-cell.ensures, ← c.known.ensures, c.in-None.is, law.kind_isnt _ c.of.ensures c.in_default.not-Nil refl)
    (rw (law.residual _ _ c.from_residual.ensures.1, ← c.in_err-s1-in-None.ensures))

pub ctx-returns-in_err-s2-in-None : goal.ctx-returns-in_err-s2-in-None
unfolding ctx_body known_row known_or ctx_cons steps stated
ctx-returns-in_err-s2-in-None t c = rw (law.ctx_in _ _ _ _ c.if-left-eq0.false, ← c.deeper-s0.ensures, ← c.read-cell.ensures, ← c.known.ensures, c.in-None.is, law.kind_isnt _ c.of.ensures c.in_default.not-Nil refl)
    (rw (← c.in_ok-s1-in-None.ensures, law.residual _ _ c.from_residual-in_err-s2-in-None.ensures.1, ← c.in_err-s2-in-None.ensures))

pub ctx-returns-in-Some : goal.ctx-returns-in-Some
unfolding ctx_body known_row known_or ctx_cons steps stated
ctx-returns-in-Some t c = rw (law.ctx_in _ _ _ _ c.if-left-eq0.false, ← c.deeper-s0.ensures, ← c.read-cell.ensures, ← c.known.ensures, c.in-Some.is)

pub ctx-returns-in_ok-s2-in-None : goal.ctx-returns-in_ok-s2-in-None
unfolding ctx_body known_row known_or ctx_cons steps stated
ctx-returns-in_ok-s2-in-None t c = rw (law.ctx_in _ _ _ _ c.if-left-eq0.false, ← c.deeper-s0.ensures, ← c.read-cell.ensures, ← c.known.ensures, c.in-None.is, law.kind_isnt _ c.of.ensures c.in_default.not-Nil refl)
    (rw (← c.in_ok-s1-in-None.ensures, ← c.in_ok-s2-in-None.ensures, ← c.cite-in-None.ensures, ← c.emit-in-None.ensures))

pub equal-returns-then-left-eq0 : goal.equal-returns-then-left-eq0
unfolding equal_body equal_normal steps stated
equal-returns-then-left-eq0 t c = rw (law.equal_none _ _ _ _ _ _ _ c.if-left-eq0.true, c.refused.ensures)

pub equal-returns-in_err-s1 : goal.equal-returns-in_err-s1
unfolding equal_body equal_normal steps stated
equal-returns-in_err-s1 t c = rw (law.equal_in _ _ _ _ _ _ _ c.if-left-eq0.false, ← c.deeper-s0.ensures, law.residual _ _ c.from_residual.ensures.1, ← c.in_err-s1.ensures)

pub equal-returns-in_err-s2 : goal.equal-returns-in_err-s2
unfolding equal_body equal_normal steps stated
equal-returns-in_err-s2 t c = rw (law.equal_in _ _ _ _ _ _ _ c.if-left-eq0.false, ← c.deeper-s0.ensures, ← c.in_ok-s1.ensures, law.residual _ _ c.from_residual-in_err-s2.ensures.1, ← c.in_err-s2.ensures)

pub equal-returns-then-same_quote : goal.equal-returns-then-same_quote
unfolding equal_body equal_normal steps stated
equal-returns-then-same_quote t c = rw (law.equal_in _ _ _ _ _ _ _ c.if-left-eq0.false, ← c.deeper-s0.ensures, ← c.in_ok-s1.ensures, ← c.in_ok-s2.ensures, ← c.same_quote.ensures, c.if-same_quote.true)
    (rw (← c.cite.ensures, ← c.emit_eq.ensures))

pub equal-returns-in_err-s3 : goal.equal-returns-in_err-s3
unfolding equal_body equal_normal steps stated
equal-returns-in_err-s3 t c = rw (law.equal_in _ _ _ _ _ _ _ c.if-left-eq0.false, ← c.deeper-s0.ensures, ← c.in_ok-s1.ensures, ← c.in_ok-s2.ensures, ← c.same_quote.ensures, c.if-same_quote.false)
    (rw (law.residual _ _ c.from_residual-in_err-s3.ensures.1, ← c.in_err-s3.ensures))

pub equal-returns-in_err-s4 : goal.equal-returns-in_err-s4
unfolding equal_body equal_normal steps stated
equal-returns-in_err-s4 t c = rw (law.equal_in _ _ _ _ _ _ _ c.if-left-eq0.false, ← c.deeper-s0.ensures, ← c.in_ok-s1.ensures, ← c.in_ok-s2.ensures, ← c.same_quote.ensures, c.if-same_quote.false)
    (rw (← c.in_ok-s3.ensures, law.residual _ _ c.from_residual-in_err-s4.ensures.1, ← c.in_err-s4.ensures))

pub equal-returns-in_err-s5 : goal.equal-returns-in_err-s5
unfolding equal_body equal_normal steps stated
equal-returns-in_err-s5 t c = rw (law.equal_in _ _ _ _ _ _ _ c.if-left-eq0.false, ← c.deeper-s0.ensures, ← c.in_ok-s1.ensures, ← c.in_ok-s2.ensures, ← c.same_quote.ensures, c.if-same_quote.false)
    (rw (← c.in_ok-s3.ensures, ← c.in_ok-s4.ensures, ← c.same_quote-2.ensures, c.if-same_quote-2.true, ← c.cite-reversed.ensures, law.residual _ _ c.from_residual-in_err-s5.ensures.1)
    (rw (← c.in_err-s5.ensures)))

pub equal-returns-then-same_quote-2 : goal.equal-returns-then-same_quote-2
unfolding equal_body equal_normal steps stated
equal-returns-then-same_quote-2 t c = rw (law.equal_in _ _ _ _ _ _ _ c.if-left-eq0.false, ← c.deeper-s0.ensures, ← c.in_ok-s1.ensures, ← c.in_ok-s2.ensures, ← c.same_quote.ensures, c.if-same_quote.false)
    (rw (← c.in_ok-s3.ensures, ← c.in_ok-s4.ensures, ← c.same_quote-2.ensures, c.if-same_quote-2.true, ← c.cite-reversed.ensures, ← c.in_ok-s5.ensures)
    (rw (← c.cite-then-same_quote-2.ensures, ← c.emit_eq-then-same_quote-2-2.ensures)))

pub equal-returns : goal.equal-returns
unfolding equal_body equal_normal steps stated
equal-returns t c = rw (law.equal_in _ _ _ _ _ _ _ c.if-left-eq0.false, ← c.deeper-s0.ensures, ← c.in_ok-s1.ensures, ← c.in_ok-s2.ensures, ← c.same_quote.ensures, c.if-same_quote.false)
    (rw (← c.in_ok-s3.ensures, ← c.in_ok-s4.ensures, ← c.same_quote-2.ensures, c.if-same_quote-2.false, c.refused-2.ensures))

pub expose-returns-then-left-eq0 : goal.expose-returns-then-left-eq0
unfolding expose_body retyped steps stated
expose-returns-then-left-eq0 t c = rw (law.expose_none _ _ _ _ _ _ _ c.if-left-eq0.true, c.refused.ensures)

pub expose-returns-in_err-s1 : goal.expose-returns-in_err-s1
unfolding expose_body retyped steps stated
expose-returns-in_err-s1 t c = rw (law.expose_in _ _ _ _ _ _ _ c.if-left-eq0.false, ← c.deeper-s0.ensures, law.residual _ _ c.from_residual.ensures.1, ← c.in_err-s1.ensures)

pub expose-returns-in_err-s2 : goal.expose-returns-in_err-s2
unfolding expose_body retyped steps stated
expose-returns-in_err-s2 t c = rw (law.expose_in _ _ _ _ _ _ _ c.if-left-eq0.false, ← c.deeper-s0.ensures, ← c.in_ok-s1.ensures, law.node c.new-universe.ensures, law.residual _ _ c.from_residual-in_err-s2.ensures.1, ← c.in_err-s2.ensures)

pub expose-returns-in_err-s3 : goal.expose-returns-in_err-s3
unfolding expose_body retyped steps stated
expose-returns-in_err-s3 t c = rw (law.expose_in _ _ _ _ _ _ _ c.if-left-eq0.false, ← c.deeper-s0.ensures, ← c.in_ok-s1.ensures, law.node c.new-universe.ensures, ← c.in_ok-s2.ensures, law.residual _ _ c.from_residual-in_err-s3.ensures.1)
    (rw (← c.in_err-s3.ensures))

pub expose-returns-then-same_quote : goal.expose-returns-then-same_quote
unfolding expose_body retyped steps stated
expose-returns-then-same_quote t c = rw (law.expose_in _ _ _ _ _ _ _ c.if-left-eq0.false, ← c.deeper-s0.ensures, ← c.in_ok-s1.ensures, law.node c.new-universe.ensures, ← c.in_ok-s2.ensures, ← c.in_ok-s3.ensures)
    (rw (← c.same_quote.ensures, c.if-same_quote.true))

pub expose-returns-in_err-s4 : goal.expose-returns-in_err-s4
unfolding expose_body retyped steps stated
expose-returns-in_err-s4 t c = rw (law.expose_in _ _ _ _ _ _ _ c.if-left-eq0.false, ← c.deeper-s0.ensures, ← c.in_ok-s1.ensures, law.node c.new-universe.ensures, ← c.in_ok-s2.ensures, ← c.in_ok-s3.ensures)
    (rw (← c.same_quote.ensures, c.if-same_quote.false, law.residual _ _ c.from_residual-in_err-s4.ensures.1, ← c.in_err-s4.ensures))

pub expose-returns-in_err-s5 : goal.expose-returns-in_err-s5
unfolding expose_body retyped steps stated
expose-returns-in_err-s5 t c = rw (law.expose_in _ _ _ _ _ _ _ c.if-left-eq0.false, ← c.deeper-s0.ensures, ← c.in_ok-s1.ensures, law.node c.new-universe.ensures, ← c.in_ok-s2.ensures, ← c.in_ok-s3.ensures)
    (rw (← c.same_quote.ensures, c.if-same_quote.false, ← c.in_ok-s4.ensures, law.residual _ _ c.from_residual-in_err-s5.ensures.1, ← c.in_err-s5.ensures))

pub expose-returns-in_err-s6 : goal.expose-returns-in_err-s6
unfolding expose_body retyped steps stated
expose-returns-in_err-s6 t c = rw (law.expose_in _ _ _ _ _ _ _ c.if-left-eq0.false, ← c.deeper-s0.ensures, ← c.in_ok-s1.ensures, law.node c.new-universe.ensures, ← c.in_ok-s2.ensures, ← c.in_ok-s3.ensures)
    (rw (← c.same_quote.ensures, c.if-same_quote.false, ← c.in_ok-s4.ensures, ← c.in_ok-s5.ensures, ← c.cite.ensures, law.residual _ _ c.from_residual-in_err-s6.ensures.1)
    (rw (← c.in_err-s6.ensures)))

pub expose-returns : goal.expose-returns
unfolding expose_body retyped steps stated
expose-returns t c = rw (law.expose_in _ _ _ _ _ _ _ c.if-left-eq0.false, ← c.deeper-s0.ensures, ← c.in_ok-s1.ensures, law.node c.new-universe.ensures, ← c.in_ok-s2.ensures, ← c.in_ok-s3.ensures)
    (rw (← c.same_quote.ensures, c.if-same_quote.false, ← c.in_ok-s4.ensures, ← c.in_ok-s5.ensures, ← c.cite.ensures, ← c.in_ok-s6.ensures))

pub find-returns-in-Universe : goal.find-returns-in-Universe
unfolding find find_compound up steps stated
find-returns-in-Universe t c = rw (← c.read-cell.ensures, law.kind_is _ c.of.ensures c.in-Universe.is, ← c.atom.ensures)

pub find-returns-in-Var : goal.find-returns-in-Var
unfolding find find_compound up steps stated
find-returns-in-Var t c = rw (← c.read-cell.ensures, law.kind_is _ c.of.ensures c.in-Var.is, ← c.var.ensures)

pub find-returns-in-Nat : goal.find-returns-in-Nat
unfolding find find_compound up steps stated
find-returns-in-Nat t c = rw (← c.read-cell.ensures, law.kind_is _ c.of.ensures c.in-Nat.is, ← c.atom-in-Nat.ensures)

pub find-returns-in-Zero : goal.find-returns-in-Zero
unfolding find find_compound up steps stated
find-returns-in-Zero t c = rw (← c.read-cell.ensures, law.kind_is _ c.of.ensures c.in-Zero.is, ← c.atom-in-Zero.ensures)

pub find-returns-in-Pi : goal.find-returns-in-Pi
unfolding find find_compound up steps stated
find-returns-in-Pi t c = rw (← c.read-cell.ensures, law.kind_is _ c.of.ensures c.in-Pi.is, ← c.pi.ensures)

pub find-returns-in-Lam : goal.find-returns-in-Lam
unfolding find find_compound up steps stated
find-returns-in-Lam t c = rw (← c.read-cell.ensures, law.kind_is _ c.of.ensures c.in-Lam.is, ← c.lam.ensures)

pub find-returns-in-App : goal.find-returns-in-App
unfolding find find_compound up steps stated
find-returns-in-App t c = rw (← c.read-cell.ensures, law.kind_is _ c.of.ensures c.in-App.is, ← c.app.ensures)

pub find-returns-in-Path : goal.find-returns-in-Path
unfolding find find_compound up steps stated
find-returns-in-Path t c = rw (← c.read-cell.ensures, law.kind_is _ c.of.ensures c.in-Path.is, ← c.path.ensures)

pub find-returns-in-Plam : goal.find-returns-in-Plam
unfolding find find_compound up steps stated
find-returns-in-Plam t c = rw (← c.read-cell.ensures, law.kind_is _ c.of.ensures c.in-Plam.is, ← c.plam.ensures)

pub find-returns-in-Sigma : goal.find-returns-in-Sigma
unfolding find find_compound up steps stated
find-returns-in-Sigma t c = rw (← c.read-cell.ensures, law.kind_is _ c.of.ensures c.in-Sigma.is, ← c.pi-in-Sigma.ensures)

pub find-returns-in-Pair : goal.find-returns-in-Pair
unfolding find find_compound up steps stated
find-returns-in-Pair t c = rw (← c.read-cell.ensures, law.kind_is _ c.of.ensures c.in-Pair.is, ← c.pair.ensures)

pub find-returns-in-Fst : goal.find-returns-in-Fst
unfolding find find_compound up steps stated
find-returns-in-Fst t c = rw (← c.read-cell.ensures, law.kind_is _ c.of.ensures c.in-Fst.is, ← c.fst.ensures)

pub find-returns-in-Snd : goal.find-returns-in-Snd
unfolding find find_compound up steps stated
find-returns-in-Snd t c = rw (← c.read-cell.ensures, law.kind_is _ c.of.ensures c.in-Snd.is, ← c.snd.ensures)

pub find-returns-in_default : goal.find-returns-in_default
unfolding find find_compound up steps stated
find-returns-in_default t c = rw (← c.read-cell.ensures, law.kind_isnt _ c.of.ensures c.in_default.not-Universe refl, law.kind_isnt _ c.of.ensures c.in_default.not-Var refl, law.kind_isnt _ c.of.ensures c.in_default.not-Nat refl, law.kind_isnt _ c.of.ensures c.in_default.not-Zero refl, law.kind_isnt _ c.of.ensures c.in_default.not-Pi refl)
    (rw (law.kind_isnt _ c.of.ensures c.in_default.not-Lam refl, law.kind_isnt _ c.of.ensures c.in_default.not-App refl, law.kind_isnt _ c.of.ensures c.in_default.not-Path refl, law.kind_isnt _ c.of.ensures c.in_default.not-Plam refl, law.kind_isnt _ c.of.ensures c.in_default.not-Sigma refl, law.kind_isnt _ c.of.ensures c.in_default.not-Pair refl)
    (rw (law.kind_isnt _ c.of.ensures c.in_default.not-Fst refl, law.kind_isnt _ c.of.ensures c.in_default.not-Snd refl, ← c.papp.ensures)))

pub fst-returns-in_err-s1 : goal.fst-returns-in_err-s1
unfolding find_fst as_sigma steps stated
fst-returns-in_err-s1 t c = rw (law.residual _ _ c.from_residual.ensures.1, ← c.in_err-s1.ensures)

pub fst-returns-in_default : goal.fst-returns-in_default
unfolding find_fst as_sigma steps stated
fst-returns-in_default t c = rw (← c.in_ok-s1.ensures, ← c.shape_of.ensures, law.not_sigma _ c.in_default.not-Sigma, c.refused.ensures)

pub fst-returns-in_err-s2 : goal.fst-returns-in_err-s2
unfolding find_fst as_sigma steps stated
fst-returns-in_err-s2 t c = rw (← c.in_ok-s1.ensures, ← c.shape_of.ensures, c.in-Sigma.is, law.residual _ _ c.from_residual-in_err-s2.ensures.1, ← c.in_err-s2.ensures)

pub fst-returns : goal.fst-returns
unfolding find_fst as_sigma steps stated
fst-returns t c = rw (← c.in_ok-s1.ensures, ← c.shape_of.ensures, c.in-Sigma.is, ← c.in_ok-s2.ensures, ← c.cite.ensures)

pub head-returns-in_err-s1 : goal.head-returns-in_err-s1
unfolding headed steps stated
head-returns-in_err-s1 t c = rw (law.residual _ _ c.from_residual.ensures.1, ← c.in_err-s1.ensures)

pub head-returns-then-read-number : goal.head-returns-then-read-number
unfolding headed steps stated
head-returns-then-read-number t c = rw (← c.in_ok-s1.ensures, ← c.read.ensures, ← c.number.ensures, eq-eqb _ _ c.if-read-number.true)

pub head-returns-then-s1-ge32 : goal.head-returns-then-s1-ge32
unfolding headed steps stated
head-returns-then-s1-ge32 t c = rw (← c.in_ok-s1.ensures, ← c.read.ensures, ← c.number.ensures, ne_eqb _ _ c.if-read-number.false, le-ltb _ _ c.if-s1-ge32.true, c.refused.ensures)

pub head-returns : goal.head-returns
unfolding headed steps stated
head-returns t c = rw (← c.in_ok-s1.ensures, ← c.read.ensures, ← c.number.ensures, ne_eqb _ _ c.if-read-number.false, lt-ltb _ _ c.if-s1-ge32.false, ← c.converting-s2.ensures)
    (rw (← c.expose.ensures, law.ended_end _ _ _, ← c.ended.ensures))

pub infer-returns-then-left-eq0 : goal.infer-returns-then-left-eq0
unfolding infer_body new_infer steps stated
infer-returns-then-left-eq0 t c = rw (law.infer_none _ _ _ _ _ c.if-left-eq0.true, c.refused.ensures)

pub infer-returns-in_err-s1-in-None : goal.infer-returns-in_err-s1-in-None
unfolding infer_body new_infer steps stated
infer-returns-in_err-s1-in-None t c = rw (law.infer_in _ _ _ _ _ c.if-left-eq0.false, ← c.deeper-s0.ensures, ← c.recall.ensures, c.in-None.is, law.residual _ _ c.from_residual.ensures.1, ← c.in_err-s1-in-None.ensures)

pub infer-returns-in_err-s2-in-None : goal.infer-returns-in_err-s2-in-None
unfolding infer_body new_infer steps stated
infer-returns-in_err-s2-in-None t c = rw (law.infer_in _ _ _ _ _ c.if-left-eq0.false, ← c.deeper-s0.ensures, ← c.recall.ensures, c.in-None.is, ← c.in_ok-s1-in-None.ensures, law.residual _ _ c.from_residual-in_err-s2-in-None.ensures.1)
    (rw (← c.in_err-s2-in-None.ensures))

pub infer-returns-in_err-s3-in-None : goal.infer-returns-in_err-s3-in-None
unfolding infer_body new_infer steps stated
infer-returns-in_err-s3-in-None t c = rw (law.infer_in _ _ _ _ _ c.if-left-eq0.false, ← c.deeper-s0.ensures, ← c.recall.ensures, c.in-None.is, ← c.in_ok-s1-in-None.ensures, ← c.in_ok-s2-in-None.ensures)
    (rw (law.residual _ _ c.from_residual-in_err-s3-in-None.ensures.1, ← c.in_err-s3-in-None.ensures))

pub infer-returns-in-Some : goal.infer-returns-in-Some
unfolding infer_body new_infer steps stated
infer-returns-in-Some t c = rw (law.infer_in _ _ _ _ _ c.if-left-eq0.false, ← c.deeper-s0.ensures, ← c.recall.ensures, c.in-Some.is)

pub infer-returns-in_ok-s3-in-None : goal.infer-returns-in_ok-s3-in-None
unfolding infer_body new_infer steps stated
infer-returns-in_ok-s3-in-None t c = rw (law.infer_in _ _ _ _ _ c.if-left-eq0.false, ← c.deeper-s0.ensures, ← c.recall.ensures, c.in-None.is, ← c.in_ok-s1-in-None.ensures, ← c.in_ok-s2-in-None.ensures)
    (rw (← c.in_ok-s3-in-None.ensures))

pub lam-returns-in_err-s1 : goal.lam-returns-in_err-s1
unfolding find_lam steps stated
lam-returns-in_err-s1 t c = rw (law.residual _ _ c.from_residual.ensures.1, ← c.in_err-s1.ensures)

pub lam-returns-in_err-s2 : goal.lam-returns-in_err-s2
unfolding find_lam steps stated
lam-returns-in_err-s2 t c = rw (← c.in_ok-s1.ensures, law.node c.new-context.ensures, law.residual _ _ c.from_residual-in_err-s2.ensures.1, ← c.in_err-s2.ensures)

pub lam-returns-in_err-s3 : goal.lam-returns-in_err-s3
unfolding find_lam steps stated
lam-returns-in_err-s3 t c = rw (← c.in_ok-s1.ensures, law.node c.new-context.ensures, ← c.in_ok-s2.ensures, law.residual _ _ c.from_residual-in_err-s3.ensures.1, ← c.in_err-s3.ensures)

pub lam-returns-in_err-s4 : goal.lam-returns-in_err-s4
unfolding find_lam steps stated
lam-returns-in_err-s4 t c = rw (← c.in_ok-s1.ensures, law.node c.new-context.ensures, ← c.in_ok-s2.ensures, ← c.in_ok-s3.ensures, law.residual _ _ c.from_residual-in_err-s4.ensures.1, ← c.in_err-s4.ensures)

pub lam-returns-in_err-s5 : goal.lam-returns-in_err-s5
unfolding find_lam steps stated
lam-returns-in_err-s5 t c = rw (← c.in_ok-s1.ensures, law.node c.new-context.ensures, ← c.in_ok-s2.ensures, ← c.in_ok-s3.ensures, ← c.in_ok-s4.ensures, law.residual _ _ c.from_residual-in_err-s5.ensures.1)
    (rw (← c.in_err-s5.ensures))

pub lam-returns-in_err-s6 : goal.lam-returns-in_err-s6
unfolding find_lam steps stated
lam-returns-in_err-s6 t c = rw (← c.in_ok-s1.ensures, law.node c.new-context.ensures, ← c.in_ok-s2.ensures, ← c.in_ok-s3.ensures, ← c.in_ok-s4.ensures, ← c.in_ok-s5.ensures)
    (rw (law.node c.new.ensures, law.residual _ _ c.from_residual-in_err-s6.ensures.1, ← c.in_err-s6.ensures))

pub lam-returns : goal.lam-returns
unfolding find_lam steps stated
lam-returns t c = rw (← c.in_ok-s1.ensures, law.node c.new-context.ensures, ← c.in_ok-s2.ensures, ← c.in_ok-s3.ensures, ← c.in_ok-s4.ensures, ← c.in_ok-s5.ensures)
    (rw (law.node c.new.ensures, ← c.in_ok-s6.ensures, ← c.cite.ensures))

pub line-returns-in_err-s1 : goal.line-returns-in_err-s1
unfolding reduce_papp steps stated
line-returns-in_err-s1 t c = rw (law.residual _ _ c.from_residual.ensures.1, ← c.in_err-s1.ensures)

pub line-returns-in_default : goal.line-returns-in_default
unfolding reduce_papp steps stated
line-returns-in_default t c = rw (← c.in_ok-s1.ensures, c.in_default.is, ← c.along.ensures)

pub line-returns : goal.line-returns
unfolding reduce_papp steps stated
line-returns t c = rw (← c.in_ok-s1.ensures, c.in-Some.is, ← c.val.ensures)

pub normalize-returns-then-left-eq0 : goal.normalize-returns-then-left-eq0
unfolding normalize_body normal_by steps stated
normalize-returns-then-left-eq0 t c = rw (law.normalize_none _ _ _ _ _ _ c.if-left-eq0.true, c.refused.ensures)

pub normalize-returns-in_err-s1 : goal.normalize-returns-in_err-s1
unfolding normalize_body normal_by steps stated
normalize-returns-in_err-s1 t c = rw (law.normalize_in _ _ _ _ _ _ c.if-left-eq0.false, ← c.deeper-s0.ensures, law.residual _ _ c.from_residual.ensures.1, ← c.in_err-s1.ensures)

pub normalize-returns-in_err-s2 : goal.normalize-returns-in_err-s2
unfolding normalize_body normal_by steps stated
normalize-returns-in_err-s2 t c = rw (law.normalize_in _ _ _ _ _ _ c.if-left-eq0.false, ← c.deeper-s0.ensures, ← c.in_ok-s1.ensures, ← c.cite.ensures, law.residual _ _ c.from_residual-in_err-s2.ensures.1, ← c.in_err-s2.ensures)

pub normalize-returns : goal.normalize-returns
unfolding normalize_body normal_by steps stated
normalize-returns t c = rw (law.normalize_in _ _ _ _ _ _ c.if-left-eq0.false, ← c.deeper-s0.ensures, ← c.in_ok-s1.ensures, ← c.cite.ensures, ← c.in_ok-s2.ensures, ← c.turns.ensures)

pub pair-returns-in_default : goal.pair-returns-in_default
unfolding find_pair pair_typed steps stated
pair-returns-in_default t c = rw (← c.shape_of.ensures, law.not_sigma _ c.in_default.not-Sigma, c.refused.ensures)

pub pair-returns-in_err-s1 : goal.pair-returns-in_err-s1
unfolding find_pair pair_typed steps stated
pair-returns-in_err-s1 t c = rw (← c.shape_of.ensures, c.in-Sigma.is, law.residual _ _ c.from_residual.ensures.1, ← c.in_err-s1.ensures)

pub pair-returns-in_err-s2 : goal.pair-returns-in_err-s2
unfolding find_pair pair_typed steps stated
pair-returns-in_err-s2 t c = rw (← c.shape_of.ensures, c.in-Sigma.is, ← c.in_ok-s1.ensures, law.node c.new.ensures, law.residual _ _ c.from_residual-in_err-s2.ensures.1, ← c.in_err-s2.ensures)

pub pair-returns-in_err-s3 : goal.pair-returns-in_err-s3
unfolding find_pair pair_typed steps stated
pair-returns-in_err-s3 t c = rw (← c.shape_of.ensures, c.in-Sigma.is, ← c.in_ok-s1.ensures, law.node c.new.ensures, ← c.in_ok-s2.ensures, law.residual _ _ c.from_residual-in_err-s3.ensures.1)
    (rw (← c.in_err-s3.ensures))

pub pair-returns-in_err-s4 : goal.pair-returns-in_err-s4
unfolding find_pair pair_typed steps stated
pair-returns-in_err-s4 t c = rw (← c.shape_of.ensures, c.in-Sigma.is, ← c.in_ok-s1.ensures, law.node c.new.ensures, ← c.in_ok-s2.ensures, ← c.in_ok-s3.ensures)
    (rw (law.residual _ _ c.from_residual-in_err-s4.ensures.1, ← c.in_err-s4.ensures))

pub pair-returns-in_err-s5 : goal.pair-returns-in_err-s5
unfolding find_pair pair_typed steps stated
pair-returns-in_err-s5 t c = rw (← c.shape_of.ensures, c.in-Sigma.is, ← c.in_ok-s1.ensures, law.node c.new.ensures, ← c.in_ok-s2.ensures, ← c.in_ok-s3.ensures)
    (rw (← c.in_ok-s4.ensures, law.residual _ _ c.from_residual-in_err-s5.ensures.1, ← c.in_err-s5.ensures))

pub pair-returns-in_err-s6 : goal.pair-returns-in_err-s6
unfolding find_pair pair_typed steps stated
pair-returns-in_err-s6 t c = rw (← c.shape_of.ensures, c.in-Sigma.is, ← c.in_ok-s1.ensures, law.node c.new.ensures, ← c.in_ok-s2.ensures, ← c.in_ok-s3.ensures)
    (rw (← c.in_ok-s4.ensures, ← c.in_ok-s5.ensures, law.node c.new-2.ensures, law.residual _ _ c.from_residual-in_err-s6.ensures.1, ← c.in_err-s6.ensures))

pub pair-returns-in_err-s7 : goal.pair-returns-in_err-s7
unfolding find_pair pair_typed steps stated
pair-returns-in_err-s7 t c = rw (← c.shape_of.ensures, c.in-Sigma.is, ← c.in_ok-s1.ensures, law.node c.new.ensures, ← c.in_ok-s2.ensures, ← c.in_ok-s3.ensures)
    (rw (← c.in_ok-s4.ensures, ← c.in_ok-s5.ensures, law.node c.new-2.ensures, ← c.in_ok-s6.ensures, law.residual _ _ c.from_residual-in_err-s7.ensures.1, ← c.in_err-s7.ensures))

pub pair-returns-in_err-s8 : goal.pair-returns-in_err-s8
unfolding find_pair pair_typed steps stated
pair-returns-in_err-s8 t c = rw (← c.shape_of.ensures, c.in-Sigma.is, ← c.in_ok-s1.ensures, law.node c.new.ensures, ← c.in_ok-s2.ensures, ← c.in_ok-s3.ensures)
    (rw (← c.in_ok-s4.ensures, ← c.in_ok-s5.ensures, law.node c.new-2.ensures, ← c.in_ok-s6.ensures, ← c.in_ok-s7.ensures, law.residual _ _ c.from_residual-in_err-s8.ensures.1)
    (rw (← c.in_err-s8.ensures)))

pub pair-returns : goal.pair-returns
unfolding find_pair pair_typed steps stated
pair-returns t c = rw (← c.shape_of.ensures, c.in-Sigma.is, ← c.in_ok-s1.ensures, law.node c.new.ensures, ← c.in_ok-s2.ensures, ← c.in_ok-s3.ensures)
    (rw (← c.in_ok-s4.ensures, ← c.in_ok-s5.ensures, law.node c.new-2.ensures, ← c.in_ok-s6.ensures, ← c.in_ok-s7.ensures, ← c.in_ok-s8.ensures)
    (rw (← c.cite.ensures)))

pub papp-returns-in_err-s1 : goal.papp-returns-in_err-s1
unfolding find_papp as_path steps stated
papp-returns-in_err-s1 t c = rw (law.residual _ _ c.from_residual.ensures.1, ← c.in_err-s1.ensures)

pub papp-returns-in_default : goal.papp-returns-in_default
unfolding find_papp as_path steps stated
papp-returns-in_default t c = rw (← c.in_ok-s1.ensures, ← c.shape_of.ensures, law.not_path _ c.in_default.not-Path, c.refused.ensures)

pub papp-returns-in_err-s2 : goal.papp-returns-in_err-s2
unfolding find_papp as_path steps stated
papp-returns-in_err-s2 t c = rw (← c.in_ok-s1.ensures, ← c.shape_of.ensures, c.in-Path.is, law.residual _ _ c.from_residual-in_err-s2.ensures.1, ← c.in_err-s2.ensures)

pub papp-returns-in_err-s3 : goal.papp-returns-in_err-s3
unfolding find_papp as_path steps stated
papp-returns-in_err-s3 t c = rw (← c.in_ok-s1.ensures, ← c.shape_of.ensures, c.in-Path.is, ← c.in_ok-s2.ensures, law.residual _ _ c.from_residual-in_err-s3.ensures.1, ← c.in_err-s3.ensures)

pub papp-returns-in_err-s4 : goal.papp-returns-in_err-s4
unfolding find_papp as_path steps stated
papp-returns-in_err-s4 t c = rw (← c.in_ok-s1.ensures, ← c.shape_of.ensures, c.in-Path.is, ← c.in_ok-s2.ensures, ← c.in_ok-s3.ensures, law.residual _ _ c.from_residual-in_err-s4.ensures.1)
    (rw (← c.in_err-s4.ensures))

pub papp-returns : goal.papp-returns
unfolding find_papp as_path steps stated
papp-returns t c = rw (← c.in_ok-s1.ensures, ← c.shape_of.ensures, c.in-Path.is, ← c.in_ok-s2.ensures, ← c.in_ok-s3.ensures, ← c.in_ok-s4.ensures)
    (rw (← c.cite.ensures))

pub path-returns-in_err-s1 : goal.path-returns-in_err-s1
unfolding find_path path_ends up steps stated
path-returns-in_err-s1 t c = rw (law.residual _ _ c.from_residual.ensures.1, ← c.in_err-s1.ensures)

pub path-returns-in_err-s2 : goal.path-returns-in_err-s2
unfolding find_path path_ends up steps stated
path-returns-in_err-s2 t c = rw (← c.in_ok-s1.ensures, law.residual _ _ c.from_residual-in_err-s2.ensures.1, ← c.in_err-s2.ensures)

pub path-returns-in_err-s3 : goal.path-returns-in_err-s3
unfolding find_path path_ends up steps stated
path-returns-in_err-s3 t c = rw (← c.in_ok-s1.ensures, ← c.in_ok-s2.ensures, law.residual _ _ c.from_residual-in_err-s3.ensures.1, ← c.in_err-s3.ensures)

pub path-returns-in_err-s4 : goal.path-returns-in_err-s4
unfolding find_path path_ends up steps stated
path-returns-in_err-s4 t c = rw (← c.in_ok-s1.ensures, ← c.in_ok-s2.ensures, ← c.in_ok-s3.ensures, law.residual _ _ c.from_residual-in_err-s4.ensures.1, ← c.in_err-s4.ensures)

pub path-returns-in_err-s5 : goal.path-returns-in_err-s5
unfolding find_path path_ends up steps stated
path-returns-in_err-s5 t c = rw (← c.in_ok-s1.ensures, ← c.in_ok-s2.ensures, ← c.in_ok-s3.ensures, ← c.in_ok-s4.ensures, law.residual _ _ c.from_residual-in_err-s5.ensures.1, ← c.in_err-s5.ensures)

pub path-returns-in_err-s6 : goal.path-returns-in_err-s6
unfolding find_path path_ends up steps stated
path-returns-in_err-s6 t c = rw (← c.in_ok-s1.ensures, ← c.in_ok-s2.ensures, ← c.in_ok-s3.ensures, ← c.in_ok-s4.ensures, ← c.in_ok-s5.ensures, law.residual _ _ c.from_residual-in_err-s6.ensures.1)
    (rw (← c.in_err-s6.ensures))

pub path-returns-in_err-s7 : goal.path-returns-in_err-s7
unfolding find_path path_ends up steps stated
path-returns-in_err-s7 t c = rw (← c.in_ok-s1.ensures, ← c.in_ok-s2.ensures, ← c.in_ok-s3.ensures, ← c.in_ok-s4.ensures, ← c.in_ok-s5.ensures, ← c.in_ok-s6.ensures)
    (rw (law.node c.new.ensures, law.residual _ _ c.from_residual-in_err-s7.ensures.1, ← c.in_err-s7.ensures))

pub path-returns : goal.path-returns
unfolding find_path path_ends up steps stated
path-returns t c = rw (← c.in_ok-s1.ensures, ← c.in_ok-s2.ensures, ← c.in_ok-s3.ensures, ← c.in_ok-s4.ensures, ← c.in_ok-s5.ensures, ← c.in_ok-s6.ensures)
    (rw (law.node c.new.ensures, ← c.in_ok-s7.ensures, ← c.cite.ensures))

pub pbeta-returns-in_err-s1 : goal.pbeta-returns-in_err-s1
unfolding pbeta steps stated
pbeta-returns-in_err-s1 t c = rw (law.residual _ _ c.from_residual.ensures.1, ← c.in_err-s1.ensures)

pub pbeta-returns-in_err-s2 : goal.pbeta-returns-in_err-s2
unfolding pbeta steps stated
pbeta-returns-in_err-s2 t c = rw (← c.in_ok-s1.ensures, law.residual _ _ c.from_residual-in_err-s2.ensures.1, ← c.in_err-s2.ensures)

pub pbeta-returns-in_err-s3 : goal.pbeta-returns-in_err-s3
unfolding pbeta steps stated
pbeta-returns-in_err-s3 t c = rw (← c.in_ok-s1.ensures, ← c.in_ok-s2.ensures, law.residual _ _ c.from_residual-in_err-s3.ensures.1, ← c.in_err-s3.ensures)

pub pbeta-returns-in_err-s4 : goal.pbeta-returns-in_err-s4
unfolding pbeta steps stated
pbeta-returns-in_err-s4 t c = rw (← c.in_ok-s1.ensures, ← c.in_ok-s2.ensures, ← c.in_ok-s3.ensures, ← c.cite.ensures, law.residual _ _ c.from_residual-in_err-s4.ensures.1, ← c.in_err-s4.ensures)

pub pbeta-returns : goal.pbeta-returns
unfolding pbeta steps stated
pbeta-returns t c = rw (← c.in_ok-s1.ensures, ← c.in_ok-s2.ensures, ← c.in_ok-s3.ensures, ← c.cite.ensures, ← c.in_ok-s4.ensures)

pub pi-returns-in_err-s1 : goal.pi-returns-in_err-s1
unfolding find_binder steps stated
pi-returns-in_err-s1 t c = rw (law.residual _ _ c.from_residual.ensures.1, ← c.in_err-s1.ensures)

pub pi-returns-in_err-s2 : goal.pi-returns-in_err-s2
unfolding find_binder steps stated
pi-returns-in_err-s2 t c = rw (← c.in_ok-s1.ensures, law.node c.new.ensures, law.residual _ _ c.from_residual-in_err-s2.ensures.1, ← c.in_err-s2.ensures)

pub pi-returns-in_err-s3 : goal.pi-returns-in_err-s3
unfolding find_binder steps stated
pi-returns-in_err-s3 t c = rw (← c.in_ok-s1.ensures, law.node c.new.ensures, ← c.in_ok-s2.ensures, law.residual _ _ c.from_residual-in_err-s3.ensures.1, ← c.in_err-s3.ensures)

pub pi-returns-in_err-s4 : goal.pi-returns-in_err-s4
unfolding find_binder steps stated
pi-returns-in_err-s4 t c = rw (← c.in_ok-s1.ensures, law.node c.new.ensures, ← c.in_ok-s2.ensures, ← c.in_ok-s3.ensures, law.residual _ _ c.from_residual-in_err-s4.ensures.1, ← c.in_err-s4.ensures)

pub pi-returns-in_err-s5 : goal.pi-returns-in_err-s5
unfolding find_binder steps stated
pi-returns-in_err-s5 t c = rw (← c.in_ok-s1.ensures, law.node c.new.ensures, ← c.in_ok-s2.ensures, ← c.in_ok-s3.ensures, ← c.in_ok-s4.ensures, law.greater_is _ _)
    (rw (← c.max-top.ensures, law.node c.new-2.ensures, law.residual _ _ c.from_residual-in_err-s5.ensures.1, ← c.in_err-s5.ensures))

pub pi-returns : goal.pi-returns
unfolding find_binder steps stated
pi-returns t c = rw (← c.in_ok-s1.ensures, law.node c.new.ensures, ← c.in_ok-s2.ensures, ← c.in_ok-s3.ensures, ← c.in_ok-s4.ensures, law.greater_is _ _)
    (rw (← c.max-top.ensures, law.node c.new-2.ensures, ← c.in_ok-s5.ensures, ← c.cite.ensures))

pub plam-returns-in_err-s1 : goal.plam-returns-in_err-s1
unfolding find_plam plam_ends up steps stated
plam-returns-in_err-s1 t c = rw (law.residual _ _ c.from_residual.ensures.1, ← c.in_err-s1.ensures)

pub plam-returns-in_err-s2 : goal.plam-returns-in_err-s2
unfolding find_plam plam_ends up steps stated
plam-returns-in_err-s2 t c = rw (← c.in_ok-s1.ensures, law.residual _ _ c.from_residual-in_err-s2.ensures.1, ← c.in_err-s2.ensures)

pub plam-returns-in_err-s3 : goal.plam-returns-in_err-s3
unfolding find_plam plam_ends up steps stated
plam-returns-in_err-s3 t c = rw (← c.in_ok-s1.ensures, ← c.in_ok-s2.ensures, law.residual _ _ c.from_residual-in_err-s3.ensures.1, ← c.in_err-s3.ensures)

pub plam-returns-in_err-s4 : goal.plam-returns-in_err-s4
unfolding find_plam plam_ends up steps stated
plam-returns-in_err-s4 t c = rw (← c.in_ok-s1.ensures, ← c.in_ok-s2.ensures, ← c.in_ok-s3.ensures, law.residual _ _ c.from_residual-in_err-s4.ensures.1, ← c.in_err-s4.ensures)

pub plam-returns-in_err-s5 : goal.plam-returns-in_err-s5
unfolding find_plam plam_ends up steps stated
plam-returns-in_err-s5 t c = rw (← c.in_ok-s1.ensures, ← c.in_ok-s2.ensures, ← c.in_ok-s3.ensures, ← c.in_ok-s4.ensures, law.residual _ _ c.from_residual-in_err-s5.ensures.1, ← c.in_err-s5.ensures)

pub plam-returns-in_err-s6 : goal.plam-returns-in_err-s6
unfolding find_plam plam_ends up steps stated
plam-returns-in_err-s6 t c = rw (← c.in_ok-s1.ensures, ← c.in_ok-s2.ensures, ← c.in_ok-s3.ensures, ← c.in_ok-s4.ensures, ← c.in_ok-s5.ensures, law.residual _ _ c.from_residual-in_err-s6.ensures.1)
    (rw (← c.in_err-s6.ensures))

pub plam-returns-in_err-s7 : goal.plam-returns-in_err-s7
unfolding find_plam plam_ends up steps stated
plam-returns-in_err-s7 t c = rw (← c.in_ok-s1.ensures, ← c.in_ok-s2.ensures, ← c.in_ok-s3.ensures, ← c.in_ok-s4.ensures, ← c.in_ok-s5.ensures, ← c.in_ok-s6.ensures)
    (rw (law.residual _ _ c.from_residual-in_err-s7.ensures.1, ← c.in_err-s7.ensures))

pub plam-returns-in_err-s8 : goal.plam-returns-in_err-s8
unfolding find_plam plam_ends up steps stated
plam-returns-in_err-s8 t c = rw (← c.in_ok-s1.ensures, ← c.in_ok-s2.ensures, ← c.in_ok-s3.ensures, ← c.in_ok-s4.ensures, ← c.in_ok-s5.ensures, ← c.in_ok-s6.ensures)
    (rw (← c.in_ok-s7.ensures, law.residual _ _ c.from_residual-in_err-s8.ensures.1, ← c.in_err-s8.ensures))

pub plam-returns-in_err-s9 : goal.plam-returns-in_err-s9
unfolding find_plam plam_ends up steps stated
plam-returns-in_err-s9 t c = rw (← c.in_ok-s1.ensures, ← c.in_ok-s2.ensures, ← c.in_ok-s3.ensures, ← c.in_ok-s4.ensures, ← c.in_ok-s5.ensures, ← c.in_ok-s6.ensures)
    (rw (← c.in_ok-s7.ensures, ← c.in_ok-s8.ensures, law.node c.new.ensures, law.residual _ _ c.from_residual-in_err-s9.ensures.1, ← c.in_err-s9.ensures))

pub plam-returns : goal.plam-returns
unfolding find_plam plam_ends up steps stated
plam-returns t c = rw (← c.in_ok-s1.ensures, ← c.in_ok-s2.ensures, ← c.in_ok-s3.ensures, ← c.in_ok-s4.ensures, ← c.in_ok-s5.ensures, ← c.in_ok-s6.ensures)
    (rw (← c.in_ok-s7.ensures, ← c.in_ok-s8.ensures, law.node c.new.ensures, ← c.in_ok-s9.ensures, ← c.cite.ensures))

pub reduce-returns-then-left-eq0 : goal.reduce-returns-then-left-eq0
unfolding reduce_body fst_beta snd_beta as_sigma steps stated
reduce-returns-then-left-eq0 t c = rw (law.reduce_none _ _ _ _ _ c.if-left-eq0.true, c.refused.ensures)

pub reduce-returns-in_default-shape_of : goal.reduce-returns-in_default-shape_of
unfolding reduce_body fst_beta snd_beta as_sigma steps stated
reduce-returns-in_default-shape_of t c = rw (law.reduce_in _ _ _ _ _ c.if-left-eq0.false, ← c.deeper-s0.ensures, ← c.read-cell.ensures, law.kind_is _ c.of.ensures c.in-App.is, ← c.shape_of.ensures, law.not_lam _ c.in_default-shape_of.not-Lam)

pub reduce-returns-in_default-shape_of-2 : goal.reduce-returns-in_default-shape_of-2
unfolding reduce_body fst_beta snd_beta as_sigma steps stated
reduce-returns-in_default-shape_of-2 t c = rw (law.reduce_in _ _ _ _ _ c.if-left-eq0.false, ← c.deeper-s0.ensures, ← c.read-cell.ensures, law.kind_is _ c.of.ensures c.in-Fst.is, ← c.shape_of-in-Fst.ensures, law.not_pair _ c.in_default-shape_of-2.not-Pair)

pub reduce-returns-in_err-s1-in-Fst : goal.reduce-returns-in_err-s1-in-Fst
unfolding reduce_body fst_beta snd_beta as_sigma steps stated
reduce-returns-in_err-s1-in-Fst t c = rw (law.reduce_in _ _ _ _ _ c.if-left-eq0.false, ← c.deeper-s0.ensures, ← c.read-cell.ensures, law.kind_is _ c.of.ensures c.in-Fst.is, ← c.shape_of-in-Fst.ensures, c.in-Pair.is)
    (rw (law.residual _ _ c.from_residual.ensures.1, ← c.in_err-s1-in-Fst.ensures))

pub reduce-returns-in_default-shape_of-3 : goal.reduce-returns-in_default-shape_of-3
unfolding reduce_body fst_beta snd_beta as_sigma steps stated
reduce-returns-in_default-shape_of-3 t c = rw (law.reduce_in _ _ _ _ _ c.if-left-eq0.false, ← c.deeper-s0.ensures, ← c.read-cell.ensures, law.kind_is _ c.of.ensures c.in-Fst.is, ← c.shape_of-in-Fst.ensures, c.in-Pair.is)
    (rw (← c.in_ok-s1-in-Fst.ensures, ← c.shape_of-in-Fst-2.ensures, law.not_sigma _ c.in_default-shape_of-3.not-Sigma, c.refused-in_default-shape_of-3.ensures))

pub reduce-returns-in_err-s2-in-Fst : goal.reduce-returns-in_err-s2-in-Fst
unfolding reduce_body fst_beta snd_beta as_sigma steps stated
reduce-returns-in_err-s2-in-Fst t c = rw (law.reduce_in _ _ _ _ _ c.if-left-eq0.false, ← c.deeper-s0.ensures, ← c.read-cell.ensures, law.kind_is _ c.of.ensures c.in-Fst.is, ← c.shape_of-in-Fst.ensures, c.in-Pair.is)
    (rw (← c.in_ok-s1-in-Fst.ensures, ← c.shape_of-in-Fst-2.ensures, c.in-Sigma.is, law.residual _ _ c.from_residual-in_err-s2-in-Fst.ensures.1, ← c.in_err-s2-in-Fst.ensures))

pub reduce-returns-in_err-s3-in-Fst : goal.reduce-returns-in_err-s3-in-Fst
unfolding reduce_body fst_beta snd_beta as_sigma steps stated
reduce-returns-in_err-s3-in-Fst t c = rw (law.reduce_in _ _ _ _ _ c.if-left-eq0.false, ← c.deeper-s0.ensures, ← c.read-cell.ensures, law.kind_is _ c.of.ensures c.in-Fst.is, ← c.shape_of-in-Fst.ensures, c.in-Pair.is)
    (rw (← c.in_ok-s1-in-Fst.ensures, ← c.shape_of-in-Fst-2.ensures, c.in-Sigma.is, ← c.in_ok-s2-in-Fst.ensures, ← c.cite-refs.ensures, law.residual _ _ c.from_residual-in_err-s3-in-Fst.ensures.1)
    (rw (← c.in_err-s3-in-Fst.ensures)))

pub reduce-returns-in_default-shape_of-4 : goal.reduce-returns-in_default-shape_of-4
unfolding reduce_body fst_beta snd_beta as_sigma steps stated
reduce-returns-in_default-shape_of-4 t c = rw (law.reduce_in _ _ _ _ _ c.if-left-eq0.false, ← c.deeper-s0.ensures, ← c.read-cell.ensures, law.kind_is _ c.of.ensures c.in-Snd.is, ← c.shape_of-in-Snd.ensures, law.not_pair _ c.in_default-shape_of-4.not-Pair)

pub reduce-returns-in_err-s1-in-Snd : goal.reduce-returns-in_err-s1-in-Snd
unfolding reduce_body fst_beta snd_beta as_sigma steps stated
reduce-returns-in_err-s1-in-Snd t c = rw (law.reduce_in _ _ _ _ _ c.if-left-eq0.false, ← c.deeper-s0.ensures, ← c.read-cell.ensures, law.kind_is _ c.of.ensures c.in-Snd.is, ← c.shape_of-in-Snd.ensures, c.in-Pair-shape_of.is)
    (rw (law.residual _ _ c.from_residual-in_err-s1-in-Snd.ensures.1, ← c.in_err-s1-in-Snd.ensures))

pub reduce-returns-in_default-shape_of-5 : goal.reduce-returns-in_default-shape_of-5
unfolding reduce_body fst_beta snd_beta as_sigma steps stated
reduce-returns-in_default-shape_of-5 t c = rw (law.reduce_in _ _ _ _ _ c.if-left-eq0.false, ← c.deeper-s0.ensures, ← c.read-cell.ensures, law.kind_is _ c.of.ensures c.in-Snd.is, ← c.shape_of-in-Snd.ensures, c.in-Pair-shape_of.is)
    (rw (← c.in_ok-s1-in-Snd.ensures, ← c.shape_of-in-Snd-2.ensures, law.not_sigma _ c.in_default-shape_of-5.not-Sigma, c.refused-in_default-shape_of-5.ensures))

pub reduce-returns-in_err-s2-in-Snd : goal.reduce-returns-in_err-s2-in-Snd
unfolding reduce_body fst_beta snd_beta as_sigma steps stated
reduce-returns-in_err-s2-in-Snd t c = rw (law.reduce_in _ _ _ _ _ c.if-left-eq0.false, ← c.deeper-s0.ensures, ← c.read-cell.ensures, law.kind_is _ c.of.ensures c.in-Snd.is, ← c.shape_of-in-Snd.ensures, c.in-Pair-shape_of.is)
    (rw (← c.in_ok-s1-in-Snd.ensures, ← c.shape_of-in-Snd-2.ensures, c.in-Sigma-shape_of.is, law.node c.new-node.ensures, law.residual _ _ c.from_residual-in_err-s2-in-Snd.ensures.1, ← c.in_err-s2-in-Snd.ensures))

pub reduce-returns-in_err-s3-in-Snd : goal.reduce-returns-in_err-s3-in-Snd
unfolding reduce_body fst_beta snd_beta as_sigma steps stated
reduce-returns-in_err-s3-in-Snd t c = rw (law.reduce_in _ _ _ _ _ c.if-left-eq0.false, ← c.deeper-s0.ensures, ← c.read-cell.ensures, law.kind_is _ c.of.ensures c.in-Snd.is, ← c.shape_of-in-Snd.ensures, c.in-Pair-shape_of.is)
    (rw (← c.in_ok-s1-in-Snd.ensures, ← c.shape_of-in-Snd-2.ensures, c.in-Sigma-shape_of.is, law.node c.new-node.ensures, ← c.in_ok-s2-in-Snd.ensures, law.residual _ _ c.from_residual-in_err-s3-in-Snd.ensures.1)
    (rw (← c.in_err-s3-in-Snd.ensures)))

pub reduce-returns-in-Lam : goal.reduce-returns-in-Lam
unfolding reduce_body fst_beta snd_beta as_sigma steps stated
reduce-returns-in-Lam t c = rw (law.reduce_in _ _ _ _ _ c.if-left-eq0.false, ← c.deeper-s0.ensures, ← c.read-cell.ensures, law.kind_is _ c.of.ensures c.in-App.is, ← c.shape_of.ensures, c.in-Lam.is)
    (rw (← c.beta.ensures))

pub reduce-returns-in-Papp : goal.reduce-returns-in-Papp
unfolding reduce_body fst_beta snd_beta as_sigma steps stated
reduce-returns-in-Papp t c = rw (law.reduce_in _ _ _ _ _ c.if-left-eq0.false, ← c.deeper-s0.ensures, ← c.read-cell.ensures, law.kind_is _ c.of.ensures c.in-Papp.is, ← c.line.ensures)

pub reduce-returns-in_ok-s3-in-Fst : goal.reduce-returns-in_ok-s3-in-Fst
unfolding reduce_body fst_beta snd_beta as_sigma steps stated
reduce-returns-in_ok-s3-in-Fst t c = rw (law.reduce_in _ _ _ _ _ c.if-left-eq0.false, ← c.deeper-s0.ensures, ← c.read-cell.ensures, law.kind_is _ c.of.ensures c.in-Fst.is, ← c.shape_of-in-Fst.ensures, c.in-Pair.is)
    (rw (← c.in_ok-s1-in-Fst.ensures, ← c.shape_of-in-Fst-2.ensures, c.in-Sigma.is, ← c.in_ok-s2-in-Fst.ensures, ← c.cite-refs.ensures, ← c.in_ok-s3-in-Fst.ensures))

pub reduce-returns-in_ok-s3-in-Snd : goal.reduce-returns-in_ok-s3-in-Snd
unfolding reduce_body fst_beta snd_beta as_sigma steps stated
reduce-returns-in_ok-s3-in-Snd t c = rw (law.reduce_in _ _ _ _ _ c.if-left-eq0.false, ← c.deeper-s0.ensures, ← c.read-cell.ensures, law.kind_is _ c.of.ensures c.in-Snd.is, ← c.shape_of-in-Snd.ensures, c.in-Pair-shape_of.is)
    (rw (← c.in_ok-s1-in-Snd.ensures, ← c.shape_of-in-Snd-2.ensures, c.in-Sigma-shape_of.is, law.node c.new-node.ensures, ← c.in_ok-s2-in-Snd.ensures, ← c.in_ok-s3-in-Snd.ensures)
    (rw (← c.step.ensures)))

pub reduce-returns-in_default : goal.reduce-returns-in_default
unfolding reduce_body fst_beta snd_beta as_sigma steps stated
reduce-returns-in_default t c = rw (law.reduce_in _ _ _ _ _ c.if-left-eq0.false, ← c.deeper-s0.ensures, ← c.read-cell.ensures, law.kind_isnt _ c.of.ensures c.in_default.not-App refl, law.kind_isnt _ c.of.ensures c.in_default.not-Papp refl, law.kind_isnt _ c.of.ensures c.in_default.not-Fst refl)
    (rw (law.kind_isnt _ c.of.ensures c.in_default.not-Snd refl))

pub snd-returns-in_err-s1 : goal.snd-returns-in_err-s1
unfolding find_snd as_sigma steps stated
snd-returns-in_err-s1 t c = rw (law.residual _ _ c.from_residual.ensures.1, ← c.in_err-s1.ensures)

pub snd-returns-in_default : goal.snd-returns-in_default
unfolding find_snd as_sigma steps stated
snd-returns-in_default t c = rw (← c.in_ok-s1.ensures, ← c.shape_of.ensures, law.not_sigma _ c.in_default.not-Sigma, c.refused.ensures)

pub snd-returns-in_err-s2 : goal.snd-returns-in_err-s2
unfolding find_snd as_sigma steps stated
snd-returns-in_err-s2 t c = rw (← c.in_ok-s1.ensures, ← c.shape_of.ensures, c.in-Sigma.is, law.node c.new.ensures, law.residual _ _ c.from_residual-in_err-s2.ensures.1, ← c.in_err-s2.ensures)

pub snd-returns-in_err-s3 : goal.snd-returns-in_err-s3
unfolding find_snd as_sigma steps stated
snd-returns-in_err-s3 t c = rw (← c.in_ok-s1.ensures, ← c.shape_of.ensures, c.in-Sigma.is, law.node c.new.ensures, ← c.in_ok-s2.ensures, law.residual _ _ c.from_residual-in_err-s3.ensures.1)
    (rw (← c.in_err-s3.ensures))

pub snd-returns-in_err-s4 : goal.snd-returns-in_err-s4
unfolding find_snd as_sigma steps stated
snd-returns-in_err-s4 t c = rw (← c.in_ok-s1.ensures, ← c.shape_of.ensures, c.in-Sigma.is, law.node c.new.ensures, ← c.in_ok-s2.ensures, ← c.in_ok-s3.ensures)
    (rw (law.residual _ _ c.from_residual-in_err-s4.ensures.1, ← c.in_err-s4.ensures))

pub snd-returns : goal.snd-returns
unfolding find_snd as_sigma steps stated
snd-returns t c = rw (← c.in_ok-s1.ensures, ← c.shape_of.ensures, c.in-Sigma.is, law.node c.new.ensures, ← c.in_ok-s2.ensures, ← c.in_ok-s3.ensures)
    (rw (← c.in_ok-s4.ensures, ← c.cite.ensures))

pub sort-returns-in_err-s : goal.sort-returns-in_err-s
unfolding exposed steps stated
sort-returns-in_err-s t c = rw (law.residual _ _ c.from_residual.ensures.1, ← c.in_err-s.ensures)

pub sort-returns-in_default : goal.sort-returns-in_default
unfolding exposed steps stated
sort-returns-in_default t c = rw (← c.in_ok-s.ensures, ← c.shape_of.ensures, law.not_universe _ c.in_default.not-Universe, c.refused.ensures)

pub sort-returns : goal.sort-returns
unfolding exposed steps stated
sort-returns t c = rw (← c.in_ok-s.ensures, ← c.shape_of.ensures, c.in-Universe.is)

pub step-returns-in_err-s1 : goal.step-returns-in_err-s1
unfolding at_end steps stated
step-returns-in_err-s1 t c = rw (law.residual _ _ c.from_residual.ensures.1, ← c.in_err-s1.ensures)

pub step-returns-in_err-s2 : goal.step-returns-in_err-s2
unfolding at_end steps stated
step-returns-in_err-s2 t c = rw (← c.in_ok-s1.ensures, ← c.cite.ensures, law.residual _ _ c.from_residual-in_err-s2.ensures.1, ← c.in_err-s2.ensures)

pub step-returns : goal.step-returns
unfolding at_end steps stated
step-returns t c = rw (← c.in_ok-s1.ensures, ← c.cite.ensures, ← c.in_ok-s2.ensures)

pub turn-returns-in_err-s1 : goal.turn-returns-in_err-s1
unfolding round steps stated
turn-returns-in_err-s1 t c = rw (law.residual _ _ c.from_residual.ensures.1, ← c.in_err-s1.ensures)

pub turn-returns-in_default : goal.turn-returns-in_default
unfolding round steps stated
turn-returns-in_default t c = rw (← c.in_ok-s1.ensures, c.in_default.is)

pub turn-returns-then-not-same_quote : goal.turn-returns-then-not-same_quote
unfolding round steps stated
turn-returns-then-not-same_quote t c = rw (← c.in_ok-s1.ensures, c.in-Some.is, ← c.same_quote.ensures, c.if-not-same_quote.true, c.refused.ensures)

pub turn-returns-in_err-s2 : goal.turn-returns-in_err-s2
unfolding round steps stated
turn-returns-in_err-s2 t c = rw (← c.in_ok-s1.ensures, c.in-Some.is, ← c.same_quote.ensures, c.if-not-same_quote.false, law.residual _ _ c.from_residual-in_err-s2.ensures.1, ← c.in_err-s2.ensures)

pub turn-returns-in_err-s3 : goal.turn-returns-in_err-s3
unfolding round steps stated
turn-returns-in_err-s3 t c = rw (← c.in_ok-s1.ensures, c.in-Some.is, ← c.same_quote.ensures, c.if-not-same_quote.false, ← c.in_ok-s2.ensures, ← c.cite.ensures)
    (rw (law.residual _ _ c.from_residual-in_err-s3.ensures.1, ← c.in_err-s3.ensures))

pub turn-returns : goal.turn-returns
unfolding round steps stated
turn-returns t c = rw (← c.in_ok-s1.ensures, c.in-Some.is, ← c.same_quote.ensures, c.if-not-same_quote.false, ← c.in_ok-s2.ensures, ← c.cite.ensures)
    (rw (← c.in_ok-s3.ensures))

pub turns-returns-in_err-s1 : goal.turns-returns-in_err-s1
unfolding steps stated
turns-returns-in_err-s1 t c = rw (c.loop.invariant.1, law.rounds_turn _ _ _ _ _ _ _ _ _ _ c.loop-test.true, law.residual _ _ c.from_residual.ensures.1, ← c.in_err-s1.ensures)

pub turns-returns-in_default : goal.turns-returns-in_default
unfolding steps stated
turns-returns-in_default t c = rw (c.loop.invariant.1, law.rounds_turn _ _ _ _ _ _ _ _ _ _ c.loop-test.true, ← c.in_ok-s1.ensures, c.in_default.is)

pub turns-loop-preserved : goal.turns-loop-preserved
unfolding steps stated
turns-loop-preserved t c = (omega arith, rw (c.loop.invariant.1, law.rounds_turn _ _ _ _ _ _ _ _ _ _ c.loop-test.true, ← c.in_ok-s1.ensures, c.in-Some.is))

pub turns-returns-in_err-s1-2 : goal.turns-returns-in_err-s1-2
unfolding steps stated
turns-returns-in_err-s1-2 t c = rw (c.loop.invariant.1, law.rounds_over _ _ _ _ _ _ _ _ _ _ c.loop-test.false, law.residual _ _ c.from_residual-in_err-s1-2.ensures.1, ← c.in_err-s1-2.ensures)

pub turns-returns-in-Some-further : goal.turns-returns-in-Some-further
unfolding steps stated
turns-returns-in-Some-further t c = rw (c.loop.invariant.1, law.rounds_over _ _ _ _ _ _ _ _ _ _ c.loop-test.false, ← c.in_ok-s1-2.ensures, c.in-Some-further.is, c.refused.ensures)

pub turns-returns-in-None : goal.turns-returns-in-None
unfolding steps stated
turns-returns-in-None t c = rw (c.loop.invariant.1, law.rounds_over _ _ _ _ _ _ _ _ _ _ c.loop-test.false, ← c.in_ok-s1-2.ensures, c.in-None.is)

pub universe-returns-then-left-eq0 : goal.universe-returns-then-left-eq0
unfolding universe_body steps stated
universe-returns-then-left-eq0 t c = rw (law.universe_none _ _ _ _ _ c.if-left-eq0.true, c.refused.ensures)

pub universe-returns-in_err-s1 : goal.universe-returns-in_err-s1
unfolding universe_body steps stated
universe-returns-in_err-s1 t c = rw (law.universe_in _ _ _ _ _ c.if-left-eq0.false, ← c.deeper-s0.ensures, law.residual _ _ c.from_residual.ensures.1, ← c.in_err-s1.ensures)

pub universe-returns-in-Universe : goal.universe-returns-in-Universe
unfolding universe_body steps stated
universe-returns-in-Universe t c = rw (law.universe_in _ _ _ _ _ c.if-left-eq0.false, ← c.deeper-s0.ensures, ← c.in_ok-s1.ensures, ← c.shape_of.ensures, c.in-Universe.is)

pub universe-returns-then-s1-ge32 : goal.universe-returns-then-s1-ge32
unfolding universe_body steps stated
universe-returns-then-s1-ge32 t c = rw (law.universe_in _ _ _ _ _ c.if-left-eq0.false, ← c.deeper-s0.ensures, ← c.in_ok-s1.ensures, ← c.shape_of.ensures, law.not_universe _ c.in_default.not-Universe, le-ltb _ _ c.if-s1-ge32.true)
    (rw (c.refused-then-s1-ge32.ensures))

pub universe-returns : goal.universe-returns
unfolding universe_body steps stated
universe-returns t c = rw (law.universe_in _ _ _ _ _ c.if-left-eq0.false, ← c.deeper-s0.ensures, ← c.in_ok-s1.ensures, ← c.shape_of.ensures, law.not_universe _ c.in_default.not-Universe, lt-ltb _ _ c.if-s1-ge32.false)
    (rw (← c.converting-s2.ensures, ← c.sort.ensures, law.ended_end _ _ _, ← c.ended.ensures))

pub val-returns-in_err-s1 : goal.val-returns-in_err-s1
unfolding at_val as_path steps stated
val-returns-in_err-s1 t c = rw (law.residual _ _ c.from_residual.ensures.1, ← c.in_err-s1.ensures)

pub val-returns-in_default : goal.val-returns-in_default
unfolding at_val as_path steps stated
val-returns-in_default t c = rw (← c.in_ok-s1.ensures, ← c.shape_of.ensures, law.not_path _ c.in_default.not-Path, c.refused.ensures)

pub val-returns-in_err-s2 : goal.val-returns-in_err-s2
unfolding at_val as_path steps stated
val-returns-in_err-s2 t c = rw (← c.in_ok-s1.ensures, ← c.shape_of.ensures, c.in-Path.is, law.residual _ _ c.from_residual-in_err-s2.ensures.1, ← c.in_err-s2.ensures)

pub val-returns-in_err-s3 : goal.val-returns-in_err-s3
unfolding at_val as_path steps stated
val-returns-in_err-s3 t c = rw (← c.in_ok-s1.ensures, ← c.shape_of.ensures, c.in-Path.is, ← c.in_ok-s2.ensures, law.residual _ _ c.from_residual-in_err-s3.ensures.1, ← c.in_err-s3.ensures)

pub val-returns-in_err-s4 : goal.val-returns-in_err-s4
unfolding at_val as_path steps stated
val-returns-in_err-s4 t c = rw (← c.in_ok-s1.ensures, ← c.shape_of.ensures, c.in-Path.is, ← c.in_ok-s2.ensures, ← c.in_ok-s3.ensures, ← c.side-out.ensures)
    (rw (law.residual _ _ c.from_residual-in_err-s4.ensures.1, ← c.in_err-s4.ensures))

pub val-returns-in_err-s5 : goal.val-returns-in_err-s5
unfolding at_val as_path steps stated
val-returns-in_err-s5 t c = rw (← c.in_ok-s1.ensures, ← c.shape_of.ensures, c.in-Path.is, ← c.in_ok-s2.ensures, ← c.in_ok-s3.ensures, ← c.side-out.ensures)
    (rw (← c.in_ok-s4.ensures, ← c.cite-refs.ensures, ← c.rule.ensures, law.residual _ _ c.from_residual-in_err-s5.ensures.1, ← c.in_err-s5.ensures))

pub val-returns : goal.val-returns
unfolding at_val as_path steps stated
val-returns t c = rw (← c.in_ok-s1.ensures, ← c.shape_of.ensures, c.in-Path.is, ← c.in_ok-s2.ensures, ← c.in_ok-s3.ensures, ← c.side-out.ensures)
    (rw (← c.in_ok-s4.ensures, ← c.cite-refs.ensures, ← c.rule.ensures, ← c.in_ok-s5.ensures))

pub var-returns-in_err-s1 : goal.var-returns-in_err-s1
unfolding find_var steps stated
var-returns-in_err-s1 t c = rw (law.residual _ _ c.from_residual.ensures.1, ← c.in_err-s1.ensures)

pub var-returns-in_err-s2 : goal.var-returns-in_err-s2
unfolding find_var steps stated
var-returns-in_err-s2 t c = rw (← c.in_ok-s1.ensures, law.residual _ _ c.from_residual-in_err-s2.ensures.1, ← c.in_err-s2.ensures)

pub var-returns : goal.var-returns
unfolding find_var steps stated
var-returns t c = rw (← c.in_ok-s1.ensures, ← c.in_ok-s2.ensures, ← c.cite.ensures)
