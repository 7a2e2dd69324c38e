-- Made by tools/prove.py: to make it again, run `python3 tools/prove.py producer`.
use Rattle.std.proofs.Common.{refl}
use Rattle.producer.specs.Heads.{app_cong, at_head, head_goes, head_step_body, papp_cong, path_of, pi_of}
use Rattle.producer.proofs.At as law
use Rattle.producer.proofs.Steps.{steps, stated}
use Rattle.producer.proofs.State.+heads.Goals as goal

pub app_cong-returns-in_err-s1 : goal.app_cong-returns-in_err-s1
unfolding app_cong pi_of steps stated
app_cong-returns-in_err-s1 t c = rw (law.residual _ _ c.from_residual.ensures.1, ← c.in_err-s1.ensures)

pub app_cong-returns-in_default : goal.app_cong-returns-in_default
unfolding app_cong pi_of steps stated
app_cong-returns-in_default t c = rw (← c.in_ok-s1.ensures, ← c.shape_of.ensures, law.not_pi _ c.in_default.not-Pi, c.refused.ensures)

pub app_cong-returns-in_err-s2 : goal.app_cong-returns-in_err-s2
unfolding app_cong pi_of steps stated
app_cong-returns-in_err-s2 t c = rw (← c.in_ok-s1.ensures, ← c.shape_of.ensures, c.in-Pi.is, law.residual _ _ c.from_residual-in_err-s2.ensures.1, ← c.in_err-s2.ensures)

pub app_cong-returns-in_default-gone : goal.app_cong-returns-in_default-gone
unfolding app_cong pi_of steps stated
app_cong-returns-in_default-gone t c = rw (← c.in_ok-s1.ensures, ← c.shape_of.ensures, c.in-Pi.is, ← c.in_ok-s2.ensures, c.in_default-gone.is)

pub app_cong-returns : goal.app_cong-returns
unfolding app_cong pi_of steps stated
app_cong-returns t c = rw (← c.in_ok-s1.ensures, ← c.shape_of.ensures, c.in-Pi.is, ← c.in_ok-s2.ensures, c.in-Some.is, ← c.app_at.ensures)

pub at_head-returns-in-App : goal.at_head-returns-in-App
unfolding at_head steps stated
at_head-returns-in-App t c = rw (← c.read-cell.ensures, law.kind_is _ c.of.ensures c.in-App.is, ← c.app_cong.ensures)

pub at_head-returns-in-Papp : goal.at_head-returns-in-Papp
unfolding at_head steps stated
at_head-returns-in-Papp t c = rw (← c.read-cell.ensures, law.kind_is _ c.of.ensures c.in-Papp.is, ← c.papp_cong.ensures)

pub at_head-returns-in_default : goal.at_head-returns-in_default
unfolding at_head steps stated
at_head-returns-in_default t c = rw (← c.read-cell.ensures, law.kind_isnt _ c.of.ensures c.in_default.not-App refl, law.kind_isnt _ c.of.ensures c.in_default.not-Papp refl)

pub head_goes-returns-in_err-s1 : goal.head_goes-returns-in_err-s1
unfolding head_goes steps stated
head_goes-returns-in_err-s1 t c = rw (law.residual _ _ c.from_residual.ensures.1, ← c.in_err-s1.ensures)

pub head_goes-returns-in_default : goal.head_goes-returns-in_default
unfolding head_goes steps stated
head_goes-returns-in_default t c = rw (← c.in_ok-s1.ensures, c.in_default.is)

pub head_goes-returns-then-not-same_quote : goal.head_goes-returns-then-not-same_quote
unfolding head_goes steps stated
head_goes-returns-then-not-same_quote t c = rw (← c.in_ok-s1.ensures, c.in-Some.is, ← c.same_quote.ensures, c.if-not-same_quote.true, c.refused.ensures)

pub head_goes-returns : goal.head_goes-returns
unfolding head_goes steps stated
head_goes-returns t c = rw (← c.in_ok-s1.ensures, c.in-Some.is, ← c.same_quote.ensures, c.if-not-same_quote.false)

pub head_step-returns-then-left-eq0 : goal.head_step-returns-then-left-eq0
unfolding head_step_body steps stated
head_step-returns-then-left-eq0 t c = rw (law.head_step_none _ _ _ _ _ c.if-left-eq0.true, c.refused.ensures)

pub head_step-returns-in_err-s1 : goal.head_step-returns-in_err-s1
unfolding head_step_body steps stated
head_step-returns-in_err-s1 t c = rw (law.head_step_in _ _ _ _ _ c.if-left-eq0.false, ← c.deeper-s0.ensures, law.residual _ _ c.from_residual.ensures.1, ← c.in_err-s1.ensures)

pub head_step-returns-in_default : goal.head_step-returns-in_default
unfolding head_step_body steps stated
head_step-returns-in_default t c = rw (law.head_step_in _ _ _ _ _ c.if-left-eq0.false, ← c.deeper-s0.ensures, ← c.in_ok-s1.ensures, c.in_default.is, ← c.at_head.ensures)

pub head_step-returns : goal.head_step-returns
unfolding head_step_body steps stated
head_step-returns t c = rw (law.head_step_in _ _ _ _ _ c.if-left-eq0.false, ← c.deeper-s0.ensures, ← c.in_ok-s1.ensures, c.in-Some.is)

pub papp_cong-returns-in_err-s1 : goal.papp_cong-returns-in_err-s1
unfolding papp_cong path_of steps stated
papp_cong-returns-in_err-s1 t c = rw (law.residual _ _ c.from_residual.ensures.1, ← c.in_err-s1.ensures)

pub papp_cong-returns-in_default : goal.papp_cong-returns-in_default
unfolding papp_cong path_of steps stated
papp_cong-returns-in_default t c = rw (← c.in_ok-s1.ensures, ← c.shape_of.ensures, law.not_path _ c.in_default.not-Path, c.refused.ensures)

pub papp_cong-returns-in_err-s2 : goal.papp_cong-returns-in_err-s2
unfolding papp_cong path_of steps stated
papp_cong-returns-in_err-s2 t c = rw (← c.in_ok-s1.ensures, ← c.shape_of.ensures, c.in-Path.is, law.residual _ _ c.from_residual-in_err-s2.ensures.1, ← c.in_err-s2.ensures)

pub papp_cong-returns-in_default-gone : goal.papp_cong-returns-in_default-gone
unfolding papp_cong path_of steps stated
papp_cong-returns-in_default-gone t c = rw (← c.in_ok-s1.ensures, ← c.shape_of.ensures, c.in-Path.is, ← c.in_ok-s2.ensures, c.in_default-gone.is)

pub papp_cong-returns : goal.papp_cong-returns
unfolding papp_cong path_of steps stated
papp_cong-returns t c = rw (← c.in_ok-s1.ensures, ← c.shape_of.ensures, c.in-Path.is, ← c.in_ok-s2.ensures, c.in-Some.is, ← c.papp_at.ensures)
