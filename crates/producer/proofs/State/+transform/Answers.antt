-- Made by tools/prove.py: to make it again, run `python3 tools/prove.py producer`.
use Rattle.std.proofs.Common.{refl}
use Rattle.ast.specs.Words.{up}
use Rattle.producer.specs.Transforms.{compound, transform_app, transform_binder, transform_body, transform_lam, transform_pair, transform_papp, transform_path, transform_plam, transform_projection, under_body, under_subst}
use Rattle.producer.proofs.At as law
use Rattle.producer.proofs.Steps.{steps, stated}
use Rattle.producer.proofs.State.+transform.Goals as goal

pub compound-returns-in-Pi : goal.compound-returns-in-Pi
unfolding compound steps stated
compound-returns-in-Pi t c = rw (law.kind_is _ c.of.ensures c.in-Pi.is, ← c.tbinder.ensures)

pub compound-returns-in-Lam : goal.compound-returns-in-Lam
unfolding compound steps stated
compound-returns-in-Lam t c = rw (law.kind_is _ c.of.ensures c.in-Lam.is, ← c.tlam.ensures)

pub compound-returns-in-App : goal.compound-returns-in-App
unfolding compound steps stated
compound-returns-in-App t c = rw (law.kind_is _ c.of.ensures c.in-App.is, ← c.tapp.ensures)

pub compound-returns-in-Path : goal.compound-returns-in-Path
unfolding compound steps stated
compound-returns-in-Path t c = rw (law.kind_is _ c.of.ensures c.in-Path.is, ← c.tpath.ensures)

pub compound-returns-in-Plam : goal.compound-returns-in-Plam
unfolding compound steps stated
compound-returns-in-Plam t c = rw (law.kind_is _ c.of.ensures c.in-Plam.is, ← c.tplam.ensures)

pub compound-returns-in-Papp : goal.compound-returns-in-Papp
unfolding compound steps stated
compound-returns-in-Papp t c = rw (law.kind_is _ c.of.ensures c.in-Papp.is, ← c.tpapp.ensures)

pub compound-returns-in-Sigma : goal.compound-returns-in-Sigma
unfolding compound steps stated
compound-returns-in-Sigma t c = rw (law.kind_is _ c.of.ensures c.in-Sigma.is, ← c.tbinder-in-Sigma.ensures)

pub compound-returns-in-Pair : goal.compound-returns-in-Pair
unfolding compound steps stated
compound-returns-in-Pair t c = rw (law.kind_is _ c.of.ensures c.in-Pair.is, ← c.tpair.ensures)

pub compound-returns-in-Fst : goal.compound-returns-in-Fst
unfolding compound steps stated
compound-returns-in-Fst t c = rw (law.kind_is _ c.of.ensures c.in-Fst.is, ← c.tproject.ensures)

pub compound-returns-in-Snd : goal.compound-returns-in-Snd
unfolding compound steps stated
compound-returns-in-Snd t c = rw (law.kind_is _ c.of.ensures c.in-Snd.is, ← c.tproject-in-Snd.ensures)

pub compound-returns-in_default : goal.compound-returns-in_default
unfolding compound steps stated
compound-returns-in_default t c = rw (law.kind_isnt _ c.of.ensures c.in_default.not-Pi refl, law.kind_isnt _ c.of.ensures c.in_default.not-Lam refl, law.kind_isnt _ c.of.ensures c.in_default.not-App refl, law.kind_isnt _ c.of.ensures c.in_default.not-Path refl, law.kind_isnt _ c.of.ensures c.in_default.not-Plam refl, law.kind_isnt _ c.of.ensures c.in_default.not-Papp refl)
    (rw (law.kind_isnt _ c.of.ensures c.in_default.not-Sigma refl, law.kind_isnt _ c.of.ensures c.in_default.not-Pair refl, law.kind_isnt _ c.of.ensures c.in_default.not-Fst refl, law.kind_isnt _ c.of.ensures c.in_default.not-Snd refl, ← c.rule_of.ensures, ← c.cite.ensures)
    (rw (← c.finish.ensures)))

pub tapp-returns-in_err-s1 : goal.tapp-returns-in_err-s1
unfolding transform_app steps stated
tapp-returns-in_err-s1 t c = rw (law.residual _ _ c.from_residual.ensures.1, ← c.in_err-s1.ensures)

pub tapp-returns-in_err-s2 : goal.tapp-returns-in_err-s2
unfolding transform_app steps stated
tapp-returns-in_err-s2 t c = rw (← c.in_ok-s1.ensures, law.residual _ _ c.from_residual-in_err-s2.ensures.1, ← c.in_err-s2.ensures)

pub tapp-returns : goal.tapp-returns
unfolding transform_app steps stated
tapp-returns t c = rw (← c.in_ok-s1.ensures, ← c.in_ok-s2.ensures, law.node c.new-node.ensures, ← c.cite.ensures, law.node_rule _ c.new-node.ensures, ← c.tmake.ensures)

pub tbinder-returns-in_err-s1 : goal.tbinder-returns-in_err-s1
unfolding transform_binder steps stated
tbinder-returns-in_err-s1 t c = rw (law.residual _ _ c.from_residual.ensures.1, ← c.in_err-s1.ensures)

pub tbinder-returns-in_err-s2 : goal.tbinder-returns-in_err-s2
unfolding transform_binder steps stated
tbinder-returns-in_err-s2 t c = rw (← c.in_ok-s1.ensures, law.residual _ _ c.from_residual-in_err-s2.ensures.1, ← c.in_err-s2.ensures)

pub tbinder-returns-in_err-s3 : goal.tbinder-returns-in_err-s3
unfolding transform_binder steps stated
tbinder-returns-in_err-s3 t c = rw (← c.in_ok-s1.ensures, ← c.in_ok-s2.ensures, law.residual _ _ c.from_residual-in_err-s3.ensures.1, ← c.in_err-s3.ensures)

pub tbinder-returns : goal.tbinder-returns
unfolding transform_binder steps stated
tbinder-returns t c = rw (← c.in_ok-s1.ensures, ← c.in_ok-s2.ensures, ← c.in_ok-s3.ensures, law.node c.new-node.ensures, ← c.cite.ensures, ← c.cite_first.ensures)
    (rw (← c.cite_before.ensures, law.node_rule _ c.new-node.ensures, ← c.tmake.ensures))

pub tlam-returns-in_err-s1 : goal.tlam-returns-in_err-s1
unfolding transform_lam steps stated
tlam-returns-in_err-s1 t c = rw (law.residual _ _ c.from_residual.ensures.1, ← c.in_err-s1.ensures)

pub tlam-returns-in_err-s2 : goal.tlam-returns-in_err-s2
unfolding transform_lam steps stated
tlam-returns-in_err-s2 t c = rw (← c.in_ok-s1.ensures, law.residual _ _ c.from_residual-in_err-s2.ensures.1, ← c.in_err-s2.ensures)

pub tlam-returns-in_err-s3 : goal.tlam-returns-in_err-s3
unfolding transform_lam steps stated
tlam-returns-in_err-s3 t c = rw (← c.in_ok-s1.ensures, ← c.in_ok-s2.ensures, law.residual _ _ c.from_residual-in_err-s3.ensures.1, ← c.in_err-s3.ensures)

pub tlam-returns : goal.tlam-returns
unfolding transform_lam steps stated
tlam-returns t c = rw (← c.in_ok-s1.ensures, ← c.in_ok-s2.ensures, ← c.in_ok-s3.ensures, law.node c.new-node.ensures, ← c.cite.ensures, ← c.cite_first.ensures)
    (rw (law.node_rule _ c.new-node.ensures, ← c.tmake.ensures))

pub tpair-returns-in_err-s1 : goal.tpair-returns-in_err-s1
unfolding transform_pair steps stated
tpair-returns-in_err-s1 t c = rw (law.residual _ _ c.from_residual.ensures.1, ← c.in_err-s1.ensures)

pub tpair-returns-in_err-s2 : goal.tpair-returns-in_err-s2
unfolding transform_pair steps stated
tpair-returns-in_err-s2 t c = rw (← c.in_ok-s1.ensures, law.residual _ _ c.from_residual-in_err-s2.ensures.1, ← c.in_err-s2.ensures)

pub tpair-returns-in_err-s3 : goal.tpair-returns-in_err-s3
unfolding transform_pair steps stated
tpair-returns-in_err-s3 t c = rw (← c.in_ok-s1.ensures, ← c.in_ok-s2.ensures, law.residual _ _ c.from_residual-in_err-s3.ensures.1, ← c.in_err-s3.ensures)

pub tpair-returns : goal.tpair-returns
unfolding transform_pair steps stated
tpair-returns t c = rw (← c.in_ok-s1.ensures, ← c.in_ok-s2.ensures, ← c.in_ok-s3.ensures, law.node c.new-node.ensures, ← c.cite.ensures, law.node_rule _ c.new-node.ensures)
    (rw (← c.tmake.ensures))

pub tpapp-returns-in_err-s1 : goal.tpapp-returns-in_err-s1
unfolding transform_papp steps stated
tpapp-returns-in_err-s1 t c = rw (law.residual _ _ c.from_residual.ensures.1, ← c.in_err-s1.ensures)

pub tpapp-returns-in_err-s2 : goal.tpapp-returns-in_err-s2
unfolding transform_papp steps stated
tpapp-returns-in_err-s2 t c = rw (← c.in_ok-s1.ensures, law.residual _ _ c.from_residual-in_err-s2.ensures.1, ← c.in_err-s2.ensures)

pub tpapp-returns : goal.tpapp-returns
unfolding transform_papp steps stated
tpapp-returns t c = rw (← c.in_ok-s1.ensures, ← c.in_ok-s2.ensures, law.node c.new-node.ensures, ← c.cite_before.ensures, law.node_rule _ c.new-node.ensures, ← c.tmake.ensures)

pub tpath-returns-in_err-s0 : goal.tpath-returns-in_err-s0
unfolding transform_path steps stated
tpath-returns-in_err-s0 t c = rw (law.residual _ _ c.from_residual.ensures.1, ← c.in_err-s0.ensures)

pub tpath-returns-in_err-s1 : goal.tpath-returns-in_err-s1
unfolding transform_path steps stated
tpath-returns-in_err-s1 t c = rw (← c.in_ok-s0.ensures, law.residual _ _ c.from_residual-in_err-s1.ensures.1, ← c.in_err-s1.ensures)

pub tpath-returns-in_err-s2 : goal.tpath-returns-in_err-s2
unfolding transform_path steps stated
tpath-returns-in_err-s2 t c = rw (← c.in_ok-s0.ensures, ← c.in_ok-s1.ensures, law.residual _ _ c.from_residual-in_err-s2.ensures.1, ← c.in_err-s2.ensures)

pub tpath-returns-in_err-s3 : goal.tpath-returns-in_err-s3
unfolding transform_path steps stated
tpath-returns-in_err-s3 t c = rw (← c.in_ok-s0.ensures, ← c.in_ok-s1.ensures, ← c.in_ok-s2.ensures, law.residual _ _ c.from_residual-in_err-s3.ensures.1, ← c.in_err-s3.ensures)

pub tpath-returns : goal.tpath-returns
unfolding transform_path steps stated
tpath-returns t c = rw (← c.in_ok-s0.ensures, ← c.in_ok-s1.ensures, ← c.in_ok-s2.ensures, ← c.in_ok-s3.ensures, law.node c.new-node.ensures, ← c.cite.ensures)
    (rw (← c.cite_first.ensures, law.node_rule _ c.new-node.ensures, ← c.tmake.ensures))

pub tplam-returns-in_err-s0 : goal.tplam-returns-in_err-s0
unfolding transform_plam steps stated
tplam-returns-in_err-s0 t c = rw (law.residual _ _ c.from_residual.ensures.1, ← c.in_err-s0.ensures)

pub tplam-returns-in_err-s1 : goal.tplam-returns-in_err-s1
unfolding transform_plam steps stated
tplam-returns-in_err-s1 t c = rw (← c.in_ok-s0.ensures, law.residual _ _ c.from_residual-in_err-s1.ensures.1, ← c.in_err-s1.ensures)

pub tplam-returns-in_err-s2 : goal.tplam-returns-in_err-s2
unfolding transform_plam steps stated
tplam-returns-in_err-s2 t c = rw (← c.in_ok-s0.ensures, ← c.in_ok-s1.ensures, law.residual _ _ c.from_residual-in_err-s2.ensures.1, ← c.in_err-s2.ensures)

pub tplam-returns : goal.tplam-returns
unfolding transform_plam steps stated
tplam-returns t c = rw (← c.in_ok-s0.ensures, ← c.in_ok-s1.ensures, ← c.in_ok-s2.ensures, law.node c.new-node.ensures, ← c.cite.ensures, ← c.cite_first.ensures)
    (rw (law.node_rule _ c.new-node.ensures, ← c.tmake.ensures))

pub tproject-returns-in_err-s1 : goal.tproject-returns-in_err-s1
unfolding transform_projection steps stated
tproject-returns-in_err-s1 t c = rw (law.residual _ _ c.from_residual.ensures.1, ← c.in_err-s1.ensures)

pub tproject-returns : goal.tproject-returns
unfolding transform_projection steps stated
tproject-returns t c = rw (← c.in_ok-s1.ensures, law.node c.new-node.ensures, ← c.cite.ensures, law.node_rule _ c.new-node.ensures, ← c.tmake.ensures)

pub transform-returns-then-left-eq0 : goal.transform-returns-then-left-eq0
unfolding transform_body steps stated
transform-returns-then-left-eq0 t c = rw (law.transform_none _ _ _ _ c.if-left-eq0.true, c.refused.ensures)

pub transform-returns-in-Var : goal.transform-returns-in-Var
unfolding transform_body steps stated
transform-returns-in-Var t c = rw (law.transform_in _ _ _ _ c.if-left-eq0.false, ← c.deeper-s0.ensures, ← c.read-cell.ensures, law.kind_is _ c.of.ensures c.in-Var.is, ← c.tvar.ensures)

pub transform-returns : goal.transform-returns
unfolding transform_body steps stated
transform-returns t c = rw (law.transform_in _ _ _ _ c.if-left-eq0.false, ← c.deeper-s0.ensures, ← c.read-cell.ensures, law.kind_isnt _ c.of.ensures c.in_default.not-Var refl, ← c.compound.ensures)

pub under-returns-then-left-eq0 : goal.under-returns-then-left-eq0
unfolding under_body up steps stated
under-returns-then-left-eq0 t c = rw (law.under_none _ _ _ _ c.if-left-eq0.true, c.refused.ensures)

pub under-returns-then-dimension : goal.under-returns-then-dimension
unfolding under_body up steps stated
under-returns-then-dimension t c = rw (law.under_in _ _ _ _ c.if-left-eq0.false, ← c.deeper-s0.ensures, c.in-Shift.is, c.if-dimension.true, ← c.cite.ensures)

pub under-returns-then-dimension-2 : goal.under-returns-then-dimension-2
unfolding under_body up steps stated
under-returns-then-dimension-2 t c = rw (law.under_in _ _ _ _ c.if-left-eq0.false, ← c.deeper-s0.ensures, c.in-DShift.is, c.if-dimension-2.true, ← c.cite-then-dimension-2.ensures)

pub under-returns-in_err-s-in-DSubst : goal.under-returns-in_err-s-in-DSubst
unfolding under_body up steps stated
under-returns-in_err-s-in-DSubst t c = rw (law.under_in _ _ _ _ c.if-left-eq0.false, ← c.deeper-s0.ensures, c.in-DSubst.is, c.if-dimension-3.true, law.residual _ _ c.from_residual.ensures.1, ← c.in_err-s-in-DSubst.ensures)

pub under-returns-then-dimension-3 : goal.under-returns-then-dimension-3
unfolding under_body up steps stated
under-returns-then-dimension-3 t c = rw (law.under_in _ _ _ _ c.if-left-eq0.false, ← c.deeper-s0.ensures, c.in-DSubst.is, c.if-dimension-3.true, ← c.in_ok-s-in-DSubst.ensures, ← c.cite-then-dimension-3.ensures)

pub under-returns-else-dimension : goal.under-returns-else-dimension
unfolding under_body up steps stated
under-returns-else-dimension t c = rw (law.under_in _ _ _ _ c.if-left-eq0.false, ← c.deeper-s0.ensures, c.in-Shift.is, c.if-dimension.false, ← c.cite-in-Shift.ensures)

pub under-returns-in-Subst : goal.under-returns-in-Subst
unfolding under_body up steps stated
under-returns-in-Subst t c = rw (law.under_in _ _ _ _ c.if-left-eq0.false, ← c.deeper-s0.ensures, c.in-Subst.is, ← c.under_subst.ensures)

pub under-returns-else-dimension-2 : goal.under-returns-else-dimension-2
unfolding under_body up steps stated
under-returns-else-dimension-2 t c = rw (law.under_in _ _ _ _ c.if-left-eq0.false, ← c.deeper-s0.ensures, c.in-DShift.is, c.if-dimension-2.false, ← c.cite-in-DShift.ensures)

pub under-returns-else-dimension-3 : goal.under-returns-else-dimension-3
unfolding under_body up steps stated
under-returns-else-dimension-3 t c = rw (law.under_in _ _ _ _ c.if-left-eq0.false, ← c.deeper-s0.ensures, c.in-DSubst.is, c.if-dimension-3.false, ← c.cite-in-DSubst.ensures)

pub under_subst-returns-in_err-s : goal.under_subst-returns-in_err-s
unfolding under_subst up steps stated
under_subst-returns-in_err-s t c = rw (c.if-dimension.true, law.residual _ _ c.from_residual.ensures.1, ← c.in_err-s.ensures)

pub under_subst-returns-then-dimension : goal.under_subst-returns-then-dimension
unfolding under_subst up steps stated
under_subst-returns-then-dimension t c = rw (c.if-dimension.true, ← c.in_ok-s.ensures, ← c.cite.ensures)

pub under_subst-returns-in_err-s-2 : goal.under_subst-returns-in_err-s-2
unfolding under_subst up steps stated
under_subst-returns-in_err-s-2 t c = rw (c.if-dimension.false, law.residual _ _ c.from_residual-in_err-s-2.ensures.1, ← c.in_err-s-2.ensures)

pub under_subst-returns : goal.under_subst-returns
unfolding under_subst up steps stated
under_subst-returns t c = rw (c.if-dimension.false, ← c.in_ok-s-2.ensures, ← c.cite-2.ensures)
