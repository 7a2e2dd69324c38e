-- The program's rules by their numbers, its judgments by the words of a row, and the step that adds one. Assumes nothing.
-- Written by tools/written.py from tools/language.py; `python3 tools/written.py` makes it again.
use Rattle.std.specs.Prelude.{ℕ, List}
use Rattle.walk.specs.Rule as R
use Rattle.ast.specs.Cells.{Found}
use Rattle.producer.specs.declared.codes.Rule.{Rule}
use Rattle.producer.specs.declared.codes.Rule.TheVariants as rule
use Rattle.producer.specs.declared.codes.Judgment.{Judgment}
use Rattle.producer.specs.declared.codes.Judgment.TheVariants as judgment
use Rattle.producer.specs.declared.codes.Words.{Words}
use Rattle.producer.specs.declared.rows.Refs.{Refs}
use Rattle.producer.specs.Machine.{W, emit, find_row}

unfoldable pub rule_number : Rule → ℕ
rule_number rule.CtxNil = R.ctx_nil
rule_number rule.CtxCons = R.ctx_cons
rule_number rule.DShiftCtxNil = R.dshiftctx_nil
rule_number rule.DShiftCtxCons = R.dshiftctx_cons
rule_number rule.LookupZ = R.lookup_z
rule_number rule.LookupS = R.lookup_s
rule_number rule.LtZ = R.lt_z
rule_number rule.LtS = R.lt_s
rule_number rule.LeZ = R.le_z
rule_number rule.LeS = R.le_s
rule_number rule.MaxZ = R.max_z
rule_number rule.MaxSz = R.max_sz
rule_number rule.MaxSs = R.max_ss
rule_number rule.Interval0 = R.interval_0
rule_number rule.Interval1 = R.interval_1
rule_number rule.IntervalDim = R.interval_dim
rule_number rule.IntervalNeg = R.interval_neg
rule_number rule.IntervalMeet = R.interval_meet
rule_number rule.IntervalJoin = R.interval_join
rule_number rule.IShift0 = R.ishift_0
rule_number rule.IShift1 = R.ishift_1
rule_number rule.IShiftDimLt = R.ishift_dim_lt
rule_number rule.IShiftDimGe = R.ishift_dim_ge
rule_number rule.IShiftNeg = R.ishift_neg
rule_number rule.IShiftMeet = R.ishift_meet
rule_number rule.IShiftJoin = R.ishift_join
rule_number rule.ISubst0 = R.isubst_0
rule_number rule.ISubst1 = R.isubst_1
rule_number rule.ISubstDimHit = R.isubst_dim_hit
rule_number rule.ISubstDimLt = R.isubst_dim_lt
rule_number rule.ISubstDimGt = R.isubst_dim_gt
rule_number rule.ISubstNeg = R.isubst_neg
rule_number rule.ISubstMeet = R.isubst_meet
rule_number rule.ISubstJoin = R.isubst_join
rule_number rule.ShiftU = R.shift_u
rule_number rule.ShiftNat = R.shift_nat
rule_number rule.ShiftZero = R.shift_zero
rule_number rule.ShiftVLt = R.shift_v_lt
rule_number rule.ShiftVGe = R.shift_v_ge
rule_number rule.ShiftPi = R.shift_pi
rule_number rule.ShiftLam = R.shift_lam
rule_number rule.ShiftApp = R.shift_app
rule_number rule.ShiftPath = R.shift_path
rule_number rule.ShiftPlam = R.shift_plam
rule_number rule.ShiftPapp = R.shift_papp
rule_number rule.SubstU = R.subst_u
rule_number rule.SubstNat = R.subst_nat
rule_number rule.SubstZero = R.subst_zero
rule_number rule.SubstVHit = R.subst_v_hit
rule_number rule.SubstVLt = R.subst_v_lt
rule_number rule.SubstVGt = R.subst_v_gt
rule_number rule.SubstPi = R.subst_pi
rule_number rule.SubstLam = R.subst_lam
rule_number rule.SubstApp = R.subst_app
rule_number rule.SubstPath = R.subst_path
rule_number rule.SubstPlam = R.subst_plam
rule_number rule.SubstPapp = R.subst_papp
rule_number rule.DShiftU = R.dshift_u
rule_number rule.DShiftNat = R.dshift_nat
rule_number rule.DShiftZero = R.dshift_zero
rule_number rule.DShiftV = R.dshift_v
rule_number rule.DShiftPi = R.dshift_pi
rule_number rule.DShiftLam = R.dshift_lam
rule_number rule.DShiftApp = R.dshift_app
rule_number rule.DShiftPath = R.dshift_path
rule_number rule.DShiftPlam = R.dshift_plam
rule_number rule.DShiftPapp = R.dshift_papp
rule_number rule.DSubstU = R.dsubst_u
rule_number rule.DSubstNat = R.dsubst_nat
rule_number rule.DSubstZero = R.dsubst_zero
rule_number rule.DSubstV = R.dsubst_v
rule_number rule.DSubstPi = R.dsubst_pi
rule_number rule.DSubstLam = R.dsubst_lam
rule_number rule.DSubstApp = R.dsubst_app
rule_number rule.DSubstPath = R.dsubst_path
rule_number rule.DSubstPlam = R.dsubst_plam
rule_number rule.DSubstPapp = R.dsubst_papp
rule_number rule.TypeU = R.type_u
rule_number rule.TypeNat = R.type_nat
rule_number rule.TypeZero = R.type_zero
rule_number rule.TypeV = R.type_v
rule_number rule.TypePi = R.type_pi
rule_number rule.TypeLam = R.type_lam
rule_number rule.TypeApp = R.type_app
rule_number rule.TypePath = R.type_path
rule_number rule.TypePlam = R.type_plam
rule_number rule.TypePapp = R.type_papp
rule_number rule.TypeConv = R.type_conv
rule_number rule.EqRefl = R.eq_refl
rule_number rule.EqSym = R.eq_sym
rule_number rule.EqTrans = R.eq_trans
rule_number rule.EqBeta = R.eq_beta
rule_number rule.EqPbeta = R.eq_pbeta
rule_number rule.EqP0 = R.eq_p0
rule_number rule.EqP1 = R.eq_p1
rule_number rule.TypeSigma = R.type_sigma
rule_number rule.TypePair = R.type_pair
rule_number rule.TypeFst = R.type_fst
rule_number rule.TypeSnd = R.type_snd
rule_number rule.EqFstBeta = R.eq_fst_beta
rule_number rule.EqSndBeta = R.eq_snd_beta
rule_number rule.ShiftSigma = R.shift_sigma
rule_number rule.ShiftPair = R.shift_pair
rule_number rule.ShiftFst = R.shift_fst
rule_number rule.ShiftSnd = R.shift_snd
rule_number rule.SubstSigma = R.subst_sigma
rule_number rule.SubstPair = R.subst_pair
rule_number rule.SubstFst = R.subst_fst
rule_number rule.SubstSnd = R.subst_snd
rule_number rule.DShiftSigma = R.dshift_sigma
rule_number rule.DShiftPair = R.dshift_pair
rule_number rule.DShiftFst = R.dshift_fst
rule_number rule.DShiftSnd = R.dshift_snd
rule_number rule.DSubstSigma = R.dsubst_sigma
rule_number rule.DSubstPair = R.dsubst_pair
rule_number rule.DSubstFst = R.dsubst_fst
rule_number rule.DSubstSnd = R.dsubst_snd
rule_number rule.Iend0 = R.iend_0
rule_number rule.Iend1 = R.iend_1
rule_number rule.IendNeg = R.iend_neg
rule_number rule.IendMeet = R.iend_meet
rule_number rule.IendJoin = R.iend_join
rule_number rule.EqP0Val = R.eq_p0_val
rule_number rule.EqP1Val = R.eq_p1_val
rule_number rule.EqAppCong = R.eq_app_cong
rule_number rule.EqPappCong = R.eq_papp_cong
rule_number (rule.Other o) = o.number

unfoldable pub words_of : Judgment → Words
words_of (judgment.Ctx x0 x1) = record { kind = 0; count = 2; a = x0; b = x1; c = 0; d = 0; e = 0 }
words_of (judgment.DShiftCtx x0 x1 x2) = record { kind = 1; count = 3; a = x0; b = x1; c = x2; d = 0; e = 0 }
words_of (judgment.Lookup x0 x1 x2) = record { kind = 2; count = 3; a = x0; b = x1; c = x2; d = 0; e = 0 }
words_of (judgment.Lt x0 x1) = record { kind = 3; count = 2; a = x0; b = x1; c = 0; d = 0; e = 0 }
words_of (judgment.Le x0 x1) = record { kind = 4; count = 2; a = x0; b = x1; c = 0; d = 0; e = 0 }
words_of (judgment.Max x0 x1 x2) = record { kind = 5; count = 3; a = x0; b = x1; c = x2; d = 0; e = 0 }
words_of (judgment.Interval x0 x1) = record { kind = 6; count = 2; a = x0; b = x1; c = 0; d = 0; e = 0 }
words_of (judgment.IShift x0 x1 x2) = record { kind = 7; count = 3; a = x0; b = x1; c = x2; d = 0; e = 0 }
words_of (judgment.ISubst x0 x1 x2 x3) = record { kind = 8; count = 4; a = x0; b = x1; c = x2; d = x3; e = 0 }
words_of (judgment.Shift x0 x1 x2) = record { kind = 9; count = 3; a = x0; b = x1; c = x2; d = 0; e = 0 }
words_of (judgment.Subst x0 x1 x2 x3) = record { kind = 10; count = 4; a = x0; b = x1; c = x2; d = x3; e = 0 }
words_of (judgment.DShift x0 x1 x2) = record { kind = 11; count = 3; a = x0; b = x1; c = x2; d = 0; e = 0 }
words_of (judgment.DSubst x0 x1 x2 x3) = record { kind = 12; count = 4; a = x0; b = x1; c = x2; d = x3; e = 0 }
words_of (judgment.Has x0 x1 x2 x3) = record { kind = 13; count = 4; a = x0; b = x1; c = x2; d = x3; e = 0 }
words_of (judgment.Eq x0 x1 x2 x3 x4) = record { kind = 14; count = 5; a = x0; b = x1; c = x2; d = x3; e = x4 }
words_of (judgment.Iend x0 x1) = record { kind = 15; count = 2; a = x0; b = x1; c = 0; d = 0; e = 0 }

unfoldable pub emit_words : ℕ → Refs → Words → W ℕ
emit_words n l w = emit n l w.kind w.count w.a w.b w.c w.d w.e

unfoldable pub emit_as : ℕ → Refs → Judgment → W ℕ
emit_as n l j = emit_words n l (words_of j)

unfoldable pub known_words : List ℕ → ℕ → Words → Found
known_words R n w = find_row R n w.kind w.a w.b w.c w.d w.e

-- the last row below n that states a judgment
unfoldable pub known_as : List ℕ → ℕ → Judgment → Found
known_as R n j = known_words R n (words_of j)
