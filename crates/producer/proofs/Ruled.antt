-- A rule is one value alone: two with the same number are the same. Assumes nothing.
use Rattle.std.specs.Prelude.{nat_lt}
use Rattle.std.proofs.Common.{◌≡◌, ◌<◌, ℕ, Bool, true, false, List, [], ◌∷◌, refl, inl, inr}
use Rattle.std.proofs.lemmas.Bool.{ltb-true}
use Rattle.std.proofs.Math.Bridge.{le_prop}
use native.Mathlib.Omega.{arith}
use Rattle.ast.proofs.Alone.{found, Seen, alone}
use Rattle.producer.specs.Judgments.{rule_number}
use Rattle.producer.specs.declared.codes.Rule.{Rule}
use Rattle.producer.specs.declared.codes.Rule.TheVariants as rule
use Rattle.producer.specs.declared.others.OtherRule as OtherRule

-- what has no name; `none-type n` is what its ghost field says of the number n
abbrev other : (n : ℕ) → OtherRule.none-type n → Rule
other n h = rule.Other record { number = n; none = h }

-- whether a rule with a name has the number
abbrev has : ℕ → Bool
has n = nat_lt n 126

apart : (n : ℕ) → OtherRule.none-type n → has n ≡ false
apart n h = go (nat_lt n 126) refl
  where
    clash : n < 126 → ⊥
    clash p = omega arith

    go : (b : Bool) → nat_lt n 126 ≡ b → b ≡ false
    go false p = refl
    go true p = absurd (clash (ltb-true n 126 p))

-- written by tools/written.py: rules
abbrev every_rule : List Rule
every_rule = rule.CtxNil ∷ rule.CtxCons ∷ rule.DShiftCtxNil ∷ rule.DShiftCtxCons ∷ rule.LookupZ ∷ rule.LookupS ∷ rule.LtZ ∷ rule.LtS ∷ rule.LeZ ∷ rule.LeS ∷ rule.MaxZ ∷ rule.MaxSz ∷ rule.MaxSs ∷ rule.Interval0 ∷ rule.Interval1 ∷ rule.IntervalDim ∷ rule.IntervalNeg ∷ rule.IntervalMeet ∷ rule.IntervalJoin ∷ rule.IShift0 ∷ rule.IShift1 ∷ rule.IShiftDimLt ∷ rule.IShiftDimGe ∷ rule.IShiftNeg ∷ rule.IShiftMeet ∷ rule.IShiftJoin ∷ rule.ISubst0 ∷ rule.ISubst1 ∷ rule.ISubstDimHit ∷ rule.ISubstDimLt ∷ rule.ISubstDimGt ∷ rule.ISubstNeg ∷ rule.ISubstMeet ∷ rule.ISubstJoin ∷ rule.ShiftU ∷ rule.ShiftNat ∷ rule.ShiftZero ∷ rule.ShiftVLt ∷ rule.ShiftVGe ∷ rule.ShiftPi ∷ rule.ShiftLam ∷ rule.ShiftApp ∷ rule.ShiftPath ∷ rule.ShiftPlam ∷ rule.ShiftPapp ∷ rule.SubstU ∷ rule.SubstNat ∷ rule.SubstZero ∷ rule.SubstVHit ∷ rule.SubstVLt ∷ rule.SubstVGt ∷ rule.SubstPi ∷ rule.SubstLam ∷ rule.SubstApp ∷ rule.SubstPath ∷ rule.SubstPlam ∷ rule.SubstPapp ∷ rule.DShiftU ∷ rule.DShiftNat ∷ rule.DShiftZero ∷ rule.DShiftV ∷ rule.DShiftPi ∷ rule.DShiftLam ∷ rule.DShiftApp ∷ rule.DShiftPath ∷ rule.DShiftPlam ∷ rule.DShiftPapp ∷ rule.DSubstU ∷ rule.DSubstNat ∷ rule.DSubstZero ∷ rule.DSubstV ∷ rule.DSubstPi ∷ rule.DSubstLam ∷ rule.DSubstApp ∷ rule.DSubstPath ∷ rule.DSubstPlam ∷ rule.DSubstPapp ∷ rule.TypeU ∷ rule.TypeNat ∷ rule.TypeZero ∷ rule.TypeV ∷ rule.TypePi ∷ rule.TypeLam ∷ rule.TypeApp ∷ rule.TypePath ∷ rule.TypePlam ∷ rule.TypePapp ∷ rule.TypeConv ∷ rule.EqRefl ∷ rule.EqSym ∷ rule.EqTrans ∷ rule.EqBeta ∷ rule.EqPbeta ∷ rule.EqP0 ∷ rule.EqP1 ∷ rule.TypeSigma ∷ rule.TypePair ∷ rule.TypeFst ∷ rule.TypeSnd ∷ rule.EqFstBeta ∷ rule.EqSndBeta ∷ rule.ShiftSigma ∷ rule.ShiftPair ∷ rule.ShiftFst ∷ rule.ShiftSnd ∷ rule.SubstSigma ∷ rule.SubstPair ∷ rule.SubstFst ∷ rule.SubstSnd ∷ rule.DShiftSigma ∷ rule.DShiftPair ∷ rule.DShiftFst ∷ rule.DShiftSnd ∷ rule.DSubstSigma ∷ rule.DSubstPair ∷ rule.DSubstFst ∷ rule.DSubstSnd ∷ rule.Iend0 ∷ rule.Iend1 ∷ rule.IendNeg ∷ rule.IendMeet ∷ rule.IendJoin ∷ rule.EqP0Val ∷ rule.EqP1Val ∷ rule.EqAppCong ∷ rule.EqPappCong ∷ []

seen : (x : Rule) → Seen rule_number (found rule_number rule.CtxNil every_rule) has OtherRule.none-type other x
unfolding rule_number found
seen rule.CtxNil = inl (refl, refl)
seen rule.CtxCons = inl (refl, refl)
seen rule.DShiftCtxNil = inl (refl, refl)
seen rule.DShiftCtxCons = inl (refl, refl)
seen rule.LookupZ = inl (refl, refl)
seen rule.LookupS = inl (refl, refl)
seen rule.LtZ = inl (refl, refl)
seen rule.LtS = inl (refl, refl)
seen rule.LeZ = inl (refl, refl)
seen rule.LeS = inl (refl, refl)
seen rule.MaxZ = inl (refl, refl)
seen rule.MaxSz = inl (refl, refl)
seen rule.MaxSs = inl (refl, refl)
seen rule.Interval0 = inl (refl, refl)
seen rule.Interval1 = inl (refl, refl)
seen rule.IntervalDim = inl (refl, refl)
seen rule.IntervalNeg = inl (refl, refl)
seen rule.IntervalMeet = inl (refl, refl)
seen rule.IntervalJoin = inl (refl, refl)
seen rule.IShift0 = inl (refl, refl)
seen rule.IShift1 = inl (refl, refl)
seen rule.IShiftDimLt = inl (refl, refl)
seen rule.IShiftDimGe = inl (refl, refl)
seen rule.IShiftNeg = inl (refl, refl)
seen rule.IShiftMeet = inl (refl, refl)
seen rule.IShiftJoin = inl (refl, refl)
seen rule.ISubst0 = inl (refl, refl)
seen rule.ISubst1 = inl (refl, refl)
seen rule.ISubstDimHit = inl (refl, refl)
seen rule.ISubstDimLt = inl (refl, refl)
seen rule.ISubstDimGt = inl (refl, refl)
seen rule.ISubstNeg = inl (refl, refl)
seen rule.ISubstMeet = inl (refl, refl)
seen rule.ISubstJoin = inl (refl, refl)
seen rule.ShiftU = inl (refl, refl)
seen rule.ShiftNat = inl (refl, refl)
seen rule.ShiftZero = inl (refl, refl)
seen rule.ShiftVLt = inl (refl, refl)
seen rule.ShiftVGe = inl (refl, refl)
seen rule.ShiftPi = inl (refl, refl)
seen rule.ShiftLam = inl (refl, refl)
seen rule.ShiftApp = inl (refl, refl)
seen rule.ShiftPath = inl (refl, refl)
seen rule.ShiftPlam = inl (refl, refl)
seen rule.ShiftPapp = inl (refl, refl)
seen rule.SubstU = inl (refl, refl)
seen rule.SubstNat = inl (refl, refl)
seen rule.SubstZero = inl (refl, refl)
seen rule.SubstVHit = inl (refl, refl)
seen rule.SubstVLt = inl (refl, refl)
seen rule.SubstVGt = inl (refl, refl)
seen rule.SubstPi = inl (refl, refl)
seen rule.SubstLam = inl (refl, refl)
seen rule.SubstApp = inl (refl, refl)
seen rule.SubstPath = inl (refl, refl)
seen rule.SubstPlam = inl (refl, refl)
seen rule.SubstPapp = inl (refl, refl)
seen rule.DShiftU = inl (refl, refl)
seen rule.DShiftNat = inl (refl, refl)
seen rule.DShiftZero = inl (refl, refl)
seen rule.DShiftV = inl (refl, refl)
seen rule.DShiftPi = inl (refl, refl)
seen rule.DShiftLam = inl (refl, refl)
seen rule.DShiftApp = inl (refl, refl)
seen rule.DShiftPath = inl (refl, refl)
seen rule.DShiftPlam = inl (refl, refl)
seen rule.DShiftPapp = inl (refl, refl)
seen rule.DSubstU = inl (refl, refl)
seen rule.DSubstNat = inl (refl, refl)
seen rule.DSubstZero = inl (refl, refl)
seen rule.DSubstV = inl (refl, refl)
seen rule.DSubstPi = inl (refl, refl)
seen rule.DSubstLam = inl (refl, refl)
seen rule.DSubstApp = inl (refl, refl)
seen rule.DSubstPath = inl (refl, refl)
seen rule.DSubstPlam = inl (refl, refl)
seen rule.DSubstPapp = inl (refl, refl)
seen rule.TypeU = inl (refl, refl)
seen rule.TypeNat = inl (refl, refl)
seen rule.TypeZero = inl (refl, refl)
seen rule.TypeV = inl (refl, refl)
seen rule.TypePi = inl (refl, refl)
seen rule.TypeLam = inl (refl, refl)
seen rule.TypeApp = inl (refl, refl)
seen rule.TypePath = inl (refl, refl)
seen rule.TypePlam = inl (refl, refl)
seen rule.TypePapp = inl (refl, refl)
seen rule.TypeConv = inl (refl, refl)
seen rule.EqRefl = inl (refl, refl)
seen rule.EqSym = inl (refl, refl)
seen rule.EqTrans = inl (refl, refl)
seen rule.EqBeta = inl (refl, refl)
seen rule.EqPbeta = inl (refl, refl)
seen rule.EqP0 = inl (refl, refl)
seen rule.EqP1 = inl (refl, refl)
seen rule.TypeSigma = inl (refl, refl)
seen rule.TypePair = inl (refl, refl)
seen rule.TypeFst = inl (refl, refl)
seen rule.TypeSnd = inl (refl, refl)
seen rule.EqFstBeta = inl (refl, refl)
seen rule.EqSndBeta = inl (refl, refl)
seen rule.ShiftSigma = inl (refl, refl)
seen rule.ShiftPair = inl (refl, refl)
seen rule.ShiftFst = inl (refl, refl)
seen rule.ShiftSnd = inl (refl, refl)
seen rule.SubstSigma = inl (refl, refl)
seen rule.SubstPair = inl (refl, refl)
seen rule.SubstFst = inl (refl, refl)
seen rule.SubstSnd = inl (refl, refl)
seen rule.DShiftSigma = inl (refl, refl)
seen rule.DShiftPair = inl (refl, refl)
seen rule.DShiftFst = inl (refl, refl)
seen rule.DShiftSnd = inl (refl, refl)
seen rule.DSubstSigma = inl (refl, refl)
seen rule.DSubstPair = inl (refl, refl)
seen rule.DSubstFst = inl (refl, refl)
seen rule.DSubstSnd = inl (refl, refl)
seen rule.Iend0 = inl (refl, refl)
seen rule.Iend1 = inl (refl, refl)
seen rule.IendNeg = inl (refl, refl)
seen rule.IendMeet = inl (refl, refl)
seen rule.IendJoin = inl (refl, refl)
seen rule.EqP0Val = inl (refl, refl)
seen rule.EqP1Val = inl (refl, refl)
seen rule.EqAppCong = inl (refl, refl)
seen rule.EqPappCong = inl (refl, refl)
seen (rule.Other o) = inr (o.number, o.none, refl)

-- end of rules

pub rule_alone : (x y : Rule) → rule_number x ≡ rule_number y → x ≡ y
unfolding rule_number
rule_alone = alone rule_number (found rule_number rule.CtxNil every_rule) has OtherRule.none-type other seen (λ n h. refl) apart (λ n. le_prop)
