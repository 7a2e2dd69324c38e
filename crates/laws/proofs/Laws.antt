-- The laws of specs/Laws hold: of the transforms as functions, of the walk's calls, and of the program's.
use Rattle.std.proofs.Common.{zero-le}
use Rattle.walk.specs.Syntax.{Interval, Term}
use Rattle.walk.specs.Walk.Reference.{Op, IOp}
use Rattle.laws.proofs.Substs as S
use Rattle.laws.specs.Results.{Called, ICalled}
use Rattle.laws.proofs.Results.{gives, igives}
use Rattle.laws.specs.Program.{RanTransform, RanItransform}
use Rattle.laws.proofs.Program.{called, icalled}
use Rattle.laws.specs.Laws.{ShiftSubstLaw, SubstSubstLaw, SubstDsubstLaw, DshiftDsubstLaw, DsubstDsubstLaw, IshiftIsubstLaw, IsubstIsubstLaw, Laws, Give}

pub shift_subst : ShiftSubstLaw
shift_subst = S.subst_shift

pub subst_subst : SubstSubstLaw
subst_subst k = S.subst_subst 0 k zero-le

pub subst_dsubst : SubstDsubstLaw
subst_dsubst = S.dsubst_subst

pub dshift_dsubst : DshiftDsubstLaw
dshift_dsubst = S.dsubst_dshift

pub dsubst_dsubst : DsubstDsubstLaw
dsubst_dsubst k = S.dsubst_dsubst 0 k zero-le

pub ishift_isubst : IshiftIsubstLaw
ishift_isubst = S.isubst_ishift

pub isubst_isubst : IsubstIsubstLaw
isubst_isubst k = S.isubst_isubst 0 k zero-le

module _ {T : Term → Op → Term → Type 0} {I : Interval → IOp → Interval → Type 0} (G : Give T I) where
  laws : Laws T I
  laws = record {
    shift_subst = λ c₁ c₂. rw (G.term c₂, G.term c₁) (shift_subst _ _ _);
    subst_subst = λ c₁ c₂ b c₃ a c₄.
        rw (G.term c₂, G.term c₁, G.term c₄, G.term a, G.term c₃, G.term b) (subst_subst _ _ _ _);
    subst_dsubst = λ c₁ c₂ c₃ a c₄.
        rw (G.term c₂, G.term c₁, G.term c₄, G.term a, G.term c₃) (subst_dsubst _ _ _ _ _);
    dshift_dsubst = λ c₁ c₂. rw (G.term c₂, G.term c₁) (dshift_dsubst _ _ _);
    dsubst_dsubst = λ c₁ c₂ s c₃ r c₄.
        rw (G.term c₂, G.term c₁, G.term c₄, G.interval r, G.term c₃, G.interval s) (dsubst_dsubst _ _ _ _);
    ishift_isubst = λ c₁ c₂. rw (G.interval c₂, G.interval c₁) (ishift_isubst _ _ _);
    isubst_isubst = λ c₁ c₂ s c₃ r c₄.
        rw (G.interval c₂, G.interval c₁, G.interval c₄, G.interval r, G.interval c₃, G.interval s) (isubst_isubst _ _ _ _);
  }

-- the walk's calls, with any number of entries left and from any state
pub walk_laws : Laws Called ICalled
walk_laws = laws (record { term = gives; interval = igives })

-- The code's calls, over words that stand for a state of the walk. On the store of any run, calls one after the other, of cells: `run_laws` of
-- Runs. And each call that a run itself makes gives what the functions give: `run_checked` of Inside.
pub program_laws : Laws RanTransform RanItransform
program_laws = laws (record { term = λ c. gives (called c); interval = λ c. igives (icalled c) })
