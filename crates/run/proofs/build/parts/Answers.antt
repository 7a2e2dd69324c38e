-- Written by tools/written.py from tools/language.py; `python3 tools/written.py` makes it again.
use Rattle.std.proofs.Common.{◌≡◌, refl}
use Rattle.run.specs.Build.{parts_of, follows_number}
use Rattle.ast.specs.Kinds.{kind_number}
use Rattle.ast.proofs.Numbered as law
use Rattle.run.proofs.build.parts.Goals as goal

pub returns-in-Universe : goal.returns-in-Universe
unfolding parts_of follows_number kind_number
returns-in-Universe c = rw (law.kind_is _ c.of.ensures c.in-Universe.is)

pub returns-in-Var : goal.returns-in-Var
unfolding parts_of follows_number kind_number
returns-in-Var c = rw (law.kind_is _ c.of.ensures c.in-Var.is)

pub returns-in-Nat : goal.returns-in-Nat
unfolding parts_of follows_number kind_number
returns-in-Nat c = rw (law.kind_is _ c.of.ensures c.in-Nat.is)

pub returns-in-Zero : goal.returns-in-Zero
unfolding parts_of follows_number kind_number
returns-in-Zero c = rw (law.kind_is _ c.of.ensures c.in-Zero.is)

pub returns-in-Pi : goal.returns-in-Pi
unfolding parts_of follows_number kind_number
returns-in-Pi c = rw (law.kind_is _ c.of.ensures c.in-Pi.is)

pub returns-in-Lam : goal.returns-in-Lam
unfolding parts_of follows_number kind_number
returns-in-Lam c = rw (law.kind_is _ c.of.ensures c.in-Lam.is)

pub returns-in-App : goal.returns-in-App
unfolding parts_of follows_number kind_number
returns-in-App c = rw (law.kind_is _ c.of.ensures c.in-App.is)

pub returns-in-Path : goal.returns-in-Path
unfolding parts_of follows_number kind_number
returns-in-Path c = rw (law.kind_is _ c.of.ensures c.in-Path.is)

pub returns-in-Plam : goal.returns-in-Plam
unfolding parts_of follows_number kind_number
returns-in-Plam c = rw (law.kind_is _ c.of.ensures c.in-Plam.is)

pub returns-in-Papp : goal.returns-in-Papp
unfolding parts_of follows_number kind_number
returns-in-Papp c = rw (law.kind_is _ c.of.ensures c.in-Papp.is)

pub returns-in-Sigma : goal.returns-in-Sigma
unfolding parts_of follows_number kind_number
returns-in-Sigma c = rw (law.kind_is _ c.of.ensures c.in-Sigma.is)

pub returns-in-Pair : goal.returns-in-Pair
unfolding parts_of follows_number kind_number
returns-in-Pair c = rw (law.kind_is _ c.of.ensures c.in-Pair.is)

pub returns-in-Fst : goal.returns-in-Fst
unfolding parts_of follows_number kind_number
returns-in-Fst c = rw (law.kind_is _ c.of.ensures c.in-Fst.is)

pub returns-in-Snd : goal.returns-in-Snd
unfolding parts_of follows_number kind_number
returns-in-Snd c = rw (law.kind_is _ c.of.ensures c.in-Snd.is)

pub returns-in-I0 : goal.returns-in-I0
unfolding parts_of follows_number kind_number
returns-in-I0 c = rw (law.kind_is _ c.of.ensures c.in-I0.is)

pub returns-in-I1 : goal.returns-in-I1
unfolding parts_of follows_number kind_number
returns-in-I1 c = rw (law.kind_is _ c.of.ensures c.in-I1.is)

pub returns-in-Dim : goal.returns-in-Dim
unfolding parts_of follows_number kind_number
returns-in-Dim c = rw (law.kind_is _ c.of.ensures c.in-Dim.is)

pub returns-in-Neg : goal.returns-in-Neg
unfolding parts_of follows_number kind_number
returns-in-Neg c = rw (law.kind_is _ c.of.ensures c.in-Neg.is)

pub returns-in-Meet : goal.returns-in-Meet
unfolding parts_of follows_number kind_number
returns-in-Meet c = rw (law.kind_is _ c.of.ensures c.in-Meet.is)

pub returns-in-Join : goal.returns-in-Join
unfolding parts_of follows_number kind_number
returns-in-Join c = rw (law.kind_is _ c.of.ensures c.in-Join.is)

pub returns-in_default : goal.returns-in_default
unfolding parts_of follows_number kind_number
returns-in_default c = rw (law.kind_isnt _ c.of.ensures c.in_default.not-Universe refl, law.kind_isnt _ c.of.ensures c.in_default.not-Var refl, law.kind_isnt _ c.of.ensures c.in_default.not-Nat refl, law.kind_isnt _ c.of.ensures c.in_default.not-Zero refl, law.kind_isnt _ c.of.ensures c.in_default.not-Pi refl, law.kind_isnt _ c.of.ensures c.in_default.not-Lam refl)
    (rw (law.kind_isnt _ c.of.ensures c.in_default.not-App refl, law.kind_isnt _ c.of.ensures c.in_default.not-Path refl, law.kind_isnt _ c.of.ensures c.in_default.not-Plam refl, law.kind_isnt _ c.of.ensures c.in_default.not-Papp refl, law.kind_isnt _ c.of.ensures c.in_default.not-Sigma refl, law.kind_isnt _ c.of.ensures c.in_default.not-Pair refl)
    (rw (law.kind_isnt _ c.of.ensures c.in_default.not-Fst refl, law.kind_isnt _ c.of.ensures c.in_default.not-Snd refl, law.kind_isnt _ c.of.ensures c.in_default.not-I0 refl, law.kind_isnt _ c.of.ensures c.in_default.not-I1 refl, law.kind_isnt _ c.of.ensures c.in_default.not-Dim refl, law.kind_isnt _ c.of.ensures c.in_default.not-Neg refl)
    (rw (law.kind_isnt _ c.of.ensures c.in_default.not-Meet refl, law.kind_isnt _ c.of.ensures c.in_default.not-Join refl))))
