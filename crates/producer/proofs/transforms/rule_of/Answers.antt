-- Written by tools/written.py from tools/language.py; `python3 tools/written.py` makes it again.
use Rattle.std.proofs.Common.{◌≡◌, refl}
use Rattle.producer.specs.Transforms.{rule_of}
use Rattle.producer.specs.Judgments.{rule_number}
use Rattle.ast.specs.Kinds.{kind_number}
use Rattle.ast.proofs.Numbered as law
use Rattle.producer.proofs.transforms.rule_of.Goals as goal

pub returns-in-Universe : goal.returns-in-Universe
unfolding rule_of rule_number kind_number
returns-in-Universe c = rw (law.kind_is _ c.of.ensures c.in-Universe.is, ← c.by_op.ensures)

pub returns-in-Nat : goal.returns-in-Nat
unfolding rule_of rule_number kind_number
returns-in-Nat c = rw (law.kind_is _ c.of.ensures c.in-Nat.is, ← c.by_op-in-Nat.ensures)

pub returns-in-Zero : goal.returns-in-Zero
unfolding rule_of rule_number kind_number
returns-in-Zero c = rw (law.kind_is _ c.of.ensures c.in-Zero.is, ← c.by_op-in-Zero.ensures)

pub returns-in-Pi : goal.returns-in-Pi
unfolding rule_of rule_number kind_number
returns-in-Pi c = rw (law.kind_is _ c.of.ensures c.in-Pi.is, ← c.by_op-in-Pi.ensures)

pub returns-in-Lam : goal.returns-in-Lam
unfolding rule_of rule_number kind_number
returns-in-Lam c = rw (law.kind_is _ c.of.ensures c.in-Lam.is, ← c.by_op-in-Lam.ensures)

pub returns-in-App : goal.returns-in-App
unfolding rule_of rule_number kind_number
returns-in-App c = rw (law.kind_is _ c.of.ensures c.in-App.is, ← c.by_op-in-App.ensures)

pub returns-in-Path : goal.returns-in-Path
unfolding rule_of rule_number kind_number
returns-in-Path c = rw (law.kind_is _ c.of.ensures c.in-Path.is, ← c.by_op-in-Path.ensures)

pub returns-in-Plam : goal.returns-in-Plam
unfolding rule_of rule_number kind_number
returns-in-Plam c = rw (law.kind_is _ c.of.ensures c.in-Plam.is, ← c.by_op-in-Plam.ensures)

pub returns-in-Papp : goal.returns-in-Papp
unfolding rule_of rule_number kind_number
returns-in-Papp c = rw (law.kind_is _ c.of.ensures c.in-Papp.is, ← c.by_op-in-Papp.ensures)

pub returns-in-Sigma : goal.returns-in-Sigma
unfolding rule_of rule_number kind_number
returns-in-Sigma c = rw (law.kind_is _ c.of.ensures c.in-Sigma.is, ← c.by_op-in-Sigma.ensures)

pub returns-in-Pair : goal.returns-in-Pair
unfolding rule_of rule_number kind_number
returns-in-Pair c = rw (law.kind_is _ c.of.ensures c.in-Pair.is, ← c.by_op-in-Pair.ensures)

pub returns-in-Fst : goal.returns-in-Fst
unfolding rule_of rule_number kind_number
returns-in-Fst c = rw (law.kind_is _ c.of.ensures c.in-Fst.is, ← c.by_op-in-Fst.ensures)

pub returns-in-Snd : goal.returns-in-Snd
unfolding rule_of rule_number kind_number
returns-in-Snd c = rw (law.kind_is _ c.of.ensures c.in-Snd.is, ← c.by_op-in-Snd.ensures)

pub returns-in_default : goal.returns-in_default
unfolding rule_of rule_number kind_number
returns-in_default c = rw (law.kind_isnt _ c.of.ensures c.in_default.not-Universe refl, law.kind_isnt _ c.of.ensures c.in_default.not-Nat refl, law.kind_isnt _ c.of.ensures c.in_default.not-Zero refl, law.kind_isnt _ c.of.ensures c.in_default.not-Pi refl, law.kind_isnt _ c.of.ensures c.in_default.not-Lam refl, law.kind_isnt _ c.of.ensures c.in_default.not-App refl)
    (rw (law.kind_isnt _ c.of.ensures c.in_default.not-Path refl, law.kind_isnt _ c.of.ensures c.in_default.not-Plam refl, law.kind_isnt _ c.of.ensures c.in_default.not-Papp refl, law.kind_isnt _ c.of.ensures c.in_default.not-Sigma refl, law.kind_isnt _ c.of.ensures c.in_default.not-Pair refl, law.kind_isnt _ c.of.ensures c.in_default.not-Fst refl)
    (rw (law.kind_isnt _ c.of.ensures c.in_default.not-Snd refl)))
