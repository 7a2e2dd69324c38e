-- Written by tools/written.py from tools/language.py; `python3 tools/written.py` makes it again.
use Rattle.std.proofs.Common.{◌≡◌, refl}
use Rattle.ast.specs.Cells.{shows_first}
use Rattle.ast.specs.Kinds.{kind_number}
use Rattle.ast.proofs.Numbered as law
use Rattle.ast.proofs.cells.shows_first.Goals as goal

pub returns-in-Pi : goal.returns-in-Pi
unfolding shows_first kind_number
returns-in-Pi c = rw (law.kind_is _ c.of.ensures c.in-Pi.is)

pub returns-in-App : goal.returns-in-App
unfolding shows_first kind_number
returns-in-App c = rw (law.kind_is _ c.of.ensures c.in-App.is)

pub returns-in-Path : goal.returns-in-Path
unfolding shows_first kind_number
returns-in-Path c = rw (law.kind_is _ c.of.ensures c.in-Path.is)

pub returns-in-Papp : goal.returns-in-Papp
unfolding shows_first kind_number
returns-in-Papp c = rw (law.kind_is _ c.of.ensures c.in-Papp.is)

pub returns-in-Sigma : goal.returns-in-Sigma
unfolding shows_first kind_number
returns-in-Sigma c = rw (law.kind_is _ c.of.ensures c.in-Sigma.is)

pub returns-in-Fst : goal.returns-in-Fst
unfolding shows_first kind_number
returns-in-Fst c = rw (law.kind_is _ c.of.ensures c.in-Fst.is)

pub returns-in-Snd : goal.returns-in-Snd
unfolding shows_first kind_number
returns-in-Snd c = rw (law.kind_is _ c.of.ensures c.in-Snd.is)

pub returns-in-Neg : goal.returns-in-Neg
unfolding shows_first kind_number
returns-in-Neg c = rw (law.kind_is _ c.of.ensures c.in-Neg.is)

pub returns-in-Meet : goal.returns-in-Meet
unfolding shows_first kind_number
returns-in-Meet c = rw (law.kind_is _ c.of.ensures c.in-Meet.is)

pub returns-in-Join : goal.returns-in-Join
unfolding shows_first kind_number
returns-in-Join c = rw (law.kind_is _ c.of.ensures c.in-Join.is)

pub returns-in-Cons : goal.returns-in-Cons
unfolding shows_first kind_number
returns-in-Cons c = rw (law.kind_is _ c.of.ensures c.in-Cons.is)

pub returns-in_default : goal.returns-in_default
unfolding shows_first kind_number
returns-in_default c = rw (law.kind_isnt _ c.of.ensures c.in_default.not-Pi refl, law.kind_isnt _ c.of.ensures c.in_default.not-App refl, law.kind_isnt _ c.of.ensures c.in_default.not-Path refl, law.kind_isnt _ c.of.ensures c.in_default.not-Papp refl, law.kind_isnt _ c.of.ensures c.in_default.not-Sigma refl, law.kind_isnt _ c.of.ensures c.in_default.not-Fst refl)
    (rw (law.kind_isnt _ c.of.ensures c.in_default.not-Snd refl, law.kind_isnt _ c.of.ensures c.in_default.not-Neg refl, law.kind_isnt _ c.of.ensures c.in_default.not-Meet refl, law.kind_isnt _ c.of.ensures c.in_default.not-Join refl, law.kind_isnt _ c.of.ensures c.in_default.not-Cons refl))
