-- Written by tools/written.py from tools/language.py; `python3 tools/written.py` makes it again.
use Rattle.std.proofs.Common.{◌≡◌, refl}
use Rattle.ast.specs.Cells.{shape_of}
use Rattle.ast.specs.Kinds.{kind_number}
use Rattle.ast.proofs.Numbered as law
use Rattle.ast.proofs.cells.shape_of.Goals as goal

pub returns-in-Universe : goal.returns-in-Universe
unfolding shape_of kind_number
returns-in-Universe c = rw (← c.read-cell.ensures, law.kind_is _ c.of.ensures c.in-Universe.is)

pub returns-in-Pi : goal.returns-in-Pi
unfolding shape_of kind_number
returns-in-Pi c = rw (← c.read-cell.ensures, law.kind_is _ c.of.ensures c.in-Pi.is)

pub returns-in-Lam : goal.returns-in-Lam
unfolding shape_of kind_number
returns-in-Lam c = rw (← c.read-cell.ensures, law.kind_is _ c.of.ensures c.in-Lam.is)

pub returns-in-Path : goal.returns-in-Path
unfolding shape_of kind_number
returns-in-Path c = rw (← c.read-cell.ensures, law.kind_is _ c.of.ensures c.in-Path.is)

pub returns-in-Plam : goal.returns-in-Plam
unfolding shape_of kind_number
returns-in-Plam c = rw (← c.read-cell.ensures, law.kind_is _ c.of.ensures c.in-Plam.is)

pub returns-in-Sigma : goal.returns-in-Sigma
unfolding shape_of kind_number
returns-in-Sigma c = rw (← c.read-cell.ensures, law.kind_is _ c.of.ensures c.in-Sigma.is)

pub returns-in-Pair : goal.returns-in-Pair
unfolding shape_of kind_number
returns-in-Pair c = rw (← c.read-cell.ensures, law.kind_is _ c.of.ensures c.in-Pair.is)

pub returns-in_default : goal.returns-in_default
unfolding shape_of kind_number
returns-in_default c = rw (← c.read-cell.ensures, law.kind_isnt _ c.of.ensures c.in_default.not-Universe refl, law.kind_isnt _ c.of.ensures c.in_default.not-Pi refl, law.kind_isnt _ c.of.ensures c.in_default.not-Lam refl, law.kind_isnt _ c.of.ensures c.in_default.not-Path refl, law.kind_isnt _ c.of.ensures c.in_default.not-Plam refl)
    (rw (law.kind_isnt _ c.of.ensures c.in_default.not-Sigma refl, law.kind_isnt _ c.of.ensures c.in_default.not-Pair refl))
