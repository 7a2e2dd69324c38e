-- Written by tools/written.py from tools/language.py; `python3 tools/written.py` makes it again.
use Rattle.std.proofs.Common.{◌≡◌, refl}
use Rattle.ast.specs.Cells.{hides_first}
use Rattle.ast.specs.Kinds.{kind_number}
use Rattle.ast.proofs.Numbered as law
use Rattle.ast.proofs.cells.hides_first.Goals as goal

pub returns-in-Lam : goal.returns-in-Lam
unfolding hides_first kind_number
returns-in-Lam c = rw (law.kind_is _ c.of.ensures c.in-Lam.is)

pub returns-in-Plam : goal.returns-in-Plam
unfolding hides_first kind_number
returns-in-Plam c = rw (law.kind_is _ c.of.ensures c.in-Plam.is)

pub returns-in-Pair : goal.returns-in-Pair
unfolding hides_first kind_number
returns-in-Pair c = rw (law.kind_is _ c.of.ensures c.in-Pair.is)

pub returns-in_default : goal.returns-in_default
unfolding hides_first kind_number
returns-in_default c = rw (law.kind_isnt _ c.of.ensures c.in_default.not-Lam refl, law.kind_isnt _ c.of.ensures c.in_default.not-Plam refl, law.kind_isnt _ c.of.ensures c.in_default.not-Pair refl)
