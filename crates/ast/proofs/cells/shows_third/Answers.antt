-- Written by tools/written.py from tools/language.py; `python3 tools/written.py` makes it again.
use Rattle.std.proofs.Common.{◌≡◌, refl}
use Rattle.ast.specs.Cells.{shows_third}
use Rattle.ast.specs.Kinds.{kind_number}
use Rattle.ast.proofs.Numbered as law
use Rattle.ast.proofs.cells.shows_third.Goals as goal

pub returns-in-Path : goal.returns-in-Path
unfolding shows_third kind_number
returns-in-Path c = rw (law.kind_is _ c.of.ensures c.in-Path.is)

pub returns-in-Pair : goal.returns-in-Pair
unfolding shows_third kind_number
returns-in-Pair c = rw (law.kind_is _ c.of.ensures c.in-Pair.is)

pub returns-in_default : goal.returns-in_default
unfolding shows_third kind_number
returns-in_default c = rw (law.kind_isnt _ c.of.ensures c.in_default.not-Path refl, law.kind_isnt _ c.of.ensures c.in_default.not-Pair refl)
