-- A turn of the loop for each check.
use Rattle.std.proofs.Common.{◌≡◌, ◌+◌, ◌-◌, replicate}
use Rattle.std.proofs.lemmas.List.Edits.{sets}
use Rattle.walk.specs.Reader.{c_check}
use Rattle.syntax.specs.Told.{code_number}
use Rattle.syntax.proofs.codes.put_checks.Given as goal

abbrev pub invariant-loop-i : goal.invariant-loop-i
invariant-loop-i l = sets l.fn.codes l.from (replicate l.count (code_number c_check)) ≡ sets l.codes (l.from + l.i) (replicate (l.count - l.i) (code_number c_check))
