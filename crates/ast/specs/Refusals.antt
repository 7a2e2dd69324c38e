-- The program's refusals by their numbers. Assumes nothing.
-- Written by tools/written.py from tools/language.py; `python3 tools/written.py` makes it again.
use Rattle.std.specs.Prelude.{ℕ}
use Rattle.ast.specs.declared.refusals.Refusal.{Refusal}
use Rattle.ast.specs.declared.refusals.Refusal.TheVariants as refusal

unfoldable pub refusal_number : Refusal → ℕ
refusal_number refusal.Slices = 1
refusal_number refusal.Bytes = 2
refusal_number refusal.Unread = 3
refusal_number refusal.Answers = 4
refusal_number refusal.Scope = 5
refusal_number refusal.Size = 6
refusal_number refusal.Index = 7
refusal_number refusal.Unbound = 8
refusal_number refusal.NoFunction = 9
refusal_number refusal.NoPath = 10
refusal_number refusal.NoType = 11
refusal_number refusal.Levels = 12
refusal_number refusal.Quotes = 13
refusal_number refusal.StepType = 14
refusal_number refusal.Reductions = 15
refusal_number refusal.Conversions = 16
refusal_number refusal.Dimension = 17
refusal_number refusal.Rows = 18
refusal_number refusal.Nesting = 19
refusal_number refusal.Cells = 20
refusal_number refusal.NoSigma = 21
refusal_number refusal.Annotation = 22
refusal_number refusal.Count = 23
refusal_number (refusal.Other o) = o.number
