-- The sorts in the table are the list of the arguments' sorts, which antt computes.
use Rattle.std.proofs.Math.ListN.{get_or-map}
use Rattle.rules.specs.Kinds.{Form, judgments, no_judgment, sorts_of}
use Rattle.rules.specs.declared.tables.Judgment.{Judgment}
use Rattle.rules.proofs.sorts.Goals as goal

pub returns : goal.returns
unfolding sorts_of
returns c = rw (c.entry.ensures, ← get_or-map (λ (j : Judgment). j.sorts.now)) (get_or-map (λ (j : Form). j.sorts) judgments c.args.kind no_judgment)
