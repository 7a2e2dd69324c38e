-- What the proofs unfold: the steps of the machine, and the ends that answers are.
use Rattle.ast.specs.Kinds.{kind_number}
use Rattle.ast.specs.Refusals.{refusal_number}
use Rattle.producer.specs.Machine.{next, ◌>>=◌, give, stop, when◌then◌else◌, lowest}
use Rattle.producer.specs.Answers.{refused_of, end}
use Rattle.run.specs.Build.{made}
use Rattle.run.specs.Call.{row_alone, row_first, row_quoted}

unfoldable pub steps : Unit {0}
unfolding next ◌>>=◌ give stop when◌then◌else◌ lowest refused_of refusal_number kind_number end made row_alone row_first row_quoted
steps = tt
