-- `long_end` takes a shape and a kind apart: by laws, which the search does not find.
use Rattle.std.proofs.Common.{refl}
use Rattle.producer.specs.Equality.{long_end}
use Rattle.producer.proofs.At as law
use Rattle.producer.proofs.Steps.{steps, stated}
use Rattle.producer.proofs.State.long_end.Goals as goal

pub returns-in-I0 : goal.returns-in-I0
unfolding long_end steps stated
returns-in-I0 c = rw (← c.shape_of.ensures, law.not_plam _ c.in_default.not-Plam, ← c.read.ensures, law.kind_is _ c.of.ensures c.in-I0.is)

pub returns-in-I1 : goal.returns-in-I1
unfolding long_end steps stated
returns-in-I1 c = rw (← c.shape_of.ensures, law.not_plam _ c.in_default.not-Plam, ← c.read.ensures, law.kind_is _ c.of.ensures c.in-I1.is)

pub returns-in_default-of : goal.returns-in_default-of
unfolding long_end steps stated
returns-in_default-of c = rw (← c.shape_of.ensures, law.not_plam _ c.in_default.not-Plam, ← c.read.ensures, law.kind_isnt _ c.of.ensures c.in_default-of.not-I0 refl, law.kind_isnt _ c.of.ensures c.in_default-of.not-I1 refl)
    (rw (← c.endpoint.ensures))
