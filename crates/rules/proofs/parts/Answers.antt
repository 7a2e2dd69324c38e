-- The parts in the table are the list of the nodes' parts, which antt computes.
use Rattle.std.proofs.Math.ListN.{get_or-map}
use Rattle.rules.specs.Kinds.{Node as Shown, nodes, no_node, parts_of}
use Rattle.rules.specs.declared.tables.Node.{Node}
use Rattle.rules.proofs.parts.Goals as goal

pub returns : goal.returns
unfolding parts_of
returns c = rw (c.entry.ensures, ← get_or-map (λ (k : Node). k.parts.now)) (get_or-map (λ (k : Shown). k.parts) nodes c.args.kind no_node)
