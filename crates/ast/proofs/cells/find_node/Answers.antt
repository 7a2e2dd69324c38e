use Rattle.std.proofs.Common.{rules}
use Rattle.ast.specs.Cells.{same_node}
use Rattle.ast.specs.Nodes.{find_node}
use Rattle.ast.proofs.cells.find_node.Goals as goal

pub returns : goal.returns
unfolding find_node
returns c = rw (← c.look_hash-h.ensures) (c.first.ensures (same_node c.args.cells.now c.args.node.kind c.args.node.a c.args.node.b c.args.node.c) (λ i b l p. search rules))
