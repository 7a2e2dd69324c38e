use Rattle.std.proofs.Common.{rules}
use Rattle.ast.specs.Cells.{same_look}
use Rattle.ast.specs.Nodes.{find_look}
use Rattle.ast.proofs.cells.find_look.Goals as goal

pub returns : goal.returns
unfolding find_look
returns c = rw (← c.node_hash-h.ensures) (c.first.ensures (same_look c.args.cells.now c.args.look.kind c.args.look.a c.args.look.b c.args.look.c) (λ i b l p. search rules))
