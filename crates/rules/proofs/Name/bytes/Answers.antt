-- The names in the tables are the lists of the names' bytes, which antt computes.
use Rattle.std.proofs.Math.ListN.{get_or-map}
use Rattle.walk.specs.Rule.{Named, rules, no_rule}
use Rattle.rules.specs.Names.{bytes, rule_name, judgment_name, node_name}
use Rattle.rules.specs.Kinds.{Form, judgments, no_judgment, Node as Shown, nodes, no_node}
use Rattle.rules.specs.declared.tables.Rule.{Rule}
use Rattle.rules.specs.declared.tables.Judgment.{Judgment}
use Rattle.rules.specs.declared.tables.Node.{Node}
use Rattle.rules.proofs.Name.bytes.Goals as goal

pub returns-in-Rule : goal.returns-in-Rule
unfolding rule_name
returns-in-Rule c = rw (c.in-Rule.is, c.entry.ensures, ← get_or-map (λ (r : Rule). r.name.now)) (get_or-map (λ (r : Named). bytes r.name) rules c.in-Rule.n no_rule)

pub returns-in-Judgment : goal.returns-in-Judgment
unfolding judgment_name
returns-in-Judgment c = rw (c.in-Judgment.is, c.entry-in-Judgment.ensures, ← get_or-map (λ (j : Judgment). j.name.now)) (get_or-map (λ (j : Form). bytes j.name) judgments c.in-Judgment.kind no_judgment)

pub returns-in-Node : goal.returns-in-Node
unfolding node_name
returns-in-Node c = rw (c.in-Node.is, c.entry-in-Node.ensures, ← get_or-map (λ (k : Node). k.name.now)) (get_or-map (λ (k : Shown). bytes k.name) nodes c.in-Node.kind no_node)
