-- The kinds in the table are the list of the rules' kinds, which antt computes.
use Rattle.std.proofs.Math.ListN.{get_or-map}
use Rattle.walk.specs.Rule.{Named, rules, no_rule, kind_of}
use Rattle.rules.specs.declared.tables.Rule.{Rule}
use Rattle.rules.proofs.rule_kind.Goals as goal

pub returns : goal.returns
unfolding kind_of
returns c = rw (c.entry.ensures, ← get_or-map (λ (r : Rule). r.kind)) (get_or-map (λ (r : Named). r.kind) rules c.args.rule no_rule)
