-- The names that a listing shows: of rules, of judgments, and of the nodes of terms, intervals and contexts.
-- The rules' names are those of the walk's table. Assumes nothing.
use Rattle.std.specs.Prelude.{ℕ, List, [] as []ᴸ, ◌∷◌ as ◌∷ᴸ◌, get_or}
use Prim.Native.Char.{code}
use Prim.Native.String.{String, [], ◌∷◌}
use Rattle.walk.specs.Rule.{rules, no_rule}
use Rattle.rules.specs.Kinds.{judgments, no_judgment, nodes, no_node}
use Rattle.rules.specs.declared.Name.{Name}
use Rattle.rules.specs.declared.Name.TheVariants.{Rule, Judgment, Node as OfNode}

-- The bytes of a text: the code of each character, so texts are in ASCII.
abbrev pub bytes : String → List ℕ
bytes [] = []ᴸ
bytes (c ∷ s) = code c ∷ᴸ bytes s

-- A number that is no rule, no judgment or no node has an empty name.
unfoldable pub rule_name : ℕ → List ℕ
rule_name n = bytes (get_or rules n no_rule).name

unfoldable pub judgment_name : ℕ → List ℕ
judgment_name k = bytes (get_or judgments k no_judgment).name

unfoldable pub node_name : ℕ → List ℕ
node_name k = bytes (get_or nodes k no_node).name

abbrev pub name_of : Name → List ℕ
name_of (Rule n) = rule_name n
name_of (Judgment k) = judgment_name k
name_of (OfNode k) = node_name k
