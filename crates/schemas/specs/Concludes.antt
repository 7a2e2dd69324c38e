-- A test of the table of patterns: the kind that a rule concludes, from at most ten premises. That it holds of the table, and so of every row
-- that follows, is proved in proofs/Concludes: `computed`, `concludes`, `few_premises`, `takes`. No rule has a clause of its own.
use Rattle.std.specs.Prelude.{ℕ, suc, Bool, true, false, ◌&&◌, List, [], ◌∷◌, map, eqb, leb}
use Rattle.walk.specs.Rule.{kind_of}
use Rattle.rules.specs.Names.{bytes}
use Rattle.rules.specs.Kinds.{judgments}
use Rattle.schemas.specs.Tree.{Text, Tree, leaf, word, ◌·◌, Pattern}
use Rattle.schemas.specs.Code.{same}
use Rattle.schemas.specs.Table.{Line, pattern}

-- The word that a tree begins with, and how many parts it has. An instance has the pattern's, where these are no holes.

abbrev pub first : {L : Type 0} → Tree L → Text
first (leaf l) = []
first (word w) = w
first (f · a) = first f

abbrev pub parts : {L : Type 0} → Tree L → ℕ
parts (leaf l) = 0
parts (word w) = 0
parts (f · a) = suc (parts a)

abbrev pub starts : Pattern → Bool
starts (leaf h) = false
starts (word w) = true
starts (f · a) = starts f

abbrev pub ends : Pattern → Bool
ends (leaf h) = false
ends (word w) = true
ends (f · a) = ends a

-- the place of a name in a list of names, and the names of the kinds of judgments

abbrev pub place : Text → List Text → ℕ
place w [] = 0
place w (n ∷ ns) = elim (same w n) [ true ↦ 0 | false ↦ suc (place w ns) ]

abbrev pub names : List Text
names = map (λ j. bytes j.name) judgments

-- the test of a line, and of the table

-- a conclusion and ten premises
abbrev pub most : ℕ
most = 11

abbrev pub fits : ℕ → Pattern → Bool
fits rule p = starts p && (ends p && (eqb (place (first p) names) (kind_of rule) && leb (parts p) most))

abbrev pub all_fit : List Line → Bool
all_fit [] = true
all_fit (l ∷ ls) = fits l.rule (pattern l) && all_fit ls
