-- The line of a row, over its words. Assumes nothing.
use Rattle.std.specs.Prelude.{ℕ, zero, suc, ◌+◌, min, List, ◌++◌}
use Rattle.walk.specs.Rule.{kind_of}
use Rattle.rules.specs.Names.{bytes, rule_name}
use Rattle.writer.specs.Text.{Text, each, decimal}
use Rattle.quotes.specs.Judgments.{row_word, judgment_as}

-- The k-th cited row, counted from 0, after a comma.
abbrev pub reference : List ℕ → ℕ → ℕ → Text
reference R i k = bytes "," ++ decimal (row_word R i (2 + k))

unfoldable pub some_refs : List ℕ → ℕ → ℕ → Text
some_refs R i zero = bytes "-"
some_refs R i (suc n) = decimal (row_word R i 2) ++ each (reference R i) 1 n

-- The rows that row i cites, with commas; a row has places for ten.
unfoldable pub refs : List ℕ → ℕ → Text
refs R i = some_refs R i (min 10 (row_word R i 1))

-- The rule of row i, by name; its judgment, of the kind that the rule concludes.
abbrev pub rule : List ℕ → ℕ → Text
rule R i = rule_name (row_word R i 0)

abbrev pub judgment : List ℕ → List ℕ → ℕ → Text
judgment R C i = judgment_as (kind_of (row_word R i 0)) R C i

-- The row's number, its rule by name, the rows that it cites, its judgment.
unfoldable pub row_head : List ℕ → ℕ → Text
row_head R i = decimal i ++ bytes " " ++ rule R i ++ bytes " "

unfoldable pub row_line : List ℕ → List ℕ → ℕ → Text
row_line R C i = row_head R i ++ refs R i ++ bytes " " ++ judgment R C i ++ bytes "\n"
