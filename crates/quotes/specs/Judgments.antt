-- The text of a judgment, over a row's words. Assumes nothing.
use Rattle.std.specs.Prelude.{ℕ, ◌+◌, ◌*◌, List, ◌++◌, get_or}
use Rattle.rules.specs.Names.{bytes, judgment_name}
use Rattle.rules.specs.Kinds.{sort_of}
use Rattle.writer.specs.Text.{Text}
use Rattle.quotes.specs.Quotes.{argument, quote}

abbrev pub row_word : List ℕ → ℕ → ℕ → ℕ
row_word R i w = get_or R (i * 24 + w) 0

-- The judgment of a kind, with the arguments of row i.
abbrev pub place : List ℕ → List ℕ → ℕ → ℕ → ℕ → Text
place R C kind i n = argument (quote C) (sort_of kind n) (row_word R i (13 + n))

unfoldable pub judgment_as : ℕ → List ℕ → List ℕ → ℕ → Text
judgment_as kind R C i =
    bytes "(" ++ judgment_name kind ++ place R C kind i 0 ++ place R C kind i 1 ++ place R C kind i 2 ++ place R C kind i 3 ++ place R C kind i 4 ++ bytes ")"
