-- The text of cells by quote, over words: lists that stand for the lent slices. Past a list's end every word is 0, so a text is given
-- whatever the words are. Assumes nothing.
use Rattle.std.specs.Prelude.{ℕ, zero, suc, ◌+◌, ◌*◌, true, false, List, [], ◌++◌, Option, Some, None, ltb, get_or}
use Rattle.rules.specs.Names.{bytes, node_name}
use Rattle.rules.specs.Kinds.{part_of}
use Rattle.rules.specs.declared.Part.{Part}
use Rattle.rules.specs.declared.Sort.{Sort}
use Rattle.rules.specs.declared.Sort.TheVariants.{Number, Term, Interval, Context}
use Rattle.writer.specs.Text.{Text, decimal}

abbrev pub cell_word : List ℕ → ℕ → ℕ → ℕ
cell_word C i w = get_or C (i * 8 + w) 0

-- A word by its sort: a number in decimal, any other by the quote of its cell.
unfoldable pub by_sort : (ℕ → Text) → Sort → ℕ → Text
by_sort quote Number x = decimal x
by_sort quote Term x = quote x
by_sort quote Interval x = quote x
by_sort quote Context x = quote x

-- An argument of a judgment or a part of a node, after a blank.
unfoldable pub argument : (ℕ → Text) → Option Sort → ℕ → Text
argument quote None x = []
argument quote (Some sort) x = bytes " " ++ by_sort quote sort x

-- A part of the cell i, which has the kind, counted from 0.
unfoldable pub part_in : (ℕ → Text) → List ℕ → ℕ → Option Part → Text
part_in quote C i None = []
part_in quote C i (Some part) = bytes " " ++ by_sort quote part.sort (cell_word C i part.word)

abbrev pub part_as : (ℕ → Text) → List ℕ → ℕ → ℕ → ℕ → Text
part_as quote C i kind n = part_in quote C i (part_of kind n)

-- A node's name alone, or in parentheses with its parts. A kind that no node has leaves no text.
unfoldable pub node_as : (ℕ → Text) → List ℕ → ℕ → ℕ → Text
node_as quote C i kind =
    elim (part_of kind 0) [
      | None ↦ node_name kind
      | Some first ↦ bytes "(" ++ node_name kind ++ part_as quote C i kind 0 ++ part_as quote C i kind 1 ++ part_as quote C i kind 2 ++ bytes ")"
    ]

abbrev pub node : (ℕ → Text) → List ℕ → ℕ → Text
node quote C i = node_as quote C i (cell_word C i 0)

-- Parts have lower numbers than the whole; one that has not has no text.
unfoldable pub lower : ℕ → (ℕ → Text) → ℕ → Text
lower i quote j = elim (ltb j i) [ true ↦ quote j | false ↦ [] ]

-- The first number only bounds the depth, so that the definition ends; since numbers fall, one more than the cell's is enough.
unfoldable pub quote_within : ℕ → List ℕ → ℕ → Text
quote_within zero C i = []
quote_within (suc depth) C i = node (lower i (quote_within depth C)) C i

-- The quote of a cell.
unfoldable pub quote : List ℕ → ℕ → Text
quote C i = quote_within (suc i) C i
