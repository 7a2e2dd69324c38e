-- The specification's worked example, and a refused run, by computation of the definitions.
use Rattle.std.specs.Prelude.{ℕ, ◌≡◌, refl, List, [], ◌∷◌, ◌++◌, replicate}
use Rattle.walk.specs.Rule.{kind_of}
use Rattle.rules.specs.Names.{bytes, rule_name, judgment_name, node_name}
use Rattle.rules.specs.Kinds.{sorts_of, sort_of, parts_of, part_of}
use Rattle.writer.specs.Text.{each, digits, decimal}
use Rattle.quotes.specs.Quotes.{by_sort, argument, part_in, node_as, lower, quote_within, quote}
use Rattle.quotes.specs.Judgments.{judgment_as}
use Rattle.lines.specs.Rows.{some_refs, refs, row_head, row_line}
use Rattle.lines.specs.Repeats.{with_call, accepted, same, occurs, repeats_after, repeats}
use Rattle.lines.specs.Calls.{call_row, result, call_result, call_head, call_line}
use Rattle.text.specs.Listing.{totals, read_listing, refused_listing, listing}
use Rattle.ran.specs.declared.Ran.{Ran}

-- The run 100 0 3 0 0 4 3, which checks zero at nat.
abbrev first : Ran
first = record { number = 0; place = 0; calls = 1; rows = 2; cells = 4 }

abbrev answers : List ℕ
answers = 0 ∷ 1 ∷ 0 ∷ 3 ∷ []

abbrev rows : List ℕ
rows =
    0 ∷ 0 ∷ replicate 10 0 ++ 2 ∷ 0 ∷ 0 ∷ 0 ∷ 0 ∷ 0 ∷ replicate 6 0 ++
    79 ∷ 1 ∷ replicate 10 0 ++ 4 ∷ 0 ∷ 0 ∷ 1 ∷ 2 ∷ 0 ∷ 0 ∷ 13 ∷ replicate 4 0

abbrev cells : List ℕ
cells =
    32 ∷ replicate 7 0 ++
    4 ∷ 0 ∷ 0 ∷ 0 ∷ 1 ∷ 0 ∷ 0 ∷ 0 ∷
    3 ∷ 0 ∷ 0 ∷ 0 ∷ 2 ∷ 0 ∷ 0 ∷ 0 ∷
    40 ∷ 0 ∷ 0 ∷ 1 ∷ 2 ∷ 1 ∷ 0 ∷ 0 ∷ []

pub first_listing :
    listing first (3 ∷ []) answers rows cells
    ≡ bytes "call code row result deepest\n" ++
    bytes "0 0 1 - 3\n" ++
    bytes "row rule refs judgment\n" ++
    bytes "0 ctx.nil - (ctx 0 nil)\n" ++
    bytes "1 type.zero 0 (has 0 nil zero nat)\n" ++
    bytes "rows cells repeats\n" ++
    bytes "2 4 0\n"
unfolding rule_name judgment_name node_name sorts_of sort_of parts_of part_of kind_of each digits decimal by_sort argument part_in node_as lower quote_within quote some_refs refs judgment_as with_call accepted same occurs repeats_after repeats call_row result call_result call_head call_line row_head row_line totals read_listing refused_listing listing
first_listing = refl

-- A run that ends early, after six bytes.
pub refused : listing (record { number = 3; place = 6; calls = 0; rows = 0; cells = 0 }) [] [] [] [] ≡ bytes "number place\n3 6\n"
unfolding digits decimal refused_listing listing
refused = refl
