-- The example of docs/FORMAT.md, and a run with a repeat, a refused call, a level and a quote: the listing of the walk's run, from
-- bytes, by computation of the definitions, in the listing program's slices.
use Rattle.std.specs.Prelude.{ℕ, ◌≡◌, refl, List, [], ◌∷◌, ◌++◌}
use Rattle.walk.specs.Run.{run}
use Rattle.walk.specs.Opened.{opened}
use Rattle.rules.specs.Names.{bytes, rule_name, judgment_name}
use Rattle.writer.specs.Text.{Text, digits, decimal}
use Rattle.listed.specs.Said.{interval_text, quote_text, context_text, argument_text, judgment_text, refs_text, row_text, result_text, accepted_row, call_text}
use Rattle.listed.specs.Listed.{call_lines, row_lines, total_line, listed_read, listed_refused, listed}

abbrev shown : List ℕ → Text
shown input = listed (run 16368 16384 16384 input)

-- check zero at nat
first :
    shown (100 ∷ 0 ∷ 3 ∷ 0 ∷ 0 ∷ 4 ∷ 3 ∷ [])
    ≡ bytes "call code row result deepest\n" ++
    bytes "0 0 1 - 3\n" ++
    bytes "row rule refs judgment\n" ++
    bytes "0 ctx.nil - (ctx 0 nil)\n" ++
    bytes "1 type.zero 0 (has 0 nil zero nat)\n" ++
    bytes "rows cells repeats\n" ++
    bytes "2 4 0\n"
unfolding opened rule_name judgment_name digits decimal interval_text quote_text context_text argument_text judgment_text refs_text row_text result_text accepted_row call_text call_lines row_lines total_line listed_read listed
first = refl

-- the same twice, then infer v 0 in no context, universe of nat, and infer zero, which is remembered
more :
    shown (100 ∷ 0 ∷ 3 ∷ 0 ∷ 0 ∷ 4 ∷ 3 ∷ 3 ∷ 0 ∷ 0 ∷ 4 ∷ 3 ∷ 2 ∷ 0 ∷ 0 ∷ 2 ∷ 0 ∷ 1 ∷ 0 ∷ 0 ∷ 3 ∷ 2 ∷ 0 ∷ 0 ∷ 4 ∷ [])
    ≡ bytes "call code row result deepest\n" ++
    bytes "0 0 1 - 3\n" ++
    bytes "1 0 1 - 2\n" ++
    bytes "2 8 - - 2\n" ++
    bytes "3 0 2 0 3\n" ++
    bytes "4 0 1 nat 1\n" ++
    bytes "row rule refs judgment\n" ++
    bytes "0 ctx.nil - (ctx 0 nil)\n" ++
    bytes "1 type.zero 0 (has 0 nil zero nat)\n" ++
    bytes "2 type.nat 0 (has 0 nil nat (u 0))\n" ++
    bytes "rows cells repeats\n" ++
    bytes "3 7 1\n"
unfolding opened rule_name judgment_name digits decimal interval_text quote_text context_text argument_text judgment_text refs_text row_text result_text accepted_row call_text call_lines row_lines total_line listed_read listed
more = refl

-- one that ends early
early : shown (100 ∷ 0 ∷ 3 ∷ []) ≡ bytes "number place\n3 3\n"
unfolding opened digits decimal listed_refused listed
early = refl
