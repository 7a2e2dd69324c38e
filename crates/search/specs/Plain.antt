-- The plain search: each row from the last down, its kind by its rule and its arguments by quote. And that it gives the highest row that
-- states the judgment.
use Rattle.std.specs.Prelude.{ℕ, ◌+◌, ◌*◌, Bool, true, false, List, Option, Some, None, get_or, ltb, eqb}
use Rattle.ast.specs.Words.{ifb}
use Rattle.ast.specs.Cells.{Found, last_of}
use Rattle.rules.specs.Kinds.{sort_of}
use Rattle.rules.specs.declared.Sort.{Sort}
use Rattle.rules.specs.declared.Sort.TheVariants.{Number, Term, Interval, Context}
use Rattle.walk.specs.Rule.{kind_of}
use Rattle.search.specs.declared.plain.Wanted.{Wanted}
use Rattle.search.specs.Alike.{same_cells}

-- two words by the sort of an argument: x is asked for
unfoldable pub same_word : (C : List ℕ) → ℕ → Option Sort → (x y : ℕ) → Bool
same_word C m None x y = true
same_word C m (Some Number) x y = eqb y x
same_word C m (Some Term) x y = ifb (ltb y m) (same_cells C x y) false
same_word C m (Some Interval) x y = ifb (ltb y m) (same_cells C x y) false
same_word C m (Some Context) x y = ifb (ltb y m) (same_cells C x y) false

unfoldable pub same_argument : (R C : List ℕ) → (m i kind n x : ℕ) → Bool
same_argument R C m i kind n x = same_word C m (sort_of kind n) x (get_or R (i * 24 + (13 + n)) 0)

unfoldable pub row_is : (R C : List ℕ) → ℕ → Wanted → ℕ → Bool
row_is R C m w i =
    ifb (eqb (kind_of (get_or R (i * 24) 0)) w.kind)
    (ifb (same_argument R C m i w.kind 0 w.a)
    (ifb (same_argument R C m i w.kind 1 w.b)
    (ifb (same_argument R C m i w.kind 2 w.c)
    (ifb (same_argument R C m i w.kind 3 w.d) (same_argument R C m i w.kind 4 w.e) false) false) false) false) false

unfoldable pub scan_rows : (R : List ℕ) → ℕ → (C : List ℕ) → ℕ → Wanted → Found
scan_rows R n C m w = last_of (row_is R C m w) n
