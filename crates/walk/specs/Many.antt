-- One term with many types: runs checked by computation, as those of Examples are. The values are the oracle's, for the same checks
-- written out.
use Rattle.std.specs.Prelude.{ℕ, ◌≡◌, refl, List, [], ◌∷◌, ◌++◌, replicate}
use Rattle.walk.specs.Run.{no_result}
use Rattle.walk.specs.Examples.{Line, listed, in_slices, gives, refuses, limit_100, no_row, played, stated}
use Rattle.walk.specs.Written.{write_term, write_terms, write_checks, write_by, write_all, written_by, written_out}
use Rattle.walk.specs.Opened.{opened}

-- zero at nat, u 0 and nat
abbrev three_types : List ℕ
three_types = 6 ∷ 0 ∷ 0 ∷ 4 ∷ 3 ∷ 3 ∷ 1 ∷ 0 ∷ 3 ∷ []

abbrev three_checks : List ℕ
three_checks = 3 ∷ 0 ∷ 0 ∷ 4 ∷ 3 ∷ 3 ∷ 0 ∷ 0 ∷ 4 ∷ 1 ∷ 0 ∷ 3 ∷ 0 ∷ 0 ∷ 4 ∷ 3 ∷ []

pub written : written_out (limit_100 ++ three_types) ≡ limit_100 ++ three_checks
unfolding opened written_out written_by write_all write_by write_checks write_terms write_term
written = refl

abbrev table : List Line
table =
    listed "zero at nat, u 0 and nat" (limit_100 ++ three_types)
    (gives 4 8 1 ((0, 1, no_result, 3) ∷ (12, no_row, no_result, 4) ∷ (0, 1, no_result, 2) ∷ [])) ∷
    listed "the same, written out" (limit_100 ++ three_checks)
    (gives 4 8 1 ((0, 1, no_result, 3) ∷ (12, no_row, no_result, 4) ∷ (0, 1, no_result, 2) ∷ [])) ∷
    -- a block repeats a check
    listed "zero at nat, then at one type" (limit_100 ++ 3 ∷ 0 ∷ 0 ∷ 4 ∷ 3 ∷ 6 ∷ 0 ∷ 0 ∷ 4 ∷ 1 ∷ 3 ∷ [])
    (gives 2 4 1 ((0, 1, no_result, 3) ∷ (0, 1, no_result, 2) ∷ [])) ∷
    -- four answer words for each
    in_slices "twelve answer words" 16368 16384 12 (limit_100 ++ three_types)
    (gives 4 8 1 ((0, 1, no_result, 3) ∷ (12, no_row, no_result, 4) ∷ (0, 1, no_result, 2) ∷ [])) ∷
    in_slices "eleven" 16368 16384 11 (limit_100 ++ three_types) (refuses 4 0) ∷
    -- a wrong count is one call, refused before 5; and a call goes on after it
    listed "no type, in 34 dimensions" (limit_100 ++ 6 ∷ 34 ∷ 0 ∷ 4 ∷ 0 ∷ 0 ∷ 0 ∷ 0 ∷ [])
    (gives 1 1 0 ((23, no_row, no_result, 0) ∷ (0, 0, no_result, 1) ∷ [])) ∷
    listed "17 types" (limit_100 ++ 6 ∷ 0 ∷ 0 ∷ 4 ∷ 17 ∷ replicate 17 3 ++ 0 ∷ 0 ∷ 0 ∷ [])
    (gives 1 1 0 ((23, no_row, no_result, 0) ∷ (0, 0, no_result, 1) ∷ [])) ∷
    -- all types are read, whatever their count
    listed "17 types, the last no kind" (limit_100 ++ 6 ∷ 0 ∷ 0 ∷ 4 ∷ 17 ∷ replicate 16 3 ++ 16 ∷ []) (refuses 3 23) ∷
    listed "17 types of which 16 are there" (limit_100 ++ 6 ∷ 0 ∷ 0 ∷ 4 ∷ 17 ∷ replicate 16 3) (refuses 3 23) ∷
    listed "no count" (limit_100 ++ 6 ∷ 0 ∷ 0 ∷ 4 ∷ []) (refuses 3 6) ∷
    -- limits: of all, and of one type
    listed "two types in 34 dimensions" (limit_100 ++ 6 ∷ 34 ∷ 0 ∷ 4 ∷ 2 ∷ 3 ∷ 3 ∷ [])
    (gives 0 0 0 ((5, no_row, no_result, 0) ∷ (5, no_row, no_result, 0) ∷ [])) ∷
    listed "an index of 33 in the term" (limit_100 ++ 6 ∷ 0 ∷ 0 ∷ 2 ∷ 33 ∷ 2 ∷ 3 ∷ 3 ∷ [])
    (gives 0 0 0 ((7, no_row, no_result, 0) ∷ (7, no_row, no_result, 0) ∷ [])) ∷
    listed "an index of 33 in the first type" (limit_100 ++ 6 ∷ 0 ∷ 0 ∷ 4 ∷ 2 ∷ 2 ∷ 33 ∷ 3 ∷ [])
    (gives 2 4 0 ((7, no_row, no_result, 0) ∷ (0, 1, no_result, 3) ∷ [])) ∷
    []

pub examples : played table ≡ stated table
unfolding opened
examples = refl
