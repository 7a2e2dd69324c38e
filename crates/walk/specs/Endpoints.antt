-- Long endpoints: runs that meet each rule of `iend` by each of its lists of premises, with both rules by which a papp goes to an end, checked
-- by computation as those of Examples are. Of each run the rows by these rules are shown, with their numbers. The values are those of
-- tools/reference, an engine that shares no code with this.
use Rattle.std.specs.Prelude.{ℕ, ◌≡◌, refl, List, [], ◌∷◌, ◌++◌, true, false, length, ltb}
use Rattle.walk.specs.Syntax.{I0, I1, Dim, Neg, Meet, Join, Var, Nat, Zero, PathApp, nil, cons, v, nat, zero, path, papp}
use Rattle.walk.specs.Judgment.{eq, iend}
use Rattle.walk.specs.Rule as R
use Rattle.walk.specs.State.{Row}
use Rattle.walk.specs.Run.{no_result, a_term, run}
use Rattle.walk.specs.Examples.{Seen, Line, listed, in_slices, gives, row, limit_100, no_row, see}
use Rattle.walk.specs.Opened.{opened}

abbrev table : List (Line × List (ℕ × Row))
table = (
  listed "neg i1, which is i0" (limit_100 ++ 4 ∷ 0 ∷ 1 ∷ 8 ∷ 3 ∷ 4 ∷ 4 ∷ 10 ∷ 2 ∷ 0 ∷ 19 ∷ 17 ∷ 3 ∷ [])
      (gives 24 18 0 ((0, 23, a_term Zero, 10) ∷ [])),
  (20, row R.iend_1 [] (iend I1 I1)) ∷
      (21, row R.iend_neg (20 ∷ []) (iend (Neg I1) I0)) ∷
      (23, row R.eq_p0_val (21 ∷ 13 ∷ 15 ∷ 16 ∷ 22 ∷ []) (eq 0 (cons (path nat zero zero) nil) (papp (v 0) (Neg I1)) zero nat)) ∷
      [],
) ∷ (
  listed "literal ends and a plam" (limit_100 ++ 4 ∷ 0 ∷ 1 ∷ 8 ∷ 3 ∷ 4 ∷ 4 ∷ 10 ∷ 2 ∷ 0 ∷ 16 ∷ 3 ∷ 4 ∷ 0 ∷ 1 ∷ 8 ∷ 3 ∷ 4 ∷ 4 ∷ 10 ∷ 2 ∷ 0 ∷ 17 ∷ 3 ∷ 4 ∷ 0 ∷ 0 ∷ 10 ∷ 9 ∷ 3 ∷ 4 ∷ 19 ∷ 17 ∷ 3 ∷ [])
      (gives 35 26 0 ((0, 19, a_term Zero, 10) ∷ (0, 23, a_term Zero, 5) ∷ (0, 34, a_term Zero, 7) ∷ [])),
  [],
) ∷ (
  listed "meets: the left part alone, the right alone, both" (limit_100 ++ 4 ∷ 1 ∷ 2 ∷ 3 ∷ 8 ∷ 3 ∷ 4 ∷ 2 ∷ 0 ∷ 10 ∷ 2 ∷ 0 ∷ 20 ∷ 16 ∷ 17 ∷ 3 ∷ 4 ∷ 1 ∷ 2 ∷ 3 ∷ 8 ∷ 3 ∷ 4 ∷ 2 ∷ 0 ∷ 10 ∷ 2 ∷ 0 ∷ 20 ∷ 16 ∷ 18 ∷ 0 ∷ 3 ∷ 4 ∷ 1 ∷ 2 ∷ 3 ∷ 8 ∷ 3 ∷ 4 ∷ 2 ∷ 0 ∷ 10 ∷ 2 ∷ 0 ∷ 20 ∷ 17 ∷ 16 ∷ 3 ∷ 4 ∷ 1 ∷ 2 ∷ 3 ∷ 8 ∷ 3 ∷ 4 ∷ 2 ∷ 0 ∷ 10 ∷ 2 ∷ 0 ∷ 20 ∷ 18 ∷ 0 ∷ 16 ∷ 3 ∷ 4 ∷ 1 ∷ 2 ∷ 3 ∷ 8 ∷ 3 ∷ 4 ∷ 2 ∷ 0 ∷ 10 ∷ 2 ∷ 0 ∷ 20 ∷ 17 ∷ 17 ∷ 3 ∷ [])
      (gives 64 38 0 ((0, 34, a_term Zero, 13) ∷ (0, 42, a_term Zero, 6) ∷ (0, 49, a_term Zero, 5) ∷ (0, 55, a_term Zero, 6) ∷ (0, 63, a_term (Var 1), 7) ∷ [])),
  (31, row R.iend_0 [] (iend I0 I0)) ∷
      (32, row R.iend_meet (31 ∷ []) (iend (Meet I0 I1) I0)) ∷
      (34, row R.eq_p0_val (32 ∷ 23 ∷ 26 ∷ 27 ∷ 33 ∷ []) (eq 1 (cons (path nat zero (v 0)) (cons nat nil)) (papp (v 0) (Meet I0 I1)) zero nat)) ∷
      (41, row R.iend_meet (31 ∷ []) (iend (Meet I0 (Dim 0)) I0)) ∷
      (42, row R.eq_p0_val (41 ∷ 23 ∷ 37 ∷ 38 ∷ 33 ∷ []) (eq 1 (cons (path nat zero (v 0)) (cons nat nil)) (papp (v 0) (Meet I0 (Dim 0))) zero nat)) ∷
      (47, row R.iend_1 [] (iend I1 I1)) ∷
      (48, row R.iend_meet (31 ∷ []) (iend (Meet I1 I0) I0)) ∷
      (49, row R.eq_p0_val (48 ∷ 23 ∷ 43 ∷ 44 ∷ 33 ∷ []) (eq 1 (cons (path nat zero (v 0)) (cons nat nil)) (papp (v 0) (Meet I1 I0)) zero nat)) ∷
      (54, row R.iend_meet (31 ∷ []) (iend (Meet (Dim 0) I0) I0)) ∷
      (55, row R.eq_p0_val (54 ∷ 23 ∷ 50 ∷ 51 ∷ 33 ∷ []) (eq 1 (cons (path nat zero (v 0)) (cons nat nil)) (papp (v 0) (Meet (Dim 0) I0)) zero nat)) ∷
      (60, row R.iend_meet (47 ∷ 47 ∷ []) (iend (Meet I1 I1) I1)) ∷
      (63, row R.eq_p1_val (60 ∷ 23 ∷ 56 ∷ 57 ∷ 62 ∷ []) (eq 1 (cons (path nat zero (v 0)) (cons nat nil)) (papp (v 0) (Meet I1 I1)) (v 1) nat)) ∷
      [],
) ∷ (
  listed "joins the other way about" (limit_100 ++ 4 ∷ 1 ∷ 2 ∷ 3 ∷ 8 ∷ 3 ∷ 4 ∷ 2 ∷ 0 ∷ 10 ∷ 2 ∷ 0 ∷ 21 ∷ 17 ∷ 18 ∷ 0 ∷ 3 ∷ 4 ∷ 1 ∷ 2 ∷ 3 ∷ 8 ∷ 3 ∷ 4 ∷ 2 ∷ 0 ∷ 10 ∷ 2 ∷ 0 ∷ 21 ∷ 16 ∷ 17 ∷ 3 ∷ 4 ∷ 1 ∷ 2 ∷ 3 ∷ 8 ∷ 3 ∷ 4 ∷ 2 ∷ 0 ∷ 10 ∷ 2 ∷ 0 ∷ 21 ∷ 18 ∷ 0 ∷ 17 ∷ 3 ∷ 4 ∷ 1 ∷ 2 ∷ 3 ∷ 8 ∷ 3 ∷ 4 ∷ 2 ∷ 0 ∷ 10 ∷ 2 ∷ 0 ∷ 21 ∷ 16 ∷ 16 ∷ 3 ∷ [])
      (gives 58 35 0 ((0, 36, a_term (Var 1), 13) ∷ (0, 44, a_term (Var 1), 5) ∷ (0, 50, a_term (Var 1), 6) ∷ (0, 57, a_term Zero, 5) ∷ [])),
  (32, row R.iend_1 [] (iend I1 I1)) ∷
      (33, row R.iend_join (32 ∷ []) (iend (Join I1 (Dim 0)) I1)) ∷
      (36, row R.eq_p1_val (33 ∷ 23 ∷ 27 ∷ 28 ∷ 35 ∷ []) (eq 1 (cons (path nat zero (v 0)) (cons nat nil)) (papp (v 0) (Join I1 (Dim 0))) (v 1) nat)) ∷
      (42, row R.iend_0 [] (iend I0 I0)) ∷
      (43, row R.iend_join (32 ∷ []) (iend (Join I0 I1) I1)) ∷
      (44, row R.eq_p1_val (43 ∷ 23 ∷ 38 ∷ 39 ∷ 35 ∷ []) (eq 1 (cons (path nat zero (v 0)) (cons nat nil)) (papp (v 0) (Join I0 I1)) (v 1) nat)) ∷
      (49, row R.iend_join (32 ∷ []) (iend (Join (Dim 0) I1) I1)) ∷
      (50, row R.eq_p1_val (49 ∷ 23 ∷ 45 ∷ 46 ∷ 35 ∷ []) (eq 1 (cons (path nat zero (v 0)) (cons nat nil)) (papp (v 0) (Join (Dim 0) I1)) (v 1) nat)) ∷
      (55, row R.iend_join (42 ∷ 42 ∷ []) (iend (Join I0 I0) I0)) ∷
      (57, row R.eq_p0_val (55 ∷ 23 ∷ 51 ∷ 52 ∷ 56 ∷ []) (eq 1 (cons (path nat zero (v 0)) (cons nat nil)) (papp (v 0) (Join I0 I0)) zero nat)) ∷
      [],
) ∷ (
  listed "no endpoint: rows of parts stay" (limit_100 ++ 4 ∷ 1 ∷ 1 ∷ 8 ∷ 3 ∷ 4 ∷ 4 ∷ 10 ∷ 2 ∷ 0 ∷ 18 ∷ 0 ∷ 3 ∷ 4 ∷ 1 ∷ 1 ∷ 8 ∷ 3 ∷ 4 ∷ 4 ∷ 10 ∷ 2 ∷ 0 ∷ 20 ∷ 17 ∷ 18 ∷ 0 ∷ 3 ∷ 4 ∷ 1 ∷ 1 ∷ 8 ∷ 3 ∷ 4 ∷ 4 ∷ 10 ∷ 2 ∷ 0 ∷ 21 ∷ 18 ∷ 0 ∷ 19 ∷ 17 ∷ 3 ∷ [])
      (gives 32 24 0 ((0, 19, a_term (PathApp (Var 0) (Dim 0)), 10) ∷ (0, 24, a_term (PathApp (Var 0) (Meet I1 (Dim 0))), 6) ∷ (0, 30, a_term (PathApp (Var 0) (Join (Dim 0) (Neg I1))), 6) ∷ [])),
  (25, row R.iend_1 [] (iend I1 I1)) ∷
      (31, row R.iend_neg (25 ∷ []) (iend (Neg I1) I0)) ∷
      [],
) ∷ (
  listed "a long end converts" (limit_100 ++ 5 ∷ 0 ∷ 1 ∷ 8 ∷ 3 ∷ 4 ∷ 4 ∷ 10 ∷ 2 ∷ 0 ∷ 19 ∷ 17 ∷ 4 ∷ 3 ∷ 5 ∷ 0 ∷ 1 ∷ 8 ∷ 3 ∷ 4 ∷ 4 ∷ 10 ∷ 2 ∷ 0 ∷ 20 ∷ 19 ∷ 16 ∷ 19 ∷ 17 ∷ 10 ∷ 2 ∷ 0 ∷ 16 ∷ 3 ∷ [])
      (gives 40 24 0 ((0, 23, no_result, 10) ∷ (0, 39, no_result, 6) ∷ [])),
  (21, row R.iend_1 [] (iend I1 I1)) ∷
      (22, row R.iend_neg (21 ∷ []) (iend (Neg I1) I0)) ∷
      (23, row R.eq_p0_val (22 ∷ 13 ∷ 15 ∷ 16 ∷ 19 ∷ []) (eq 0 (cons (path nat zero zero) nil) (papp (v 0) (Neg I1)) zero nat)) ∷
      (32, row R.iend_0 [] (iend I0 I0)) ∷
      (33, row R.iend_neg (32 ∷ []) (iend (Neg I0) I1)) ∷
      (34, row R.iend_meet (22 ∷ []) (iend (Meet (Neg I0) (Neg I1)) I0)) ∷
      (35, row R.eq_p0_val (34 ∷ 13 ∷ 27 ∷ 28 ∷ 19 ∷ []) (eq 0 (cons (path nat zero zero) nil) (papp (v 0) (Meet (Neg I0) (Neg I1))) zero nat)) ∷
      [],
) ∷ (
  listed "deepest: each part that is entered counts" (limit_100 ++ 2 ∷ 0 ∷ 1 ∷ 8 ∷ 3 ∷ 4 ∷ 4 ∷ 10 ∷ 2 ∷ 0 ∷ 19 ∷ 19 ∷ 19 ∷ 19 ∷ 19 ∷ 17 ∷ 4 ∷ 0 ∷ 1 ∷ 8 ∷ 3 ∷ 4 ∷ 4 ∷ 10 ∷ 2 ∷ 0 ∷ 19 ∷ 19 ∷ 19 ∷ 19 ∷ 19 ∷ 17 ∷ 3 ∷ [])
      (gives 32 22 0 ((0, 22, a_term Nat, 8) ∷ (0, 31, a_term Zero, 8) ∷ [])),
  (24, row R.iend_1 [] (iend I1 I1)) ∷
      (25, row R.iend_neg (24 ∷ []) (iend (Neg I1) I0)) ∷
      (26, row R.iend_neg (25 ∷ []) (iend (Neg (Neg I1)) I1)) ∷
      (27, row R.iend_neg (26 ∷ []) (iend (Neg (Neg (Neg I1))) I0)) ∷
      (28, row R.iend_neg (27 ∷ []) (iend (Neg (Neg (Neg (Neg I1)))) I1)) ∷
      (29, row R.iend_neg (28 ∷ []) (iend (Neg (Neg (Neg (Neg (Neg I1))))) I0)) ∷
      (31, row R.eq_p0_val (29 ∷ 13 ∷ 19 ∷ 20 ∷ 30 ∷ []) (eq 0 (cons (path nat zero zero) nil) (papp (v 0) (Neg (Neg (Neg (Neg (Neg I1)))))) zero nat)) ∷
      [],
) ∷ (
  listed "the end has not the type at the interval as it is written" (limit_100 ++ 4 ∷ 0 ∷ 4 ∷ 8 ∷ 1 ∷ 0 ∷ 3 ∷ 3 ∷ 5 ∷ 10 ∷ 2 ∷ 0 ∷ 16 ∷ 3 ∷ 5 ∷ 10 ∷ 2 ∷ 1 ∷ 17 ∷ 3 ∷ 8 ∷ 5 ∷ 10 ∷ 2 ∷ 2 ∷ 18 ∷ 0 ∷ 3 ∷ 2 ∷ 1 ∷ 2 ∷ 0 ∷ 10 ∷ 2 ∷ 0 ∷ 19 ∷ 17 ∷ 5 ∷ 10 ∷ 2 ∷ 3 ∷ 19 ∷ 17 ∷ 3 ∷ [])
      (gives 139 88 0 ((13, no_row, no_result, 22) ∷ [])),
  (127, row R.iend_1 [] (iend I1 I1)) ∷
      (128, row R.iend_neg (127 ∷ []) (iend (Neg I1) I0)) ∷
      [],
) ∷ (
  listed "19: the tenth part is entered past the limit" (12 ∷ 0 ∷ 2 ∷ 0 ∷ 1 ∷ 8 ∷ 3 ∷ 4 ∷ 4 ∷ 10 ∷ 2 ∷ 0 ∷ 19 ∷ 19 ∷ 19 ∷ 19 ∷ 19 ∷ 19 ∷ 19 ∷ 19 ∷ 19 ∷ 19 ∷ 17 ∷ 4 ∷ 0 ∷ 1 ∷ 8 ∷ 3 ∷ 4 ∷ 4 ∷ 10 ∷ 2 ∷ 0 ∷ 19 ∷ 19 ∷ 19 ∷ 19 ∷ 19 ∷ 19 ∷ 19 ∷ 19 ∷ 19 ∷ 19 ∷ 17 ∷ 3 ∷ [])
      (gives 29 26 0 ((0, 27, a_term Nat, 12) ∷ (19, no_row, no_result, 12) ∷ [])),
  [],
) ∷ (
  in_slices "18: the end is worked out before the path is exposed" 1680 16384 16384 (limit_100 ++ 2 ∷ 0 ∷ 1 ∷ 7 ∷ 6 ∷ 3 ∷ 8 ∷ 3 ∷ 4 ∷ 4 ∷ 4 ∷ 10 ∷ 2 ∷ 0 ∷ 19 ∷ 17 ∷ 4 ∷ 0 ∷ 1 ∷ 7 ∷ 6 ∷ 3 ∷ 8 ∷ 3 ∷ 4 ∷ 4 ∷ 4 ∷ 10 ∷ 2 ∷ 0 ∷ 19 ∷ 17 ∷ 3 ∷ [])
      (gives 70 46 0 ((0, 68, a_term Nat, 20) ∷ (18, no_row, no_result, 4) ∷ [])),
  [],
) ∷
    []

-- the rows by rules from this one on, the oldest first
abbrev by_rules : ℕ → List Row → List (ℕ × Row) → List (ℕ × Row)
by_rules from [] found = found
by_rules from (r ∷ rs) found = by_rules from rs (elim (ltb r.rule from) [ true ↦ found | false ↦ (length rs, r) ∷ found ])

abbrev pub played_by : ℕ → List (Line × List (ℕ × Row)) → List (Seen × List (ℕ × Row))
played_by from [] = []
played_by from (l ∷ ls) =
    let ran = run l.0.row_words l.0.cell_words l.0.answer_words l.0.bytes in
    (see l.0.seen.table ran, by_rules from ran.last.rows []) ∷ played_by from ls

abbrev pub stated_by : List (Line × List (ℕ × Row)) → List (Seen × List (ℕ × Row))
stated_by [] = []
stated_by (l ∷ ls) = (l.0.seen, l.1) ∷ stated_by ls

pub endpoint_examples : played_by R.iend_0 table ≡ stated_by table
unfolding opened
endpoint_examples = refl
