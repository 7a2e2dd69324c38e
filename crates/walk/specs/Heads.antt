-- Reducing at the head: runs with code 7, beside code 4, checked by computation as those of Examples are. Of each run the rows by both rules of
-- congruence are shown, with their numbers. The values are those of tools/reference, an engine that shares no code with this.
use Rattle.std.specs.Prelude.{ℕ, ◌≡◌, refl, List, [], ◌∷◌, ◌++◌}
use Rattle.walk.specs.Syntax.{I0, I1, Dim, Var, Nat, Zero, Lam, App, PathLam, PathApp, Sigma, Pair, Fst, Snd, nil, cons, v, nat, zero, pi, lam, app, path, plam, papp}
use Rattle.walk.specs.Judgment.{eq}
use Rattle.walk.specs.Rule as R
use Rattle.walk.specs.State.{Row}
use Rattle.walk.specs.Run.{no_result, a_term}
use Rattle.walk.specs.Examples.{Line, listed, gives, row, limit_100, no_row, played, stated}
use Rattle.walk.specs.Endpoints.{played_by, stated_by}
use Rattle.walk.specs.Opened.{opened}

abbrev table : List (Line × List (ℕ × Row))
table = (
  listed "a head one deep: code 4 leaves it, code 7 reduces it; the same call again" (limit_100 ++ 4 ∷ 0 ∷ 0 ∷ 7 ∷ 7 ∷ 6 ∷ 3 ∷ 6 ∷ 3 ∷ 2 ∷ 0 ∷ 4 ∷ 4 ∷ 3 ∷ 7 ∷ 0 ∷ 0 ∷ 7 ∷ 7 ∷ 6 ∷ 3 ∷ 6 ∷ 3 ∷ 2 ∷ 0 ∷ 4 ∷ 4 ∷ 3 ∷ 7 ∷ 0 ∷ 0 ∷ 7 ∷ 7 ∷ 6 ∷ 3 ∷ 6 ∷ 3 ∷ 2 ∷ 0 ∷ 4 ∷ 4 ∷ 3 ∷ [])
      (gives 33 27 1 ((0, 20, a_term (App (App (Lam Nat (Lam Nat (Var 0))) Zero) Zero), 11) ∷ (0, 32, a_term Zero, 8) ∷ (0, 32, a_term Zero, 7) ∷ [])),
  (29, row R.eq_app_cong (24 ∷ 13 ∷ 14 ∷ 19 ∷ 28 ∷ []) (eq 0 nil (app (app (lam (lam (v 0))) zero) zero) (app (lam (v 0)) zero) nat)) ∷
      [],
) ∷ (
  listed "a head three deep" (limit_100 ++ 7 ∷ 0 ∷ 0 ∷ 7 ∷ 7 ∷ 7 ∷ 7 ∷ 6 ∷ 3 ∷ 6 ∷ 3 ∷ 6 ∷ 3 ∷ 6 ∷ 3 ∷ 2 ∷ 0 ∷ 4 ∷ 4 ∷ 4 ∷ 4 ∷ 3 ∷ [])
      (gives 85 63 0 ((0, 84, a_term Zero, 15) ∷ [])),
  (52, row R.eq_app_cong (43 ∷ 21 ∷ 32 ∷ 33 ∷ 51 ∷ []) (eq 0 nil (app (app (lam (lam (lam (lam (v 0))))) zero) zero) (app (lam (lam (lam (v 0)))) zero) (pi nat (pi nat nat)))) ∷
      (54, row R.eq_app_cong (52 ∷ 21 ∷ 34 ∷ 35 ∷ 53 ∷ []) (eq 0 nil (app (app (app (lam (lam (lam (lam (v 0))))) zero) zero) zero) (app (app (lam (lam (lam (v 0)))) zero) zero) (pi nat nat))) ∷
      (56, row R.eq_app_cong (54 ∷ 21 ∷ 22 ∷ 36 ∷ 55 ∷ []) (eq 0 nil (app (app (app (app (lam (lam (lam (lam (v 0))))) zero) zero) zero) zero) (app (app (app (lam (lam (lam (v 0)))) zero) zero) zero) nat)) ∷
      (68, row R.eq_app_cong (61 ∷ 21 ∷ 34 ∷ 53 ∷ 67 ∷ []) (eq 0 nil (app (app (lam (lam (lam (v 0)))) zero) zero) (app (lam (lam (v 0))) zero) (pi nat nat))) ∷
      (70, row R.eq_app_cong (68 ∷ 21 ∷ 22 ∷ 55 ∷ 69 ∷ []) (eq 0 nil (app (app (app (lam (lam (lam (v 0)))) zero) zero) zero) (app (app (lam (lam (v 0))) zero) zero) nat)) ∷
      (80, row R.eq_app_cong (75 ∷ 21 ∷ 22 ∷ 69 ∷ 79 ∷ []) (eq 0 nil (app (app (lam (lam (v 0))) zero) zero) (app (lam (v 0)) zero) nat)) ∷
      [],
) ∷ (
  listed "a head under a papp" (limit_100 ++ 4 ∷ 1 ∷ 0 ∷ 10 ∷ 7 ∷ 6 ∷ 3 ∷ 9 ∷ 3 ∷ 2 ∷ 0 ∷ 4 ∷ 18 ∷ 0 ∷ 3 ∷ 7 ∷ 1 ∷ 0 ∷ 10 ∷ 7 ∷ 6 ∷ 3 ∷ 9 ∷ 3 ∷ 2 ∷ 0 ∷ 4 ∷ 18 ∷ 0 ∷ 3 ∷ [])
      (gives 43 32 0 ((0, 31, a_term (PathApp (App (Lam Nat (PathLam Nat (Var 0))) Zero) (Dim 0)), 12) ∷ (0, 42, a_term Zero, 8) ∷ [])),
  (39, row R.eq_papp_cong (33 ∷ 28 ∷ 29 ∷ 30 ∷ 38 ∷ []) (eq 1 nil (papp (app (lam (plam (v 0))) zero) (Dim 0)) (papp (plam zero) (Dim 0)) nat)) ∷
      [],
) ∷ (
  listed "a head of an app of a papp, and of a papp of an app" (limit_100 ++ 7 ∷ 0 ∷ 0 ∷ 7 ∷ 10 ∷ 9 ∷ 5 ∷ 3 ∷ 3 ∷ 6 ∷ 3 ∷ 2 ∷ 0 ∷ 17 ∷ 4 ∷ 3 ∷ 7 ∷ 1 ∷ 0 ∷ 10 ∷ 7 ∷ 10 ∷ 9 ∷ 5 ∷ 3 ∷ 8 ∷ 3 ∷ 2 ∷ 0 ∷ 2 ∷ 0 ∷ 6 ∷ 3 ∷ 9 ∷ 3 ∷ 2 ∷ 0 ∷ 16 ∷ 4 ∷ 18 ∷ 0 ∷ 3 ∷ [])
      (gives 102 69 0 ((0, 38, a_term Zero, 12) ∷ (0, 101, a_term Zero, 16) ∷ [])),
  (35, row R.eq_app_cong (33 ∷ 29 ∷ 30 ∷ 31 ∷ 34 ∷ []) (eq 0 nil (app (papp (plam (lam (v 0))) I1) zero) (app (lam (v 0)) zero) nat)) ∷
      (87, row R.eq_app_cong (85 ∷ 76 ∷ 78 ∷ 79 ∷ 86 ∷ []) (eq 1 nil (app (papp (plam (lam (plam (v 0)))) I0) zero) (app (lam (plam (v 0))) zero) (path nat zero zero))) ∷
      (89, row R.eq_papp_cong (87 ∷ 81 ∷ 82 ∷ 83 ∷ 88 ∷ []) (eq 1 nil (papp (app (papp (plam (lam (plam (v 0)))) I0) zero) (Dim 0)) (papp (app (lam (plam (v 0))) zero) (Dim 0)) nat)) ∷
      (97, row R.eq_papp_cong (91 ∷ 81 ∷ 82 ∷ 88 ∷ 96 ∷ []) (eq 1 nil (papp (app (lam (plam (v 0))) zero) (Dim 0)) (papp (plam zero) (Dim 0)) nat)) ∷
      [],
) ∷ (
  listed "14: the type of the head is exposed, and what it goes to has the type as it stands" (limit_100 ++ 7 ∷ 0 ∷ 1 ∷ 7 ∷ 6 ∷ 1 ∷ 0 ∷ 2 ∷ 0 ∷ 5 ∷ 3 ∷ 3 ∷ 7 ∷ 7 ∷ 6 ∷ 3 ∷ 2 ∷ 1 ∷ 4 ∷ 4 ∷ 3 ∷ [])
      (gives 66 50 0 ((14, no_row, no_result, 17) ∷ [])),
  [],
) ∷ (
  listed "14 before the argument is looked at" (limit_100 ++ 4 ∷ 0 ∷ 2 ∷ 7 ∷ 6 ∷ 1 ∷ 0 ∷ 2 ∷ 0 ∷ 5 ∷ 3 ∷ 3 ∷ 7 ∷ 6 ∷ 1 ∷ 0 ∷ 7 ∷ 6 ∷ 1 ∷ 0 ∷ 7 ∷ 6 ∷ 1 ∷ 0 ∷ 2 ∷ 0 ∷ 2 ∷ 0 ∷ 2 ∷ 0 ∷ 3 ∷ 7 ∷ 7 ∷ 6 ∷ 3 ∷ 2 ∷ 2 ∷ 4 ∷ 2 ∷ 0 ∷ 3 ∷ 7 ∷ 0 ∷ 2 ∷ 7 ∷ 6 ∷ 1 ∷ 0 ∷ 2 ∷ 0 ∷ 5 ∷ 3 ∷ 3 ∷ 7 ∷ 6 ∷ 1 ∷ 0 ∷ 7 ∷ 6 ∷ 1 ∷ 0 ∷ 7 ∷ 6 ∷ 1 ∷ 0 ∷ 2 ∷ 0 ∷ 2 ∷ 0 ∷ 2 ∷ 0 ∷ 3 ∷ 7 ∷ 7 ∷ 6 ∷ 3 ∷ 2 ∷ 2 ∷ 4 ∷ 2 ∷ 0 ∷ 3 ∷ [])
      (gives 142 94 0 ((0, 139, a_term (App (App (Lam Nat (Var 2)) Zero) (Var 0)), 20) ∷ (14, no_row, no_result, 8) ∷ [])),
  [],
) ∷ (
  listed "a head whose type is exposed, and that stays" (limit_100 ++ 7 ∷ 0 ∷ 1 ∷ 7 ∷ 6 ∷ 1 ∷ 0 ∷ 2 ∷ 0 ∷ 5 ∷ 3 ∷ 3 ∷ 7 ∷ 2 ∷ 0 ∷ 4 ∷ 3 ∷ [])
      (gives 44 35 0 ((0, 43, a_term (App (Var 0) Zero), 14) ∷ [])),
  [],
) ∷ (
  listed "never in an argument, under fst, or under snd" (limit_100 ++ 7 ∷ 0 ∷ 1 ∷ 5 ∷ 3 ∷ 3 ∷ 7 ∷ 2 ∷ 0 ∷ 7 ∷ 7 ∷ 6 ∷ 3 ∷ 6 ∷ 3 ∷ 2 ∷ 0 ∷ 4 ∷ 4 ∷ 3 ∷ 7 ∷ 0 ∷ 0 ∷ 13 ∷ 7 ∷ 6 ∷ 3 ∷ 12 ∷ 11 ∷ 3 ∷ 3 ∷ 2 ∷ 0 ∷ 2 ∷ 0 ∷ 4 ∷ 3 ∷ 7 ∷ 0 ∷ 0 ∷ 14 ∷ 7 ∷ 6 ∷ 3 ∷ 12 ∷ 11 ∷ 3 ∷ 3 ∷ 2 ∷ 0 ∷ 2 ∷ 0 ∷ 4 ∷ 3 ∷ [])
      (gives 48 48 0 ((0, 31, a_term (App (Var 0) (App (App (Lam Nat (Lam Nat (Var 0))) Zero) Zero)), 13) ∷ (0, 44, a_term (Fst (App (Lam Nat (Pair (Sigma Nat Nat) (Var 0) (Var 0))) Zero)), 11) ∷ (0, 47, a_term (Snd (App (Lam Nat (Pair (Sigma Nat Nat) (Var 0) (Var 0))) Zero)), 5) ∷ [])),
  [],
) ∷ (
  listed "where the root goes, the head is not tried" (limit_100 ++ 4 ∷ 0 ∷ 0 ∷ 7 ∷ 6 ∷ 3 ∷ 2 ∷ 0 ∷ 7 ∷ 7 ∷ 6 ∷ 3 ∷ 6 ∷ 3 ∷ 2 ∷ 0 ∷ 4 ∷ 4 ∷ 3 ∷ 7 ∷ 0 ∷ 0 ∷ 7 ∷ 6 ∷ 3 ∷ 2 ∷ 0 ∷ 7 ∷ 7 ∷ 6 ∷ 3 ∷ 6 ∷ 3 ∷ 2 ∷ 0 ∷ 4 ∷ 4 ∷ 3 ∷ [])
      (gives 38 29 0 ((0, 27, a_term (App (App (Lam Nat (Lam Nat (Var 0))) Zero) Zero), 12) ∷ (0, 37, a_term Zero, 7) ∷ [])),
  (33, row R.eq_app_cong (31 ∷ 16 ∷ 17 ∷ 22 ∷ 32 ∷ []) (eq 0 nil (app (app (lam (lam (v 0))) zero) zero) (app (lam (v 0)) zero) nat)) ∷
      [],
) ∷ (
  listed "expose and equal keep normalize" (limit_100 ++ 5 ∷ 0 ∷ 0 ∷ 7 ∷ 7 ∷ 6 ∷ 3 ∷ 6 ∷ 3 ∷ 2 ∷ 0 ∷ 4 ∷ 4 ∷ 4 ∷ 3 ∷ 7 ∷ 0 ∷ 0 ∷ 7 ∷ 7 ∷ 6 ∷ 3 ∷ 6 ∷ 3 ∷ 2 ∷ 0 ∷ 4 ∷ 4 ∷ 3 ∷ [])
      (gives 34 27 0 ((13, no_row, no_result, 11) ∷ (0, 33, a_term Zero, 8) ∷ [])),
  (30, row R.eq_app_cong (25 ∷ 13 ∷ 14 ∷ 19 ∷ 29 ∷ []) (eq 0 nil (app (app (lam (lam (v 0))) zero) zero) (app (lam (v 0)) zero) nat)) ∷
      [],
) ∷ (
  listed "the ends of a path that a head gives" (limit_100 ++ 7 ∷ 0 ∷ 0 ∷ 10 ∷ 7 ∷ 6 ∷ 3 ∷ 9 ∷ 3 ∷ 2 ∷ 0 ∷ 4 ∷ 16 ∷ 3 ∷ 7 ∷ 0 ∷ 1 ∷ 5 ∷ 3 ∷ 8 ∷ 3 ∷ 4 ∷ 4 ∷ 10 ∷ 7 ∷ 2 ∷ 0 ∷ 4 ∷ 19 ∷ 17 ∷ 3 ∷ 7 ∷ 1 ∷ 1 ∷ 5 ∷ 3 ∷ 8 ∷ 3 ∷ 4 ∷ 4 ∷ 10 ∷ 7 ∷ 7 ∷ 6 ∷ 3 ∷ 2 ∷ 1 ∷ 4 ∷ 4 ∷ 18 ∷ 0 ∷ 3 ∷ [])
      (gives 112 76 0 ((0, 30, a_term Zero, 12) ∷ (0, 54, a_term Zero, 13) ∷ (0, 111, a_term (PathApp (App (Var 0) Zero) (Dim 0)), 25) ∷ [])),
  (109, row R.eq_app_cong (106 ∷ 92 ∷ 44 ∷ 99 ∷ 108 ∷ []) (eq 1 (cons (pi nat (path nat zero zero)) nil) (app (app (lam (v 1)) zero) zero) (app (v 0) zero) (path nat zero zero))) ∷
      (111, row R.eq_papp_cong (109 ∷ 101 ∷ 102 ∷ 103 ∷ 110 ∷ []) (eq 1 (cons (pi nat (path nat zero zero)) nil) (papp (app (app (lam (v 1)) zero) zero) (Dim 0)) (papp (app (v 0) zero) (Dim 0)) nat)) ∷
      [],
) ∷ (
  listed "19: a step counts, and those in it: code 4 is accepted" (14 ∷ 0 ∷ 4 ∷ 0 ∷ 0 ∷ 7 ∷ 7 ∷ 7 ∷ 7 ∷ 6 ∷ 3 ∷ 6 ∷ 3 ∷ 6 ∷ 3 ∷ 6 ∷ 3 ∷ 2 ∷ 0 ∷ 4 ∷ 4 ∷ 4 ∷ 4 ∷ 3 ∷ 7 ∷ 0 ∷ 0 ∷ 7 ∷ 7 ∷ 7 ∷ 7 ∷ 6 ∷ 3 ∷ 6 ∷ 3 ∷ 6 ∷ 3 ∷ 6 ∷ 3 ∷ 2 ∷ 0 ∷ 4 ∷ 4 ∷ 4 ∷ 4 ∷ 3 ∷ [])
      (gives 6 19 0 ((19, no_row, no_result, 14) ∷ (19, no_row, no_result, 14) ∷ [])),
  [],
) ∷ (
  listed "deepest is 15 where there is no such limit" (15 ∷ 0 ∷ 4 ∷ 0 ∷ 0 ∷ 7 ∷ 7 ∷ 7 ∷ 7 ∷ 6 ∷ 3 ∷ 6 ∷ 3 ∷ 6 ∷ 3 ∷ 6 ∷ 3 ∷ 2 ∷ 0 ∷ 4 ∷ 4 ∷ 4 ∷ 4 ∷ 3 ∷ 7 ∷ 0 ∷ 0 ∷ 7 ∷ 7 ∷ 7 ∷ 7 ∷ 6 ∷ 3 ∷ 6 ∷ 3 ∷ 6 ∷ 3 ∷ 6 ∷ 3 ∷ 2 ∷ 0 ∷ 4 ∷ 4 ∷ 4 ∷ 4 ∷ 3 ∷ [])
      (gives 85 63 0 ((0, 37, a_term (App (App (App (App (Lam Nat (Lam Nat (Lam Nat (Lam Nat (Var 0))))) Zero) Zero) Zero) Zero), 15) ∷ (0, 84, a_term Zero, 12) ∷ [])),
  (52, row R.eq_app_cong (43 ∷ 21 ∷ 32 ∷ 33 ∷ 51 ∷ []) (eq 0 nil (app (app (lam (lam (lam (lam (v 0))))) zero) zero) (app (lam (lam (lam (v 0)))) zero) (pi nat (pi nat nat)))) ∷
      (54, row R.eq_app_cong (52 ∷ 21 ∷ 34 ∷ 35 ∷ 53 ∷ []) (eq 0 nil (app (app (app (lam (lam (lam (lam (v 0))))) zero) zero) zero) (app (app (lam (lam (lam (v 0)))) zero) zero) (pi nat nat))) ∷
      (56, row R.eq_app_cong (54 ∷ 21 ∷ 22 ∷ 36 ∷ 55 ∷ []) (eq 0 nil (app (app (app (app (lam (lam (lam (lam (v 0))))) zero) zero) zero) zero) (app (app (app (lam (lam (lam (v 0)))) zero) zero) zero) nat)) ∷
      (68, row R.eq_app_cong (61 ∷ 21 ∷ 34 ∷ 53 ∷ 67 ∷ []) (eq 0 nil (app (app (lam (lam (lam (v 0)))) zero) zero) (app (lam (lam (v 0))) zero) (pi nat nat))) ∷
      (70, row R.eq_app_cong (68 ∷ 21 ∷ 22 ∷ 55 ∷ 69 ∷ []) (eq 0 nil (app (app (app (lam (lam (lam (v 0)))) zero) zero) zero) (app (app (lam (lam (v 0))) zero) zero) nat)) ∷
      (80, row R.eq_app_cong (75 ∷ 21 ∷ 22 ∷ 69 ∷ 79 ∷ []) (eq 0 nil (app (app (lam (lam (v 0))) zero) zero) (app (lam (v 0)) zero) nat)) ∷
      [],
) ∷
    []

pub head_examples : played_by R.eq_app_cong table ≡ stated_by table
unfolding opened
head_examples = refl

-- app(f, a), where n times the identity is put around f, and the identity of nat k times around zero; at nat
abbrev around : List ℕ → ℕ → List ℕ → List ℕ
around identity ℕ.zero rest = rest
around identity (ℕ.suc n) rest = 7 ∷ identity ++ around identity n rest

abbrev turns : ℕ → ℕ → List ℕ
turns n k = 7 ∷ around (6 ∷ 5 ∷ 3 ∷ 3 ∷ 2 ∷ 0 ∷ []) n (6 ∷ 3 ∷ 2 ∷ 0 ∷ around (6 ∷ 3 ∷ 2 ∷ 0 ∷ []) k (4 ∷ 3 ∷ []))

-- a turn counts once, however deep in the head it goes; 33 are refused
abbrev turned : List Line
turned =
    listed "32 turns, of which 3 in a head" (200 ∷ 0 ∷ 7 ∷ 0 ∷ 0 ∷ turns 3 28) (gives 198 93 0 ((0, 197, a_term Zero, 62) ∷ [])) ∷
    listed "33 turns" (200 ∷ 0 ∷ 7 ∷ 0 ∷ 0 ∷ turns 3 29) (gives 202 95 0 ((15, no_row, no_result, 64) ∷ [])) ∷
    []

pub turn_examples : played turned ≡ stated turned
unfolding opened
turn_examples = refl
