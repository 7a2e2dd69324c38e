-- Pairs: runs that meet each of their rules and both of their refusals, checked by computation as those of Examples are. The values are
-- those of tools/reference, an engine that shares no code with this.
use Rattle.std.specs.Prelude.{◌≡◌, refl, List, [], ◌∷◌, ◌++◌}
use Rattle.walk.specs.Syntax.{Universe, Var, Nat, Zero, Pi, Path, Sigma, Pair, Fst, Snd, nil, cons, u, v, nat, zero, sigma, pair, fst, snd}
use Rattle.walk.specs.Judgment.{ctx, lookup, max, shift, subst, has, eq}
use Rattle.walk.specs.Rule as R
use Rattle.walk.specs.Run.{no_result, a_term}
use Rattle.walk.specs.Examples.{Line, listed, gives, tells, row, limit_100, no_row, played, stated}
use Rattle.walk.specs.Opened.{opened}

abbrev table : List Line
table =
    listed "infer sigma(nat, nat)" (limit_100 ++ 2 ∷ 0 ∷ 0 ∷ 11 ∷ 3 ∷ 3 ∷ [])
    (tells
    (row R.ctx_nil [] (ctx 0 nil) ∷
    row R.type_nat (0 ∷ []) (has 0 nil nat (u 0)) ∷
    row R.ctx_cons (0 ∷ 1 ∷ []) (ctx 0 (cons nat nil)) ∷
    row R.type_nat (2 ∷ []) (has 0 (cons nat nil) nat (u 0)) ∷
    row R.max_z [] (max 0 0 0) ∷
    row R.type_sigma (1 ∷ 3 ∷ 4 ∷ []) (has 0 nil (sigma nat nat) (u 0)) ∷
    [])
    8 ((0, 5, a_term (Universe 0), 6) ∷ [])) ∷
    listed "infer pair(sigma(nat, nat), zero, zero)" (limit_100 ++ 2 ∷ 0 ∷ 0 ∷ 12 ∷ 11 ∷ 3 ∷ 3 ∷ 4 ∷ 4 ∷ [])
    (tells
    (row R.ctx_nil [] (ctx 0 nil) ∷
    row R.type_nat (0 ∷ []) (has 0 nil nat (u 0)) ∷
    row R.ctx_cons (0 ∷ 1 ∷ []) (ctx 0 (cons nat nil)) ∷
    row R.type_nat (2 ∷ []) (has 0 (cons nat nil) nat (u 0)) ∷
    row R.type_zero (0 ∷ []) (has 0 nil zero nat) ∷
    row R.subst_nat [] (subst nat 0 zero nat) ∷
    row R.type_pair (1 ∷ 3 ∷ 4 ∷ 5 ∷ 1 ∷ 4 ∷ []) (has 0 nil (pair zero zero) (sigma nat nat)) ∷
    [])
    11 ((0, 6, a_term (Sigma Nat Nat), 6) ∷ [])) ∷
    listed "infer fst p, then snd p" (limit_100 ++ 2 ∷ 0 ∷ 0 ∷ 13 ∷ 12 ∷ 11 ∷ 3 ∷ 3 ∷ 4 ∷ 4 ∷ 2 ∷ 0 ∷ 0 ∷ 14 ∷ 12 ∷ 11 ∷ 3 ∷ 3 ∷ 4 ∷ 4 ∷ [])
    (tells
    (row R.ctx_nil [] (ctx 0 nil) ∷
    row R.type_nat (0 ∷ []) (has 0 nil nat (u 0)) ∷
    row R.ctx_cons (0 ∷ 1 ∷ []) (ctx 0 (cons nat nil)) ∷
    row R.type_nat (2 ∷ []) (has 0 (cons nat nil) nat (u 0)) ∷
    row R.type_zero (0 ∷ []) (has 0 nil zero nat) ∷
    row R.subst_nat [] (subst nat 0 zero nat) ∷
    row R.type_pair (1 ∷ 3 ∷ 4 ∷ 5 ∷ 1 ∷ 4 ∷ []) (has 0 nil (pair zero zero) (sigma nat nat)) ∷
    row R.type_fst (6 ∷ 1 ∷ []) (has 0 nil (fst (pair zero zero)) nat) ∷
    row R.subst_nat [] (subst nat 0 (fst (pair zero zero)) nat) ∷
    row R.type_snd (6 ∷ 8 ∷ 1 ∷ []) (has 0 nil (snd (pair zero zero)) nat) ∷
    [])
    15 ((0, 7, a_term Nat, 7) ∷ (0, 9, a_term Nat, 3) ∷ [])) ∷
    listed "normalise fst p, then snd p" (limit_100 ++ 4 ∷ 0 ∷ 0 ∷ 13 ∷ 12 ∷ 11 ∷ 3 ∷ 3 ∷ 4 ∷ 4 ∷ 3 ∷ 4 ∷ 0 ∷ 0 ∷ 14 ∷ 12 ∷ 11 ∷ 3 ∷ 3 ∷ 4 ∷ 4 ∷ 3 ∷ [])
    (tells
    (row R.ctx_nil [] (ctx 0 nil) ∷
    row R.type_nat (0 ∷ []) (has 0 nil nat (u 0)) ∷
    row R.ctx_cons (0 ∷ 1 ∷ []) (ctx 0 (cons nat nil)) ∷
    row R.type_nat (2 ∷ []) (has 0 (cons nat nil) nat (u 0)) ∷
    row R.type_zero (0 ∷ []) (has 0 nil zero nat) ∷
    row R.subst_nat [] (subst nat 0 zero nat) ∷
    row R.type_pair (1 ∷ 3 ∷ 4 ∷ 5 ∷ 1 ∷ 4 ∷ []) (has 0 nil (pair zero zero) (sigma nat nat)) ∷
    row R.type_fst (6 ∷ 1 ∷ []) (has 0 nil (fst (pair zero zero)) nat) ∷
    row R.eq_refl (7 ∷ []) (eq 0 nil (fst (pair zero zero)) (fst (pair zero zero)) nat) ∷
    row R.eq_fst_beta (6 ∷ 4 ∷ []) (eq 0 nil (fst (pair zero zero)) zero nat) ∷
    row R.subst_nat [] (subst nat 0 (fst (pair zero zero)) nat) ∷
    row R.type_snd (6 ∷ 10 ∷ 1 ∷ []) (has 0 nil (snd (pair zero zero)) nat) ∷
    row R.eq_refl (11 ∷ []) (eq 0 nil (snd (pair zero zero)) (snd (pair zero zero)) nat) ∷
    row R.eq_snd_beta (6 ∷ 10 ∷ 4 ∷ []) (eq 0 nil (snd (pair zero zero)) zero nat) ∷
    [])
    15 ((0, 9, a_term Zero, 9) ∷ (0, 13, a_term Zero, 5) ∷ [])) ∷
    listed "infer fst zero" (limit_100 ++ 2 ∷ 0 ∷ 0 ∷ 13 ∷ 4 ∷ [])
    (tells
    (row R.ctx_nil [] (ctx 0 nil) ∷
    row R.type_zero (0 ∷ []) (has 0 nil zero nat) ∷
    row R.type_nat (0 ∷ []) (has 0 nil nat (u 0)) ∷
    row R.eq_refl (2 ∷ []) (eq 0 nil nat nat (u 0)) ∷
    [])
    7 ((21, no_row, no_result, 5) ∷ [])) ∷
    listed "infer pair(nat, zero, zero)" (limit_100 ++ 2 ∷ 0 ∷ 0 ∷ 12 ∷ 3 ∷ 4 ∷ 4 ∷ [])
    (gives 0 4 0 ((22, no_row, no_result, 1) ∷ [])) ∷
    listed "normalise fst of a variable" (limit_100 ++ 4 ∷ 0 ∷ 1 ∷ 11 ∷ 3 ∷ 3 ∷ 13 ∷ 2 ∷ 0 ∷ 3 ∷ [])
    (gives 15 14 0 ((0, 14, a_term (Fst (Var 0)), 12) ∷ [])) ∷
    listed "infer fst and snd of a variable whose type has to be exposed" (limit_100 ++ 2 ∷ 0 ∷ 1 ∷ 7 ∷ 6 ∷ 1 ∷ 0 ∷ 2 ∷ 0 ∷ 11 ∷ 3 ∷ 3 ∷ 13 ∷ 2 ∷ 0 ∷ 2 ∷ 0 ∷ 1 ∷ 7 ∷ 6 ∷ 1 ∷ 0 ∷ 2 ∷ 0 ∷ 11 ∷ 3 ∷ 3 ∷ 14 ∷ 2 ∷ 0 ∷ [])
    (gives 43 35 0 ((0, 40, a_term Nat, 12) ∷ (0, 42, a_term Nat, 6) ∷ [])) ∷
    listed "snd of a dependent pair at the type of its second part, and at its own" (limit_100 ++ 4 ∷ 0 ∷ 0 ∷ 14 ∷ 12 ∷ 11 ∷ 1 ∷ 0 ∷ 2 ∷ 0 ∷ 3 ∷ 4 ∷ 3 ∷ 4 ∷ 0 ∷ 0 ∷ 14 ∷ 12 ∷ 11 ∷ 1 ∷ 0 ∷ 2 ∷ 0 ∷ 3 ∷ 4 ∷ 13 ∷ 12 ∷ 11 ∷ 1 ∷ 0 ∷ 2 ∷ 0 ∷ 3 ∷ 4 ∷ [])
    (tells
    (row R.ctx_nil [] (ctx 0 nil) ∷
    row R.type_u (0 ∷ []) (has 0 nil (u 0) (u 1)) ∷
    row R.ctx_cons (0 ∷ 1 ∷ []) (ctx 0 (cons (u 0) nil)) ∷
    row R.shift_u [] (shift (u 0) 0 (u 0)) ∷
    row R.lookup_z (3 ∷ []) (lookup (cons (u 0) nil) 0 (u 0)) ∷
    row R.type_v (2 ∷ 4 ∷ []) (has 0 (cons (u 0) nil) (v 0) (u 0)) ∷
    row R.type_nat (0 ∷ []) (has 0 nil nat (u 0)) ∷
    row R.subst_v_hit [] (subst (v 0) 0 nat nat) ∷
    row R.type_zero (0 ∷ []) (has 0 nil zero nat) ∷
    row R.type_pair (1 ∷ 5 ∷ 6 ∷ 7 ∷ 6 ∷ 8 ∷ []) (has 0 nil (pair nat zero) (sigma (u 0) (v 0))) ∷
    row R.subst_v_hit [] (subst (v 0) 0 (fst (pair nat zero)) (fst (pair nat zero))) ∷
    row R.type_fst (9 ∷ 1 ∷ []) (has 0 nil (fst (pair nat zero)) (u 0)) ∷
    row R.type_snd (9 ∷ 10 ∷ 11 ∷ []) (has 0 nil (snd (pair nat zero)) (fst (pair nat zero))) ∷
    row R.eq_refl (11 ∷ []) (eq 0 nil (fst (pair nat zero)) (fst (pair nat zero)) (u 0)) ∷
    row R.eq_fst_beta (9 ∷ 6 ∷ []) (eq 0 nil (fst (pair nat zero)) nat (u 0)) ∷
    row R.eq_refl (6 ∷ []) (eq 0 nil nat nat (u 0)) ∷
    row R.type_conv (12 ∷ 14 ∷ 6 ∷ []) (has 0 nil (snd (pair nat zero)) nat) ∷
    row R.eq_refl (16 ∷ []) (eq 0 nil (snd (pair nat zero)) (snd (pair nat zero)) nat) ∷
    row R.eq_sym (14 ∷ []) (eq 0 nil nat (fst (pair nat zero)) (u 0)) ∷
    row R.type_conv (8 ∷ 18 ∷ 11 ∷ []) (has 0 nil zero (fst (pair nat zero))) ∷
    row R.eq_snd_beta (9 ∷ 10 ∷ 19 ∷ []) (eq 0 nil (snd (pair nat zero)) zero (fst (pair nat zero))) ∷
    row R.eq_refl (12 ∷ []) (eq 0 nil (snd (pair nat zero)) (snd (pair nat zero)) (fst (pair nat zero))) ∷
    [])
    18 ((14, no_row, no_result, 9) ∷ (0, 20, a_term Zero, 8) ∷ [])) ∷
    listed "lam(nat, pair(sigma(nat, nat), v 0, zero))" (limit_100 ++ 2 ∷ 0 ∷ 0 ∷ 6 ∷ 3 ∷ 12 ∷ 11 ∷ 3 ∷ 3 ∷ 2 ∷ 0 ∷ 4 ∷ [])
    (gives 15 19 0 ((0, 14, a_term (Pi Nat (Sigma Nat Nat)), 7) ∷ [])) ∷
    listed "plam(sigma(nat, nat), p)" (limit_100 ++ 2 ∷ 0 ∷ 0 ∷ 9 ∷ 11 ∷ 3 ∷ 3 ∷ 12 ∷ 11 ∷ 3 ∷ 3 ∷ 4 ∷ 4 ∷ [])
    (gives 25 21 0 ((0, 24, a_term (Path (Sigma Nat Nat) (Pair (Sigma Nat Nat) Zero Zero) (Pair (Sigma Nat Nat) Zero Zero)), 8) ∷ [])) ∷
    listed "equal pairs, annotations with one quote" (limit_100 ++ 5 ∷ 0 ∷ 0 ∷ 12 ∷ 11 ∷ 3 ∷ 7 ∷ 6 ∷ 3 ∷ 3 ∷ 4 ∷ 4 ∷ 4 ∷ 12 ∷ 11 ∷ 3 ∷ 7 ∷ 6 ∷ 7 ∷ 6 ∷ 3 ∷ 3 ∷ 4 ∷ 3 ∷ 4 ∷ 4 ∷ 4 ∷ 11 ∷ 3 ∷ 7 ∷ 6 ∷ 3 ∷ 3 ∷ 4 ∷ [])
    (gives 41 40 0 ((0, 40, no_result, 13) ∷ [])) ∷
    listed "pairs in a context, shifted, and under a dimension" (limit_100 ++ 2 ∷ 0 ∷ 1 ∷ 8 ∷ 3 ∷ 13 ∷ 12 ∷ 11 ∷ 3 ∷ 3 ∷ 4 ∷ 4 ∷ 14 ∷ 12 ∷ 11 ∷ 3 ∷ 3 ∷ 4 ∷ 4 ∷ 2 ∷ 0 ∷ 2 ∷ 0 ∷ 1 ∷ 8 ∷ 3 ∷ 13 ∷ 12 ∷ 11 ∷ 3 ∷ 3 ∷ 4 ∷ 4 ∷ 14 ∷ 12 ∷ 11 ∷ 3 ∷ 3 ∷ 4 ∷ 4 ∷ 9 ∷ 8 ∷ 3 ∷ 13 ∷ 12 ∷ 11 ∷ 3 ∷ 3 ∷ 4 ∷ 4 ∷ 14 ∷ 12 ∷ 11 ∷ 3 ∷ 3 ∷ 4 ∷ 4 ∷ 2 ∷ 0 ∷ [])
    (gives 85 50 0 ((0, 26, a_term (Path Nat (Fst (Pair (Sigma Nat Nat) Zero Zero)) (Snd (Pair (Sigma Nat Nat) Zero Zero))), 12) ∷ (0, 84, a_term (Path (Path Nat (Fst (Pair (Sigma Nat Nat) Zero Zero)) (Snd (Pair (Sigma Nat Nat) Zero Zero))) (Var 0) (Var 0)), 16) ∷ [])) ∷
    listed "pairs that a function is applied to" (limit_100 ++ 2 ∷ 0 ∷ 0 ∷ 7 ∷ 6 ∷ 3 ∷ 6 ∷ 8 ∷ 3 ∷ 13 ∷ 12 ∷ 11 ∷ 3 ∷ 3 ∷ 2 ∷ 0 ∷ 4 ∷ 14 ∷ 12 ∷ 11 ∷ 3 ∷ 3 ∷ 4 ∷ 2 ∷ 0 ∷ 2 ∷ 0 ∷ 4 ∷ [])
    (gives 103 73 0 ((0, 102, a_term (Pi (Path Nat (Fst (Pair (Sigma Nat Nat) Zero Zero)) (Snd (Pair (Sigma Nat Nat) Zero Zero))) (Path Nat (Fst (Pair (Sigma Nat Nat) Zero Zero)) (Snd (Pair (Sigma Nat Nat) Zero Zero)))), 18) ∷ [])) ∷
    []

pub pair_examples : played table ≡ stated table
unfolding opened
pair_examples = refl
