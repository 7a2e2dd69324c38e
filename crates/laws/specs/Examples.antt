-- Worked terms, by computation, an example of each law, and laws that look alike and fail (docs/LAWS.md).
use Rattle.std.specs.Prelude.{ℕ, ◌≡◌, refl}
use Rattle.std.proofs.Math.Decide.{ℕ_discrete, dec_lt}
use Rattle.std.proofs.Common.{arith}
use Rattle.walk.specs.Syntax.{I0, I1, Dim, Neg, Var, Nat, Zero, Lam, App, PathLam, PathApp, Sigma, Pair}
use Rattle.laws.specs.Indices.{choose◌then◌else◌, up, put}
use Rattle.laws.specs.Transforms.{itransform, transform_with, lifted, ishift, isubst, shift, subst, dshift, dsubst}

-- to compute with all of it
opened : Unit {0}
unfolding choose◌then◌else◌ ℕ_discrete dec_lt up put itransform transform_with lifted
opened = tt

-- a lam's annotation is outside its binder, a plam's inside
outside : shift 0 (Lam (Var 0) (App (Var 0) (Var 1))) ≡ Lam (Var 1) (App (Var 0) (Var 2))
unfolding opened
outside = refl

inside : dsubst 0 I0 (PathLam (PathApp (Var 0) (Dim 1)) (PathApp (Var 0) (Dim 0))) ≡ PathLam (PathApp (Var 0) I0) (PathApp (Var 0) (Dim 0))
unfolding opened
inside = refl

-- a pair's annotation is beside its parts, and a sigma binds a variable in its second
beside : shift 0 (Pair (Var 0) (Var 1) (Var 2)) ≡ Pair (Var 1) (Var 2) (Var 3)
unfolding opened
beside = refl

bound : subst 0 (Var 3) (Sigma (Var 0) (App (Var 0) (Var 1))) ≡ Sigma (Var 3) (App (Var 0) (Var 4))
unfolding opened
bound = refl

-- what is put in is not captured: its dimension 0 is 1 under the plam
not_captured : subst 0 (PathApp (Var 3) (Dim 0)) (PathLam Nat (Var 0)) ≡ PathLam Nat (PathApp (Var 3) (Dim 1))
unfolding opened
not_captured = refl

-- variables above the place go down by one
above : subst 1 Zero (App (Var 0) (App (Var 1) (Var 2))) ≡ App (Var 0) (App Zero (Var 1))
unfolding opened
above = refl

-- the laws: what is first done on each side, and what both come to

one_first : shift 0 (App (Var 0) (Var 1)) ≡ App (Var 1) (Var 2)
unfolding opened
one_first = refl

one : subst 0 Nat (App (Var 1) (Var 2)) ≡ App (Var 0) (Var 1)
unfolding opened
one = refl

two_left : subst 0 Zero (subst 0 (Var 0) (App (Var 0) (Var 1))) ≡ App Zero Zero
unfolding opened
two_left = refl

two_right : subst 0 (subst 0 Zero (Var 0)) (subst 1 (shift 0 Zero) (App (Var 0) (Var 1))) ≡ App Zero Zero
unfolding opened
two_right = refl

three_left :
    dsubst 0 I1 (subst 0 (PathLam Nat (PathApp (Var 1) (Dim 1))) (PathApp (Var 0) (Dim 0))) ≡
    PathApp (PathLam Nat (PathApp (Var 1) I1)) I1
unfolding opened
three_left = refl

three_right :
    subst 0 (dsubst 0 I1 (PathLam Nat (PathApp (Var 1) (Dim 1)))) (dsubst 0 I1 (PathApp (Var 0) (Dim 0))) ≡
    PathApp (PathLam Nat (PathApp (Var 1) I1)) I1
unfolding opened
three_right = refl

four_first : dshift 0 (PathApp (Var 0) (Dim 0)) ≡ PathApp (Var 0) (Dim 1)
unfolding opened
four_first = refl

four : dsubst 0 I1 (PathApp (Var 0) (Dim 1)) ≡ PathApp (Var 0) (Dim 0)
unfolding opened
four = refl

five_left :
    dsubst 0 I0 (dsubst 0 (Neg (Dim 0)) (PathApp (PathApp (Var 0) (Dim 0)) (Dim 1))) ≡ PathApp (PathApp (Var 0) (Neg I0)) I0
unfolding opened
five_left = refl

five_right :
    dsubst 0 (isubst 0 I0 (Neg (Dim 0))) (dsubst 1 (ishift 0 I0) (PathApp (PathApp (Var 0) (Dim 0)) (Dim 1))) ≡
    PathApp (PathApp (Var 0) (Neg I0)) I0
unfolding opened
five_right = refl

-- what looks alike and fails

-- a substitution loses what stood at its place: a shift after it does not bring it back
subst_then_shift : shift 0 (subst 0 Nat (Var 0)) ≡ Var 0 → ⊥
unfolding opened
subst_then_shift e = let z : ◌≡◌ {A = ℕ} 0 1 = cc in omega arith

-- what is substituted at another place than the shift made free stays
another_place : subst 1 Nat (shift 0 (Var 0)) ≡ Var 0 → ⊥
unfolding opened
another_place e = let z : ◌≡◌ {A = ℕ} 0 1 = cc in omega arith

-- b must be shifted at 0
not_shifted : subst 0 (Var 0) (subst 0 Zero (Var 1)) ≡ subst 0 (subst 0 (Var 0) Zero) (subst 1 (Var 0) (Var 1)) → ⊥
unfolding opened
not_shifted e = let z : ◌≡◌ {A = ℕ} 0 1 = cc in omega arith

-- its place must be k + 1
not_raised : subst 0 Zero (subst 0 Nat (Var 0)) ≡ subst 0 (subst 0 Zero Nat) (subst 0 (shift 0 Zero) (Var 0)) → ⊥
unfolding opened
not_raised e = let z : ◌≡◌ {A = ℕ} 0 1 = cc in omega arith

-- b must be done in a too
b_not_in_a : subst 0 Zero (subst 0 (Var 0) (Var 0)) ≡ subst 0 (Var 0) (subst 1 (shift 0 Zero) (Var 0)) → ⊥
unfolding opened
b_not_in_a e = let z : ◌≡◌ {A = ℕ} 0 1 = cc in omega arith

-- for the place 0 of the first substitution any i up to k will do (`subst_subst` of Substs), and none above k
not_above : subst 0 Zero (subst 1 Nat (Var 0)) ≡ subst 1 (subst 0 Zero Nat) (subst 1 (shift 1 Zero) (Var 0)) → ⊥
unfolding opened
not_above e = let z : ◌≡◌ {A = ℕ} 0 1 = cc in omega arith

-- s must be done in a too
s_not_in_a : dsubst 0 I0 (subst 0 (PathApp (Var 0) (Dim 0)) (Var 0)) ≡ subst 0 (PathApp (Var 0) (Dim 0)) (dsubst 0 I0 (Var 0)) → ⊥
unfolding opened
s_not_in_a e = let z : ◌≡◌ {A = ℕ} 0 1 = cc in omega arith

-- so of dimensions
dim_then_shift : ishift 0 (isubst 0 I0 (Dim 0)) ≡ Dim 0 → ⊥
unfolding opened
dim_then_shift e = let z : ◌≡◌ {A = ℕ} 0 1 = cc in omega arith

-- s must be shifted at 0
s_not_shifted : isubst 0 (Dim 0) (isubst 0 I0 (Dim 1)) ≡ isubst 0 (isubst 0 (Dim 0) I0) (isubst 1 (Dim 0) (Dim 1)) → ⊥
unfolding opened
s_not_shifted e = let z : ◌≡◌ {A = ℕ} 0 1 = cc in omega arith

-- its place must be k + 1
s_not_raised : isubst 0 I0 (isubst 0 I1 (Dim 0)) ≡ isubst 0 (isubst 0 I0 I1) (isubst 0 (ishift 0 I0) (Dim 0)) → ⊥
unfolding opened
s_not_raised e = let z : ◌≡◌ {A = ℕ} 0 1 = cc in omega arith

-- s must be done in r too
s_not_in_r : isubst 0 I0 (isubst 0 (Dim 0) (Dim 0)) ≡ isubst 0 (Dim 0) (isubst 1 (ishift 0 I0) (Dim 0)) → ⊥
unfolding opened
s_not_in_r e = let z : ◌≡◌ {A = ℕ} 0 1 = cc in omega arith
