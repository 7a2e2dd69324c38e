-- What a part was taken from.
use Rattle.std.specs.Prelude.{ℕ, ◌≡◌, refl}
use Rattle.std.proofs.Common.{subst, ap, ◌∙◌, arith}
use Rattle.std.proofs.Math.Option.{Option, some}
use Rattle.walk.specs.Syntax.{Term, Universe, Var, Nat, Zero, Pi, Lam, App, Path, PathLam, PathApp, Sigma, Pair, Fst, Snd}
use Rattle.walk.specs.Reader.{Kind, KindDiscrete, k_u, k_v, k_nat, k_zero, k_pi, k_lam, k_app, k_path, k_plam, k_papp, k_sigma, k_pair, k_fst, k_snd}
use Rattle.walk.specs.Walk.{View, view, if_so, of_kind, level, pi_parts, lam_parts, path_parts, plam_parts, sigma_parts, pair_parts}

-- a term is what its view says, for the kinds that are asked for
abbrev Whole : Kind → View → Term → Type 0
-- written by tools/written.py: what a view says
Whole k_u v t = t ≡ Universe v.number
Whole k_v v t = Unit {0}
Whole k_nat v t = Unit {0}
Whole k_zero v t = Unit {0}
Whole k_pi v t = t ≡ Pi v.one v.two
Whole k_lam v t = t ≡ Lam v.one v.two
Whole k_app v t = Unit {0}
Whole k_path v t = t ≡ Path v.one v.two v.three
Whole k_plam v t = t ≡ PathLam v.one v.two
Whole k_papp v t = Unit {0}
Whole k_sigma v t = t ≡ Sigma v.one v.two
Whole k_pair v t = t ≡ Pair v.one v.two v.three
Whole k_fst v t = Unit {0}
Whole k_snd v t = Unit {0}

-- end of what a view says

whole : (t : Term) → Whole (view t).kind (view t) t
-- written by tools/written.py: that it is so
whole (Universe n) = refl
whole (Var n) = tt
whole Nat = tt
whole Zero = tt
whole (Pi a b) = refl
whole (Lam a b) = refl
whole (App a b) = tt
whole (Path a b c) = refl
whole (PathLam a b) = refl
whole (PathApp a b) = tt
whole (Sigma a b) = refl
whole (Pair a b c) = refl
whole (Fst a) = tt
whole (Snd a) = tt

-- end of that it is so

is_of : {A : Type 0} (k : Kind) (t : Term) (a m : A) → of_kind k (view t) a ≡ some m → Whole k (view t) t × (a ≡ m)
is_of {A} k t a m = go (KindDiscrete (view t).kind k)
  where
    go : (d : Dec ((view t).kind ≡ k)) → if_so d a ≡ some m → Whole k (view t) t × (a ≡ m)
    go (yes q) e = (subst (λ (k : Kind). Whole k (view t) t) q (whole t), cc)
    go (no q) e = let z : ◌≡◌ {A = ℕ} 0 1 = cc in absurd (omega arith)

-- written by tools/written.py: what the parts are of
pub level_is : (t : Term) (m : ℕ) → level t ≡ some m → t ≡ Universe m
level_is t m e = let x = is_of k_u t _ m e in x.0 ∙ ap (λ (m : ℕ). Universe m) x.1

pub pi_is : (t : Term) (m : Term × Term) → pi_parts t ≡ some m → t ≡ Pi m.0 m.1
pi_is t m e = let x = is_of k_pi t _ m e in x.0 ∙ ap (λ (m : Term × Term). Pi m.0 m.1) x.1

pub lam_is : (t : Term) (m : Term × Term) → lam_parts t ≡ some m → t ≡ Lam m.0 m.1
lam_is t m e = let x = is_of k_lam t _ m e in x.0 ∙ ap (λ (m : Term × Term). Lam m.0 m.1) x.1

pub path_is : (t : Term) (m : Term × Term × Term) → path_parts t ≡ some m → t ≡ Path m.0 m.1 m.2
path_is t m e = let x = is_of k_path t _ m e in x.0 ∙ ap (λ (m : Term × Term × Term). Path m.0 m.1 m.2) x.1

pub plam_is : (t : Term) (m : Term × Term) → plam_parts t ≡ some m → t ≡ PathLam m.0 m.1
plam_is t m e = let x = is_of k_plam t _ m e in x.0 ∙ ap (λ (m : Term × Term). PathLam m.0 m.1) x.1

pub sigma_is : (t : Term) (m : Term × Term) → sigma_parts t ≡ some m → t ≡ Sigma m.0 m.1
sigma_is t m e = let x = is_of k_sigma t _ m e in x.0 ∙ ap (λ (m : Term × Term). Sigma m.0 m.1) x.1

pub pair_is : (t : Term) (m : Term × Term × Term) → pair_parts t ≡ some m → t ≡ Pair m.0 m.1 m.2
pair_is t m e = let x = is_of k_pair t _ m e in x.0 ∙ ap (λ (m : Term × Term × Term). Pair m.0 m.1 m.2) x.1

-- end of what the parts are of
