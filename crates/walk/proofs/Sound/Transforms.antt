-- The rows of transform and under state what they should.
use Rattle.std.specs.Prelude.{ℕ, suc, List, [], ◌∷◌, ◌++◌, Bool}
use Rattle.std.proofs.Math.Bool.{true, false}
use Rattle.std.proofs.Math.Decide.{ℕ_discrete, dec_lt}
use Rattle.std.proofs.Common.{lit<}
use Rattle.walk.specs.Syntax.{quote, Interval, Term, Universe, Var, Nat, Zero, Pi, Lam, App, Path, PathLam, PathApp, Sigma, Pair, Fst, Snd}
use Rattle.walk.specs.Judgment.{Judgment, subst}
use Rattle.walk.specs.Rules.{Follows, by_shift_u, by_shift_nat, by_shift_zero, by_shift_v_lt, by_shift_v_ge, by_shift_pi, by_shift_lam, by_shift_app, by_shift_path, by_shift_plam, by_shift_papp, by_subst_u, by_subst_nat, by_subst_zero, by_subst_v_hit, by_subst_v_lt, by_subst_v_gt, by_subst_pi, by_subst_lam, by_subst_app, by_subst_path, by_subst_plam, by_subst_papp, by_dshift_u, by_dshift_nat, by_dshift_zero, by_dshift_v, by_dshift_pi, by_dshift_lam, by_dshift_app, by_dshift_path, by_dshift_plam, by_dshift_papp, by_dsubst_u, by_dsubst_nat, by_dsubst_zero, by_dsubst_v, by_dsubst_pi, by_dsubst_lam, by_dsubst_app, by_dsubst_path, by_dsubst_plam, by_dsubst_papp, by_shift_sigma, by_shift_pair, by_shift_fst, by_shift_snd, by_subst_sigma, by_subst_pair, by_subst_fst, by_subst_snd, by_dshift_sigma, by_dshift_pair, by_dshift_fst, by_dshift_snd, by_dsubst_sigma, by_dsubst_pair, by_dsubst_fst, by_dsubst_snd}
use Rattle.walk.specs.State.{of_term, Row}
use Rattle.walk.specs.Walk.{Op, Shift, Subst, DShift, DSubst, IShift, ISubst, Callees, under_body, transformed, u_rule, nat_rule, zero_rule, pi_rule, lam_rule, app_rule, path_rule, plam_rule, papp_rule, sigma_rule, pair_rule, fst_rule, snd_rule, finish, tvar_above, tvar, tinterval, tbinder, tprojection, transform_body}
use Rattle.walk.specs.Demand.{At, Cites, none_cited, ◌also◌}
use Rattle.walk.specs.Sound.Logic.{lift, lifts, append, bind, refusing, making, giving, branch, emitted, counting, Keeps}
use Rattle.walk.specs.Sound.Says.{Under, u_shift, u_subst, u_dshift, u_dsubst, d_shift, d_subst, d_dshift, d_dsubst, Lifted, Inside, i_shift, i_subst, i_dshift, i_dsubst, Moved, Sound}
use Rattle.walk.specs.Rule as R

-- a rule for each operation
u_follows : (l : ℕ) (op : Op) → Follows (u_rule op) [] (transformed (Universe l) op (Universe l))
u_follows l (Shift k) = by_shift_u
u_follows l (Subst k r) = by_subst_u
u_follows l (DShift k) = by_dshift_u
u_follows l (DSubst k q) = by_dsubst_u

nat_follows : (op : Op) → Follows (nat_rule op) [] (transformed Nat op Nat)
nat_follows (Shift k) = by_shift_nat
nat_follows (Subst k r) = by_subst_nat
nat_follows (DShift k) = by_dshift_nat
nat_follows (DSubst k q) = by_dsubst_nat

zero_follows : (op : Op) → Follows (zero_rule op) [] (transformed Zero op Zero)
zero_follows (Shift k) = by_shift_zero
zero_follows (Subst k r) = by_subst_zero
zero_follows (DShift k) = by_dshift_zero
zero_follows (DSubst k q) = by_dsubst_zero

app_follows : (f f' a a' : Term) (op : Op) → Follows (app_rule op) (transformed f op f' ∷ transformed a op a' ∷ []) (transformed (App f a) op (App f' a'))
app_follows f f' a a' (Shift k) = by_shift_app
app_follows f f' a a' (Subst k r) = by_subst_app
app_follows f f' a a' (DShift k) = by_dshift_app
app_follows f f' a a' (DSubst k q) = by_dsubst_app

pi_follows : {op op' : Op} {js : List Judgment} (a a' b b' : Term) → Under op false op' js → Follows (pi_rule op) (transformed a op a' ∷ js ++ transformed b op' b' ∷ []) (transformed (Pi a b) op (Pi a' b'))
pi_follows a a' b b' u_shift = by_shift_pi
pi_follows a a' b b' u_subst = by_subst_pi
pi_follows a a' b b' u_dshift = by_dshift_pi
pi_follows a a' b b' u_dsubst = by_dsubst_pi

lam_follows : {op op' : Op} {js : List Judgment} (a a' b b' : Term) → Under op false op' js → Follows (lam_rule op) (js ++ transformed b op' b' ∷ []) (transformed (Lam a b) op (Lam a' b'))
lam_follows a a' b b' u_shift = by_shift_lam
lam_follows a a' b b' u_subst = by_subst_lam
lam_follows a a' b b' u_dshift = by_dshift_lam
lam_follows a a' b b' u_dsubst = by_dsubst_lam

path_follows : {op op' : Op} {js : List Judgment} (a a' b b' e e' : Term) → Under op true op' js → Follows (path_rule op) (js ++ transformed a op' a' ∷ transformed b op b' ∷ transformed e op e' ∷ []) (transformed (Path a b e) op (Path a' b' e'))
path_follows a a' b b' e e' d_shift = by_shift_path
path_follows a a' b b' e e' d_subst = by_subst_path
path_follows a a' b b' e e' d_dshift = by_dshift_path
path_follows a a' b b' e e' d_dsubst = by_dsubst_path

plam_follows : {op op' : Op} {js : List Judgment} (a a' b b' : Term) → Under op true op' js → Follows (plam_rule op) (js ++ transformed b op' b' ∷ []) (transformed (PathLam a b) op (PathLam a' b'))
plam_follows a a' b b' d_shift = by_shift_plam
plam_follows a a' b b' d_subst = by_subst_plam
plam_follows a a' b b' d_dshift = by_dshift_plam
plam_follows a a' b b' d_dsubst = by_dsubst_plam

papp_follows : {op : Op} {js : List Judgment} (p p' : Term) {r r' : Interval} → Inside r op r' js → Follows (papp_rule op) (transformed p op p' ∷ js) (transformed (PathApp p r) op (PathApp p' r'))
papp_follows p p' i_shift = by_shift_papp
papp_follows p p' i_subst = by_subst_papp
papp_follows p p' i_dshift = by_dshift_papp
papp_follows p p' i_dsubst = by_dsubst_papp

sigma_follows : {op op' : Op} {js : List Judgment} (a a' b b' : Term) → Under op false op' js → Follows (sigma_rule op) (transformed a op a' ∷ js ++ transformed b op' b' ∷ []) (transformed (Sigma a b) op (Sigma a' b'))
sigma_follows a a' b b' u_shift = by_shift_sigma
sigma_follows a a' b b' u_subst = by_subst_sigma
sigma_follows a a' b b' u_dshift = by_dshift_sigma
sigma_follows a a' b b' u_dsubst = by_dsubst_sigma

pair_follows : (ty ty' a a' b b' : Term) (op : Op) → Follows (pair_rule op) (transformed a op a' ∷ transformed b op b' ∷ []) (transformed (Pair ty a b) op (Pair ty' a' b'))
pair_follows ty ty' a a' b b' (Shift k) = by_shift_pair
pair_follows ty ty' a a' b b' (Subst k r) = by_subst_pair
pair_follows ty ty' a a' b b' (DShift k) = by_dshift_pair
pair_follows ty ty' a a' b b' (DSubst k q) = by_dsubst_pair

fst_follows : (p p' : Term) (op : Op) → Follows (fst_rule op) (transformed p op p' ∷ []) (transformed (Fst p) op (Fst p'))
fst_follows p p' (Shift k) = by_shift_fst
fst_follows p p' (Subst k r) = by_subst_fst
fst_follows p p' (DShift k) = by_dshift_fst
fst_follows p p' (DSubst k q) = by_dsubst_fst

snd_follows : (p p' : Term) (op : Op) → Follows (snd_rule op) (transformed p op p' ∷ []) (transformed (Snd p) op (Snd p'))
snd_follows p p' (Shift k) = by_shift_snd
snd_follows p p' (Subst k r) = by_subst_snd
snd_follows p p' (DShift k) = by_dshift_snd
snd_follows p p' (DSubst k q) = by_dsubst_snd

-- the end of a transform
finished : {rs : List Row} {refs : List ℕ} {js : List Judgment} {rule : ℕ} (t : Term) (op : Op) (out : Term) → Cites rs refs js → Follows rule js (transformed t op out) → Keeps rs (finish t op out rule refs) (λ o. At o.1 (transformed t op o.0))
unfolding finish
finished t op out cs f = bind (counting (of_term out)) λ _ _ e₁ _. bind (emitted (lifts e₁ cs) f) λ row _ _ h. giving (out, row) λ _ e. lift e h

module _ (c : Callees) (S : Sound c) where
  pub under_sound : {rs : List Row} (op : Op) (dimension : Bool) → Keeps rs (under_body c op dimension) (Lifted op dimension)
  unfolding under_body
  under_sound (Shift k) false = making _ k (S.more k) (giving _ λ _ _. record { premises = []; cited = none_cited; how = u_shift })
  under_sound (Shift k) true = giving _ λ _ _. record { premises = []; cited = none_cited; how = d_shift }
  under_sound (Subst k r) false = bind (S.transform r (Shift 0)) λ o _ _ h. making _ k (S.more k) (giving _ λ _ e. record { premises = _; cited = lift e h also none_cited; how = u_subst })
  under_sound (Subst k r) true = bind (S.transform r (DShift 0)) λ o _ _ h. giving _ λ _ e. record { premises = _; cited = lift e h also none_cited; how = d_subst }
  under_sound (DShift k) false = giving _ λ _ _. record { premises = []; cited = none_cited; how = u_dshift }
  under_sound (DShift k) true = making _ k (S.more k) (giving _ λ _ _. record { premises = []; cited = none_cited; how = d_dshift })
  under_sound (DSubst k q) false = giving _ λ _ _. record { premises = []; cited = none_cited; how = u_dsubst }
  under_sound (DSubst k q) true = bind (S.itransform q (IShift 0)) λ o _ _ h. making _ k (S.more k) (giving _ λ _ e. record { premises = _; cited = lift e h also none_cited; how = d_dsubst })

  tvar_above_sound : {rs : List Row} (n k : ℕ) (r : Term) → Keeps rs (tvar_above c n k r) (λ o. At o.1 (subst (quote (Var n)) k (quote r) (quote o.0)))
  unfolding tvar_above
  tvar_above_sound ℕ.zero k r = refusing (lit< tt)
  tvar_above_sound (ℕ.suc n) k r = bind (S.comparison k (suc n) true) λ x _ _ h. finished (Var (suc n)) (Subst k r) (Var n) (h also none_cited) by_subst_v_gt

  tvar_sound : {rs : List Row} (n : ℕ) (op : Op) → Keeps rs (tvar c n op) (λ o. At o.1 (transformed (Var n) op o.0))
  unfolding tvar
  tvar_sound n (Shift k) = branch (dec_lt n k)
      (λ _. bind (S.comparison n k true) λ x _ _ h. finished (Var n) (Shift k) (Var n) (h also none_cited) by_shift_v_lt)
      (λ _. bind (S.comparison k n false) λ x _ _ h. making _ n (S.more n) (finished (Var n) (Shift k) (Var (suc n)) (h also none_cited) by_shift_v_ge))
  tvar_sound n (Subst k r) = branch (ℕ_discrete n k)
      (λ e. finished (Var n) (Subst k r) r none_cited (rw e by_subst_v_hit))
      (λ _. branch (dec_lt n k)
      (λ _. bind (S.comparison n k true) λ x _ _ h. finished (Var n) (Subst k r) (Var n) (h also none_cited) by_subst_v_lt)
      (λ _. tvar_above_sound n k r))
  tvar_sound n (DShift k) = finished (Var n) (DShift k) (Var n) none_cited by_dshift_v
  tvar_sound n (DSubst k q) = finished (Var n) (DSubst k q) (Var n) none_cited by_dsubst_v

  tinterval_sound : {rs : List Row} (r : Interval) (op : Op) → Keeps rs (tinterval c r op) (Moved r op)
  unfolding tinterval
  tinterval_sound r (Shift k) = giving _ λ _ _. record { premises = []; cited = none_cited; how = i_shift }
  tinterval_sound r (Subst k x) = giving _ λ _ _. record { premises = []; cited = none_cited; how = i_subst }
  tinterval_sound r (DShift k) = bind (S.itransform r (IShift k)) λ o _ _ h. giving _ λ _ e. record { premises = _; cited = lift e h also none_cited; how = i_dshift }
  tinterval_sound r (DSubst k q) = bind (S.itransform r (ISubst k q)) λ o _ _ h. giving _ λ _ e. record { premises = _; cited = lift e h also none_cited; how = i_dsubst }

  -- each rule's own part is that its conclusion follows
  tbinder_sound : {rs : List Row} (node : Term → Term → Term) (rule : Op → ℕ) (a b : Term) (op : Op) → ((op' : Op) (js : List Judgment) (a' b' : Term) → Under op false op' js → Follows (rule op) (transformed a op a' ∷ js ++ transformed b op' b' ∷ []) (transformed (node a b) op (node a' b'))) → Keeps rs (tbinder c node rule a b op) (λ o. At o.1 (transformed (node a b) op o.0))
  unfolding tbinder
  tbinder_sound node rule a b op follows =
      bind (S.transform a op) λ o₁ _ _ h₁. bind (S.under op false) λ o₂ _ e₂ h₂. bind (S.transform b o₂.0) λ o₃ _ e₃ h₃.
      finished (node a b) op (node o₁.0 o₃.0) (append (lifts e₃ (lift e₂ h₁ also h₂.cited)) (h₃ also none_cited)) (follows _ _ o₁.0 o₃.0 h₂.how)

  tprojection_sound : {rs : List Row} (node : Term → Term) (rule : Op → ℕ) (p : Term) (op : Op) → ((p' : Term) → Follows (rule op) (transformed p op p' ∷ []) (transformed (node p) op (node p'))) → Keeps rs (tprojection c node rule p op) (λ o. At o.1 (transformed (node p) op o.0))
  unfolding tprojection
  tprojection_sound node rule p op follows = bind (S.transform p op) λ o₁ _ _ h₁. finished (node p) op (node o₁.0) (h₁ also none_cited) (follows o₁.0)

  pub transform_sound : {rs : List Row} (t : Term) (op : Op) → Keeps rs (transform_body c t op) (λ o. At o.1 (transformed t op o.0))
  unfolding transform_body
  transform_sound (Universe l) op = finished (Universe l) op (Universe l) none_cited (u_follows l op)
  transform_sound (Var n) op = tvar_sound n op
  transform_sound Nat op = finished Nat op Nat none_cited (nat_follows op)
  transform_sound Zero op = finished Zero op Zero none_cited (zero_follows op)
  transform_sound (Pi a b) op = tbinder_sound Pi pi_rule a b op λ _ _ a' b' how. pi_follows a a' b b' how
  transform_sound (Lam a b) op =
      bind (S.transform a op) λ o₁ _ _ h₁. bind (S.under op false) λ o₂ _ e₂ h₂. bind (S.transform b o₂.0) λ o₃ _ e₃ h₃.
      finished (Lam a b) op (Lam o₁.0 o₃.0) (append (lifts e₃ h₂.cited) (h₃ also none_cited)) (lam_follows a o₁.0 b o₃.0 h₂.how)
  transform_sound (App f a) op =
      bind (S.transform f op) λ o₁ _ _ h₁. bind (S.transform a op) λ o₂ _ e₂ h₂.
      finished (App f a) op (App o₁.0 o₂.0) (lift e₂ h₁ also h₂ also none_cited) (app_follows f o₁.0 a o₂.0 op)
  transform_sound (Path a b e) op =
      bind (S.under op true) λ o₀ _ _ h₀. bind (S.transform a o₀.0) λ o₁ _ e₁ h₁. bind (S.transform b op) λ o₂ _ e₂ h₂. bind (S.transform e op) λ o₃ _ e₃ h₃.
      finished (Path a b e) op (Path o₁.0 o₂.0 o₃.0) (append (lifts e₃ (lifts e₂ (lifts e₁ h₀.cited))) (lift e₃ (lift e₂ h₁) also lift e₃ h₂ also h₃ also none_cited)) (path_follows a o₁.0 b o₂.0 e o₃.0 h₀.how)
  transform_sound (PathLam a b) op =
      bind (S.under op true) λ o₀ _ _ h₀. bind (S.transform a o₀.0) λ o₁ _ e₁ h₁. bind (S.transform b o₀.0) λ o₂ _ e₂ h₂.
      finished (PathLam a b) op (PathLam o₁.0 o₂.0) (append (lifts e₂ (lifts e₁ h₀.cited)) (h₂ also none_cited)) (plam_follows a o₁.0 b o₂.0 h₀.how)
  transform_sound (PathApp p r) op =
      bind (S.transform p op) λ o₁ _ _ h₁. bind (tinterval_sound r op) λ o₂ _ e₂ h₂.
      finished (PathApp p r) op (PathApp o₁.0 o₂.0) (lift e₂ h₁ also h₂.cited) (papp_follows p o₁.0 h₂.how)
  transform_sound (Sigma a b) op = tbinder_sound Sigma sigma_rule a b op λ _ _ a' b' how. sigma_follows a a' b b' how
  transform_sound (Pair ty a b) op =
      bind (S.transform ty op) λ o₁ _ _ _. bind (S.transform a op) λ o₂ _ _ h₂. bind (S.transform b op) λ o₃ _ e₃ h₃.
      finished (Pair ty a b) op (Pair o₁.0 o₂.0 o₃.0) (lift e₃ h₂ also h₃ also none_cited) (pair_follows ty o₁.0 a o₂.0 b o₃.0 op)
  transform_sound (Fst p) op = tprojection_sound Fst fst_rule p op λ p'. fst_follows p p' op
  transform_sound (Snd p) op = tprojection_sound Snd snd_rule p op λ p'. snd_follows p p' op
