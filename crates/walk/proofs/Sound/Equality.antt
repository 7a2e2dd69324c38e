-- The rows of normalize, equal and reduce state what they should, and those of head_normalize and head_step.
use Rattle.std.specs.Prelude.{ℕ, ◌≡◌, List, [], ◌∷◌, ◌++◌}
use Rattle.std.proofs.Math.Path.{subst as along}
use Rattle.std.proofs.Common.{ap, lit<}
use Rattle.std.proofs.Math.Option.{Option, none, some}
use Rattle.walk.specs.Syntax.{quote, quote?, Interval, I0, I1, Dim, Neg, Meet, Join, Term, Universe, Var, Nat, Zero, Pi, Lam, App, Path, PathLam, PathApp, Sigma, Pair, Fst, Snd, Context, Cons, Quote, path, plam, papp, Quotes}
use Rattle.walk.specs.Judgment.{Judgment, interval, dsubst, has, eq, iend}
use Rattle.walk.specs.Rules.{Follows, by_eq_refl, by_eq_sym, by_eq_trans, by_eq_beta, by_eq_pbeta, by_eq_p0, by_eq_p1, by_eq_fst_beta, by_eq_snd_beta, by_eq_p0_val, by_eq_p1_val, by_eq_app_cong, by_eq_papp_cong}
use Rattle.walk.specs.State.{Row, M}
use Rattle.walk.specs.Walk.{Subst, DSubst, End, E0, E1, Step, Callees, literal, typing, lam_parts, plam_parts, pair_parts, equation, beta, at_end, pbeta, ends, along as along_of, written, long_end, side, val_rule, at_val, fst_beta, snd_beta, reduce_body, head_goes, congruent, app_cong, papp_cong, at_head, head_step_body, rounds, normal_by, normalize_body, head_normalize_body, equal_body}
use Rattle.walk.specs.Demand.{At, Cites, none_cited, ◌also◌, same}
use Rattle.walk.specs.Sound.Logic.{lift, lifts, append, ◌and◌by◌, bind, refusing, giving, branch, cases, emitted, Keeps}
use Rattle.walk.specs.Sound.Says.{Stepped, Ended, Sound}
use Rattle.walk.specs.Sound.Parts.{lam_is, plam_is, pair_is}
use Rattle.walk.proofs.Sound.Typing.{as_pi_sound, as_path_sound, as_sigma_sound}
use Rattle.walk.specs.Rule as R

-- two rules at equal quotes
pbeta_rule : {d : ℕ} {g : Quotes} {p t A b f B t' : Quote} {r : Interval} → p ≡ plam t → Follows R.eq_pbeta (has d g p (path A b f) ∷ interval d r ∷ dsubst A 0 r B ∷ dsubst t 0 r t' ∷ has d g t' B ∷ []) (eq d g (papp p r) t' B)
pbeta_rule q = rw q by_eq_pbeta

refl_rule : {d : ℕ} {g : Quotes} {a b A : Quote} → a ≡ b → Follows R.eq_refl (has d g a A ∷ []) (eq d g a b A)
refl_rule q = rw q by_eq_refl

-- the rule at an end
val_follows : {d : ℕ} {g : Quotes} {p : Quote} {r : Interval} (e : End) (A b f B : Term) → Follows (val_rule e) (iend r (literal e) ∷ has d g p (path (quote A) (quote b) (quote f)) ∷ interval d r ∷ dsubst (quote A) 0 r (quote B) ∷ has d g (quote (side e (A, b, f))) (quote B) ∷ []) (eq d g (papp p r) (quote (side e (A, b, f))) (quote B))
val_follows E0 A b f B = by_eq_p0_val
val_follows E1 A b f B = by_eq_p1_val

module _ (c : Callees) (S : Sound c) where
  beta_sound : {rs : List Row} (d : ℕ) (g : Context) (a body r : Term) → Keeps rs (beta c d g a body r) (Stepped d g (App (Lam a body) r))
  unfolding beta
  beta_sound d g a body r =
      bind (S.universe d g a) λ _ _ _ h₀. bind (S.infer d (Cons a g) body) λ o₁ _ e₁ h₁. bind (S.universe d (Cons a g) o₁.0) λ _ _ e₂ h₂. bind (S.check d g r a) λ _ _ e₃ h₃.
      bind (S.transform body (Subst 0 r)) λ o₄ _ e₄ h₄. bind (S.transform o₁.0 (Subst 0 r)) λ o₅ _ e₅ h₅.
      bind (emitted (none_cited and h₀ by same and h₁ by e₁ and h₂ by e₂ and h₃ by e₃ and h₄ by e₄ and h₅ by e₅) by_eq_beta) λ row _ _ h. giving _ λ _ e. lift e h

  pbeta_sound : {rs : List Row} (d : ℕ) (g : Context) (p : Term) (r : Interval) (body a b f ty : Term) (x y : ℕ) → quote p ≡ plam (quote body) → At x (typing d g p (Path a b f)) rs → At y (dsubst (quote a) 0 r (quote ty)) rs → Keeps rs (pbeta c d g p r body ty x y) (Stepped d g (PathApp p r))
  unfolding pbeta
  pbeta_sound d g p r body a b f ty x y q hx hy =
      bind (S.interval d r) λ _ _ e₁ h₁. bind (S.transform body (DSubst 0 r)) λ o₂ _ e₂ h₂. bind (S.check d g o₂.0 ty) λ _ _ e₃ h₃.
      bind (emitted (lift e₃ (lift e₂ (lift e₁ hx)) also lift e₃ (lift e₂ h₁) also lift e₃ (lift e₂ (lift e₁ hy)) also lift e₃ h₂ also h₃ also none_cited) (pbeta_rule q)) λ row _ _ h. giving _ λ _ e. lift e h

  at_end_sound : {rs : List Row} {refs : List ℕ} {js : List Judgment} (d : ℕ) (g : Context) (t out ty : Term) (rule : ℕ) → Cites rs refs js → Follows rule (js ++ typing d g out ty ∷ []) (equation d g t out ty) → Keeps rs (at_end c d g t out ty refs rule) (Stepped d g t)
  unfolding at_end
  at_end_sound d g t out ty rule cs follows = bind (S.check d g out ty) λ _ _ e₁ h₁. bind (emitted (cs and h₁ by e₁) follows) λ row _ _ h. giving _ λ _ e. lift e h

  ends_sound : {rs : List Row} (d : ℕ) (g : Context) (p : Term) (r : Interval) (a b f ty : Term) (x y : ℕ) → At x (typing d g p (Path a b f)) rs → At y (dsubst (quote a) 0 r (quote ty)) rs → Keeps rs (ends c d g p r b f ty x y) (Stepped d g (PathApp p r))
  unfolding ends
  ends_sound d g p I0 a b f ty x y hx hy = at_end_sound d g (PathApp p I0) b ty R.eq_p0 (hx also hy also none_cited) by_eq_p0
  ends_sound d g p I1 a b f ty x y hx hy = at_end_sound d g (PathApp p I1) f ty R.eq_p1 (hx also hy also none_cited) by_eq_p1
  ends_sound d g p (Dim n) a b f ty x y hx hy = giving none λ _ _. tt
  ends_sound d g p (Neg r) a b f ty x y hx hy = giving none λ _ _. tt
  ends_sound d g p (Meet r q) a b f ty x y hx hy = giving none λ _ _. tt
  ends_sound d g p (Join r q) a b f ty x y hx hy = giving none λ _ _. tt

  along_sound : {rs : List Row} (d : ℕ) (g : Context) (p : Term) (r : Interval) → Keeps rs (along_of c d g p r) (Stepped d g (PathApp p r))
  unfolding along_of
  along_sound d g p r =
      bind (as_path_sound c S d g p) λ o₁ _ _ h₁. bind (S.transform o₁.0.0 (DSubst 0 r)) λ o₂ _ e₂ h₂.
      cases (plam_parts p)
      (λ ab q. pbeta_sound d g p r ab.1 o₁.0.0 o₁.0.1 o₁.0.2 o₂.0 o₁.1 o₂.1 (ap quote (plam_is p ab q)) (lift e₂ h₁) h₂)
      (λ _. ends_sound d g p r o₁.0.0 o₁.0.1 o₁.0.2 o₂.0 o₁.1 o₂.1 (lift e₂ h₁) h₂)

  long_end_sound : {rs : List Row} (p : Term) (r : Interval) → Keeps rs (long_end c p r) (Ended r)
  unfolding long_end
  long_end_sound p r = cases (plam_parts p) (λ _ _. giving none λ _ _. tt) (λ _. cases (written r) (λ _ _. giving none λ _ _. tt) (λ _. S.endpoint r))

  at_val_sound : {rs : List Row} (d : ℕ) (g : Context) (p : Term) (r : Interval) (e : End) (w : ℕ) → At w (iend r (literal e)) rs → Keeps rs (at_val c d g p r e w) (Stepped d g (PathApp p r))
  unfolding at_val
  at_val_sound d g p r e w hw =
      bind (as_path_sound c S d g p) λ o₁ _ e₁ h₁. bind (S.interval d r) λ _ _ e₂ h₂. bind (S.transform o₁.0.0 (DSubst 0 r)) λ o₃ _ e₃ h₃.
      at_end_sound d g (PathApp p r) (side e o₁.0) o₃.0 (val_rule e) (none_cited and hw by same and h₁ by e₁ and h₂ by e₂ and h₃ by e₃) (val_follows e o₁.0.0 o₁.0.1 o₁.0.2 o₃.0)

  fst_beta_sound : {rs : List Row} (d : ℕ) (g : Context) (ty a b : Term) → Keeps rs (fst_beta c d g (Pair ty a b) a) (Stepped d g (Fst (Pair ty a b)))
  unfolding fst_beta
  fst_beta_sound d g ty a b =
      bind (as_sigma_sound c S d g (Pair ty a b)) λ o₁ _ _ h₁. bind (S.check d g a o₁.0.0) λ _ _ e₂ h₂.
      bind (emitted (lift e₂ h₁ also h₂ also none_cited) by_eq_fst_beta) λ row _ _ h. giving _ λ _ e. lift e h

  snd_beta_sound : {rs : List Row} (d : ℕ) (g : Context) (ty a b : Term) → Keeps rs (snd_beta c d g (Pair ty a b) b) (Stepped d g (Snd (Pair ty a b)))
  unfolding snd_beta
  snd_beta_sound d g ty a b =
      bind (as_sigma_sound c S d g (Pair ty a b)) λ o₁ _ _ h₁. bind (S.transform o₁.0.1 (Subst 0 (Fst (Pair ty a b)))) λ o₂ _ e₂ h₂.
      at_end_sound d g (Snd (Pair ty a b)) b o₂.0 R.eq_snd_beta (lift e₂ h₁ also h₂ also none_cited) by_eq_snd_beta

  pub reduce_sound : {rs : List Row} (d : ℕ) (g : Context) (t : Term) → Keeps rs (reduce_body c d g t) (Stepped d g t)
  unfolding reduce_body
  reduce_sound d g (Universe l) = giving none λ _ _. tt
  reduce_sound d g (Var n) = giving none λ _ _. tt
  reduce_sound d g Nat = giving none λ _ _. tt
  reduce_sound d g Zero = giving none λ _ _. tt
  reduce_sound d g (Pi a b) = giving none λ _ _. tt
  reduce_sound d g (Lam a b) = giving none λ _ _. tt
  reduce_sound d g (App f r) = cases (lam_parts f) (λ ab q. rw (lam_is f ab q) (beta_sound d g ab.0 ab.1 r)) (λ _. giving none λ _ _. tt)
  reduce_sound d g (Path a b e) = giving none λ _ _. tt
  reduce_sound d g (PathLam a b) = giving none λ _ _. tt
  reduce_sound d g (PathApp p r) =
      bind (long_end_sound p r) λ o rs₁ _ h₁.
      cases o
      (λ of q. at_val_sound d g p r of.0 of.1 (along (λ o. Ended r o rs₁) q h₁))
      (λ _. along_sound d g p r)
  reduce_sound d g (Sigma a b) = giving none λ _ _. tt
  reduce_sound d g (Pair ty a b) = giving none λ _ _. tt
  reduce_sound d g (Fst p) = cases (pair_parts p) (λ of q. rw (pair_is p of q) (fst_beta_sound d g of.0 of.1 of.2)) (λ _. giving none λ _ _. tt)
  reduce_sound d g (Snd p) = cases (pair_parts p) (λ of q. rw (pair_is p of q) (snd_beta_sound d g of.0 of.1 of.2)) (λ _. giving none λ _ _. tt)

  -- what a head goes to, at the type ty
  abbrev Gone : ℕ → Context → Term → Term → Option (Term × ℕ) → List Row → Type 0
  Gone d g f ty none rs = Unit {0}
  Gone d g f ty (some (f', x)) rs = At x (equation d g f f' ty) rs

  head_goes_sound : {rs : List Row} (d : ℕ) (g : Context) (f ty : Term) → Keeps rs (head_goes c d g f ty) (Gone d g f ty)
  unfolding head_goes
  head_goes_sound d g f ty =
      bind (S.head_step d g f) λ o rs₁ _ h₁.
      cases o
      (λ step q. branch (quote? (quote step.type) (quote ty))
      (λ q'. let h : At step.row (equation d g f step.term step.type) rs₁ = along (λ o. Stepped d g f o rs₁) q h₁ in giving (some (step.term, step.row)) λ _ e. lift e (rw q' at h))
      (λ _. refusing (lit< tt)))
      (λ _. giving none λ _ _. tt)

  congruent_sound : {rs : List Row} {refs : List ℕ} {js : List Judgment} (d : ℕ) (g : Context) (t out ty : Term) (rule : ℕ) → Cites rs refs js → Follows rule (js ++ typing d g t ty ∷ typing d g out ty ∷ []) (equation d g t out ty) → Keeps rs (congruent c d g t out ty refs rule) (Stepped d g t)
  unfolding congruent
  congruent_sound d g t out ty rule cs follows =
      bind (S.check d g t ty) λ _ _ e₁ h₁. bind (S.check d g out ty) λ _ _ e₂ h₂.
      bind (emitted (append (lifts e₂ (lifts e₁ cs)) (lift e₂ h₁ also h₂ also none_cited)) follows) λ row _ _ h. giving _ λ _ e. lift e h

  app_cong_sound : {rs : List Row} (d : ℕ) (g : Context) (f a : Term) → Keeps rs (app_cong c d g f a) (Stepped d g (App f a))
  unfolding app_cong
  app_cong_sound d g f a =
      bind (as_pi_sound c S d g f) λ o₁ _ _ _. bind (head_goes_sound d g f (Pi o₁.0.0 o₁.0.1)) λ o rs₂ _ h₂.
      cases o
      (λ head q. let h : At head.1 (equation d g f head.0 (Pi o₁.0.0 o₁.0.1)) rs₂ = along (λ o. Gone d g f (Pi o₁.0.0 o₁.0.1) o rs₂) q h₂ in
      bind (S.check d g a o₁.0.0) λ _ _ e₃ h₃. bind (S.transform o₁.0.1 (Subst 0 a)) λ o₄ _ e₄ h₄.
      congruent_sound d g (App f a) (App head.0 a) o₄.0 R.eq_app_cong (none_cited and h by same and h₃ by e₃ and h₄ by e₄) by_eq_app_cong)
      (λ _. giving none λ _ _. tt)

  papp_cong_sound : {rs : List Row} (d : ℕ) (g : Context) (p : Term) (r : Interval) → Keeps rs (papp_cong c d g p r) (Stepped d g (PathApp p r))
  unfolding papp_cong
  papp_cong_sound d g p r =
      bind (as_path_sound c S d g p) λ o₁ _ _ _. bind (head_goes_sound d g p (Path o₁.0.0 o₁.0.1 o₁.0.2)) λ o rs₂ _ h₂.
      cases o
      (λ head q. let h : At head.1 (equation d g p head.0 (Path o₁.0.0 o₁.0.1 o₁.0.2)) rs₂ = along (λ o. Gone d g p (Path o₁.0.0 o₁.0.1 o₁.0.2) o rs₂) q h₂ in
      bind (S.interval d r) λ _ _ e₃ h₃. bind (S.transform o₁.0.0 (DSubst 0 r)) λ o₄ _ e₄ h₄.
      congruent_sound d g (PathApp p r) (PathApp head.0 r) o₄.0 R.eq_papp_cong (none_cited and h by same and h₃ by e₃ and h₄ by e₄) by_eq_papp_cong)
      (λ _. giving none λ _ _. tt)

  at_head_sound : {rs : List Row} (d : ℕ) (g : Context) (t : Term) → Keeps rs (at_head c d g t) (Stepped d g t)
  unfolding at_head
  at_head_sound d g (Universe l) = giving none λ _ _. tt
  at_head_sound d g (Var n) = giving none λ _ _. tt
  at_head_sound d g Nat = giving none λ _ _. tt
  at_head_sound d g Zero = giving none λ _ _. tt
  at_head_sound d g (Pi a b) = giving none λ _ _. tt
  at_head_sound d g (Lam a b) = giving none λ _ _. tt
  at_head_sound d g (App f a) = app_cong_sound d g f a
  at_head_sound d g (Path a b e) = giving none λ _ _. tt
  at_head_sound d g (PathLam a b) = giving none λ _ _. tt
  at_head_sound d g (PathApp p r) = papp_cong_sound d g p r
  at_head_sound d g (Sigma a b) = giving none λ _ _. tt
  at_head_sound d g (Pair ty a b) = giving none λ _ _. tt
  at_head_sound d g (Fst p) = giving none λ _ _. tt
  at_head_sound d g (Snd p) = giving none λ _ _. tt

  pub head_step_sound : {rs : List Row} (d : ℕ) (g : Context) (t : Term) → Keeps rs (head_step_body c d g t) (Stepped d g t)
  unfolding head_step_body
  head_step_sound d g t =
      bind (S.reduce d g t) λ o rs₁ _ h₁.
      cases o
      (λ step q. let h : At step.row (equation d g t step.term step.type) rs₁ = along (λ o. Stepped d g t o rs₁) q h₁ in giving (some step) λ _ e. lift e h)
      (λ _. at_head_sound d g t)

  -- steps that say what those of reduce say
  abbrev Steps : ℕ → Context → (Term → M (Option Step)) → Type 0
  Steps d g step = (rs : List Row) (t : Term) → Keeps rs (step t) (Stepped d g t)

  rounds_sound : {rs : List Row} (left d : ℕ) (g : Context) (step : Term → M (Option Step)) → Steps d g step → (t ty current : Term) (x : ℕ) → At x (equation d g t current ty) rs → Keeps rs (rounds left c step d g t ty current x) (λ o. At o.1 (equation d g t o.0 ty))
  unfolding rounds
  rounds_sound ℕ.zero d g step steps t ty current x hx = bind (steps _ current) λ o _ e₁ _. cases o (λ _ _. refusing (lit< tt)) (λ _. giving (current, x) λ _ e. lift e (lift e₁ hx))
  rounds_sound (ℕ.suc left) d g step steps t ty current x hx =
      bind (steps _ current) λ o rs₁ e₁ h₁.
      cases o
      (λ found q. branch (quote? (quote found.type) (quote ty))
      (λ q'. bind (S.check d g found.term ty) λ _ _ e₂ _.
      let h : At found.row (equation d g current found.term found.type) rs₁ = along (λ o. Stepped d g current o rs₁) q h₁ in
      bind (emitted (lift e₂ (lift e₁ hx) also lift e₂ (rw q' at h) also none_cited) by_eq_trans) λ y _ _ h₃. rounds_sound left d g step steps t ty found.term y h₃)
      (λ _. refusing (lit< tt)))
      (λ _. giving (current, x) λ _ e. lift e (lift e₁ hx))

  normal_by_sound : {rs : List Row} (d : ℕ) (g : Context) (step : Term → M (Option Step)) → Steps d g step → (t ty : Term) → Keeps rs (normal_by c step d g t ty) (λ o. At o.1 (equation d g t o.0 ty))
  unfolding normal_by
  normal_by_sound d g step steps t ty = bind (S.check d g t ty) λ _ _ _ h₁. bind (emitted (h₁ also none_cited) by_eq_refl) λ x _ _ h₂. rounds_sound 32 d g step steps t ty t x h₂

  pub normalize_sound : {rs : List Row} (d : ℕ) (g : Context) (t ty : Term) → Keeps rs (normalize_body c d g t ty) (λ o. At o.1 (equation d g t o.0 ty))
  unfolding normalize_body
  normalize_sound d g t ty = normal_by_sound d g (c.reduce d g) (λ _ t. S.reduce d g t) t ty

  pub head_normalize_sound : {rs : List Row} (d : ℕ) (g : Context) (t ty : Term) → Keeps rs (head_normalize_body c d g t ty) (λ o. At o.1 (equation d g t o.0 ty))
  unfolding head_normalize_body
  head_normalize_sound d g t ty = normal_by_sound d g (c.head_step d g) (λ _ t. S.head_step d g t) t ty

  pub equal_sound : {rs : List Row} (d : ℕ) (g : Context) (a b ty : Term) → Keeps rs (equal_body c d g a b ty) (λ x. At x (equation d g a b ty))
  unfolding equal_body
  equal_sound d g a b ty =
      bind (S.check d g a ty) λ _ _ _ h₁. bind (S.check d g b ty) λ _ _ e₂ _.
      branch (quote? (quote a) (quote b))
      (λ q. emitted (lift e₂ h₁ also none_cited) (refl_rule q))
      (λ _. bind (S.normalize d g a ty) λ o₃ _ _ h₃. bind (S.normalize d g b ty) λ o₄ _ e₄ h₄.
      branch (quote? (quote o₃.0) (quote o₄.0))
      (λ q. bind (emitted (h₄ also none_cited) by_eq_sym) λ _ _ e₅ h₅. emitted (lift e₅ (lift e₄ (rw q at h₃)) also h₅ also none_cited) by_eq_trans)
      (λ _. refusing (lit< tt)))
