-- The rows of infer, universe, check and expose state what they should.
use Rattle.std.specs.Prelude.{ℕ, suc, ◌<◌, ◌≡◌, List, [], ◌∷◌}
use Rattle.std.proofs.Math.Option.{Option, some}
use Rattle.std.proofs.Math.Decide.{ℕ_discrete}
use Rattle.std.proofs.Common.{lit<}
use Rattle.walk.specs.Syntax.{quote, quote?, I0, I1, Dim, Neg, Meet, Join, Term, Universe, Var, Nat, Zero, Pi, Lam, App, Path, PathLam, PathApp, Sigma, Pair, Fst, Snd, Context, Cons}
use Rattle.walk.specs.Judgment.{Judgment, max}
use Rattle.walk.specs.Rules.{Follows, by_type_u, by_type_nat, by_type_zero, by_type_v, by_type_pi, by_type_lam, by_type_app, by_type_path, by_type_plam, by_type_papp, by_type_conv, by_type_sigma, by_type_pair, by_type_fst, by_type_snd}
use Rattle.walk.specs.Reader.{Kind, KindDiscrete, k_pi, k_path, k_sigma}
use Rattle.walk.specs.Rule as R
use Rattle.walk.specs.Refusal as Refusal
use Rattle.walk.specs.State.{of_term, Row, key}
use Rattle.walk.specs.Walk.{Subst, DSubst, Callees, typing, view, level, pi_parts, lam_parts, path_parts, plam_parts, sigma_parts, pair_parts, expose_body, universe_body, check_body, headed, as_parts, as_pi, as_path, as_sigma, found, find_binder, find_pair, find, new_infer, infer_body}
use Rattle.walk.specs.Demand.{At, Cites, none_cited, ◌also◌, same}
use Rattle.walk.specs.Sound.Logic.{lift, lifts, ◌and◌by◌, bind, refusing, making, giving, branch, cases, emitted, counting, recalling, remembering, convert, Keeps}
use Rattle.walk.specs.Sound.Says.{Finds, Sound}
use Rattle.walk.specs.Sound.Parts.{level_is, pi_is, path_is, sigma_is}

finding : {rs : List Row} {refs : List ℕ} {js : List Judgment} {rule d : ℕ} {g : Context} {t : Term} (ty : Term) → Cites rs refs js → Follows rule js (typing d g t ty) → Keeps rs (found ty refs rule) (Finds d g t)
unfolding found
finding ty cs f = bind (counting (of_term ty)) λ _ _ e₁ _. giving _ λ _ e. record { premises = _; cited = lifts e (lifts e₁ cs); follows = f }

module _ (c : Callees) (S : Sound c) where
  pub expose_sound : {rs : List Row} (d : ℕ) (g : Context) (t ty : Term) (x : ℕ) → At x (typing d g t ty) rs → Keeps rs (expose_body c d g t ty x) (λ o. At o.1 (typing d g t o.0))
  unfolding expose_body
  expose_sound d g t ty x h₀ =
      bind (S.universe d g ty) λ o₁ _ e₁ h₁. bind (S.normalize d g ty (Universe o₁.0)) λ o₂ rs₂ e₂ h₂.
      branch (quote? (quote o₂.0) (quote ty))
      (λ q. giving (o₂.0, x) λ _ e. lift e (lift e₂ (lift e₁ (rw q h₀))))
      (λ _. bind (S.check d g o₂.0 (Universe o₁.0)) λ _ _ e₃ h₃. bind (emitted (lift e₃ (lift e₂ (lift e₁ h₀)) also lift e₃ h₂ also h₃ also none_cited) by_type_conv) λ row _ _ h. giving (o₂.0, row) λ _ e. lift e h)

  pub universe_sound : {rs : List Row} (d : ℕ) (g : Context) (t : Term) → Keeps rs (universe_body c d g t) (λ o. At o.1 (typing d g t (Universe o.0)))
  unfolding universe_body
  universe_sound d g t =
      bind (S.infer d g t) λ o₁ _ _ h₁.
      cases (level o₁.0)
      (λ l q. giving (l, o₁.1) λ _ e. lift e (rw (level_is o₁.0 l q) at h₁))
      (λ _. convert (bind (S.expose d g t o₁.0 o₁.1 h₁) λ o₂ _ _ h₂. cases (level o₂.0) (λ l q. giving (l, o₂.1) λ _ e. lift e (rw (level_is o₂.0 l q) at h₂)) (λ _. refusing (lit< tt))))

  pub check_sound : {rs : List Row} (d : ℕ) (g : Context) (t ty : Term) → Keeps rs (check_body c d g t ty) (λ x. At x (typing d g t ty))
  unfolding check_body
  check_sound d g t ty =
      bind (S.infer d g t) λ o₁ _ _ h₁.
      branch (quote? (quote o₁.0) (quote ty))
      (λ q. giving o₁.1 λ _ e. lift e (rw q at h₁))
      (λ _. convert (bind (S.universe d g o₁.0) λ o₂ _ e₂ _. bind (S.universe d g ty) λ o₃ _ e₃ h₃.
      branch (ℕ_discrete o₂.0 o₃.0)
      (λ q. bind (S.equal d g o₁.0 ty (Universe o₂.0)) λ _ _ e₄ h₄. emitted (lift e₄ (lift e₃ (lift e₂ h₁)) also h₄ also lift e₄ (rw q h₃) also none_cited) by_type_conv)
      (λ _. refusing (lit< tt))))

  headed_sound : {rs : List Row} (k : Kind) (d : ℕ) (g : Context) (t : Term) → Keeps rs (headed k c d g t) (λ o. At o.1 (typing d g t o.0))
  unfolding headed
  headed_sound k d g t = bind (S.infer d g t) λ o _ _ h. branch (KindDiscrete (view o.0).kind k) (λ _. giving o λ _ e. lift e h) (λ _. convert (S.expose d g t o.0 o.1 h))

  as_parts_sound : {rs : List Row} {A : Type 0} (k : Kind) (parts : Term → Option A) (made : A → Term) → ((t : Term) (m : A) → parts t ≡ some m → t ≡ made m) → (refusal : ℕ) → 0 < refusal → (d : ℕ) (g : Context) (t : Term) → Keeps rs (as_parts k parts refusal c d g t) (λ o. At o.1 (typing d g t (made o.0)))
  unfolding as_parts
  as_parts_sound k parts made is refusal n d g t =
      bind (headed_sound k d g t) λ o _ _ h. cases (parts o.0) (λ of q. giving (of, o.1) λ _ e. lift e (rw (is o.0 of q) at h)) (λ _. refusing n)

  pub as_pi_sound : {rs : List Row} (d : ℕ) (g : Context) (f : Term) → Keeps rs (as_pi c d g f) (λ o. At o.1 (typing d g f (Pi o.0.0 o.0.1)))
  as_pi_sound = as_parts_sound k_pi pi_parts (λ m. Pi m.0 m.1) pi_is Refusal.no_function (lit< tt)

  pub as_path_sound : {rs : List Row} (d : ℕ) (g : Context) (p : Term) → Keeps rs (as_path c d g p) (λ o. At o.1 (typing d g p (Path o.0.0 o.0.1 o.0.2)))
  as_path_sound = as_parts_sound k_path path_parts (λ m. Path m.0 m.1 m.2) path_is Refusal.no_path (lit< tt)

  pub as_sigma_sound : {rs : List Row} (d : ℕ) (g : Context) (p : Term) → Keeps rs (as_sigma c d g p) (λ o. At o.1 (typing d g p (Sigma o.0.0 o.0.1)))
  as_sigma_sound = as_parts_sound k_sigma sigma_parts (λ m. Sigma m.0 m.1) sigma_is Refusal.no_sigma (lit< tt)

  find_binder_sound : {rs : List Row} {t : Term} (d : ℕ) (g : Context) (a b : Term) (rule : ℕ) → ((i j k : ℕ) → Follows rule (typing d g a (Universe i) ∷ typing d (Cons a g) b (Universe j) ∷ max i j k ∷ []) (typing d g t (Universe k))) → Keeps rs (find_binder c d g a b rule) (Finds d g t)
  unfolding find_binder
  find_binder_sound d g a b rule follows =
      bind (S.universe d g a) λ o₁ _ _ h₁. bind (S.universe d (Cons a g) b) λ o₂ _ e₂ h₂. bind (S.max o₁.0 o₂.0) λ _ _ e₃ h₃.
      finding _ (lift e₃ (lift e₂ h₁) also lift e₃ h₂ also h₃ also none_cited) (follows _ _ _)

  find_pair_sound : {rs : List Row} (d : ℕ) (g : Context) (ta tb a b : Term) → Keeps rs (find_pair c d g (Sigma ta tb) ta tb a b) (Finds d g (Pair (Sigma ta tb) a b))
  unfolding find_pair
  find_pair_sound d g ta tb a b =
      bind (S.universe d g ta) λ _ _ _ h₀. bind (S.universe d (Cons ta g) tb) λ o₁ _ e₁ h₁. bind (S.check d g a ta) λ _ _ e₂ h₂.
      bind (S.transform tb (Subst 0 a)) λ o₃ _ e₃ h₃. bind (S.check d g o₃.0 (Universe o₁.0)) λ _ _ e₄ h₄. bind (S.check d g b o₃.0) λ _ _ e₅ h₅.
      finding _ (none_cited and h₀ by same and h₁ by e₁ and h₂ by e₂ and h₃ by e₃ and h₄ by e₄ and h₅ by e₅) by_type_pair

  find_sound : {rs : List Row} (d : ℕ) (g : Context) (t : Term) → Keeps rs (find c d g t) (Finds d g t)
  unfolding find
  find_sound d g (Universe l) = bind (S.ctx d g) λ _ _ _ h. making _ l (S.more l) (finding _ (h also none_cited) by_type_u)
  find_sound d g Nat = bind (S.ctx d g) λ _ _ _ h. finding _ (h also none_cited) by_type_nat
  find_sound d g Zero = bind (S.ctx d g) λ _ _ _ h. finding _ (h also none_cited) by_type_zero
  find_sound d g (Var n) =
      bind (S.ctx d g) λ _ _ _ h₁. bind (S.lookup g n) λ _ _ e₂ h₂.
      finding _ (lift e₂ h₁ also h₂ also none_cited) by_type_v
  find_sound d g (Pi a b) = find_binder_sound d g a b R.type_pi λ _ _ _. by_type_pi
  find_sound d g (Lam a body) =
      bind (S.universe d g a) λ _ _ _ h₁. bind (S.infer d (Cons a g) body) λ o₂ _ e₂ h₂. bind (S.universe d (Cons a g) o₂.0) λ _ _ e₃ h₃.
      finding _ (lift e₃ (lift e₂ h₁) also lift e₃ h₂ also h₃ also none_cited) by_type_lam
  find_sound d g (App f a) =
      bind (as_pi_sound d g f) λ o₁ _ _ h₁. bind (S.check d g a o₁.0.0) λ _ _ e₂ h₂. bind (S.transform o₁.0.1 (Subst 0 a)) λ _ _ e₃ h₃.
      finding _ (lift e₃ (lift e₂ h₁) also lift e₃ h₂ also h₃ also none_cited) by_type_app
  find_sound d g (Path a b f) =
      bind (S.ctx d g) λ _ _ _ h₀. bind (S.dshiftctx g) λ o₁ _ e₁ h₁.
      making _ d (S.more d) (bind (S.universe (suc d) o₁.0 a) λ _ _ e₂ h₂.
      bind (S.transform a (DSubst 0 I0)) λ o₃ _ e₃ h₃. bind (S.transform a (DSubst 0 I1)) λ o₄ _ e₄ h₄. bind (S.check d g b o₃.0) λ _ _ e₅ h₅. bind (S.check d g f o₄.0) λ _ _ e₆ h₆.
      finding _ (none_cited and h₀ by same and h₁ by e₁ and h₂ by e₂ and h₃ by e₃ and h₄ by e₄ and h₅ by e₅ and h₆ by e₆) by_type_path)
  find_sound d g (PathLam a body) =
      bind (S.ctx d g) λ _ _ _ h₀. bind (S.dshiftctx g) λ o₁ _ e₁ h₁.
      making _ d (S.more d) (bind (S.universe (suc d) o₁.0 a) λ _ _ e₂ h₂. bind (S.check (suc d) o₁.0 body a) λ _ _ e₃ h₃.
      bind (S.transform a (DSubst 0 I0)) λ o₄ _ e₄ h₄. bind (S.transform a (DSubst 0 I1)) λ o₅ _ e₅ h₅.
      bind (S.transform body (DSubst 0 I0)) λ o₆ _ e₆ h₆. bind (S.transform body (DSubst 0 I1)) λ o₇ _ e₇ h₇.
      bind (S.check d g o₆.0 o₄.0) λ _ _ e₈ h₈. bind (S.check d g o₇.0 o₅.0) λ _ _ e₉ h₉.
      finding _ (none_cited and h₀ by same and h₁ by e₁ and h₂ by e₂ and h₃ by e₃ and h₄ by e₄ and h₅ by e₅ and h₆ by e₆ and h₇ by e₇ and h₈ by e₈ and h₉ by e₉) by_type_plam)
  find_sound d g (PathApp p r) =
      bind (as_path_sound d g p) λ o₁ _ _ h₁. bind (S.interval d r) λ _ _ e₂ h₂.
      bind (S.transform o₁.0.0 (DSubst 0 r)) λ o₃ _ e₃ h₃. bind (S.universe d g o₃.0) λ _ _ e₄ h₄.
      finding _ (lift e₄ (lift e₃ (lift e₂ h₁)) also lift e₄ (lift e₃ h₂) also lift e₄ h₃ also h₄ also none_cited) by_type_papp
  find_sound d g (Sigma a b) = find_binder_sound d g a b R.type_sigma λ _ _ _. by_type_sigma
  find_sound d g (Pair ty a b) = cases (sigma_parts ty) (λ of q. rw (sigma_is ty of q) (find_pair_sound d g of.0 of.1 a b)) (λ _. refusing (lit< tt))
  find_sound d g (Fst p) =
      bind (as_sigma_sound d g p) λ o₁ _ _ h₁. bind (S.universe d g o₁.0.0) λ _ _ e₂ h₂.
      finding _ (lift e₂ h₁ also h₂ also none_cited) by_type_fst
  find_sound d g (Snd p) =
      bind (as_sigma_sound d g p) λ o₁ _ _ h₁. bind (S.transform o₁.0.1 (Subst 0 (Fst p))) λ o₂ _ e₂ h₂. bind (S.universe d g o₂.0) λ _ _ e₃ h₃.
      finding _ (lift e₃ (lift e₂ h₁) also lift e₃ h₂ also h₃ also none_cited) by_type_snd

  new_infer_sound : {rs : List Row} (d : ℕ) (g : Context) (t : Term) → Keeps rs (new_infer c d g t) (λ o. At o.1 (typing d g t o.0))
  unfolding new_infer
  new_infer_sound d g t =
      bind (find_sound d g t) λ it _ _ h₁. bind (emitted h₁.cited h₁.follows) λ row _ _ h₂.
      bind (remembering (key d g t) it.type row h₂) λ _ _ e₃ _. giving (it.type, row) λ _ e. lift e (lift e₃ h₂)

  pub infer_sound : {rs : List Row} (d : ℕ) (g : Context) (t : Term) → Keeps rs (infer_body c d g t) (λ o. At o.1 (typing d g t o.0))
  unfolding infer_body
  infer_sound d g t = recalling (key d g t) (new_infer_sound d g t)
