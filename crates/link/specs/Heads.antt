-- Reducing at the head over words matches the walk's: head_step, head_normalize.
use Rattle.std.specs.Prelude.{ℕ, ◌≡◌, List, [], ◌∷◌, ◌++◌}
use Rattle.std.proofs.Math.Path.{refl}
use Rattle.std.proofs.Math.Option.{Option, none, some}
use Rattle.std.proofs.Math.Bool.{true}
use Rattle.producer.specs.Machine.{W, make_app, make_papp, when◌then◌else◌}
use Rattle.producer.specs.Machine as C
use Rattle.producer.specs.Callees.{Callees, prepared}
use Rattle.producer.specs.Heads as P
use Rattle.walk.specs.Syntax.{Interval, Term, Pi, App, Path, PathApp, Context}
use Rattle.walk.specs.Reader.{k_pi, k_path}
use Rattle.walk.specs.State.{Thing, term, interval, context, M, Outcome, done, refused, go_on, ◌>>=◌, pure, refuse, from◌get◌or◌, of_term, of_context, count_all}
use Rattle.walk.specs.Walk.Reference as D
use Rattle.walk.specs.Walk.Typing as T
use Rattle.walk.specs.Walk.Equality as B
use Rattle.link.specs.Lists.{Extends, extends_trans}
use Rattle.link.specs.Things.{Cell, cell_lift}
use Rattle.link.specs.Holds.{Before}
use Rattle.link.specs.Match.{Matches, Absorbs, bind, giving, stopping, the_term, the_context, cite_5, Returns, preceding, following, calling}
use Rattle.link.specs.Open.{opening_term, at_pi, at_path, same_quote}
use Rattle.link.specs.Linked.{Linked, o_subst, o_dsubst, Steps, no_step, a_step, row_then, pair_then, making_app, making_papp}
use Rattle.link.specs.Typing.{emitting_eq, headed_matches}
use Rattle.link.specs.Equality.{stepped, normal_by_matches}

-- what a head goes to, or nothing
data Goes : Option (ℕ × ℕ) → Option (Term × ℕ) → List Thing → Type 0 where
  goes_not : {xs : List Thing} → Goes none none xs
  goes : {xs : List Thing} {s x y : ℕ} {t : Term} → Cell s (term t) xs → x ≡ y → Goes (some (s, x)) (some (t, y)) xs

gone_then : {A E : Type 0} {o : Before} {xs : List Thing} {Q : E → A → List Thing → Type 0} {p : Option (ℕ × ℕ)} {r : Option (Term × ℕ)} {z : W E} {y : M A} (f : ℕ → ℕ → W E) (h : Term × ℕ → M A) → Goes p r xs → ((s x : ℕ) (t : Term) → Cell s (term t) xs → Matches o xs (f s x) (h (t, x)) Q) → Matches o xs z y Q → Matches o xs (C.on_maybe p f z) (from r get h or y) Q
unfolding C.on_maybe from◌get◌or◌
gone_then f h goes_not k m = m
gone_then f h (goes {s = s} {x = x} {t = t} a e) k m = rw (← e) (k s x t a)

-- what goes on after a function that may be readied before may be too
absorbs_then : {A B : Type 0} {r : M (Unit {0})} {zs : List Thing} {d : M A} (k : A → M B) → Absorbs r zs d → Absorbs r zs (d >>= k)
unfolding ◌>>=◌ go_on
absorbs_then {A} {B} {r} {zs} {d} k a = record { first_counted = λ s. rw (a.first_counted s) (outer (r s)) }
  where
    inner : (o : Outcome (Unit {0})) → go_on (go_on o (λ _. d)) k ≡ go_on o (λ _ s. go_on (d s) k)
    inner (done u s) = refl
    inner (refused n s) = refl

    outer : (o : Outcome (Unit {0})) → go_on (go_on o (λ _ s. go_on (count_all zs s) (λ _. d))) k ≡ go_on o (λ _ s. go_on (count_all zs s) (λ _ s. go_on (d s) k))
    outer (done u s) = inner (count_all zs s)
    outer (refused n s) = refl

-- a type with its parts
record PiOf (p : ℕ × ℕ × ℕ) (r : (Term × Term) × ℕ) (xs : List Thing) : Type 0 where
  whole : Cell p.0 (term (Pi r.0.0 r.0.1)) xs
  domain : Cell p.1 (term r.0.0) xs
  codomain : Cell p.2 (term r.0.1) xs

record PathOf (p : ℕ × ℕ) (r : (Term × Term × Term) × ℕ) (xs : List Thing) : Type 0 where
  whole : Cell p.0 (term (Path r.0.0 r.0.1 r.0.2)) xs
  family : Cell p.1 (term r.0.0) xs

module _ {o : Before} {rd : M (Unit {0})} (c : Callees) (d : D.Callees) (L : Linked o rd c d) where
  head_goes_matches : {xs : List Thing} {g f y : ℕ} {g' : Context} {f' y' : Term} (n : ℕ) → Cell g (context g') xs → Cell f (term f') xs → Cell y (term y') xs → Matches o xs (P.head_goes c n g f y) (B.head_goes d n g' f' y') Goes
  unfolding P.head_goes B.head_goes
  head_goes_matches n g f y =
      bind (L.head_step n g f) λ _ _ _ e₁ s.
      stepped _ _ s
      (λ _ _ _ _ _ now type. same_quote type (cell_lift e₁ y) (giving _ _ λ _ e. goes (cell_lift e now) refl) (stopping _))
      (giving _ _ λ _ _. goes_not)

  -- t is typed, then out is made and typed
  congruent_matches : {xs : List Thing} {g t y : ℕ} {g' : Context} {t' out' y' : Term} (n head other sub rule : ℕ) (make : W ℕ) → Cell g (context g') xs → Cell t (term t') xs → Cell y (term y') xs → ((ys : List Thing) → Extends xs ys → Matches o ys make (count_all (of_term out')) (λ i _. Cell i (term out'))) → Matches o xs (C.◌>>=◌ (c.check n g t y) λ x. C.◌>>=◌ (prepared c make) λ out. P.congruent c n g t out y head other sub x rule) (B.congruent d n g' t' out' y' (head ∷ other ∷ sub ∷ []) rule) Steps
  unfolding P.congruent B.congruent
  congruent_matches n head other sub rule make g t y making =
      row_then (L.check n g t y) λ x _ e₁.
      calling c _ (absorbs_then _ (L.check_absorbs n _ _ _)) L.ready
      (λ ys e. following _ (preceding _ (the_context (cell_lift (extends_trans e₁ e) g)) (making ys (extends_trans e₁ e))) (the_term (cell_lift (extends_trans e₁ e) y)))
      λ u ys e q.
      let f = extends_trans e₁ e in
      row_then (L.check n (cell_lift f g) q (cell_lift f y)) λ _ _ e₂.
      let f₂ = extends_trans f e₂ in
      row_then (emitting_eq _ n cite_5 (cell_lift f₂ g) (cell_lift f₂ t) (cell_lift e₂ q) (cell_lift f₂ y)) λ _ _ e₃.
      giving _ _ λ _ h. a_step (cell_lift (extends_trans e₂ (extends_trans e₃ h)) q) (cell_lift (extends_trans f₂ (extends_trans e₃ h)) y) refl

  pi_of_matches : {xs : List Thing} {g f : ℕ} {g' : Context} {f' : Term} (n : ℕ) → Cell g (context g') xs → Cell f (term f') xs → Matches o xs (P.pi_of c n g f) (T.as_pi d n g' f') PiOf
  unfolding P.pi_of T.as_parts
  pi_of_matches n g f =
      pair_then _ _ (headed_matches c d L n g f k_pi) λ _ _ _ _ _ ty.
      at_pi _ _ ty (λ _ _ _ _ q a b. giving _ _ λ _ e. record { whole = cell_lift e (rw q at ty); domain = cell_lift e a; codomain = cell_lift e b }) (stopping _)

  path_of_matches : {xs : List Thing} {g p : ℕ} {g' : Context} {p' : Term} (n : ℕ) → Cell g (context g') xs → Cell p (term p') xs → Matches o xs (P.path_of c n g p) (T.as_path d n g' p') PathOf
  unfolding P.path_of T.as_parts
  path_of_matches n g p =
      pair_then _ _ (headed_matches c d L n g p k_path) λ _ _ _ _ _ ty.
      at_path _ _ ty (λ _ _ _ _ _ _ q a _ _. giving _ _ λ _ e. record { whole = cell_lift e (rw q at ty); family = cell_lift e a }) (stopping _)

  app_cong_matches : {xs : List Thing} {g t f a : ℕ} {g' : Context} {f' a' : Term} (n : ℕ) → Cell g (context g') xs → Cell t (term (App f' a')) xs → Cell f (term f') xs → Cell a (term a') xs → Matches o xs (P.app_cong c n g t f a) (B.app_cong d n g' f' a') Steps
  unfolding P.app_cong P.app_at B.app_cong
  app_cong_matches n g t f a =
      bind (pi_of_matches n g f) λ _ _ _ e₁ pi.
      bind (head_goes_matches n (cell_lift e₁ g) (cell_lift e₁ f) pi.whole) λ _ _ _ e₂ gone.
      let f₂ = extends_trans e₁ e₂ in
      gone_then _ _ gone
      (λ _ head _ out.
      row_then (L.check n (cell_lift f₂ g) (cell_lift f₂ a) (cell_lift e₂ pi.domain)) λ _ _ e₃.
      let f₃ = extends_trans f₂ e₃ in
      pair_then _ _ (L.transform (cell_lift (extends_trans e₂ e₃) pi.codomain) (o_subst (cell_lift f₃ a))) λ _ _ _ _ e₄ ty.
      let f₄ = extends_trans f₃ e₄ in
      congruent_matches n head _ _ _ _ (cell_lift f₄ g) (cell_lift f₄ t) ty λ ys e. making_app (cell_lift (extends_trans e₃ (extends_trans e₄ e)) out) (cell_lift (extends_trans f₄ e) a))
      (giving _ _ λ _ _. no_step)

  papp_cong_matches : {xs : List Thing} {g t p r : ℕ} {g' : Context} {p' : Term} {r' : Interval} (n : ℕ) → Cell g (context g') xs → Cell t (term (PathApp p' r')) xs → Cell p (term p') xs → Cell r (interval r') xs → Matches o xs (P.papp_cong c n g t p r) (B.papp_cong d n g' p' r') Steps
  unfolding P.papp_cong P.papp_at B.papp_cong
  papp_cong_matches n g t p r =
      bind (path_of_matches n g p) λ _ _ _ e₁ path.
      bind (head_goes_matches n (cell_lift e₁ g) (cell_lift e₁ p) path.whole) λ _ _ _ e₂ gone.
      let f₂ = extends_trans e₁ e₂ in
      gone_then _ _ gone
      (λ _ head _ out.
      row_then (L.interval n (cell_lift f₂ r)) λ _ _ e₃.
      let f₃ = extends_trans f₂ e₃ in
      pair_then _ _ (L.transform (cell_lift (extends_trans e₂ e₃) path.family) (o_dsubst (cell_lift f₃ r))) λ _ _ _ _ e₄ ty.
      let f₄ = extends_trans f₃ e₄ in
      congruent_matches n head _ _ _ _ (cell_lift f₄ g) (cell_lift f₄ t) ty λ ys e. making_papp (cell_lift (extends_trans e₃ (extends_trans e₄ e)) out) (cell_lift (extends_trans f₄ e) r))
      (giving _ _ λ _ _. no_step)

  at_head_matches : {xs : List Thing} {g t : ℕ} {g' : Context} {t' : Term} (n : ℕ) → Cell g (context g') xs → Cell t (term t') xs → Matches o xs (P.at_head c n g t) (B.at_head d n g' t') Steps
  unfolding P.at_head B.at_head when◌then◌else◌
  at_head_matches {g' = g'} n g t =
      opening_term _ (B.at_head d n g') t
      (λ _ _ _. giving _ _ λ _ _. no_step)
      (λ _ _ _. giving _ _ λ _ _. no_step)
      (λ _ _. giving _ _ λ _ _. no_step)
      (λ _ _. giving _ _ λ _ _. no_step)
      (λ _ _ _ _ _ _ _ _. giving _ _ λ _ _. no_step)
      (λ _ _ _ _ _ _ _ _. giving _ _ λ _ _. no_step)
      (λ _ _ _ _ _ k f a. app_cong_matches n g k.cell f a)
      (λ _ _ _ _ _ _ _ _ _ _ _. giving _ _ λ _ _. no_step)
      (λ _ _ _ _ _ _ _ _. giving _ _ λ _ _. no_step)
      (λ _ _ _ _ _ k p r. papp_cong_matches n g k.cell p r)
      (λ _ _ _ _ _ _ _ _. giving _ _ λ _ _. no_step)
      (λ _ _ _ _ _ _ _ _ _ _ _. giving _ _ λ _ _. no_step)
      (λ _ _ _ _ _. giving _ _ λ _ _. no_step)
      (λ _ _ _ _ _. giving _ _ λ _ _. no_step)

  pub head_step_matches : {xs : List Thing} {g t : ℕ} {g' : Context} {t' : Term} (n : ℕ) → Cell g (context g') xs → Cell t (term t') xs → Matches o xs (P.head_step_body c n g t) (B.head_step_body d n g' t') Steps
  unfolding P.head_step_body B.head_step_body
  head_step_matches n g t =
      bind (L.reduce n g t) λ _ _ _ e₁ s.
      stepped _ _ s
      (λ _ _ _ _ _ now type. giving _ _ λ _ e. a_step (cell_lift e now) (cell_lift e type) refl)
      (at_head_matches n (cell_lift e₁ g) (cell_lift e₁ t))

  pub head_normalize_matches : {xs : List Thing} {g t y : ℕ} {g' : Context} {t' y' : Term} (n : ℕ) → Cell g (context g') xs → Cell t (term t') xs → Cell y (term y') xs → Matches o xs (P.head_normalize_body c n g t y) (B.head_normalize_body d n g' t' y') (Returns term)
  unfolding P.head_normalize_body B.head_normalize_body
  head_normalize_matches n g t y = normal_by_matches c d L true n g t y
