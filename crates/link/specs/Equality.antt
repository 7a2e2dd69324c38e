-- Equality over words matches the walk's: reduce, normalize, equal.
use Rattle.std.specs.Prelude.{ℕ, ◌≡◌, List, [], ◌∷◌, Bool}
use Rattle.std.proofs.Math.Path.{refl, subst}
use Rattle.std.proofs.Common.{sym, ap}
use Rattle.std.proofs.Math.Option.{Option, none}
use Rattle.std.proofs.Math.Bool.{true, false}
use Rattle.ast.specs.Cells.{same_quote_of}
use Rattle.producer.specs.Machine.{Machine, W, Reduction, next, stop, when◌then◌else◌}
use Rattle.producer.specs.Machine as C
use Rattle.producer.specs.Callees.{Callees}
use Rattle.producer.specs.Equality as P
use Rattle.walk.specs.Syntax.{Interval, I0, I1, Term, App, Lam, PathApp, Fst, Snd, Context, quote, quote?}
use Rattle.walk.specs.State.{Thing, term, interval, context, M, pure, refuse, choose◌then◌else◌, from◌get◌or◌}
use Rattle.walk.specs.Walk.Reference as D
use Rattle.walk.specs.Walk.Reference.{End, E0, E1}
use Rattle.producer.specs.Endpoints.{by_end}
use Rattle.walk.specs.Walk.Equality as B
use Rattle.link.specs.Lists.{extends_trans}
use Rattle.link.specs.Things.{Cell, cell_lift, cell_same}
use Rattle.link.specs.Holds.{Before}
use Rattle.link.specs.Match.{Matches, both_refused, bind, giving, stopping, Same, cite_1, cite_2, cite_3, cite_5, cite_6, Returns, regrouped, given}
use Rattle.link.specs.Open.{Node, opening_interval, opening_term, at_lam, at_plam, at_pair, same_quote}
use Rattle.link.specs.Linked.{Linked, the_end, Ends, no_end, ended_then, o_subst, o_dsubst, Steps, no_step, a_step, row_then, pair_then, number_then}
use Rattle.link.specs.Typing.{emitting_eq, three_then, four_then, universe_of_cons, infer_of_cons, as_path_matches, as_sigma_matches, transform_at_fst}

-- the side of a path's type at an end, and the rule
side_cell : {xs : List Thing} {b f : ℕ} {b' f' : Term} (a' : Term) (e : End) → Cell b (term b') xs → Cell f (term f') xs → Cell (by_end (the_end e) b f) (term (B.side e (a', b', f'))) xs
unfolding by_end
side_cell a' E0 b f = b
side_cell a' E1 b f = f

val_rule_is : (e : End) → P.val_rule (the_end e) ≡ B.val_rule e
unfolding P.val_rule by_end
val_rule_is E0 = refl
val_rule_is E1 = refl

module _ {o : Before} {rd : M (Unit {0})} (c : Callees) (d : D.Callees) (L : Linked o rd c d) where
  -- root reductions

  beta_matches : {xs : List Thing} {g t a b r : ℕ} {g' : Context} {t' a' b' r' : Term} (n : ℕ) → t' ≡ App (Lam a' b') r' → Cell g (context g') xs → Cell t (term t') xs → Cell a (term a') xs → Cell b (term b') xs → Cell r (term r') xs → Matches o xs (P.beta c n g t a b r) (B.beta d n g' a' b' r') Steps
  unfolding P.beta P.beta_row B.beta
  beta_matches n q g t a b r =
      let t₁ = rw q at t in
      number_then _ _ (L.universe n g a) λ _ _ _ e₁.
      pair_then _ _ (infer_of_cons c d L n (cell_lift e₁ a) (cell_lift e₁ g) (cell_lift e₁ b)) λ _ _ _ _ e₂ y.
      let f₂ = extends_trans e₁ e₂ in
      number_then _ _ (universe_of_cons c d L n (cell_lift f₂ a) (cell_lift f₂ g) y) λ _ _ _ e₃.
      let f₃ = extends_trans f₂ e₃ in
      row_then (L.check n (cell_lift f₃ g) (cell_lift f₃ r) (cell_lift f₃ a)) λ _ _ e₄.
      let f₄ = extends_trans f₃ e₄ in
      pair_then _ _ (L.transform (cell_lift f₄ b) (o_subst (cell_lift f₄ r))) λ _ _ _ _ e₅ out.
      let f₅ = extends_trans f₄ e₅ in
      pair_then _ _ (L.transform (cell_lift (extends_trans e₃ (extends_trans e₄ e₅)) y) (o_subst (cell_lift f₅ r))) λ _ _ _ _ e₆ ty.
      let f₆ = extends_trans f₅ e₆ in
      row_then (emitting_eq _ n cite_6 (cell_lift f₆ g) (cell_lift f₆ t₁) (cell_lift e₆ out) ty) λ _ _ e₇.
      giving _ _ λ _ f. a_step (cell_lift (extends_trans e₆ (extends_trans e₇ f)) out) (cell_lift (extends_trans e₇ f) ty) refl

  at_end_matches : {xs : List Thing} {g t b y : ℕ} {g' : Context} {t' b' y' : Term} (n x z rule : ℕ) → Cell g (context g') xs → Cell t (term t') xs → Cell b (term b') xs → Cell y (term y') xs → Matches o xs (P.at_end c n g t b y x z rule) (B.at_end d n g' t' b' y' (x ∷ z ∷ []) rule) Steps
  unfolding P.at_end B.at_end
  at_end_matches n x z rule g t b y =
      row_then (L.check n g b y) λ _ _ e₁.
      row_then (emitting_eq _ n cite_3 (cell_lift e₁ g) (cell_lift e₁ t) (cell_lift e₁ b) (cell_lift e₁ y)) λ _ _ e₂.
      giving _ _ λ _ f. let e = extends_trans e₁ (extends_trans e₂ f) in a_step (cell_lift e b) (cell_lift e y) refl

  pbeta_matches : {xs : List Thing} {g t r b y : ℕ} {g' : Context} {p' b' y' : Term} {r' : Interval} (n x z : ℕ) → Cell g (context g') xs → Cell t (term (PathApp p' r')) xs → Cell r (interval r') xs → Cell b (term b') xs → Cell y (term y') xs → Matches o xs (P.pbeta c n g t r b y x z) (B.pbeta d n g' p' r' b' y' x z) Steps
  unfolding P.pbeta B.pbeta
  pbeta_matches n x z g t r b y =
      row_then (L.interval n r) λ _ _ e₁.
      pair_then _ _ (L.transform (cell_lift e₁ b) (o_dsubst (cell_lift e₁ r))) λ _ _ _ _ e₂ out.
      let f₂ = extends_trans e₁ e₂ in
      row_then (L.check n (cell_lift f₂ g) out (cell_lift f₂ y)) λ _ _ e₃.
      let f₃ = extends_trans f₂ e₃ in
      row_then (emitting_eq _ n cite_5 (cell_lift f₃ g) (cell_lift f₃ t) (cell_lift e₃ out) (cell_lift f₃ y)) λ _ _ e₄.
      giving _ _ λ _ f. a_step (cell_lift (extends_trans e₃ (extends_trans e₄ f)) out) (cell_lift (extends_trans f₃ (extends_trans e₄ f)) y) refl

  ends_matches : {xs : List Thing} {g t r b e y : ℕ} {g' : Context} {p' b' e' y' : Term} {r' : Interval} (n x z : ℕ) → Cell g (context g') xs → Cell t (term (PathApp p' r')) xs → Cell r (interval r') xs → Cell b (term b') xs → Cell e (term e') xs → Cell y (term y') xs → Matches o xs (P.at_ends c n g t r b e y x z) (B.ends d n g' p' r' b' e' y' x z) Steps
  unfolding P.at_ends B.ends when◌then◌else◌
  ends_matches {xs = xs} {t = t₀} {r = r₁} {g' = g'} {p' = p'} {b' = b'} {e' = e'} {y' = y'} {r' = r₀} n x z g t r b e y =
      opening_interval _ (λ r'. B.ends d n g' p' r' b' e' y' x z) r
      (λ _ k. at_end_matches n x z _ g (whole I0 k) b y)
      (λ _ k. at_end_matches n x z _ g (whole I1 k) e y)
      (λ _ _ _. giving _ _ λ _ _. no_step)
      (λ _ _ _ _ _. giving _ _ λ _ _. no_step)
      (λ _ _ _ _ _ _ _ _. giving _ _ λ _ _. no_step)
      (λ _ _ _ _ _ _ _ _. giving _ _ λ _ _. no_step)
    where
      whole : {q : ℕ} (s : Interval) → Node r₁ q (interval s) xs → Cell t₀ (term (PathApp p' s)) xs
      whole s k = let i = cell_same r k.cell in let q : r₀ ≡ s = cc in rw q at t

  along_matches : {xs : List Thing} {g t p r : ℕ} {g' : Context} {p' : Term} {r' : Interval} (n : ℕ) → Cell g (context g') xs → Cell t (term (PathApp p' r')) xs → Cell p (term p') xs → Cell r (interval r') xs → Matches o xs (P.along c n g t p r) (B.along d n g' p' r') Steps
  unfolding P.along B.along
  along_matches n g t p r =
      four_then _ _ (as_path_matches c d L n g p) λ _ _ _ x _ _ _ _ f₂ a b e.
      pair_then _ _ (L.transform a (o_dsubst (cell_lift f₂ r))) λ _ z _ _ e₃ ty.
      let f₃ = extends_trans f₂ e₃ in
      at_plam _ _ (cell_lift f₃ p)
      (λ _ _ _ _ _ _ body. pbeta_matches n x z (cell_lift f₃ g) (cell_lift f₃ t) (cell_lift f₃ r) body ty)
      (ends_matches n x z (cell_lift f₃ g) (cell_lift f₃ t) (cell_lift f₃ r) (cell_lift e₃ b) (cell_lift e₃ e) ty)

  -- where the end is asked for
  long_end_matches : {xs : List Thing} {p r : ℕ} {p' : Term} {r' : Interval} → Cell p (term p') xs → Cell r (interval r') xs → Matches o xs (P.long_end c p r) (B.long_end d p' r') Ends
  unfolding P.long_end B.long_end when◌then◌else◌ from◌get◌or◌
  long_end_matches p r =
      at_plam _ _ p
      (λ _ _ _ _ _ _ _. giving _ _ λ _ _. no_end)
      (opening_interval _ (λ r'. from B.written r' get (λ _. pure none) or d.endpoint r') r
      (λ _ _. giving _ _ λ _ _. no_end)
      (λ _ _. giving _ _ λ _ _. no_end)
      (λ _ _ k. L.endpoint k.cell)
      (λ _ _ _ k _. L.endpoint k.cell)
      (λ _ _ _ _ _ k _ _. L.endpoint k.cell)
      (λ _ _ _ _ _ k _ _. L.endpoint k.cell))

  at_val_matches : {xs : List Thing} {g t p r : ℕ} {g' : Context} {p' : Term} {r' : Interval} (n : ℕ) (e : End) (w : ℕ) → Cell g (context g') xs → Cell t (term (PathApp p' r')) xs → Cell p (term p') xs → Cell r (interval r') xs → Matches o xs (P.at_val c n g t p r (the_end e) w) (B.at_val d n g' p' r' e w) Steps
  unfolding P.at_val B.at_val B.at_end
  at_val_matches n e w g t p r =
      four_then _ _ (as_path_matches c d L n g p) λ _ _ _ _ a' _ _ _ e₁ a b f.
      row_then (L.interval n (cell_lift e₁ r)) λ _ _ e₂.
      let f₂ = extends_trans e₁ e₂ in
      pair_then _ _ (L.transform (cell_lift e₂ a) (o_dsubst (cell_lift f₂ r))) λ _ _ _ _ e₃ ty.
      let f₃ = extends_trans f₂ e₃ in
      let out = side_cell a' e (cell_lift (extends_trans e₂ e₃) b) (cell_lift (extends_trans e₂ e₃) f) in
      row_then (L.check n (cell_lift f₃ g) out ty) λ _ _ e₄.
      let f₄ = extends_trans f₃ e₄ in
      row_then (rw (val_rule_is e) (emitting_eq _ n cite_5 (cell_lift f₄ g) (cell_lift f₄ t) (cell_lift e₄ out) (cell_lift e₄ ty))) λ _ _ e₅.
      giving _ _ λ _ h. let l = extends_trans e₄ (extends_trans e₅ h) in a_step (cell_lift l out) (cell_lift l ty) refl

  reduce_papp_matches : {xs : List Thing} {g t p r : ℕ} {g' : Context} {p' : Term} {r' : Interval} (n : ℕ) → Cell g (context g') xs → Cell t (term (PathApp p' r')) xs → Cell p (term p') xs → Cell r (interval r') xs → Matches o xs (P.reduce_papp c n g t p r) (B.reduce_body d n g' (PathApp p' r')) Steps
  unfolding P.reduce_papp B.reduce_body
  reduce_papp_matches n g t p r =
      bind (long_end_matches p r) λ _ _ _ f s.
      ended_then _ _ s
      (λ e w. at_val_matches n e w (cell_lift f g) (cell_lift f t) (cell_lift f p) (cell_lift f r))
      (along_matches n (cell_lift f g) (cell_lift f t) (cell_lift f p) (cell_lift f r))

  fst_beta_matches : {xs : List Thing} {g t p a : ℕ} {g' : Context} {p' a' : Term} (n : ℕ) → Cell g (context g') xs → Cell t (term (Fst p')) xs → Cell p (term p') xs → Cell a (term a') xs → Matches o xs (P.fst_beta c n g t p a) (B.fst_beta d n g' p' a') Steps
  unfolding P.fst_beta B.fst_beta
  fst_beta_matches n g t p a =
      three_then _ _ (as_sigma_matches c d L n g p) λ _ _ _ _ _ _ e₁ ta _.
      row_then (L.check n (cell_lift e₁ g) (cell_lift e₁ a) ta) λ _ _ e₂.
      let f₂ = extends_trans e₁ e₂ in
      row_then (emitting_eq _ n cite_2 (cell_lift f₂ g) (cell_lift f₂ t) (cell_lift f₂ a) (cell_lift e₂ ta)) λ _ _ e₃.
      giving _ _ λ _ f. let e = extends_trans e₂ (extends_trans e₃ f) in a_step (cell_lift (extends_trans e₁ e) a) (cell_lift e ta) refl

  snd_beta_matches : {xs : List Thing} {g t p b : ℕ} {g' : Context} {p' b' : Term} (n : ℕ) → Cell g (context g') xs → Cell t (term (Snd p')) xs → Cell p (term p') xs → Cell b (term b') xs → Matches o xs (P.snd_beta c n g t p b) (B.snd_beta d n g' p' b') Steps
  unfolding P.snd_beta B.snd_beta
  snd_beta_matches n g t p b =
      three_then _ _ (as_sigma_matches c d L n g p) λ _ _ x _ _ _ e₁ _ tb.
      pair_then _ _ (transform_at_fst c d L tb (cell_lift e₁ p)) λ _ z _ _ e₂ ty.
      let f₂ = extends_trans e₁ e₂ in
      at_end_matches n x z _ (cell_lift f₂ g) (cell_lift f₂ t) (cell_lift f₂ b) ty

  pub reduce_matches : {xs : List Thing} {g t : ℕ} {g' : Context} {t' : Term} (n : ℕ) → Cell g (context g') xs → Cell t (term t') xs → Matches o xs (P.reduce_body c n g t) (B.reduce_body d n g' t') Steps
  unfolding P.reduce_body B.reduce_body when◌then◌else◌
  reduce_matches {g' = g'} n g t =
      opening_term _ (B.reduce_body d n g') t
      (λ _ _ _. giving _ _ λ _ _. no_step)
      (λ _ _ _. giving _ _ λ _ _. no_step)
      (λ _ _. giving _ _ λ _ _. no_step)
      (λ _ _. giving _ _ λ _ _. no_step)
      (λ _ _ _ _ _ _ _ _. giving _ _ λ _ _. no_step)
      (λ _ _ _ _ _ _ _ _. giving _ _ λ _ _. no_step)
      (λ _ _ _ _ r k f a. at_lam _ _ f (λ _ _ _ _ q x body. beta_matches n (ap (λ (h : Term). App h r) q) g k.cell x body a) (giving _ _ λ _ _. no_step))
      (λ _ _ _ _ _ _ _ _ _ _ _. giving _ _ λ _ _. no_step)
      (λ _ _ _ _ _ _ _ _. giving _ _ λ _ _. no_step)
      (λ _ _ _ _ _ k p r. reduce_papp_matches n g k.cell p r)
      (λ _ _ _ _ _ _ _ _. giving _ _ λ _ _. no_step)
      (λ _ _ _ _ _ _ _ _ _ _ _. giving _ _ λ _ _. no_step)
      (λ _ _ _ k p. at_pair _ _ p (λ _ _ _ _ _ _ _ _ a _. fst_beta_matches n g k.cell p a) (giving _ _ λ _ _. no_step))
      (λ _ _ _ k p. at_pair _ _ p (λ _ _ _ _ _ _ _ _ _ b. snd_beta_matches n g k.cell p b) (giving _ _ λ _ _. no_step))

-- a step that is found, or none
pub stepped : {A E : Type 0} {o : Before} {xs : List Thing} {Q : E → A → List Thing → Type 0} {p : Option Reduction} {r : Option D.Step} {z : W E} {y : M A} (f : Reduction → W E) (h : D.Step → M A) → Steps p r xs → ((s s' : ℕ) (x : ℕ) (t t' : Term) → Cell s (term t) xs → Cell s' (term t') xs → Matches o xs (f (record { term = s; type = s'; row = x })) (h (record { term = t; type = t'; row = x })) Q) → Matches o xs z y Q → Matches o xs (P.on_step p f z) (from r get h or y) Q
unfolding P.on_step from◌get◌or◌
stepped f h no_step k m = m
stepped {o = o} {xs = xs} {Q = Q} f h (a_step {s = s} {t = t} a b e) k m = subst (λ (x : ℕ). Matches o xs (f (record { term = s.term; type = s.type; row = x })) (h t) Q) (sym e) (k s.term s.type t.row t.term t.type a b)

-- the same, then what follows
module _ {A E F : Type 0} {o : Before} {xs : List Thing} {Q : F → A → List Thing → Type 0} (k : E → W F) where
  step_then : {p : Option Reduction} {r : Option D.Step} {y : M A} (f : Reduction → W E) (z : W E) (h : D.Step → M A) → Steps p r xs → ((s s' : ℕ) (x : ℕ) (t t' : Term) → Cell s (term t) xs → Cell s' (term t') xs → Matches o xs (C.◌>>=◌ (f (record { term = s; type = s'; row = x })) k) (h (record { term = t; type = t'; row = x })) Q) → Matches o xs (C.◌>>=◌ z k) y Q → Matches o xs (C.◌>>=◌ (P.on_step p f z) k) (from r get h or y) Q
  unfolding P.on_step from◌get◌or◌
  step_then f z h no_step m n = n
  step_then f z h (a_step {s = s} {t = t} a b e) m n = subst (λ (x : ℕ). Matches o xs (C.◌>>=◌ (f (record { term = s.term; type = s.type; row = x })) k) (h t) Q) (sym e) (m s.term s.type t.row t.term t.type a b)

  quote_then : {i j : ℕ} {t u : Term} {d e : M A} (m n : W E) → Cell i (term t) xs → Cell j (term u) xs → Matches o xs (C.◌>>=◌ m k) d Q → Matches o xs (C.◌>>=◌ n k) e Q → Matches o xs (C.◌>>=◌ (C.same_quote i j m n) k) (choose quote? (quote t) (quote u) then d else e) Q
  unfolding C.same_quote C.◌>>=◌ when◌then◌else◌
  quote_then {i = i} {j = j} m n h l f g = record { holds = λ w s e z. rw (inner (same_quote_of w.cells i j) w) ((same_quote h l f g).holds w s e z) }
    where
      inner : (b : Bool) (w : Machine) → next ((when b then m else n) w) k ≡ (when b then (λ w. next (m w) k) else (λ w. next (n w) k)) w
      inner true w = refl
      inner false w = refl

  stopped : (n : ℕ) → Matches o xs (C.◌>>=◌ (stop n) k) (refuse n) Q
  unfolding C.◌>>=◌ next stop refuse
  stopped n = record { holds = λ w s e h. both_refused e h }

-- the walk's step, at the root alone or at heads too
abbrev pub walk_step : D.Callees → Bool → ℕ → Context → Term → M (Option D.Step)
walk_step d true n g = d.head_step n g
walk_step d false n g = d.reduce n g

module _ {o : Before} {rd : M (Unit {0})} (c : Callees) (d : D.Callees) (L : Linked o rd c d) where
  step_matches : {xs : List Thing} {g t : ℕ} {g' : Context} {t' : Term} (heads : Bool) (n : ℕ) → Cell g (context g') xs → Cell t (term t') xs → Matches o xs (P.step_by c heads n g t) (walk_step d heads n g' t') Steps
  step_matches true n g t = L.head_step n g t
  step_matches false n g t = L.reduce n g t

  rounds_matches : {xs : List Thing} {g t y i : ℕ} {g' : Context} {t' y' i' : Term} (heads : Bool) (left n x : ℕ) → Cell g (context g') xs → Cell t (term t') xs → Cell y (term y') xs → Cell i (term i') xs → Matches o xs (P.rounds left c heads n g t y i x) (B.rounds left d (walk_step d heads n g') n g' t' y' i' x) (Returns term)
  unfolding P.rounds P.round C.on_maybe B.rounds
  rounds_matches heads ℕ.zero n x g t y i =
      bind (step_matches heads n g i) λ _ _ _ e₁ s.
      stepped _ _ s (λ _ _ _ _ _ _ _. stopping _) (giving _ _ λ _ f. record { left = cell_lift (extends_trans e₁ f) i; right = refl })
  rounds_matches heads (ℕ.suc left) n x g t y i =
      regrouped _ _ _ (bind (step_matches heads n g i) λ _ _ _ e₁ s.
      step_then _ _ _ _ s
      (λ _ _ z _ _ now type.
      quote_then _ _ _ type (cell_lift e₁ y)
      (regrouped _ _ _ (row_then (L.check n (cell_lift e₁ g) now (cell_lift e₁ y)) λ _ _ e₂.
      let f₂ = extends_trans e₁ e₂ in
      regrouped _ _ _ (row_then (emitting_eq _ n cite_2 (cell_lift f₂ g) (cell_lift f₂ t) (cell_lift e₂ now) (cell_lift f₂ y)) λ v _ e₃.
      let f₃ = extends_trans f₂ e₃ in
      given _ _ (rounds_matches heads left n v (cell_lift f₃ g) (cell_lift f₃ t) (cell_lift f₃ y) (cell_lift (extends_trans e₂ e₃) now)))))
      (stopped _ _))
      (given _ _ (giving _ _ λ _ f. record { left = cell_lift (extends_trans e₁ f) i; right = refl })))

  pub normal_by_matches : {xs : List Thing} {g t y : ℕ} {g' : Context} {t' y' : Term} (heads : Bool) (n : ℕ) → Cell g (context g') xs → Cell t (term t') xs → Cell y (term y') xs → Matches o xs (P.normal_by c heads n g t y) (B.normal_by d (walk_step d heads n g') n g' t' y') (Returns term)
  unfolding P.normal_by B.normal_by
  normal_by_matches heads n g t y =
      row_then (L.check n g t y) λ _ _ e₁.
      row_then (emitting_eq _ n cite_1 (cell_lift e₁ g) (cell_lift e₁ t) (cell_lift e₁ t) (cell_lift e₁ y)) λ x _ e₂.
      let f = extends_trans e₁ e₂ in
      rounds_matches heads 32 n x (cell_lift f g) (cell_lift f t) (cell_lift f y) (cell_lift f t)

  pub normalize_matches : {xs : List Thing} {g t y : ℕ} {g' : Context} {t' y' : Term} (n : ℕ) → Cell g (context g') xs → Cell t (term t') xs → Cell y (term y') xs → Matches o xs (P.normalize_body c n g t y) (B.normalize_body d n g' t' y') (Returns term)
  unfolding P.normalize_body B.normalize_body
  normalize_matches n g t y = normal_by_matches false n g t y

  pub equal_matches : {xs : List Thing} {g a b y : ℕ} {g' : Context} {a' b' y' : Term} (n : ℕ) → Cell g (context g') xs → Cell a (term a') xs → Cell b (term b') xs → Cell y (term y') xs → Matches o xs (P.equal_body c n g a b y) (B.equal_body d n g' a' b' y') Same
  unfolding P.equal_body P.equal_normal B.equal_body
  equal_matches n g a b y =
      row_then (L.check n g a y) λ _ _ e₁.
      row_then (L.check n (cell_lift e₁ g) (cell_lift e₁ b) (cell_lift e₁ y)) λ _ _ e₂.
      let f₂ = extends_trans e₁ e₂ in
      same_quote (cell_lift f₂ a) (cell_lift f₂ b)
      (emitting_eq _ n cite_1 (cell_lift f₂ g) (cell_lift f₂ a) (cell_lift f₂ b) (cell_lift f₂ y))
      (pair_then _ _ (L.normalize n (cell_lift f₂ g) (cell_lift f₂ a) (cell_lift f₂ y)) λ _ _ _ _ e₃ l.
      let f₃ = extends_trans f₂ e₃ in
      pair_then _ _ (L.normalize n (cell_lift f₃ g) (cell_lift f₃ b) (cell_lift f₃ y)) λ _ _ _ _ e₄ r.
      let f₄ = extends_trans f₃ e₄ in
      same_quote (cell_lift e₄ l) r
      (row_then (emitting_eq _ n cite_1 (cell_lift f₄ g) r (cell_lift f₄ b) (cell_lift f₄ y)) λ _ _ e₅.
      let f₅ = extends_trans f₄ e₅ in
      emitting_eq _ n cite_2 (cell_lift f₅ g) (cell_lift f₅ a) (cell_lift f₅ b) (cell_lift f₅ y))
      (stopping _))
