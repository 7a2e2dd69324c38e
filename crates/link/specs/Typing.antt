-- Typing over words matches the walk's: infer, universe, check, expose.
use Rattle.std.specs.Prelude.{ℕ, suc, ◌≡◌, List}
use Rattle.std.proofs.Math.Path.{refl}
use Rattle.std.proofs.Common.{sym, subst}
use Rattle.std.proofs.Math.Decide.{ℕ_discrete}
use Rattle.producer.specs.declared.rows.Refs.{Refs}
use Rattle.producer.specs.declared.transforms.Op.TheVariants.{Subst, DSubst}
use Rattle.producer.specs.Machine.{W, Finding, when◌then◌else◌, emit_has, emit_eq, make_universe, make_fst, make_cons, make_i0, make_i1}
use Rattle.producer.specs.Machine as C
use Rattle.producer.specs.Callees.{Callees, for_call}
use Rattle.producer.specs.Typing as P
use Rattle.walk.specs.Syntax.{I0, I1, Term, Universe, Fst, Context, Cons, quote, quotes}
use Rattle.walk.specs.Judgment.{has, eq}
use Rattle.walk.specs.State.{Thing, term, interval, context, of_term, M, count_all}
use Rattle.walk.specs.State as S
use Rattle.walk.specs.Walk.Reference as D
use Rattle.walk.specs.Walk.Numbers.{larger}
use Rattle.walk.specs.Walk.Typing as B
use Rattle.link.specs.Lists.{Extends, extends_trans}
use Rattle.link.specs.Things.{Cell, cell_lift}
use Rattle.link.specs.Tables.{j_has, j_eq}
use Rattle.link.specs.Holds.{Before, equal}
use Rattle.link.specs.Match.{Matches, bind, giving, stopping, opening, branch, lowest_of_cell, the_term, the_context, ◌with◌, having, Same, Cites, cite_1, cite_2, cite_3, cite_4, cite_6, cite_7, cite_10, emitting, Pairs, Returns, recalling, remembering, converting, preceding, following, regrouped, given, calling}
use Rattle.walk.specs.Reader.{Kind, k_pi, k_path, k_sigma}
use Rattle.walk.specs.Bytes.{kind_byte}
use Rattle.link.specs.Open.{opening_term, tested, at_universe, at_pi, at_path, at_sigma, same_quote}
use Rattle.link.specs.Linked.{Linked, o_subst, o_dsubst, Alike, row_then, pair_then, number_then, bumping, larger_is, making_universe, making_nat, making_pi, making_path, making_fst, making_i0, making_i1, making_cons}

-- rows by quotes
module _ {o : Before} {xs : List Thing} {l : Refs} {refs : List ℕ} {g t y : ℕ} {g' : Context} {t' y' : Term} where
  pub emitting_has : (rule n : ℕ) → Cites l refs → Cell g (context g') xs → Cell t (term t') xs → Cell y (term y') xs → Matches o xs (emit_has rule l n g t y) (S.emit rule refs (has n (quotes g') (quote t') (quote y'))) Same
  unfolding emit_has
  emitting_has rule n c hg ht hy = lowest_of_cell tt hg λ _ g. lowest_of_cell tt ht λ _ t. lowest_of_cell tt hy λ _ y. emitting (j_has g t y) rule c

  pub emitting_eq : {b : ℕ} {b' : Term} (rule n : ℕ) → Cites l refs → Cell g (context g') xs → Cell t (term t') xs → Cell b (term b') xs → Cell y (term y') xs → Matches o xs (emit_eq rule l n g t b y) (S.emit rule refs (eq n (quotes g') (quote t') (quote b') (quote y'))) Same
  unfolding emit_eq
  emitting_eq rule n c hg ht hb hy = lowest_of_cell tt hg λ _ g. lowest_of_cell tt ht λ _ t. lowest_of_cell tt hb λ _ b. lowest_of_cell tt hy λ _ y. emitting (j_eq g t b y) rule c

-- two or three cells and a row
pub record Three (p : ℕ × ℕ × ℕ) (r : (Term × Term) × ℕ) (xs : List Thing) : Type 0 where
  pub one : Cell p.0 (term r.0.0) xs
  pub two : Cell p.1 (term r.0.1) xs
  pub row : p.2 ≡ r.1

pub record Four (p : ℕ × ℕ × ℕ × ℕ) (r : (Term × Term × Term) × ℕ) (xs : List Thing) : Type 0 where
  pub one : Cell p.0 (term r.0.0) xs
  pub two : Cell p.1 (term r.0.1) xs
  pub three : Cell p.2 (term r.0.2) xs
  pub row : p.3 ≡ r.1

record Finds (p : Finding) (r : D.Found) (xs : List Thing) : Type 0 where
  type : Cell p.type (term r.type) xs
  refs : Cites p.refs r.refs
  rule : p.rule ≡ r.rule

module _ {A E : Type 0} {o : Before} {xs : List Thing} {R : E → A → List Thing → Type 0} where
  pub three_then : {m : W (ℕ × ℕ × ℕ)} {d : M ((Term × Term) × ℕ)} (f : ℕ × ℕ × ℕ → W E) (g : (Term × Term) × ℕ → M A) → Matches o xs m d Three → ((a b x : ℕ) (a' b' : Term) (ys : List Thing) → Extends xs ys → Cell a (term a') ys → Cell b (term b') ys → Matches o ys (f (a, b, x)) (g ((a', b'), x)) R) → Matches o xs (C.◌>>=◌ m f) (S.◌>>=◌ d g) R
  three_then f g h k = bind h λ p r ys e q. subst (λ (x : ℕ). Matches o ys (f (p.0, p.1, x)) (g r) R) (sym q.row) (k p.0 p.1 r.1 r.0.0 r.0.1 ys e q.one q.two)

  pub four_then : {m : W (ℕ × ℕ × ℕ × ℕ)} {d : M ((Term × Term × Term) × ℕ)} (f : ℕ × ℕ × ℕ × ℕ → W E) (g : (Term × Term × Term) × ℕ → M A) → Matches o xs m d Four → ((a b c x : ℕ) (a' b' c' : Term) (ys : List Thing) → Extends xs ys → Cell a (term a') ys → Cell b (term b') ys → Cell c (term c') ys → Matches o ys (f (a, b, c, x)) (g ((a', b', c'), x)) R) → Matches o xs (C.◌>>=◌ m f) (S.◌>>=◌ d g) R
  four_then f g h k = bind h λ p r ys e q. subst (λ (x : ℕ). Matches o ys (f (p.0, p.1, p.2, x)) (g r) R) (sym q.row) (k p.0 p.1 p.2 r.1 r.0.0 r.0.1 r.0.2 ys e q.one q.two q.three)

module _ {o : Before} {rd : M (Unit {0})} (c : Callees) (d : D.Callees) (L : Linked o rd c d) where
  -- calls with an argument that is made

  pub universe_of_cons : {xs : List Thing} {a g b : ℕ} {a' b' : Term} {g' : Context} (n : ℕ) → Cell a (term a') xs → Cell g (context g') xs → Cell b (term b') xs → Matches o xs (for_call c (make_cons a g) λ h. c.universe n h b) (d.universe n (Cons a' g') b') (Pairs Alike)
  universe_of_cons n a g b = calling c _ (L.universe_absorbs n _ _) L.ready (λ ys e. following _ (making_cons (cell_lift e a) (cell_lift e g)) (the_term (cell_lift e b))) λ h ys e q. L.universe n q (cell_lift e b)

  pub infer_of_cons : {xs : List Thing} {a g b : ℕ} {a' b' : Term} {g' : Context} (n : ℕ) → Cell a (term a') xs → Cell g (context g') xs → Cell b (term b') xs → Matches o xs (for_call c (make_cons a g) λ h. c.infer n h b) (d.infer n (Cons a' g') b') (Returns term)
  infer_of_cons n a g b = calling c _ (L.infer_absorbs n _ _) L.ready (λ ys e. following _ (making_cons (cell_lift e a) (cell_lift e g)) (the_term (cell_lift e b))) λ h ys e q. L.infer n q (cell_lift e b)

  normalize_at : {xs : List Thing} {g t : ℕ} {t' : Term} {g' : Context} (n l : ℕ) → Cell g (context g') xs → Cell t (term t') xs → Matches o xs (for_call c (make_universe l) λ u. c.normalize n g t u) (d.normalize n g' t' (Universe l)) (Returns term)
  normalize_at n l g t = calling c _ (L.normalize_absorbs n _ _ _) L.ready (λ ys e. preceding _ (the_context (cell_lift e g) with the_term (cell_lift e t)) (making_universe l)) λ u ys e q. L.normalize n (cell_lift e g) (cell_lift e t) q

  check_at : {xs : List Thing} {g t : ℕ} {t' : Term} {g' : Context} (n l : ℕ) → Cell g (context g') xs → Cell t (term t') xs → Matches o xs (for_call c (make_universe l) λ u. c.check n g t u) (d.check n g' t' (Universe l)) Same
  check_at n l g t = calling c _ (L.check_absorbs n _ _ _) L.ready (λ ys e. preceding _ (the_context (cell_lift e g) with the_term (cell_lift e t)) (making_universe l)) λ u ys e q. L.check n (cell_lift e g) (cell_lift e t) q

  equal_at : {xs : List Thing} {g a b : ℕ} {a' b' : Term} {g' : Context} (n l : ℕ) → Cell g (context g') xs → Cell a (term a') xs → Cell b (term b') xs → Matches o xs (for_call c (make_universe l) λ u. c.equal n g a b u) (d.equal n g' a' b' (Universe l)) Same
  equal_at n l g a b = calling c _ (L.equal_absorbs n _ _ _ _) L.ready (λ ys e. preceding _ (the_context (cell_lift e g) with the_term (cell_lift e a) with the_term (cell_lift e b)) (making_universe l)) λ u ys e q. L.equal n (cell_lift e g) (cell_lift e a) (cell_lift e b) q

  transform_at_0 : {xs : List Thing} {t : ℕ} {t' : Term} → Cell t (term t') xs → Matches o xs (for_call c make_i0 λ r. c.transform t (DSubst 0 r)) (d.transform t' (D.DSubst 0 I0)) (Returns term)
  transform_at_0 t = calling c _ (L.transform_absorbs _ _) L.ready (λ ys e. preceding _ (the_term (cell_lift e t)) making_i0) λ r ys e q. L.transform (cell_lift e t) (o_dsubst q)

  transform_at_1 : {xs : List Thing} {t : ℕ} {t' : Term} → Cell t (term t') xs → Matches o xs (for_call c make_i1 λ r. c.transform t (DSubst 0 r)) (d.transform t' (D.DSubst 0 I1)) (Returns term)
  transform_at_1 t = calling c _ (L.transform_absorbs _ _) L.ready (λ ys e. preceding _ (the_term (cell_lift e t)) making_i1) λ r ys e q. L.transform (cell_lift e t) (o_dsubst q)

  pub transform_at_fst : {xs : List Thing} {t p : ℕ} {t' p' : Term} → Cell t (term t') xs → Cell p (term p') xs → Matches o xs (for_call c (make_fst p) λ f. c.transform t (Subst 0 f)) (d.transform t' (D.Subst 0 (Fst p'))) (Returns term)
  transform_at_fst t p = calling c _ (L.transform_absorbs _ _) L.ready (λ ys e. preceding _ (the_term (cell_lift e t)) (making_fst (cell_lift e p))) λ f ys e q. L.transform (cell_lift e t) (o_subst q)

  -- both ends of a term, and what follows
  ends_then : {A E : Type 0} {xs : List Thing} {R : E → A → List Thing → Type 0} {t : ℕ} {t' : Term} (f : ℕ × ℕ × ℕ × ℕ → W E) (g : Term × ℕ → Term × ℕ → M A) → Cell t (term t') xs → ((t0 t1 x y : ℕ) (t0' t1' : Term) (ys : List Thing) → Extends xs ys → Cell t0 (term t0') ys → Cell t1 (term t1') ys → Matches o ys (f (t0, t1, x, y)) (g (t0', x) (t1', y)) R) → Matches o xs (C.◌>>=◌ (P.ends c t) f) (S.◌>>=◌ (d.transform t' (D.DSubst 0 I0)) λ p. S.◌>>=◌ (d.transform t' (D.DSubst 0 I1)) λ q. g p q) R
  unfolding P.ends
  ends_then f g h k =
      regrouped _ _ f (pair_then _ _ (transform_at_0 h) λ _ _ _ _ e₁ h0.
      regrouped _ _ f (pair_then _ _ (transform_at_1 (cell_lift e₁ h)) λ _ _ _ _ e₂ h1.
      given _ f (k _ _ _ _ _ _ _ (extends_trans e₁ e₂) (cell_lift e₂ h0) h1)))

  -- typing

  pub expose_matches : {xs : List Thing} {g t y : ℕ} {g' : Context} {t' y' : Term} (n : ℕ) → Cell g (context g') xs → Cell t (term t') xs → Cell y (term y') xs → (row : ℕ) → Matches o xs (P.expose_body c n g t y row) (B.expose_body d n g' t' y' row) (Returns term)
  unfolding P.expose_body P.retyped B.expose_body
  expose_matches n g t y row =
      number_then _ _ (L.universe n g y) λ l _ _ e₁.
      pair_then _ _ (normalize_at n l (cell_lift e₁ g) (cell_lift e₁ y)) λ _ x _ _ e₂ normal.
      let e = extends_trans e₁ e₂ in
      same_quote normal (cell_lift e y)
      (giving _ _ λ _ f. record { left = cell_lift f normal; right = refl })
      (row_then (check_at n l (cell_lift e g) normal) λ z _ e₃.
      let f = extends_trans e e₃ in
      row_then (emitting_has _ n cite_3 (cell_lift f g) (cell_lift f t) (cell_lift e₃ normal)) λ _ _ e₄.
      giving _ _ λ _ f. record { left = cell_lift (extends_trans e₃ (extends_trans e₄ f)) normal; right = refl })

  pub universe_matches : {xs : List Thing} {g t : ℕ} {g' : Context} {t' : Term} (n : ℕ) → Cell g (context g') xs → Cell t (term t') xs → Matches o xs (P.universe_body c n g t) (B.universe_body d n g' t') (Pairs Alike)
  unfolding P.universe_body P.exposed B.universe_body
  universe_matches n g t =
      pair_then _ _ (L.infer n g t) λ _ row _ _ e₁ ty.
      at_universe _ _ ty
      (λ l _. giving _ _ λ _ _. record { left = refl; right = refl })
      (converting (pair_then _ _ (L.expose n (cell_lift e₁ g) (cell_lift e₁ t) ty row) λ _ _ _ _ _ normal.
      at_universe _ _ normal (λ l _. giving _ _ λ _ _. record { left = refl; right = refl }) (stopping _)))

  pub check_matches : {xs : List Thing} {g t y : ℕ} {g' : Context} {t' y' : Term} (n : ℕ) → Cell g (context g') xs → Cell t (term t') xs → Cell y (term y') xs → Matches o xs (P.check_body c n g t y) (B.check_body d n g' t' y') Same
  unfolding P.check_body P.converted B.check_body
  check_matches n g t y =
      pair_then _ _ (L.infer n g t) λ _ row _ _ e₁ actual.
      same_quote actual (cell_lift e₁ y)
      (giving _ _ λ _ _. refl)
      (converting (number_then _ _ (L.universe n (cell_lift e₁ g) actual) λ i _ _ e₂.
      let f₂ = extends_trans e₁ e₂ in
      number_then _ _ (L.universe n (cell_lift f₂ g) (cell_lift f₂ y)) λ j formed _ e₃.
      let f₃ = extends_trans f₂ e₃ in
      branch _ (ℕ_discrete i j) (equal i j)
      (λ _. row_then (equal_at n i (cell_lift f₃ g) (cell_lift (extends_trans e₂ e₃) actual) (cell_lift f₃ y)) λ x _ e₄.
      let f₄ = extends_trans f₃ e₄ in
      emitting_has _ n cite_3 (cell_lift f₄ g) (cell_lift f₄ t) (cell_lift f₄ y))
      (λ _. stopping _)))

  pub headed_matches : {xs : List Thing} {g t : ℕ} {g' : Context} {t' : Term} (n : ℕ) → Cell g (context g') xs → Cell t (term t') xs → (k : Kind) → Matches o xs (P.headed c (kind_byte k) n g t) (B.headed k d n g' t') (Returns term)
  unfolding P.headed B.headed
  headed_matches n g t k =
      pair_then _ _ (L.infer n g t) λ _ row _ _ e₁ ty.
      opening tt ty λ _ s _.
      branch _ _ (tested k s)
      (λ _. giving _ _ λ _ f. record { left = cell_lift f ty; right = refl })
      (λ _. converting (L.expose n (cell_lift e₁ g) (cell_lift e₁ t) ty row))

  as_pi_matches : {xs : List Thing} {g t : ℕ} {g' : Context} {t' : Term} (n : ℕ) → Cell g (context g') xs → Cell t (term t') xs → Matches o xs (P.as_pi c n g t) (B.as_pi d n g' t') Three
  unfolding P.as_pi B.as_parts
  as_pi_matches n g t = pair_then _ _ (headed_matches n g t k_pi) λ _ _ _ _ _ ty. at_pi _ _ ty (λ _ _ _ _ _ a b. giving _ _ λ _ f. record { one = cell_lift f a; two = cell_lift f b; row = refl }) (stopping _)

  pub as_path_matches : {xs : List Thing} {g t : ℕ} {g' : Context} {t' : Term} (n : ℕ) → Cell g (context g') xs → Cell t (term t') xs → Matches o xs (P.as_path c n g t) (B.as_path d n g' t') Four
  unfolding P.as_path B.as_parts
  as_path_matches n g t = pair_then _ _ (headed_matches n g t k_path) λ _ _ _ _ _ ty. at_path _ _ ty (λ _ _ _ _ _ _ _ a b e. giving _ _ λ _ f. record { one = cell_lift f a; two = cell_lift f b; three = cell_lift f e; row = refl }) (stopping _)

  pub as_sigma_matches : {xs : List Thing} {g t : ℕ} {g' : Context} {t' : Term} (n : ℕ) → Cell g (context g') xs → Cell t (term t') xs → Matches o xs (P.as_sigma c n g t) (B.as_sigma d n g' t') Three
  unfolding P.as_sigma B.as_parts
  as_sigma_matches n g t = pair_then _ _ (headed_matches n g t k_sigma) λ _ _ _ _ _ ty. at_sigma _ _ ty (λ _ _ _ _ _ a b. giving _ _ λ _ f. record { one = cell_lift f a; two = cell_lift f b; row = refl }) (stopping _)

  founding : {xs : List Thing} {make : W ℕ} {l : Refs} {refs : List ℕ} (ty : Term) (rule : ℕ) → Cites l refs → Matches o xs make (count_all (of_term ty)) (λ n _. Cell n (term ty)) → Matches o xs (P.found make l rule) (B.found ty refs rule) Finds
  unfolding P.found B.found
  founding ty rule c m = bind m λ _ _ _ _ h. giving _ _ λ _ e. record { type = cell_lift e h; refs = c; rule = refl }

  find_binder_matches : {xs : List Thing} {g a b : ℕ} {g' : Context} {a' b' : Term} (n rule : ℕ) → Cell g (context g') xs → Cell a (term a') xs → Cell b (term b') xs → Matches o xs (P.find_binder c n g a b rule) (B.find_binder d n g' a' b' rule) Finds
  unfolding P.find_binder B.find_binder
  find_binder_matches n rule g a b =
      number_then _ _ (L.universe n g a) λ i _ _ e₁.
      number_then _ _ (universe_of_cons n (cell_lift e₁ a) (cell_lift e₁ g) (cell_lift e₁ b)) λ j _ _ _.
      row_then (L.max i j) λ _ _ _.
      rw (← larger_is i j) (founding _ _ cite_3 (making_universe (larger i j)))

  pair_typed_matches : {xs : List Thing} {g y ta tb a b : ℕ} {g' : Context} {y' ta' tb' a' b' : Term} (n : ℕ) → Cell g (context g') xs → Cell y (term y') xs → Cell ta (term ta') xs → Cell tb (term tb') xs → Cell a (term a') xs → Cell b (term b') xs → Matches o xs (P.pair_typed c n g y ta tb a b) (B.find_pair d n g' y' ta' tb' a' b') Finds
  unfolding P.pair_typed B.find_pair
  pair_typed_matches n g y ta tb a b =
      number_then _ _ (L.universe n g ta) λ _ _ _ e₁.
      number_then _ _ (universe_of_cons n (cell_lift e₁ ta) (cell_lift e₁ g) (cell_lift e₁ tb)) λ j _ _ e₂.
      let f₂ = extends_trans e₁ e₂ in
      row_then (L.check n (cell_lift f₂ g) (cell_lift f₂ a) (cell_lift f₂ ta)) λ _ _ e₃.
      let f₃ = extends_trans f₂ e₃ in
      pair_then _ _ (L.transform (cell_lift f₃ tb) (o_subst (cell_lift f₃ a))) λ _ _ _ _ e₄ out.
      let f₄ = extends_trans f₃ e₄ in
      row_then (check_at n j (cell_lift f₄ g) out) λ _ _ e₅.
      let f₅ = extends_trans f₄ e₅ in
      row_then (L.check n (cell_lift f₅ g) (cell_lift f₅ b) (cell_lift e₅ out)) λ _ _ e₆.
      let y₆ = cell_lift (extends_trans f₅ e₆) y in
      founding _ _ cite_6 (having (the_term y₆) y₆)

  find_matches : {xs : List Thing} {g t : ℕ} {g' : Context} {t' : Term} (n : ℕ) → Cell g (context g') xs → Cell t (term t') xs → Matches o xs (P.find c n g t) (B.find d n g' t') Finds
  unfolding P.find P.find_compound P.find_atom P.find_var P.find_lam P.find_app P.find_path P.path_ends P.find_plam P.plam_ends P.find_papp P.find_pair P.find_fst P.find_snd B.find when◌then◌else◌
  find_matches {g' = g'} n g t =
      opening_term _ (B.find d n g') t
      (λ _ l _. row_then (L.ctx n g) λ _ _ _. bumping _ l (L.more l) λ q. rw q (founding _ _ cite_1 (making_universe (suc l))))
      (λ _ i _. row_then (L.ctx n g) λ _ _ e₁.
      pair_then _ _ (L.lookup (cell_lift e₁ g) i) λ _ _ _ _ _ ty.
      founding _ _ cite_2 (having (the_term ty) ty))
      (λ _ _. row_then (L.ctx n g) λ _ _ _. founding _ _ cite_1 (making_universe 0))
      (λ _ _. row_then (L.ctx n g) λ _ _ _. founding _ _ cite_1 making_nat)
      (λ _ _ _ _ _ _ a b. find_binder_matches n _ g a b)
      (λ _ _ _ _ _ _ a b.
      number_then _ _ (L.universe n g a) λ _ _ _ e₁.
      pair_then _ _ (infer_of_cons n (cell_lift e₁ a) (cell_lift e₁ g) (cell_lift e₁ b)) λ _ _ _ _ e₂ y.
      let f₂ = extends_trans e₁ e₂ in
      number_then _ _ (universe_of_cons n (cell_lift f₂ a) (cell_lift f₂ g) y) λ _ _ _ e₃.
      founding _ _ cite_3 (making_pi (cell_lift (extends_trans f₂ e₃) a) (cell_lift e₃ y)))
      (λ _ _ _ _ _ _ f a.
      three_then _ _ (as_pi_matches n g f) λ _ _ _ _ _ _ f₂ domain codomain.
      row_then (L.check n (cell_lift f₂ g) (cell_lift f₂ a) domain) λ _ _ e₃.
      pair_then _ _ (L.transform (cell_lift e₃ codomain) (o_subst (cell_lift (extends_trans f₂ e₃) a))) λ _ _ _ _ _ out.
      founding _ _ cite_3 (having (the_term out) out))
      (λ _ _ _ _ _ _ _ _ a b e.
      row_then (L.ctx n g) λ _ _ e₀.
      pair_then _ _ (L.dshiftctx (cell_lift e₀ g)) λ _ _ _ _ e₁ inner.
      bumping _ n (L.more n) λ q. rw q (
      let f₁ = extends_trans e₀ e₁ in
      number_then _ _ (L.universe (suc n) inner (cell_lift f₁ a)) λ l _ _ e₂.
      let f₂ = extends_trans f₁ e₂ in
      ends_then _ _ (cell_lift f₂ a) λ _ _ _ _ _ _ _ e₃ a0 a1.
      let f₃ = extends_trans f₂ e₃ in
      row_then (L.check n (cell_lift f₃ g) (cell_lift f₃ b) a0) λ _ _ e₄.
      let f₄ = extends_trans f₃ e₄ in
      row_then (L.check n (cell_lift f₄ g) (cell_lift f₄ e) (cell_lift e₄ a1)) λ _ _ _.
      founding _ _ cite_7 (making_universe l)))
      (λ _ _ _ _ _ _ a b.
      row_then (L.ctx n g) λ _ _ e₀.
      pair_then _ _ (L.dshiftctx (cell_lift e₀ g)) λ _ _ _ _ e₁ inner.
      bumping _ n (L.more n) λ q. rw q (
      let f₁ = extends_trans e₀ e₁ in
      number_then _ _ (L.universe (suc n) inner (cell_lift f₁ a)) λ _ _ _ e₂.
      let f₂ = extends_trans f₁ e₂ in
      row_then (L.check (suc n) (cell_lift e₂ inner) (cell_lift f₂ b) (cell_lift f₂ a)) λ _ _ e₃.
      let f₃ = extends_trans f₂ e₃ in
      ends_then _ _ (cell_lift f₃ a) λ _ _ _ _ _ _ _ e₄ a0 a1.
      let f₄ = extends_trans f₃ e₄ in
      ends_then _ _ (cell_lift f₄ b) λ _ _ _ _ _ _ _ e₅ t0 t1.
      let f₅ = extends_trans f₄ e₅ in
      row_then (L.check n (cell_lift f₅ g) t0 (cell_lift e₅ a0)) λ _ _ e₆.
      let f₆ = extends_trans f₅ e₆ in
      row_then (L.check n (cell_lift f₆ g) (cell_lift e₆ t1) (cell_lift (extends_trans e₅ e₆) a1)) λ _ _ e₇.
      let e = extends_trans e₆ e₇ in
      founding _ _ cite_10 (making_path (cell_lift (extends_trans f₆ e₇) a) (cell_lift e t0) (cell_lift e t1))))
      (λ _ _ _ _ _ _ p r.
      four_then _ _ (as_path_matches n g p) λ _ _ _ _ _ _ _ _ f₂ a _ _.
      row_then (L.interval n (cell_lift f₂ r)) λ _ _ e₃.
      let f₃ = extends_trans f₂ e₃ in
      pair_then _ _ (L.transform (cell_lift e₃ a) (o_dsubst (cell_lift f₃ r))) λ _ _ _ _ e₄ out.
      number_then _ _ (L.universe n (cell_lift (extends_trans f₃ e₄) g) out) λ _ _ _ e₅.
      founding _ _ cite_4 (having (the_term (cell_lift e₅ out)) (cell_lift e₅ out)))
      (λ _ _ _ _ _ _ a b. find_binder_matches n _ g a b)
      (λ _ _ _ _ _ _ _ _ y a b. at_sigma _ _ y (λ _ _ _ _ _ ta tb. pair_typed_matches n g y ta tb a b) (stopping _))
      (λ _ _ _ _ p.
      three_then _ _ (as_sigma_matches n g p) λ _ _ _ _ _ _ e₁ ta _.
      number_then _ _ (L.universe n (cell_lift e₁ g) ta) λ _ _ _ e₂.
      founding _ _ cite_2 (having (the_term (cell_lift e₂ ta)) (cell_lift e₂ ta)))
      (λ _ _ _ _ p.
      three_then _ _ (as_sigma_matches n g p) λ _ _ _ _ _ _ e₁ _ tb.
      pair_then _ _ (transform_at_fst tb (cell_lift e₁ p)) λ _ _ _ _ e₂ out.
      number_then _ _ (L.universe n (cell_lift (extends_trans e₁ e₂) g) out) λ _ _ _ e₃.
      founding _ _ cite_3 (having (the_term (cell_lift e₃ out)) (cell_lift e₃ out)))

  pub infer_matches : {xs : List Thing} {g t : ℕ} {g' : Context} {t' : Term} (n : ℕ) → Cell g (context g') xs → Cell t (term t') xs → Matches o xs (P.infer_body c n g t) (B.infer_body d n g' t') (Returns term)
  unfolding P.infer_body B.infer_body P.new_infer B.new_infer
  infer_matches n g t =
      recalling n g t (bind (find_matches n g t) λ p r _ e₁ q.
      rw q.rule (row_then (emitting_has r.rule n q.refs (cell_lift e₁ g) (cell_lift e₁ t) q.type) λ row _ e₂.
      let f₂ = extends_trans e₁ e₂ in
      bind (remembering n (cell_lift f₂ g) (cell_lift f₂ t) row (cell_lift e₂ q.type)) λ _ _ _ e₃ _.
      giving _ _ λ _ f. record { left = cell_lift (extends_trans e₂ (extends_trans e₃ f)) q.type; right = refl }))
