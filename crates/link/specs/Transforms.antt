-- Transforms of terms over words match the walk's.
use Rattle.std.specs.Prelude.{ℕ, suc, ◌-◌, ◌<◌, ◌≡◌, List, Bool}
use Rattle.std.proofs.Math.Path.{refl}
use Rattle.std.proofs.Math.Bool.{true, false}
use Rattle.std.proofs.Math.Decide.{ℕ_discrete, dec_lt}
use Rattle.std.proofs.Common.{arith, lit<}
use Rattle.producer.specs.declared.rows.Refs.{Refs}
use Rattle.producer.specs.declared.transforms.Op.{Op}
use Rattle.producer.specs.declared.transforms.Op.TheVariants.{Subst}
use Rattle.walk.specs.Rule as R
use Rattle.producer.specs.Machine.{W, when◌then◌else◌, make_var, refs_1}
use Rattle.producer.specs.Machine as C
use Rattle.producer.specs.Callees.{Callees}
use Rattle.producer.specs.Transforms as P
use Rattle.walk.specs.Syntax.{Interval, Term, Var, Pi, Sigma, Fst, Snd, quote}
use Rattle.walk.specs.State.{Thing, term, interval, of_term, M, count_all}
use Rattle.walk.specs.State as S
use Rattle.walk.specs.Walk.Reference as D
use Rattle.walk.specs.Walk.Transforms as B
use Rattle.link.specs.Lists.{extends_trans}
use Rattle.link.specs.Things.{a_quote, Cell, Low, cell_lift}
use Rattle.link.specs.Tables.{j_shift, j_subst, j_dshift, j_dsubst}
use Rattle.link.specs.Holds.{Before, less, equal}
use Rattle.link.specs.Match.{Matches, bind, giving, branch, lowest_of_cell, the_term, passing, Same, Returns, Cites, cite_0, cite_1, cite_2, cite_3, no_row, one_row, cite_join, cite_and, cite_few, emitting}
use Rattle.link.specs.Open.{opening_term}
use Rattle.link.specs.Linked.{Linked, i_shift, i_subst, Ops, o_shift, o_subst, o_dshift, o_dsubst, ops_lift, Moves, Carries, row_then, pair_then, cited_then, bumping, less_one, making_var, making_pi, making_lam, making_app, making_path, making_plam, making_papp, making_sigma, making_pair, making_fst, making_snd}

-- the end of a transform
module _ {o : Before} {xs : List Thing} {l : Refs} {refs : List ℕ} where
  temitting : {a : Op} {b : D.Op} {p q : ℕ} (t out : Term) (rule : ℕ) → Cites l refs → Ops xs a b → Low p (a_quote (quote t)) xs → Low q (a_quote (quote out)) xs → Matches o xs (P.temit a rule l p q) (S.emit rule refs (B.transformed t b out)) Same
  unfolding P.temit
  temitting t out rule c o_shift p q = emitting (j_shift p q) rule c
  temitting t out rule c (o_subst h) p q = lowest_of_cell tt h λ _ s. emitting (j_subst p s q) rule c
  temitting t out rule c o_dshift p q = emitting (j_dshift p q) rule c
  temitting t out rule c (o_dsubst h) p q = lowest_of_cell tt h λ _ s. emitting (j_dsubst p s q) rule c

  -- with a result that has a cell, or one that is made
  finished : {a : Op} {b : D.Op} {i n : ℕ} {t : Term} (out : Term) (rule : ℕ) → Cites l refs → Cell i (term t) xs → Ops xs a b → Cell n (term out) xs → Matches o xs (P.finished i a n rule l) (B.finish t b out rule refs) (Returns term)
  unfolding P.finished B.finish
  finished {n = n} {t = t} out rule c h op k = passing (the_term k) (lowest_of_cell tt h λ _ p. lowest_of_cell tt k λ _ q. row_then (temitting t out rule c op p q) λ x _ e. giving (n, x) (out, x) λ _ f. record { left = cell_lift (extends_trans e f) k; right = refl })

finish : {o : Before} {xs : List Thing} {l : Refs} {refs : List ℕ} {a : Op} {b : D.Op} {i : ℕ} {t : Term} {make : W ℕ} (out : Term) (rule : ℕ) → Cites l refs → Cell i (term t) xs → Ops xs a b → Matches o xs make (count_all (of_term out)) (λ n _. Cell n (term out)) → Matches o xs (P.finish i a make rule l) (B.finish t b out rule refs) (Returns term)
unfolding P.finish P.finished B.finish
finish {t = t} out rule c h op m = bind m λ n _ _ e k. lowest_of_cell tt (cell_lift e h) λ _ p. lowest_of_cell tt k λ _ q. row_then (temitting t out rule c (ops_lift e op) p q) λ x _ f. giving (n, x) (out, x) λ _ g. record { left = cell_lift (extends_trans f g) k; right = refl }

-- by the rule of each operation
op_rule : {xs : List Thing} {p : Op} {q : D.Op} (a b c d : ℕ) → Ops xs p q → P.by_op p a b c d ≡ B.by_op q a b c d
unfolding P.by_op
op_rule a b c d o_shift = refl
op_rule a b c d (o_subst h) = refl
op_rule a b c d o_dshift = refl
op_rule a b c d (o_dsubst h) = refl

module _ {o : Before} {xs : List Thing} {l : Refs} {refs : List ℕ} {p : Op} {q : D.Op} (out : Term) (a b c d : ℕ) where
  finished_by : {i n : ℕ} {t : Term} → Cites l refs → Cell i (term t) xs → Ops xs p q → Cell n (term out) xs → Matches o xs (P.finished i p n (P.by_op p a b c d) l) (B.finish t q out (B.by_op q a b c d) refs) (Returns term)
  finished_by z h op k = rw (op_rule a b c d op) (finished out _ z h op k)

  finish_by : {i : ℕ} {t : Term} {make : W ℕ} → Cites l refs → Cell i (term t) xs → Ops xs p q → Matches o xs make (count_all (of_term out)) (λ n _. Cell n (term out)) → Matches o xs (P.finish i p make (P.by_op p a b c d) l) (B.finish t q out (B.by_op q a b c d) refs) (Returns term)
  finish_by z h op m = rw (op_rule a b c d op) (finish out _ z h op m)

module _ {o : Before} {rd : M (Unit {0})} (c : Callees) (d : D.Callees) (L : Linked o rd c d) where
  pub under_matches : {xs : List Thing} {a : Op} {b : D.Op} → Ops xs a b → (dimension : Bool) → Matches o xs (P.under_body c a dimension) (B.under_body d b dimension) (Carries Moves)
  unfolding P.under_body P.under_subst B.under_body when◌then◌else◌
  under_matches o_shift true = giving _ _ λ _ _. record { left = o_shift; right = no_row }
  under_matches (o_shift {k = k}) false = bumping _ k (L.more k) λ q. rw q (giving _ _ λ _ _. record { left = o_shift; right = no_row })
  under_matches (o_subst h) true = pair_then _ _ (L.transform h o_dshift) λ _ _ _ _ e k. giving _ _ λ _ f. record { left = o_subst (cell_lift f k); right = one_row }
  under_matches (o_subst {k = n} h) false = pair_then _ _ (L.transform h o_shift) λ _ _ _ _ _ k. bumping _ n (L.more n) λ q. rw q (giving _ _ λ _ f. record { left = o_subst (cell_lift f k); right = one_row })
  under_matches (o_dshift {k = k}) true = bumping _ k (L.more k) λ q. rw q (giving _ _ λ _ _. record { left = o_dshift; right = no_row })
  under_matches o_dshift false = giving _ _ λ _ _. record { left = o_dshift; right = no_row }
  under_matches (o_dsubst {k = n} h) true = pair_then _ _ (L.itransform h i_shift) λ _ _ _ _ _ k. bumping _ n (L.more n) λ q. rw q (giving _ _ λ _ f. record { left = o_dsubst (cell_lift f k); right = one_row })
  under_matches (o_dsubst h) false = giving _ _ λ _ f. record { left = o_dsubst (cell_lift f h); right = no_row }

  tvar_above_matches : {xs : List Thing} {i k r : ℕ} {t : Term} (n : ℕ) → k < n → Cell i (term (Var n)) xs → Cell r (term t) xs → Matches o xs (C.◌>>=◌ (c.comparison k n true) λ x. P.finish i (Subst k r) (make_var (n - 1)) R.subst_v_gt (refs_1 x)) (B.tvar_above d n k t) (Returns term)
  unfolding B.tvar_above
  tvar_above_matches ℕ.zero l h r = absurd (omega arith)
  tvar_above_matches {k = k} (ℕ.suc n) l h r = rw (less_one n) (row_then (L.comparison k (suc n) true) λ x _ e. finish _ _ cite_1 (cell_lift e h) (o_subst (cell_lift e r)) (making_var n))

  tvar_matches : {xs : List Thing} {i n : ℕ} {a : Op} {b : D.Op} → Cell i (term (Var n)) xs → Ops xs a b → Matches o xs (P.tvar c i n a) (B.tvar d n b) (Returns term)
  unfolding P.tvar P.tvar_shift P.tvar_subst B.tvar
  tvar_matches {n = n} h (o_shift {k = k}) =
      branch _ (dec_lt n k) (less n k)
      (λ _. row_then (L.comparison n k true) λ x _ e. finished _ _ cite_1 (cell_lift e h) o_shift (cell_lift e h))
      (λ _. row_then (L.comparison k n false) λ x _ e. bumping _ n (L.more n) λ q. rw q (finish _ _ cite_1 (cell_lift e h) o_shift (making_var (suc n))))
  tvar_matches {n = n} h (o_subst {k = k} r) =
      branch _ (ℕ_discrete n k) (equal n k)
      (λ _. finished _ _ cite_0 h (o_subst r) r)
      (λ ne. branch _ (dec_lt n k) (less n k)
      (λ _. row_then (L.comparison n k true) λ x _ e. finished _ _ cite_1 (cell_lift e h) (o_subst (cell_lift e r)) (cell_lift e h))
      (λ nl. tvar_above_matches n (omega arith) h r))
  tvar_matches h o_dshift = finished _ _ cite_0 h o_dshift h
  tvar_matches h (o_dsubst r) = finished _ _ cite_0 h (o_dsubst r) h

  tinterval_matches : {xs : List Thing} {i : ℕ} {r : Interval} {a : Op} {b : D.Op} → Cell i (interval r) xs → Ops xs a b → Matches o xs (P.tinterval c i a) (B.tinterval d r b) (Carries λ n q. Cell n (interval q))
  unfolding P.tinterval B.tinterval
  tinterval_matches h o_shift = giving _ _ λ _ e. record { left = cell_lift e h; right = no_row }
  tinterval_matches h (o_subst r) = giving _ _ λ _ e. record { left = cell_lift e h; right = no_row }
  tinterval_matches h o_dshift = pair_then _ _ (L.itransform h i_shift) λ _ _ _ _ _ k. giving _ _ λ _ e. record { left = cell_lift e k; right = one_row }
  tinterval_matches h (o_dsubst r) = pair_then _ _ (L.itransform h (i_subst r)) λ _ _ _ _ _ k. giving _ _ λ _ e. record { left = cell_lift e k; right = one_row }

  -- two parts, the second under a variable, and both shown: for each kind, that its rules and its cells are the walk's
  tbinder_matches : {xs : List Thing} {i a b : ℕ} {a' b' : Term} {p : Op} {q : D.Op} (kind : ℕ) (node : Term → Term → Term) (rule : D.Op → ℕ) → P.rule_of p kind ≡ rule q → ((x y : ℕ) (x' y' : Term) (ys : List Thing) → Cell x (term x') ys → Cell y (term y') ys → Matches o ys (C.intern kind x y 0) (count_all (of_term (node x' y'))) (λ n _. Cell n (term (node x' y')))) → Cell i (term (node a' b')) xs → Cell a (term a') xs → Cell b (term b') xs → Ops xs p q → Matches o xs (P.transform_binder c i p kind a b) (B.tbinder d node rule a' b' q) (Returns term)
  unfolding P.transform_binder B.tbinder
  tbinder_matches kind node rule is making h x y op =
      pair_then _ _ (L.transform x op) λ _ r _ _ e₁ x'.
      cited_then _ _ (L.under (ops_lift e₁ op) false) λ _ _ _ _ _ e₂ inner few.
      let e₁₂ = extends_trans e₁ e₂ in
      pair_then _ _ (L.transform (cell_lift e₁₂ y) inner) λ _ _ _ _ e₃ y'.
      let e = extends_trans e₁₂ e₃ in
      rw is (finish _ _ (cite_and r few (lit< tt) cite_1) (cell_lift e h) (ops_lift e op) (making _ _ _ _ _ (cell_lift (extends_trans e₂ e₃) x') y'))

  -- one part: a projection
  tprojection_matches : {xs : List Thing} {i p : ℕ} {p' : Term} {a : Op} {b : D.Op} (kind : ℕ) (node : Term → Term) (rule : D.Op → ℕ) → P.rule_of a kind ≡ rule b → ((x : ℕ) (x' : Term) (ys : List Thing) → Cell x (term x') ys → Matches o ys (C.intern kind x 0 0) (count_all (of_term (node x'))) (λ n _. Cell n (term (node x')))) → Cell i (term (node p')) xs → Cell p (term p') xs → Ops xs a b → Matches o xs (P.transform_projection c i a kind p) (B.tprojection d node rule p' b) (Returns term)
  unfolding P.transform_projection B.tprojection
  tprojection_matches kind node rule is making h x op =
      pair_then _ _ (L.transform x op) λ _ _ _ _ e x'.
      rw is (finish _ _ cite_1 (cell_lift e h) (ops_lift e op) (making _ _ _ x'))

  pub transform_matches : {xs : List Thing} {i : ℕ} {t : Term} {p : Op} {q : D.Op} → Cell i (term t) xs → Ops xs p q → Matches o xs (P.transform_body c i p) (B.transform_body d t q) (Returns term)
  unfolding P.transform_body P.compound P.rule_of P.transform_lam P.transform_app P.transform_path P.transform_plam P.transform_papp P.transform_pair B.transform_body when◌then◌else◌
  transform_matches {q = q} h op =
      opening_term _ (λ t. B.transform_body d t q) h
      (λ _ _ k. finished_by _ _ _ _ _ cite_0 k.cell op k.cell)
      (λ _ _ k. tvar_matches k.cell op)
      (λ _ k. finished_by _ _ _ _ _ cite_0 k.cell op k.cell)
      (λ _ k. finished_by _ _ _ _ _ cite_0 k.cell op k.cell)
      (λ _ _ _ _ _ k x y. tbinder_matches 5 Pi B.pi_rule (op_rule _ _ _ _ op) (λ _ _ _ _ _ h k. making_pi h k) k.cell x y op)
      (λ _ _ _ _ _ k x y.
      pair_then _ _ (L.transform x op) λ _ _ _ _ e₁ x'.
      cited_then _ _ (L.under (ops_lift e₁ op) false) λ _ _ _ _ _ e₂ inner few.
      let e₁₂ = extends_trans e₁ e₂ in
      pair_then _ _ (L.transform (cell_lift e₁₂ y) inner) λ _ _ _ _ e₃ y'.
      let e = extends_trans e₁₂ e₃ in
      finish_by _ _ _ _ _ (cite_join few (lit< tt) cite_1) (cell_lift e k.cell) (ops_lift e op) (making_lam (cell_lift (extends_trans e₂ e₃) x') y'))
      (λ _ _ _ _ _ k x y.
      pair_then _ _ (L.transform x op) λ _ _ _ _ e₁ x'.
      pair_then _ _ (L.transform (cell_lift e₁ y) (ops_lift e₁ op)) λ _ _ _ _ e₂ y'.
      let e = extends_trans e₁ e₂ in
      finish_by _ _ _ _ _ cite_2 (cell_lift e k.cell) (ops_lift e op) (making_app (cell_lift e₂ x') y'))
      (λ _ _ _ _ _ _ _ k x y z.
      cited_then _ _ (L.under op true) λ _ _ _ _ _ e₁ inner few.
      pair_then _ _ (L.transform (cell_lift e₁ x) inner) λ _ _ _ _ e₂ x'.
      let e₁₂ = extends_trans e₁ e₂ in
      pair_then _ _ (L.transform (cell_lift e₁₂ y) (ops_lift e₁₂ op)) λ _ _ _ _ e₃ y'.
      let e₁₃ = extends_trans e₁₂ e₃ in
      pair_then _ _ (L.transform (cell_lift e₁₃ z) (ops_lift e₁₃ op)) λ _ _ _ _ e₄ z'.
      let e = extends_trans e₁₃ e₄ in
      finish_by _ _ _ _ _ (cite_join few (lit< tt) cite_3) (cell_lift e k.cell) (ops_lift e op) (making_path (cell_lift (extends_trans e₃ e₄) x') (cell_lift e₄ y') z'))
      (λ _ _ _ _ _ k x y.
      cited_then _ _ (L.under op true) λ _ _ _ _ _ e₁ inner few.
      pair_then _ _ (L.transform (cell_lift e₁ x) inner) λ _ _ _ _ e₂ x'.
      let e₁₂ = extends_trans e₁ e₂ in
      pair_then _ _ (L.transform (cell_lift e₁₂ y) (ops_lift e₂ inner)) λ _ _ _ _ e₃ y'.
      let e = extends_trans e₁₂ e₃ in
      finish_by _ _ _ _ _ (cite_join few (lit< tt) cite_1) (cell_lift e k.cell) (ops_lift e op) (making_plam (cell_lift e₃ x') y'))
      (λ _ _ _ _ _ k x y.
      pair_then _ _ (L.transform x op) λ _ r _ _ e₁ x'.
      cited_then _ _ (tinterval_matches (cell_lift e₁ y) (ops_lift e₁ op)) λ _ _ _ _ _ e₂ y' few.
      let e = extends_trans e₁ e₂ in
      finish_by _ _ _ _ _ (cite_few r few) (cell_lift e k.cell) (ops_lift e op) (making_papp (cell_lift e₂ x') y'))
      (λ _ _ _ _ _ k x y. tbinder_matches 11 Sigma B.sigma_rule (op_rule _ _ _ _ op) (λ _ _ _ _ _ h k. making_sigma h k) k.cell x y op)
      (λ _ _ _ _ _ _ _ k x y z.
      pair_then _ _ (L.transform x op) λ _ _ _ _ e₁ x'.
      pair_then _ _ (L.transform (cell_lift e₁ y) (ops_lift e₁ op)) λ _ _ _ _ e₂ y'.
      let e₁₂ = extends_trans e₁ e₂ in
      pair_then _ _ (L.transform (cell_lift e₁₂ z) (ops_lift e₁₂ op)) λ _ _ _ _ e₃ z'.
      let e = extends_trans e₁₂ e₃ in
      finish_by _ _ _ _ _ cite_2 (cell_lift e k.cell) (ops_lift e op) (making_pair (cell_lift (extends_trans e₂ e₃) x') (cell_lift e₃ y') z'))
      (λ _ _ _ k x. tprojection_matches 13 Fst B.fst_rule (op_rule _ _ _ _ op) (λ _ _ _ h. making_fst h) k.cell x op)
      (λ _ _ _ k x. tprojection_matches 14 Snd B.snd_rule (op_rule _ _ _ _ op) (λ _ _ _ h. making_snd h) k.cell x op)
