-- Intervals over words, their shifts and substitutions, match the walk's.
use Rattle.std.specs.Prelude.{ℕ, suc, ◌-◌, ◌<◌, ◌≡◌, List, true, false}
use Rattle.std.proofs.Math.Path.{refl}
use Rattle.std.proofs.Math.Decide.{ℕ_discrete, dec_lt}
use Rattle.std.proofs.Common.{arith}
use Rattle.producer.specs.declared.rows.Refs.{Refs}
use Rattle.producer.specs.declared.intervals.IOp.{IOp}
use Rattle.producer.specs.declared.intervals.IOp.TheVariants.{ISubst}
use Rattle.walk.specs.Rule as R
use Rattle.producer.specs.Machine.{W, when◌then◌else◌, make_dim, refs_1}
use Rattle.producer.specs.Machine as C
use Rattle.producer.specs.Callees.{Callees}
use Rattle.producer.specs.Intervals as P
use Rattle.walk.specs.Syntax.{Interval, Dim}
use Rattle.walk.specs.State.{Thing, interval, of_interval, M, count_all}
use Rattle.walk.specs.State as S
use Rattle.walk.specs.Walk.Reference as D
use Rattle.walk.specs.Walk.Intervals as B
use Rattle.link.specs.Lists.{extends_trans}
use Rattle.link.specs.Things.{an_interval, Cell, Low, cell_lift, low_lift}
use Rattle.link.specs.Tables.{j_interval, j_ishift, j_isubst}
use Rattle.link.specs.Holds.{Before, less, equal}
use Rattle.link.specs.Match.{Matches, bind, giving, branch, lowest_of_cell, the_interval, passing, Same, Returns, Cites, cite_0, cite_1, cite_2, emitting}
use Rattle.link.specs.Open.{opening_interval}
use Rattle.link.specs.Linked.{Linked, IOps, i_shift, i_subst, iops_lift, row_then, pair_then, bumping, less_one, making_dim, making_neg, making_meet, making_join}

-- the end of a transform
module _ {o : Before} {xs : List Thing} {l : Refs} {refs : List ℕ} where
  iemitting : {a : IOp} {b : D.IOp} {p q : ℕ} (r out : Interval) (rule : ℕ) → Cites l refs → IOps xs a b → Low p (an_interval r) xs → Low q (an_interval out) xs → Matches o xs (P.iemit a rule l p q) (S.emit rule refs (B.itransformed r b out)) Same
  unfolding P.iemit
  iemitting r out rule c i_shift p q = emitting (j_ishift p q) rule c
  iemitting r out rule c (i_subst h) p q = lowest_of_cell tt h λ _ s. emitting (j_isubst p s q) rule c

  -- with a result that has a cell, or one that is made
  ifinished : {a : IOp} {b : D.IOp} {i n : ℕ} {r : Interval} (out : Interval) (rule : ℕ) → Cites l refs → Cell i (interval r) xs → IOps xs a b → Cell n (interval out) xs → Matches o xs (P.ifinished i a n rule l) (B.ifinish r b out rule refs) (Returns interval)
  unfolding P.ifinished B.ifinish
  ifinished {n = n} {r = r} out rule c h op k = passing (the_interval k) (lowest_of_cell tt h λ _ p. lowest_of_cell tt k λ _ q. row_then (iemitting r out rule c op p q) λ x _ e. giving (n, x) (out, x) λ _ f. record { left = cell_lift (extends_trans e f) k; right = refl })

ifinish : {o : Before} {xs : List Thing} {l : Refs} {refs : List ℕ} {a : IOp} {b : D.IOp} {i : ℕ} {r : Interval} {make : W ℕ} (out : Interval) (rule : ℕ) → Cites l refs → Cell i (interval r) xs → IOps xs a b → Matches o xs make (count_all (of_interval out)) (λ n _. Cell n (interval out)) → Matches o xs (P.ifinish i a make rule l) (B.ifinish r b out rule refs) (Returns interval)
unfolding P.ifinish P.ifinished B.ifinish
ifinish {r = r} out rule c h op m = bind m λ n _ _ e k. lowest_of_cell tt (cell_lift e h) λ _ p. lowest_of_cell tt k λ _ q. row_then (iemitting r out rule c (iops_lift e op) p q) λ x _ f. giving (n, x) (out, x) λ _ g. record { left = cell_lift (extends_trans f g) k; right = refl }

-- by the rule of each operation
iop_rule : {xs : List Thing} {p : IOp} {q : D.IOp} (a b : ℕ) → IOps xs p q → P.by_iop p a b ≡ B.by_iop q a b
unfolding P.by_iop
iop_rule a b i_shift = refl
iop_rule a b (i_subst h) = refl

module _ {o : Before} {xs : List Thing} {l : Refs} {refs : List ℕ} {p : IOp} {q : D.IOp} (out : Interval) (a b : ℕ) where
  ifinished_by : {i n : ℕ} {r : Interval} → Cites l refs → Cell i (interval r) xs → IOps xs p q → Cell n (interval out) xs → Matches o xs (P.ifinished i p n (P.by_iop p a b) l) (B.ifinish r q out (B.by_iop q a b) refs) (Returns interval)
  ifinished_by c h op k = rw (iop_rule a b op) (ifinished out _ c h op k)

  ifinish_by : {i : ℕ} {r : Interval} {make : W ℕ} → Cites l refs → Cell i (interval r) xs → IOps xs p q → Matches o xs make (count_all (of_interval out)) (λ n _. Cell n (interval out)) → Matches o xs (P.ifinish i p make (P.by_iop p a b) l) (B.ifinish r q out (B.by_iop q a b) refs) (Returns interval)
  ifinish_by c h op m = rw (iop_rule a b op) (ifinish out _ c h op m)

module _ {o : Before} {rd : M (Unit {0})} (c : Callees) (d : D.Callees) (L : Linked o rd c d) where
  pub interval_matches : {xs : List Thing} {i : ℕ} {r : Interval} (n : ℕ) → Cell i (interval r) xs → Matches o xs (P.interval_body c n i) (B.interval_body d n r) Same
  unfolding P.interval_body P.interval_parts B.interval_body when◌then◌else◌
  interval_matches n h =
      opening_interval _ (B.interval_body d n) h
      (λ _ k. emitting (j_interval k.low) _ cite_0)
      (λ _ k. emitting (j_interval k.low) _ cite_0)
      (λ _ a k. row_then (L.comparison a n true) λ _ _ e. emitting (j_interval (low_lift e k.low)) _ cite_1)
      (λ _ _ _ k x. row_then (L.interval n x) λ _ _ e. emitting (j_interval (low_lift e k.low)) _ cite_1)
      (λ _ _ _ _ _ k x y. row_then (L.interval n x) λ _ _ e. row_then (L.interval n (cell_lift e y)) λ _ _ f. emitting (j_interval (low_lift (extends_trans e f) k.low)) _ cite_2)
      (λ _ _ _ _ _ k x y. row_then (L.interval n x) λ _ _ e. row_then (L.interval n (cell_lift e y)) λ _ _ f. emitting (j_interval (low_lift (extends_trans e f) k.low)) _ cite_2)

  idim_above_matches : {xs : List Thing} {i k q : ℕ} {r : Interval} (n : ℕ) → k < n → Cell i (interval (Dim n)) xs → Cell q (interval r) xs → Matches o xs (C.◌>>=◌ (c.comparison k n true) λ x. P.ifinish i (ISubst k q) (make_dim (n - 1)) R.isubst_dim_gt (refs_1 x)) (B.idim_above d n k r) (Returns interval)
  unfolding B.idim_above
  idim_above_matches ℕ.zero l h r = absurd (omega arith)
  idim_above_matches {k = k} (ℕ.suc n) l h r = rw (less_one n) (row_then (L.comparison k (suc n) true) λ x _ e. ifinish _ _ cite_1 (cell_lift e h) (i_subst (cell_lift e r)) (making_dim n))

  idim_matches : {xs : List Thing} {i n : ℕ} {a : IOp} {b : D.IOp} → Cell i (interval (Dim n)) xs → IOps xs a b → Matches o xs (P.idim c i n a) (B.idim d n b) (Returns interval)
  unfolding P.idim P.idim_shift P.idim_subst B.idim
  idim_matches {n = n} h (i_shift {k = k}) =
      branch _ (dec_lt n k) (less n k)
      (λ _. row_then (L.comparison n k true) λ x _ e. ifinished _ _ cite_1 (cell_lift e h) i_shift (cell_lift e h))
      (λ _. row_then (L.comparison k n false) λ x _ e. bumping _ n (L.more n) λ q. rw q (ifinish _ _ cite_1 (cell_lift e h) i_shift (making_dim (suc n))))
  idim_matches {n = n} h (i_subst {k = k} r) =
      branch _ (ℕ_discrete n k) (equal n k)
      (λ _. ifinished _ _ cite_0 h (i_subst r) r)
      (λ ne. branch _ (dec_lt n k) (less n k)
      (λ _. row_then (L.comparison n k true) λ x _ e. ifinished _ _ cite_1 (cell_lift e h) (i_subst (cell_lift e r)) (cell_lift e h))
      (λ nl. idim_above_matches n (omega arith) h r))

  pub itransform_matches : {xs : List Thing} {i : ℕ} {r : Interval} {p : IOp} {q : D.IOp} → Cell i (interval r) xs → IOps xs p q → Matches o xs (P.itransform_body c i p) (B.itransform_body d r q) (Returns interval)
  unfolding P.itransform_body P.ineg P.ipair B.itransform_body when◌then◌else◌
  itransform_matches {q = q} h op =
      opening_interval _ (λ r. B.itransform_body d r q) h
      (λ _ k. ifinished_by _ _ _ cite_0 k.cell op k.cell)
      (λ _ k. ifinished_by _ _ _ cite_0 k.cell op k.cell)
      (λ _ _ k. idim_matches k.cell op)
      (λ _ _ _ k x. pair_then _ _ (L.itransform x op) λ _ _ _ _ e x'. ifinish_by _ _ _ cite_1 (cell_lift e k.cell) (iops_lift e op) (making_neg x'))
      (λ _ _ _ _ _ k x y.
      pair_then _ _ (L.itransform x op) λ _ _ _ _ e x'.
      pair_then _ _ (L.itransform (cell_lift e y) (iops_lift e op)) λ _ _ _ _ f y'.
      let g = extends_trans e f in ifinish_by _ _ _ cite_2 (cell_lift g k.cell) (iops_lift g op) (making_meet (cell_lift f x') y'))
      (λ _ _ _ _ _ k x y.
      pair_then _ _ (L.itransform x op) λ _ _ _ _ e x'.
      pair_then _ _ (L.itransform (cell_lift e y) (iops_lift e op)) λ _ _ _ _ f y'.
      let g = extends_trans e f in ifinish_by _ _ _ cite_2 (cell_lift g k.cell) (iops_lift g op) (making_join (cell_lift f x') y'))
