-- The rows of interval and itransform state what they should.
use Rattle.std.specs.Prelude.{ℕ, suc, List, [], ◌∷◌, true, false}
use Rattle.std.proofs.Math.Decide.{ℕ_discrete, dec_lt}
use Rattle.std.proofs.Common.{lit<}
use Rattle.walk.specs.Syntax.{Interval, I0, I1, Dim, Neg, Meet, Join}
use Rattle.walk.specs.Judgment.{Judgment, interval, isubst}
use Rattle.walk.specs.Rules.{Follows, by_interval_0, by_interval_1, by_interval_dim, by_interval_neg, by_interval_meet, by_interval_join, by_ishift_0, by_ishift_1, by_ishift_dim_lt, by_ishift_dim_ge, by_ishift_neg, by_ishift_meet, by_ishift_join, by_isubst_0, by_isubst_1, by_isubst_dim_hit, by_isubst_dim_lt, by_isubst_dim_gt, by_isubst_neg, by_isubst_meet, by_isubst_join}
use Rattle.walk.specs.State.{of_interval, Row}
use Rattle.walk.specs.Walk.{IOp, IShift, ISubst, Callees, itransformed, by_iop, ifinish, idim_above, idim, itransform_body, interval_body}
use Rattle.walk.specs.Demand.{At, Cites, none_cited, ◌also◌}
use Rattle.walk.specs.Sound.Logic.{lift, lifts, bind, refusing, making, giving, branch, emitted, counting, Keeps}
use Rattle.walk.specs.Sound.Says.{Sound}
use Rattle.walk.specs.Rule as R

-- a rule for each operation
i0_rule : (op : IOp) → Follows (by_iop op R.ishift_0 R.isubst_0) [] (itransformed I0 op I0)
i0_rule (IShift k) = by_ishift_0
i0_rule (ISubst k q) = by_isubst_0

i1_rule : (op : IOp) → Follows (by_iop op R.ishift_1 R.isubst_1) [] (itransformed I1 op I1)
i1_rule (IShift k) = by_ishift_1
i1_rule (ISubst k q) = by_isubst_1

neg_rule : (a a' : Interval) (op : IOp) → Follows (by_iop op R.ishift_neg R.isubst_neg) (itransformed a op a' ∷ []) (itransformed (Neg a) op (Neg a'))
neg_rule a a' (IShift k) = by_ishift_neg
neg_rule a a' (ISubst k q) = by_isubst_neg

meet_rule : (a a' b b' : Interval) (op : IOp) → Follows (by_iop op R.ishift_meet R.isubst_meet) (itransformed a op a' ∷ itransformed b op b' ∷ []) (itransformed (Meet a b) op (Meet a' b'))
meet_rule a a' b b' (IShift k) = by_ishift_meet
meet_rule a a' b b' (ISubst k q) = by_isubst_meet

join_rule : (a a' b b' : Interval) (op : IOp) → Follows (by_iop op R.ishift_join R.isubst_join) (itransformed a op a' ∷ itransformed b op b' ∷ []) (itransformed (Join a b) op (Join a' b'))
join_rule a a' b b' (IShift k) = by_ishift_join
join_rule a a' b b' (ISubst k q) = by_isubst_join

-- the end of a transform
ifinished : {rs : List Row} {refs : List ℕ} {js : List Judgment} {rule : ℕ} (r : Interval) (op : IOp) (out : Interval) → Cites rs refs js → Follows rule js (itransformed r op out) → Keeps rs (ifinish r op out rule refs) (λ o. At o.1 (itransformed r op o.0))
unfolding ifinish
ifinished r op out cs f = bind (counting (of_interval out)) λ _ _ e₁ _. bind (emitted (lifts e₁ cs) f) λ row _ _ h. giving (out, row) λ _ e. lift e h

module _ (c : Callees) (S : Sound c) where
  idim_above_sound : {rs : List Row} (n k : ℕ) (q : Interval) → Keeps rs (idim_above c n k q) (λ o. At o.1 (isubst (Dim n) k q o.0))
  unfolding idim_above
  idim_above_sound ℕ.zero k q = refusing (lit< tt)
  idim_above_sound (ℕ.suc n) k q = bind (S.comparison k (suc n) true) λ x _ _ h. ifinished (Dim (suc n)) (ISubst k q) (Dim n) (h also none_cited) by_isubst_dim_gt

  idim_sound : {rs : List Row} (n : ℕ) (op : IOp) → Keeps rs (idim c n op) (λ o. At o.1 (itransformed (Dim n) op o.0))
  unfolding idim
  idim_sound n (IShift k) = branch (dec_lt n k)
      (λ _. bind (S.comparison n k true) λ x _ _ h. ifinished (Dim n) (IShift k) (Dim n) (h also none_cited) by_ishift_dim_lt)
      (λ _. bind (S.comparison k n false) λ x _ _ h. making _ n (S.more n) (ifinished (Dim n) (IShift k) (Dim (suc n)) (h also none_cited) by_ishift_dim_ge))
  idim_sound n (ISubst k q) = branch (ℕ_discrete n k)
      (λ e. ifinished (Dim n) (ISubst k q) q none_cited (rw e by_isubst_dim_hit))
      (λ _. branch (dec_lt n k)
      (λ _. bind (S.comparison n k true) λ x _ _ h. ifinished (Dim n) (ISubst k q) (Dim n) (h also none_cited) by_isubst_dim_lt)
      (λ _. idim_above_sound n k q))

  pub itransform_sound : {rs : List Row} (r : Interval) (op : IOp) → Keeps rs (itransform_body c r op) (λ o. At o.1 (itransformed r op o.0))
  unfolding itransform_body
  itransform_sound I0 op = ifinished I0 op I0 none_cited (i0_rule op)
  itransform_sound I1 op = ifinished I1 op I1 none_cited (i1_rule op)
  itransform_sound (Dim n) op = idim_sound n op
  itransform_sound (Neg a) op = bind (S.itransform a op) λ o _ _ h. ifinished (Neg a) op (Neg o.0) (h also none_cited) (neg_rule a o.0 op)
  itransform_sound (Meet a b) op = bind (S.itransform a op) λ o _ _ h. bind (S.itransform b op) λ o' _ e h'. ifinished (Meet a b) op (Meet o.0 o'.0) (lift e h also h' also none_cited) (meet_rule a o.0 b o'.0 op)
  itransform_sound (Join a b) op = bind (S.itransform a op) λ o _ _ h. bind (S.itransform b op) λ o' _ e h'. ifinished (Join a b) op (Join o.0 o'.0) (lift e h also h' also none_cited) (join_rule a o.0 b o'.0 op)

  pub interval_sound : {rs : List Row} (d : ℕ) (r : Interval) → Keeps rs (interval_body c d r) (λ x. At x (interval d r))
  unfolding interval_body
  interval_sound d I0 = emitted none_cited by_interval_0
  interval_sound d I1 = emitted none_cited by_interval_1
  interval_sound d (Dim n) = bind (S.comparison n d true) λ x _ _ h. emitted (h also none_cited) by_interval_dim
  interval_sound d (Neg a) = bind (S.interval d a) λ x _ _ h. emitted (h also none_cited) by_interval_neg
  interval_sound d (Meet a b) = bind (S.interval d a) λ x _ _ h. bind (S.interval d b) λ y _ e h'. emitted (lift e h also h' also none_cited) by_interval_meet
  interval_sound d (Join a b) = bind (S.interval d a) λ x _ _ h. bind (S.interval d b) λ y _ e h'. emitted (lift e h also h' also none_cited) by_interval_join
