-- The rows of endpoint state what they should.
use Rattle.std.specs.Prelude.{ℕ, ◌≡◌, refl, List, [], ◌∷◌}
use Rattle.std.proofs.Math.Path.{subst as along}
use Rattle.std.proofs.Math.Option.{Option, none, some}
use Rattle.walk.specs.Syntax.{Interval, I0, I1, Dim, Neg, Meet, Join}
use Rattle.walk.specs.Judgment.{Judgment, iend}
use Rattle.walk.specs.Rules.{Follows, by_iend_0, by_iend_1, by_iend_neg_0, by_iend_neg_1, by_iend_meet_0, by_iend_meet_1, by_iend_meet_2, by_iend_join_0, by_iend_join_1, by_iend_join_2}
use Rattle.walk.specs.State.{Row, of_interval}
use Rattle.walk.specs.Walk.{End, E0, E1, EndDiscrete, Callees, literal, other, worked_out, right_part, two_parts, endpoint_body}
use Rattle.walk.specs.Demand.{At, Cites, none_cited, ◌also◌}
use Rattle.walk.specs.Sound.Logic.{lift, lifts, bind, giving, branch, cases, emitted, counting, Keeps}
use Rattle.walk.specs.Sound.Says.{Ended, Sound}
use Rattle.walk.specs.Rule as R

-- an end that is not this one is the other
other_end : (e f : End) → (e ≡ f → ⊥) → e ≡ other f
other_end E0 E0 n = absurd (n refl)
other_end E0 E1 n = refl
other_end E1 E0 n = refl
other_end E1 E1 n = absurd (n refl)

neg_rule : (r : Interval) (e : End) → Follows R.iend_neg (iend r (literal e) ∷ []) (iend (Neg r) (literal (other e)))
neg_rule r E0 = by_iend_neg_0
neg_rule r E1 = by_iend_neg_1

-- the three ways by which a meet or a join, r, of the parts a and b works out, by its rule
record Ways (r a b : Interval) (enough : End) (rule : ℕ) : Type 0 where
  left_alone : Follows rule (iend a (literal enough) ∷ []) (iend r (literal enough))
  right_alone : Follows rule (iend b (literal enough) ∷ []) (iend r (literal enough))
  both : Follows rule (iend a (literal (other enough)) ∷ iend b (literal (other enough)) ∷ []) (iend r (literal (other enough)))

-- what is said of the left part where it was not enough
abbrev Left : Interval → End → Option ℕ → List Row → Type 0
Left a enough none rs = Unit {0}
Left a enough (some x) rs = At x (iend a (literal (other enough))) rs

out : {rs : List Row} {refs : List ℕ} {js : List Judgment} (r : Interval) (e : End) (rule : ℕ) → Cites rs refs js → Follows rule js (iend r (literal e)) → Keeps rs (worked_out r e rule refs) (Ended r)
unfolding worked_out
out r e rule cs f = bind (counting (of_interval (literal e))) λ _ _ e₁ _. bind (emitted (lifts e₁ cs) f) λ row _ _ h. giving (some (e, row)) λ _ e. lift e h

module _ (c : Callees) (S : Sound c) where
  right_part_sound : {rs : List Row} (r a b : Interval) (enough : End) (rule : ℕ) → Ways r a b enough rule → (left : Option ℕ) → Left a enough left rs → Keeps rs (right_part c r b enough rule left) (Ended r)
  unfolding right_part
  right_part_sound {rs} r a b enough rule w left hl =
      bind (S.endpoint b) λ o rs₁ e₁ h₁.
      cases o
      (λ of q.
      let h : At of.1 (iend b (literal of.0)) rs₁ = along (λ o. Ended b o rs₁) q h₁ in
      branch (EndDiscrete of.0 enough)
      (λ p. out r enough rule (rw p at h also none_cited) w.right_alone)
      (λ n. cases left
      (λ x q'. let hx : At x (iend a (literal (other enough))) rs = along (λ o. Left a enough o rs) q' hl in
      out r (other enough) rule (lift e₁ hx also rw (other_end of.0 enough n) at h also none_cited) w.both)
      (λ _. giving none λ _ _. tt)))
      (λ _. giving none λ _ _. tt)

  two_parts_sound : {rs : List Row} (r a b : Interval) (enough : End) (rule : ℕ) → Ways r a b enough rule → Keeps rs (two_parts c r a b enough rule) (Ended r)
  unfolding two_parts
  two_parts_sound r a b enough rule w =
      bind (S.endpoint a) λ o rs₁ _ h₁.
      cases o
      (λ of q.
      let h : At of.1 (iend a (literal of.0)) rs₁ = along (λ o. Ended a o rs₁) q h₁ in
      branch (EndDiscrete of.0 enough)
      (λ p. out r enough rule (rw p at h also none_cited) w.left_alone)
      (λ n. right_part_sound r a b enough rule w (some of.1) (rw (other_end of.0 enough n) at h)))
      (λ _. right_part_sound r a b enough rule w none tt)

  pub endpoint_sound : {rs : List Row} (r : Interval) → Keeps rs (endpoint_body c r) (Ended r)
  unfolding endpoint_body
  endpoint_sound I0 = out I0 E0 R.iend_0 none_cited by_iend_0
  endpoint_sound I1 = out I1 E1 R.iend_1 none_cited by_iend_1
  endpoint_sound (Dim n) = giving none λ _ _. tt
  endpoint_sound (Neg a) =
      bind (S.endpoint a) λ o rs₁ _ h₁.
      cases o
      (λ of q. let h : At of.1 (iend a (literal of.0)) rs₁ = along (λ o. Ended a o rs₁) q h₁ in out (Neg a) (other of.0) R.iend_neg (h also none_cited) (neg_rule a of.0))
      (λ _. giving none λ _ _. tt)
  endpoint_sound (Meet a b) = two_parts_sound (Meet a b) a b _ _ (record { left_alone = by_iend_meet_0; right_alone = by_iend_meet_1; both = by_iend_meet_2 })
  endpoint_sound (Join a b) = two_parts_sound (Join a b) a b _ _ (record { left_alone = by_iend_join_0; right_alone = by_iend_join_1; both = by_iend_join_2 })
