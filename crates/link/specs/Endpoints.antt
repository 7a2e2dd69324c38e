-- Ends that are worked out over words match the walk's.
use Rattle.std.specs.Prelude.{ℕ, ◌≡◌, refl, List, [], ◌∷◌, Some, None}
use Rattle.std.proofs.Math.Option.{Option, none, some}
use Rattle.ast.specs.Cells.{Found}
use Rattle.producer.specs.declared.rows.Refs.{Refs}
use Rattle.producer.specs.Machine.{when◌then◌else◌}
use Rattle.producer.specs.Machine as C
use Rattle.producer.specs.Callees.{Callees}
use Rattle.producer.specs.Endpoints as P
use Rattle.walk.specs.Syntax.{Interval}
use Rattle.walk.specs.State.{Thing, interval, of_interval, M, pure, count_all, from◌get◌or◌}
use Rattle.walk.specs.Walk.Reference as D
use Rattle.walk.specs.Walk.Reference.{End, E0, E1, EndDiscrete}
use Rattle.walk.specs.Walk.Endpoints as B
use Rattle.link.specs.Lists.{Extends, extends_trans, yes?}
use Rattle.link.specs.Things.{an_interval, Cell, Low, cell_lift, low_lift}
use Rattle.link.specs.Tables.{j_iend}
use Rattle.link.specs.Holds.{Before}
use Rattle.link.specs.Match.{Matches, bind, giving, branch, lowest_of_cell, Cites, cite_0, cite_1, cite_2, emitting}
use Rattle.link.specs.Open.{opening_interval}
use Rattle.link.specs.Linked.{Linked, the_end, Ends, no_end, an_end, ended_then, row_then, making_i0, making_i1}

making_end : {o : Before} {xs : List Thing} (e : End) → Matches o xs (C.intern (P.end_kind (the_end e)) 0 0 0) (count_all (of_interval (B.literal e))) (λ i _. Cell i (interval (B.literal e)))
unfolding P.end_kind
making_end E0 = making_i0
making_end E1 = making_i1

same_end : (e f : End) → P.same_end (the_end e) (the_end f) ≡ yes? (EndDiscrete e f)
unfolding P.same_end
same_end E0 E0 = refl
same_end E0 E1 = refl
same_end E1 E0 = refl
same_end E1 E1 = refl

other_end : (e : End) → P.other_end (the_end e) ≡ the_end (B.other e)
unfolding P.other_end
other_end E0 = refl
other_end E1 = refl

-- the row of the left part, where that is an end that was not enough
data Left : Found → Option ℕ → Type 0 where
  no_left : Left None none
  a_left : {x : ℕ} → Left (Some x) (some x)

worked : {o : Before} {xs : List Thing} {l : Refs} {refs : List ℕ} {q : ℕ} {r : Interval} (e : End) (rule : ℕ) → Cites l refs → Low q (an_interval r) xs → Matches o xs (P.worked_out q (the_end e) rule l) (B.worked_out r e rule refs) Ends
unfolding P.worked_out B.worked_out
worked e rule c low = bind (making_end e) λ _ _ _ e₁ k. row_then (lowest_of_cell tt k λ _ p. emitting (j_iend (low_lift e₁ low) p) rule c) λ _ _ _. giving _ _ λ _ _. an_end e

with_left : {o : Before} {xs : List Thing} {q : ℕ} {r : Interval} {first : Found} {left : Option ℕ} (e : End) (rule y : ℕ) → Left first left → Low q (an_interval r) xs → Matches o xs (P.with_left first (λ x. P.worked_out q (P.other_end (the_end e)) rule (C.refs_2 x y)) (C.give none)) (from left get (λ x. B.worked_out r (B.other e) rule (x ∷ y ∷ [])) or pure none) Ends
unfolding P.with_left from◌get◌or◌
with_left e rule y no_left low = giving _ _ λ _ _. no_end
with_left e rule y a_left low = rw (other_end e) (worked (B.other e) rule cite_2 low)

module _ {o : Before} {rd : M (Unit {0})} (c : Callees) (d : D.Callees) (L : Linked o rd c d) where
  right_part_matches : {xs : List Thing} {q b : ℕ} {r b' : Interval} {first : Found} {left : Option ℕ} (e : End) (rule : ℕ) → Left first left → Low q (an_interval r) xs → Cell b (interval b') xs → Matches o xs (P.right_part c q b (the_end e) rule first) (B.right_part d r b' e rule left) Ends
  unfolding P.right_part B.right_part
  right_part_matches e rule h low b =
      bind (L.endpoint b) λ _ _ _ e₁ s.
      ended_then _ _ s
      (λ f y. branch _ (EndDiscrete f e) (same_end f e)
      (λ _. worked e rule cite_1 (low_lift e₁ low))
      (λ _. with_left e rule y h (low_lift e₁ low)))
      (giving _ _ λ _ _. no_end)

  two_parts_matches : {xs : List Thing} {q a b : ℕ} {r a' b' : Interval} (e : End) (rule : ℕ) → Low q (an_interval r) xs → Cell a (interval a') xs → Cell b (interval b') xs → Matches o xs (P.two_parts c q a b (the_end e) rule) (B.two_parts d r a' b' e rule) Ends
  unfolding P.two_parts B.two_parts
  two_parts_matches e rule low a b =
      bind (L.endpoint a) λ _ _ _ e₁ s.
      ended_then _ _ s
      (λ f x. branch _ (EndDiscrete f e) (same_end f e)
      (λ _. worked e rule cite_1 (low_lift e₁ low))
      (λ _. right_part_matches e rule a_left (low_lift e₁ low) (cell_lift e₁ b)))
      (right_part_matches e rule no_left (low_lift e₁ low) (cell_lift e₁ b))

  pub endpoint_matches : {xs : List Thing} {i : ℕ} {r : Interval} → Cell i (interval r) xs → Matches o xs (P.endpoint_body c i) (B.endpoint_body d r) Ends
  unfolding P.endpoint_body B.endpoint_body when◌then◌else◌
  endpoint_matches h =
      opening_interval _ (B.endpoint_body d) h
      (λ _ k. worked E0 _ cite_0 k.low)
      (λ _ k. worked E1 _ cite_0 k.low)
      (λ _ _ _. giving _ _ λ _ _. no_end)
      (λ _ _ _ k x. bind (L.endpoint x) λ _ _ _ e s. ended_then _ _ s (λ f _. rw (other_end f) (worked (B.other f) _ cite_1 (low_lift e k.low))) (giving _ _ λ _ _. no_end))
      (λ _ _ _ _ _ k x y. two_parts_matches E0 _ k.low x y)
      (λ _ _ _ _ _ k x y. two_parts_matches E1 _ k.low x y)
