-- Endpoints: the end that an interval works out to. Assumes nothing.
use Rattle.std.specs.Prelude.{ℕ, Bool, true, false, Some, None, eqb}
use Rattle.std.proofs.Math.Option.{Option, none, some}
use Rattle.ast.specs.Cells.{Found}
use Rattle.producer.specs.declared.endpoints.End.{End}
use Rattle.producer.specs.declared.endpoints.End.TheVariants.{I0, I1}
use Rattle.producer.specs.declared.rows.Refs.{Refs}
use Rattle.walk.specs.Rule as R
use Rattle.producer.specs.Machine.{W, ◌>>=◌, give, when◌then◌else◌, on_maybe, open_cell, lowest, intern, emit, no_refs, refs_1, refs_2}
use Rattle.producer.specs.Callees.{Callees}

-- the kind of an end's node
unfoldable pub end_kind : End → ℕ
end_kind I0 = 16
end_kind I1 = 17

unfoldable pub other_end : End → End
other_end I0 = I1
other_end I1 = I0

unfoldable pub same_end : End → End → Bool
same_end I0 I0 = true
same_end I0 I1 = false
same_end I1 I0 = false
same_end I1 I1 = true

-- one of two, by an end
unfoldable pub by_end : End → (a b : ℕ) → ℕ
by_end I0 a b = a
by_end I1 a b = b

-- the end is made, then the row
unfoldable pub worked_out : ℕ → End → ℕ → Refs → W (Option (End × ℕ))
worked_out q e rule l = do
  out ← intern (end_kind e) 0 0 0
  row ← lowest out λ p. emit rule l 15 2 q p 0 0 0
  give (some (e, row))

-- the row of the left part of a meet or a join, where that is an end
unfoldable pub with_left : {A : Type 0} → Found → (ℕ → W A) → W A → W A
with_left (Some x) f z = f x
with_left None f z = z

-- the right part, where the left one was not enough
unfoldable pub right_part : Callees → (q b : ℕ) → End → ℕ → Found → W (Option (End × ℕ))
right_part c q b enough rule left = do
  right ← c.endpoint b
  on_maybe right
      (λ e y.
      when same_end e enough then worked_out q enough rule (refs_1 y)
      else with_left left (λ x. worked_out q (other_end enough) rule (refs_2 x y)) (give none))
      (give none)

unfoldable pub two_parts : Callees → (q a b : ℕ) → End → ℕ → W (Option (End × ℕ))
two_parts c q a b enough rule = do
  left ← c.endpoint a
  on_maybe left
      (λ e x. when same_end e enough then worked_out q enough rule (refs_1 x) else right_part c q b enough rule (Some x))
      (right_part c q b enough rule None)

unfoldable pub endpoint_body : Callees → ℕ → W (Option (End × ℕ))
endpoint_body c r =
    open_cell r λ w.
    when eqb w.kind 16 then worked_out w.quote I0 R.iend_0 no_refs
    else
    (when eqb w.kind 17 then worked_out w.quote I1 R.iend_1 no_refs
    else
    (when eqb w.kind 18 then give none
    else
    (when eqb w.kind 19 then (c.endpoint w.a >>= λ end. on_maybe end (λ e x. worked_out w.quote (other_end e) R.iend_neg (refs_1 x)) (give none))
    else
    (when eqb w.kind 20 then two_parts c w.quote w.a w.b I0 R.iend_meet
    else two_parts c w.quote w.a w.b I1 R.iend_join))))
