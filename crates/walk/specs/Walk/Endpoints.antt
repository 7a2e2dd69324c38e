-- endpoint: the end that an interval works out to, with the row that says so. The source has no such function.
use Rattle.std.specs.Prelude.{ℕ, List, [], ◌∷◌}
use Rattle.std.proofs.Math.Option.{Option, none, some}
use Rattle.walk.specs.Syntax.{Interval, I0, I1, Dim, Neg, Meet, Join}
use Rattle.walk.specs.Judgment.{iend}
use Rattle.walk.specs.Rule as R
use Rattle.walk.specs.State.{M, ◌>>=◌, pure, choose◌then◌else◌, from◌get◌or◌, of_interval, count_all, emit}
use Rattle.walk.specs.Walk.Reference.{End, E0, E1, EndDiscrete, Callees}

-- an end, as it is written
abbrev pub literal : End → Interval
literal E0 = I0
literal E1 = I1

abbrev pub other : End → End
other E0 = E1
other E1 = E0

-- r works out to e: the end takes a cell, then the row is made
unfoldable pub worked_out : Interval → End → ℕ → List ℕ → M (Option (End × ℕ))
worked_out r e rule refs = do
  _ ← count_all (of_interval (literal e))
  row ← emit rule refs (iend r (literal e))
  pure (some (e, row))

-- A meet or a join, r. One part alone decides it where that is the end `enough`: i0 in a meet, i1 in a join.
-- Here the left part was not enough; where it is the other end, `left` is its row.
unfoldable pub right_part : Callees → Interval → Interval → End → ℕ → Option ℕ → M (Option (End × ℕ))
right_part c r b enough rule left = do
  end ← c.endpoint b
  from end
      get (λ right.
      choose EndDiscrete right.0 enough
      then worked_out r enough rule (right.1 ∷ [])
      else (from left get (λ x. worked_out r (other enough) rule (x ∷ right.1 ∷ [])) or pure none))
      or pure none

unfoldable pub two_parts : Callees → Interval → Interval → Interval → End → ℕ → M (Option (End × ℕ))
two_parts c r a b enough rule = do
  end ← c.endpoint a
  from end
      get (λ left.
      choose EndDiscrete left.0 enough
      then worked_out r enough rule (left.1 ∷ [])
      else right_part c r b enough rule (some left.1))
      or right_part c r b enough rule none

unfoldable pub endpoint_body : Callees → Interval → M (Option (End × ℕ))
endpoint_body c I0 = worked_out I0 E0 R.iend_0 []
endpoint_body c I1 = worked_out I1 E1 R.iend_1 []
endpoint_body c (Dim n) = pure none
endpoint_body c (Neg a) = do
  end ← c.endpoint a
  from end get (λ of. worked_out (Neg a) (other of.0) R.iend_neg (of.1 ∷ [])) or pure none
endpoint_body c (Meet a b) = two_parts c (Meet a b) a b E0 R.iend_meet
endpoint_body c (Join a b) = two_parts c (Join a b) a b E1 R.iend_join
