-- Which call made a row: runs checked by computation, as those of Examples are.
use Rattle.std.specs.Prelude.{ℕ, ◌≡◌, refl, List, [], ◌∷◌, ◌++◌, length}
use Rattle.walk.specs.State.{State}
use Rattle.walk.specs.Reader.{Call}
use Rattle.walk.specs.Run.{made_by, carried_in, Ran, play_all, start, run}
use Rattle.walk.specs.Examples.{limit_100}
use Rattle.walk.specs.Opened.{opened}

-- check zero at nat
abbrev zero_at_nat : List ℕ
zero_at_nat = 3 ∷ 0 ∷ 0 ∷ 4 ∷ 3 ∷ []

-- of rows 0 to n - 1, the oldest first
abbrev makers : ℕ → List Call → State → List ℕ → List ℕ
makers ℕ.zero calls s done = done
makers (ℕ.suc n) calls s done = makers n calls s (made_by n calls s ∷ done)

abbrev made : List ℕ → List ℕ
made bytes = let r = run 16368 16384 16384 bytes in makers (length r.last.rows) r.calls (start r.limit 16368 16384) []

-- zero at nat, u 0 and nat, and then the context nat: the second block is refused and leaves two rows, the third adds none
pub of_blocks : made (limit_100 ++ 6 ∷ 0 ∷ 0 ∷ 4 ∷ 3 ∷ 3 ∷ 1 ∷ 0 ∷ 3 ∷ 0 ∷ 0 ∷ 1 ∷ 3 ∷ []) ≡ 0 ∷ 0 ∷ 1 ∷ 1 ∷ 3 ∷ []
unfolding opened
of_blocks = refl

-- universe of zero, which is refused and leaves four rows; check zero at nat, which finds them; v 0 in the context nat
pub of_refused : made (limit_100 ++ 1 ∷ 0 ∷ 0 ∷ 4 ∷ zero_at_nat ++ 2 ∷ 0 ∷ 1 ∷ 3 ∷ 2 ∷ 0 ∷ []) ≡ 0 ∷ 0 ∷ 0 ∷ 0 ∷ 2 ∷ 2 ∷ 2 ∷ 2 ∷ []
unfolding opened
of_refused = refl

-- check zero at nat, then other calls in the table that it leaves: its rows are carried in, and are no call's
abbrev later : List ℕ → List ℕ
later bytes =
    let r = run 16368 16384 16384 bytes in
    let first = run 16368 16384 16384 (limit_100 ++ zero_at_nat) in
    makers (length (play_all r.calls first.last).1.rows) r.calls first.last []

pub of_carried : later (limit_100 ++ zero_at_nat ++ 0 ∷ 0 ∷ 1 ∷ 3 ∷ []) ≡ carried_in ∷ carried_in ∷ 1 ∷ 1 ∷ []
unfolding opened
of_carried = refl
