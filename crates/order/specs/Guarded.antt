-- The walk with a guard at each number that it makes: it stops where one would pass `top`. No contract cites this: `Bound` shows that
-- it is the walk, for every top from `largest` on.
use Rattle.std.specs.Prelude.{ℕ, suc}
use Rattle.std.proofs.Math.Decide.{dec_lt}
use Rattle.walk.specs.State.{M, pure, refuse, choose◌then◌else◌}
use Rattle.walk.specs.Walk.Reference.{Callees}
use Rattle.walk.specs.Walk.{callees_by}

-- how it stops: with 0, which is the number of no refusal, since it says that a call is accepted
abbrev pub beyond : ℕ
beyond = 0

-- one more, if it does not pass `top`
unfoldable pub bump_to : ℕ → ℕ → M ℕ
bump_to top n = choose dec_lt n top then pure (suc n) else refuse beyond

-- the functions with n entries left
abbrev pub guarded_to : ℕ → ℕ → Callees
guarded_to top n = callees_by (bump_to top) n

-- What `link` matches the program's model with: there the number after the last that a word holds is 0.
abbrev pub word : ℕ
word = 4294967295

abbrev pub bump : ℕ → M ℕ
bump n = bump_to word n

abbrev pub guarded : ℕ → Callees
guarded n = guarded_to word n
