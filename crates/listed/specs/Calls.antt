-- Answers of which a refused one has no result. That the walk's are such, and that the calls' lines are those of its answers, is proved in
-- proofs/Calls: `all_bare`, `calls_said`.
use Rattle.std.specs.Prelude.{◌≡◌, List, [], ◌∷◌}
use Rattle.walk.specs.Run.{no_result, Answer}

-- a refused call has no result

pub record Bare (a : Answer) : Type 0 where
  pub bare : (a.number ≡ 0 → ⊥) → a.result ≡ no_result

pub data AllBare : List Answer → Type 0 where
  no_answer : AllBare []
  bare_on : {a : Answer} {answers : List Answer} → Bare a → AllBare answers → AllBare (a ∷ answers)
