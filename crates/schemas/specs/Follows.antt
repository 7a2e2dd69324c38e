-- What it means that a value is an instance of a line of a rule. That what follows by a rule is such an instance, and the other way about,
-- so that matching decides it, is proved in proofs/Follows: `sound`, `complete`, `follows?`.
use Rattle.std.specs.Prelude.{ℕ, ◌≡◌, List, [], ◌∷◌, get_or}
use Rattle.walk.specs.Rules.{Follows}
use Rattle.schemas.specs.Tree.{Value, Env, instance}
use Rattle.schemas.specs.Code.{premises, conclusion}
use Rattle.schemas.specs.Table.{Line, pattern}

-- A value is an instance of a line of rule n.
pub data Instance (n : ℕ) (t : Value) : List Line → Type 0 where
  here : {l : Line} {ls : List Line} → l.rule ≡ n → (e : Env) → instance e (pattern l) ≡ t → Instance n t (l ∷ ls)
  there : {l : Line} {ls : List Line} → Instance n t ls → Instance n t (l ∷ ls)

-- every instance of a line follows by its rule
abbrev Holds : Line → Type 0
Holds l = (e : Env) → Follows l.rule (premises (instance e (pattern l))) (conclusion (instance e (pattern l)))

infixr 40 ◌and◌
pub data All : List Line → Type 0 where
  all : All []
  ◌and◌ : {l : Line} {ls : List Line} → Holds l → All ls → All (l ∷ ls)

-- line n of a list, from 0
abbrev pub line : ℕ → List Line → Line
line n ls = get_or ls n (record { rule = 0; premises = ""; conclusion = "" })
