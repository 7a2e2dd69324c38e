-- What a byte of a term leaves to be read: the parts of a node, which go onto a stack.
use Rattle.std.specs.Prelude.{ℕ, ◌+◌, ◌*◌, ◌≡◌, List, [], ◌∷◌, get_or, length, set, Result, Ok, Err}
use Rattle.std.proofs.Math.Option.{Option, none, some}
use Rattle.ast.specs.declared.refusals.Refusal.TheVariants as refusal
use Rattle.walk.specs.Reader.{Read, got, bad, Kind, k_u, k_v, k_nat, k_zero, k_pi, k_lam, k_app, k_path, k_plam, k_papp, k_sigma, k_pair, k_fst, k_snd, IKind, k_0, k_1, k_dim, k_neg, k_meet, k_join, kinds, ikinds}
use Rattle.walk.specs.Limits.{Sized, fits, scope_over, size_over, index_over}
pub use Rattle.syntax.specs.declared.parts.Part.{Part}
pub use Rattle.syntax.specs.declared.parts.Part.TheVariants.{Index as index, Term as term, Interval as interval}
use Rattle.syntax.specs.declared.limits.Counted.{Counted}
use Rattle.syntax.specs.declared.limits.Uncounted.{Uncounted}
use Rattle.syntax.specs.declared.limits.Uncounted.TheVariants.{Refused, Bad}

abbrev pub parts : Kind → List Part
-- written by tools/written.py: parts of a term kind
parts k_u = index ∷ []
parts k_v = index ∷ []
parts k_nat = []
parts k_zero = []
parts k_pi = term ∷ term ∷ []
parts k_lam = term ∷ term ∷ []
parts k_app = term ∷ term ∷ []
parts k_path = term ∷ term ∷ term ∷ []
parts k_plam = term ∷ term ∷ []
parts k_papp = term ∷ interval ∷ []
parts k_sigma = term ∷ term ∷ []
parts k_pair = term ∷ term ∷ term ∷ []
parts k_fst = term ∷ []
parts k_snd = term ∷ []

-- end of parts of a term kind

abbrev pub iparts : IKind → List Part
-- written by tools/written.py: parts of an interval kind
iparts k_0 = []
iparts k_1 = []
iparts k_dim = index ∷ []
iparts k_neg = interval ∷ []
iparts k_meet = interval ∷ interval ∷ []
iparts k_join = interval ∷ interval ∷ []

-- end of parts of an interval kind

unfoldable pub of_kind : {K : Type 0} → (K → List Part) → Option K → Option (List Part)
of_kind f none = none
of_kind f (some k) = some (f k)

-- What a byte leaves to be read where this part is due; none where it may not stand.
unfoldable pub after : Part → ℕ → Option (List Part)
after index b = some []
after term b = of_kind parts (get_or kinds b none)
after interval b = of_kind iparts (get_or ikinds b none)

-- on a stack, where a part is a number

unfoldable pub part : ℕ → Part
part ℕ.zero = index
part (ℕ.suc ℕ.zero) = term
part (ℕ.suc (ℕ.suc n)) = interval

abbrev pub word : Part → ℕ
word index = 0
word term = 1
word interval = 2

-- The stack with these parts from a place on, the last of them first. A word holds its part and three times its depth: in the scan, which
-- needs no depth, it is the part.
abbrev pub pushed : List ℕ → ℕ → ℕ → List Part → List ℕ
pushed stack top depth [] = stack
pushed stack top depth (p ∷ ps) = set (pushed stack top depth ps) (top + length ps) (word p + 3 * depth)

-- What that pass answers. Bytes that are no term have a fault, and a limit may be passed before it.
abbrev pub Count : Type 0
Count = Result Counted Uncounted

abbrev pub reached : ℕ → ℕ → Count
reached nodes next = Ok (record { nodes = nodes; next = next })

unfoldable pub counted : Sized → ℕ → Count
counted (fits nodes) next = reached nodes next
counted scope_over next = Err (Refused refusal.Scope)
counted size_over next = Err (Refused refusal.Size)
counted index_over next = Err (Refused refusal.Index)

abbrev pub Faults : ℕ → Count → Type 0
Faults place (Ok counted) = ⊥
Faults place (Err (Refused why)) = Unit {0}
Faults place (Err (Bad at)) = at ≡ place

abbrev pub Counts : {A : Type 0} → (A → Sized) → Read A → Count → Type 0
Counts size (got a rest next) r = r ≡ counted (size a) next
Counts size (bad place) r = Faults place r
