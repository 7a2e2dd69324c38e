-- The kinds of cells and their numbers: a cell's first word. Assumes nothing.
-- Written by tools/written.py from tools/language.py; `python3 tools/written.py` makes it again.
use Rattle.std.specs.Prelude.{ℕ, List, [], ◌∷◌, ◌==◌}
use Rattle.ast.specs.Words.{ifb}
use Rattle.ast.specs.declared.kinds.Kind.{Kind}
use Rattle.ast.specs.declared.kinds.Kind.TheVariants as kind

unfoldable pub kind_number : Kind → ℕ
kind_number kind.Universe = 1
kind_number kind.Var = 2
kind_number kind.Nat = 3
kind_number kind.Zero = 4
kind_number kind.Pi = 5
kind_number kind.Lam = 6
kind_number kind.App = 7
kind_number kind.Path = 8
kind_number kind.Plam = 9
kind_number kind.Papp = 10
kind_number kind.Sigma = 11
kind_number kind.Pair = 12
kind_number kind.Fst = 13
kind_number kind.Snd = 14
kind_number kind.I0 = 16
kind_number kind.I1 = 17
kind_number kind.Dim = 18
kind_number kind.Neg = 19
kind_number kind.Meet = 20
kind_number kind.Join = 21
kind_number kind.Nil = 32
kind_number kind.Cons = 33
kind_number kind.Inference = 40
kind_number (kind.Other n) = n

-- every kind that there is
abbrev pub every_kind : List Kind
every_kind = kind.Universe ∷ kind.Var ∷ kind.Nat ∷ kind.Zero ∷ kind.Pi ∷ kind.Lam ∷ kind.App ∷ kind.Path ∷ kind.Plam ∷ kind.Papp ∷ kind.Sigma ∷ kind.Pair ∷ kind.Fst ∷ kind.Snd ∷ kind.I0 ∷ kind.I1 ∷ kind.Dim ∷ kind.Neg ∷ kind.Meet ∷ kind.Join ∷ kind.Nil ∷ kind.Cons ∷ kind.Inference ∷ []

-- the first of these with the number
unfoldable pub kind_in : List Kind → ℕ → Kind
kind_in [] n = kind.Other n
kind_in (k ∷ ks) n = ifb (n == kind_number k) k (kind_in ks n)

-- the kind with the number
unfoldable pub kind_of : ℕ → Kind
kind_of n = kind_in every_kind n
