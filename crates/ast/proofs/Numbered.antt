-- Laws of the kind with a number. Assumes nothing.
use Rattle.std.proofs.Common.{◌≡◌, ◌==◌, ℕ, Bool, true, false, true≢false, List, [], ◌∷◌, refl, sym}
use Rattle.std.proofs.lemmas.Bool.{eqb-true, ne_eqb}
use Rattle.ast.specs.Words.{ifb}
use Rattle.ast.specs.Kinds.{kind_number, every_kind, kind_in, kind_of}
use Rattle.ast.specs.declared.kinds.Kind.{Kind}
use Rattle.ast.specs.declared.kinds.Kind.TheVariants as kind

-- a number is that of the kind as which it is read

in_first : (b : Bool) (n : ℕ) (k x : Kind) → (n == kind_number k) ≡ b → kind_number x ≡ n → kind_number (ifb b k x) ≡ n
in_first true n k x e h = sym (eqb-true n (kind_number k) e)
in_first false n k x e h = h

in_number : (ks : List Kind) (n : ℕ) → kind_number (kind_in ks n) ≡ n
unfolding kind_in kind_number
in_number [] n = refl
in_number (k ∷ ks) n = in_first (n == kind_number k) n k (kind_in ks n) refl (in_number ks n)

pub kind_is : {r k : Kind} (n : ℕ) → r ≡ kind_of n → r ≡ k → n ≡ kind_number k
unfolding kind_of
kind_is n e h = rw (← h, e) (sym (in_number every_kind n))

-- and a kind that there is, is read from its number

-- written by tools/written.py: kinds
abbrev pub named : Kind → Bool
named kind.Universe = true
named kind.Var = true
named kind.Nat = true
named kind.Zero = true
named kind.Pi = true
named kind.Lam = true
named kind.App = true
named kind.Path = true
named kind.Plam = true
named kind.Papp = true
named kind.Sigma = true
named kind.Pair = true
named kind.Fst = true
named kind.Snd = true
named kind.I0 = true
named kind.I1 = true
named kind.Dim = true
named kind.Neg = true
named kind.Meet = true
named kind.Join = true
named kind.Nil = true
named kind.Cons = true
named kind.Inference = true
named (kind.Other n) = false

of_number : (k : Kind) → named k ≡ true → kind_of (kind_number k) ≡ k
unfolding kind_of kind_in kind_number
of_number kind.Universe h = refl
of_number kind.Var h = refl
of_number kind.Nat h = refl
of_number kind.Zero h = refl
of_number kind.Pi h = refl
of_number kind.Lam h = refl
of_number kind.App h = refl
of_number kind.Path h = refl
of_number kind.Plam h = refl
of_number kind.Papp h = refl
of_number kind.Sigma h = refl
of_number kind.Pair h = refl
of_number kind.Fst h = refl
of_number kind.Snd h = refl
of_number kind.I0 h = refl
of_number kind.I1 h = refl
of_number kind.Dim h = refl
of_number kind.Neg h = refl
of_number kind.Meet h = refl
of_number kind.Join h = refl
of_number kind.Nil h = refl
of_number kind.Cons h = refl
of_number kind.Inference h = refl
of_number (kind.Other n) h = absurd (true≢false (sym h))

-- end of kinds

-- what is read as another kind has not this one's number
pub kind_isnt : {r k : Kind} (n : ℕ) → r ≡ kind_of n → (r ≡ k → ⊥) → named k ≡ true → (n == kind_number k) ≡ false
kind_isnt {r} {k} n e h own = ne_eqb n (kind_number k) (λ q. h (rw (e, q) (of_number k own)))
