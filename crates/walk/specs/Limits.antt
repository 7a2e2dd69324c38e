-- The limits of a call, refusals 5 to 7: syntax.rs, `term`, `interval` and `limits`, and `validate` of producer.rs (where docs/FORMAT.md has 33 for 32).
use Rattle.std.specs.Prelude.{ℕ, ◌+◌, List, [], ◌∷◌, ◌++◌, true, false, ◌||◌, ltb, leb, length}
use Rattle.walk.specs.Syntax.{Interval, I0, I1, Dim, Neg, Meet, Join, Term, Universe, Var, Nat, Zero, Pi, Lam, App, Path, PathLam, PathApp, Sigma, Pair, Fst, Snd}
use Rattle.walk.specs.Reader.{Call}

-- The nodes counted so far, or the refusal: 5, 6 or 7.
pub data Sized : Type 0 where
  fits : ℕ → Sized
  scope_over size_over index_over : Sized

unfoldable pub size_on : Sized → (ℕ → Sized) → Sized
size_on (fits n) f = f n
size_on scope_over f = scope_over
size_on size_over f = size_over
size_on index_over f = index_over

-- One node more, at a depth, with its index or level (0 where it has none): 6 goes before 7.
unfoldable pub node : ℕ → ℕ → ℕ → Sized
node depth nodes index =
    elim (ltb 32 depth || leb 10000 nodes) [
      | true ↦ size_over
      | false ↦ elim (ltb 32 index) [ true ↦ index_over | false ↦ fits (nodes + 1) ]
    ]

-- In prefix order, from the depth of the whole and the nodes before it.
unfoldable pub size_interval : Interval → ℕ → ℕ → Sized
-- written by tools/written.py: size of an interval
size_interval I0 depth nodes = node depth nodes 0
size_interval I1 depth nodes = node depth nodes 0
size_interval (Dim n) depth nodes = node depth nodes n
size_interval (Neg a) depth nodes = size_on (node depth nodes 0) (size_interval a (depth + 1))
size_interval (Meet a b) depth nodes = size_on (node depth nodes 0) λ n. size_on (size_interval a (depth + 1) n) (size_interval b (depth + 1))
size_interval (Join a b) depth nodes = size_on (node depth nodes 0) λ n. size_on (size_interval a (depth + 1) n) (size_interval b (depth + 1))

-- end of size of an interval

unfoldable pub size_term : Term → ℕ → ℕ → Sized
-- written by tools/written.py: size of a term
size_term (Universe n) depth nodes = node depth nodes n
size_term (Var n) depth nodes = node depth nodes n
size_term Nat depth nodes = node depth nodes 0
size_term Zero depth nodes = node depth nodes 0
size_term (Pi a b) depth nodes = size_on (node depth nodes 0) λ n. size_on (size_term a (depth + 1) n) (size_term b (depth + 1))
size_term (Lam a b) depth nodes = size_on (node depth nodes 0) λ n. size_on (size_term a (depth + 1) n) (size_term b (depth + 1))
size_term (App a b) depth nodes = size_on (node depth nodes 0) λ n. size_on (size_term a (depth + 1) n) (size_term b (depth + 1))
size_term (Path a b c) depth nodes = size_on (node depth nodes 0) λ n. size_on (size_term a (depth + 1) n) λ n. size_on (size_term b (depth + 1) n) (size_term c (depth + 1))
size_term (PathLam a b) depth nodes = size_on (node depth nodes 0) λ n. size_on (size_term a (depth + 1) n) (size_term b (depth + 1))
size_term (PathApp a b) depth nodes = size_on (node depth nodes 0) λ n. size_on (size_term a (depth + 1) n) (size_interval b (depth + 1))
size_term (Sigma a b) depth nodes = size_on (node depth nodes 0) λ n. size_on (size_term a (depth + 1) n) (size_term b (depth + 1))
size_term (Pair a b c) depth nodes = size_on (node depth nodes 0) λ n. size_on (size_term a (depth + 1) n) λ n. size_on (size_term b (depth + 1) n) (size_term c (depth + 1))
size_term (Fst a) depth nodes = size_on (node depth nodes 0) (size_term a (depth + 1))
size_term (Snd a) depth nodes = size_on (node depth nodes 0) (size_term a (depth + 1))

-- end of size of a term

unfoldable pub size_terms : List Term → ℕ → Sized
size_terms [] nodes = fits nodes
size_terms (t ∷ ts) nodes = size_on (size_term t 0 nodes) (size_terms ts)

-- 5 goes before 6 and 7; the context's nodes come first.
unfoldable pub size_call : Call → Sized
size_call call =
    elim (ltb 33 call.dims || ltb 33 (length call.types)) [
      | true ↦ scope_over
      | false ↦ size_terms (call.types ++ call.terms) 0
    ]
