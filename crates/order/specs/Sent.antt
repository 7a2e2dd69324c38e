-- What is sent: a call that is let in has at most 33 dimensions and no number above 32.
use Rattle.std.specs.Prelude.{ℕ, ◌+◌, ◌≤◌, max, ◌≡◌, refl, List, [], ◌∷◌, ◌++◌, Bool, true, false, ◌||◌, length, ltb, leb, T}
use Rattle.std.proofs.Common.{subst, arith, lt→ltb}
use Rattle.std.proofs.Math.Decide.{dec_le}
use Rattle.walk.specs.Syntax.{Interval, I0, I1, Dim, Neg, Meet, Join, Term, Universe, Var, Nat, Zero, Pi, Lam, App, Path, PathLam, PathApp, Sigma, Pair, Fst, Snd, Context, Cons}
use Rattle.walk.specs.Reader.{Call}
use Rattle.walk.specs.Limits.{Sized, fits, scope_over, size_over, index_over, size_on, node, size_interval, size_term, size_terms, size_call}
use Rattle.walk.specs.Run.{scope_of, nth}
use Rattle.order.specs.Numbers.{interval_top, term_top, context_top, AtMost, at_most_nil, at_most_cons}

-- where f lets something in, its numbers, at most p, are at most 32
record Low (f : ℕ → Sized) (p : ℕ) : Type 0 where
  low : (nodes n : ℕ) → f nodes ≡ fits n → p ≤ 32

not_above : (m n : ℕ) → ltb m n ≡ false → n ≤ m
not_above m n q = go (dec_le n m)
  where
    go : Dec (n ≤ m) → n ≤ m
    go (yes l) = l
    go (no l) = absurd (subst T q (lt→ltb m n (omega arith)))

-- a node by itself
leaf : (depth i : ℕ) → Low (λ nodes. node depth nodes i) i
unfolding node
leaf depth i = record { low = λ nodes n e. go (ltb 32 depth || leb 10000 nodes) (ltb 32 i) nodes n refl e }
  where
    go : (a b : Bool) (nodes n : ℕ) → ltb 32 i ≡ b → elim a as (λ _. Sized) [ true ↦ size_over | false ↦ elim b as (λ _. Sized) [ true ↦ index_over | false ↦ fits (nodes + 1) ] ] ≡ fits n → i ≤ 32
    go true b nodes n q e = let z : ◌≡◌ {A = ℕ} 0 1 = cc in absurd (omega arith)
    go false true nodes n q e = let z : ◌≡◌ {A = ℕ} 0 1 = cc in absurd (omega arith)
    go false false nodes n q e = not_above 32 i q

-- two parts that are let in
record Both (z : Sized) (f : ℕ → Sized) (n : ℕ) : Type 0 where
  between : ℕ
  left : z ≡ fits between
  right : f between ≡ fits n

both : (z : Sized) (f : ℕ → Sized) (n : ℕ) → size_on z f ≡ fits n → Both z f n
unfolding size_on
both (fits m) f n e = record { between = m; left = refl; right = e }
both scope_over f n e = let z : ◌≡◌ {A = ℕ} 0 1 = cc in absurd (omega arith)
both size_over f n e = let z : ◌≡◌ {A = ℕ} 0 1 = cc in absurd (omega arith)
both index_over f n e = let z : ◌≡◌ {A = ℕ} 0 1 = cc in absurd (omega arith)

infixl 30 ◌on◌
◌on◌ : {f g : ℕ → Sized} {p q : ℕ} → Low f p → Low g q → Low (λ nodes. size_on (f nodes) g) (max p q)
◌on◌ {f = f} {g = g} h k = record { low = λ nodes n e. let b = both (f nodes) g n e in let x = h.low nodes b.between b.left in let y = k.low b.between n b.right in omega arith }

-- a node before its parts
inner : {f : ℕ → Sized} {p : ℕ} (depth : ℕ) → Low f p → Low (λ nodes. size_on (node depth nodes 0) f) p
inner depth h = let k = leaf depth 0 on h in record { low = λ nodes n e. let x = k.low nodes n e in omega arith }

interval_low : (r : Interval) (depth : ℕ) → Low (size_interval r depth) (interval_top r)
unfolding size_interval
-- written by tools/written.py: numbers that are sent in an interval
interval_low I0 depth = leaf depth 0
interval_low I1 depth = leaf depth 0
interval_low (Dim n) depth = leaf depth n
interval_low (Neg a) depth = inner depth (interval_low a (depth + 1))
interval_low (Meet a b) depth = inner depth (interval_low a (depth + 1) on interval_low b (depth + 1))
interval_low (Join a b) depth = inner depth (interval_low a (depth + 1) on interval_low b (depth + 1))

-- end of numbers that are sent in an interval

term_low : (t : Term) (depth : ℕ) → Low (size_term t depth) (term_top t)
unfolding size_term
-- written by tools/written.py: numbers that are sent in a term
term_low (Universe n) depth = leaf depth n
term_low (Var n) depth = leaf depth n
term_low Nat depth = leaf depth 0
term_low Zero depth = leaf depth 0
term_low (Pi a b) depth = inner depth (term_low a (depth + 1) on term_low b (depth + 1))
term_low (Lam a b) depth = inner depth (term_low a (depth + 1) on term_low b (depth + 1))
term_low (App a b) depth = inner depth (term_low a (depth + 1) on term_low b (depth + 1))
term_low (Path a b c) depth = inner depth (term_low a (depth + 1) on (term_low b (depth + 1) on term_low c (depth + 1)))
term_low (PathLam a b) depth = inner depth (term_low a (depth + 1) on term_low b (depth + 1))
term_low (PathApp a b) depth = inner depth (term_low a (depth + 1) on interval_low b (depth + 1))
term_low (Sigma a b) depth = inner depth (term_low a (depth + 1) on term_low b (depth + 1))
term_low (Pair a b c) depth = inner depth (term_low a (depth + 1) on (term_low b (depth + 1) on term_low c (depth + 1)))
term_low (Fst a) depth = inner depth (term_low a (depth + 1))
term_low (Snd a) depth = inner depth (term_low a (depth + 1))

-- end of numbers that are sent in a term

-- terms with no number above 32
abbrev pub Lows : List Term → Type 0
Lows ts = AtMost 32 term_top ts

terms_low : (ts : List Term) (nodes n : ℕ) → size_terms ts nodes ≡ fits n → Lows ts
unfolding size_terms
terms_low [] nodes n e = at_most_nil
terms_low (t ∷ ts) nodes n e = let p = both (size_term t 0 nodes) (size_terms ts) n e in at_most_cons {x = t} ((term_low t 0).low nodes p.between p.left) (terms_low ts _ n p.right)

lows_left : (ts us : List Term) → Lows (ts ++ us) → Lows ts
lows_left [] us h = at_most_nil
lows_left (t ∷ ts) us (at_most_cons l h) = at_most_cons l (lows_left ts us h)

lows_right : (ts us : List Term) → Lows (ts ++ us) → Lows us
lows_right [] us h = h
lows_right (t ∷ ts) us (at_most_cons l h) = lows_right ts us h

pub nth_low : (ts : List Term) (k : ℕ) → Lows ts → term_top (nth ts k) ≤ 32
nth_low [] k at_most_nil = omega arith
nth_low (t ∷ ts) ℕ.zero (at_most_cons l h) = l
nth_low (t ∷ ts) (ℕ.suc k) (at_most_cons l h) = nth_low ts k h

pub scope_low : (g : Context) (ts : List Term) → context_top g ≤ 32 → Lows ts → context_top (scope_of g ts) ≤ 32
unfolding scope_of
scope_low g [] l at_most_nil = l
scope_low g (t ∷ ts) l (at_most_cons k h) = scope_low (Cons t g) ts (omega arith) h

-- a call that is let in
pub record Let (call : Call) : Type 0 where
  pub dims : call.dims ≤ 33
  pub types : Lows call.types
  pub terms : Lows call.terms

pub let_in : (call : Call) (n : ℕ) → size_call call ≡ fits n → Let call
unfolding size_call
let_in call n e = go (ltb 33 call.dims) (ltb 33 (length call.types)) refl e
  where
    go : (a b : Bool) → ltb 33 call.dims ≡ a → elim (a || b) as (λ _. Sized) [ true ↦ scope_over | false ↦ size_terms (call.types ++ call.terms) 0 ] ≡ fits n → Let call
    go true b q e = let z : ◌≡◌ {A = ℕ} 0 1 = cc in absurd (omega arith)
    go false true q e = let z : ◌≡◌ {A = ℕ} 0 1 = cc in absurd (omega arith)
    go false false q e = let h = terms_low (call.types ++ call.terms) 0 n e in record { dims = not_above 33 call.dims q; types = lows_left call.types call.terms h; terms = lows_right call.types call.terms h }
