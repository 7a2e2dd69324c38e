-- Judgments as trees, and back.
use Rattle.std.specs.Prelude.{ℕ, ◌≡◌, refl, List, [], ◌∷◌, Bool, true, false, eqb}
use Rattle.walk.specs.Syntax.{Interval, I0, I1, Dim, Neg, Meet, Join, Quote, u, v, nat, zero, pi, lam, app, path, plam, papp, sigma, pair, fst, snd, Quotes, nil, cons}
use Rattle.walk.specs.Judgment.{Judgment, ctx, dshiftctx, lookup, lt, le, max, interval, ishift, isubst, shift, subst, dshift, dsubst, has, eq, iend}
use Prim.Native.String.{String}
use Rattle.rules.specs.Names.{bytes}
use Rattle.schemas.specs.Tree.{Text, leaf, word, ◌·◌, end, named, ◌!◌, Value}

-- there

abbrev pub of_interval : Interval → Value
-- written by tools/written.py: intervals as trees
of_interval I0 = named "i0"
of_interval I1 = named "i1"
of_interval (Dim x₀) = "dim" ! leaf x₀ · end
of_interval (Neg x₀) = "neg" ! of_interval x₀ · end
of_interval (Meet x₀ x₁) = "meet" ! of_interval x₀ · of_interval x₁ · end
of_interval (Join x₀ x₁) = "join" ! of_interval x₀ · of_interval x₁ · end

-- end of intervals as trees

abbrev pub of_quote : Quote → Value
-- written by tools/written.py: quotes as trees
of_quote (u x₀) = "u" ! leaf x₀ · end
of_quote (v x₀) = "v" ! leaf x₀ · end
of_quote nat = named "nat"
of_quote zero = named "zero"
of_quote (pi x₀ x₁) = "pi" ! of_quote x₀ · of_quote x₁ · end
of_quote (lam x₀) = "lam" ! of_quote x₀ · end
of_quote (app x₀ x₁) = "app" ! of_quote x₀ · of_quote x₁ · end
of_quote (path x₀ x₁ x₂) = "path" ! of_quote x₀ · of_quote x₁ · of_quote x₂ · end
of_quote (plam x₀) = "plam" ! of_quote x₀ · end
of_quote (papp x₀ x₁) = "papp" ! of_quote x₀ · of_interval x₁ · end
of_quote (sigma x₀ x₁) = "sigma" ! of_quote x₀ · of_quote x₁ · end
of_quote (pair x₀ x₁) = "pair" ! of_quote x₀ · of_quote x₁ · end
of_quote (fst x₀) = "fst" ! of_quote x₀ · end
of_quote (snd x₀) = "snd" ! of_quote x₀ · end

-- end of quotes as trees

abbrev pub of_context : Quotes → Value
-- written by tools/written.py: contexts as trees
of_context nil = named "nil"
of_context (cons x₀ x₁) = "cons" ! of_quote x₀ · of_context x₁ · end

-- end of contexts as trees

abbrev pub of_judgment : Judgment → Value
-- written by tools/written.py: judgments as trees
of_judgment (ctx x₀ x₁) = "ctx" ! leaf x₀ · of_context x₁ · end
of_judgment (dshiftctx x₀ x₁ x₂) = "dshiftctx" ! of_context x₀ · leaf x₁ · of_context x₂ · end
of_judgment (lookup x₀ x₁ x₂) = "lookup" ! of_context x₀ · leaf x₁ · of_quote x₂ · end
of_judgment (lt x₀ x₁) = "lt" ! leaf x₀ · leaf x₁ · end
of_judgment (le x₀ x₁) = "le" ! leaf x₀ · leaf x₁ · end
of_judgment (max x₀ x₁ x₂) = "max" ! leaf x₀ · leaf x₁ · leaf x₂ · end
of_judgment (interval x₀ x₁) = "interval" ! leaf x₀ · of_interval x₁ · end
of_judgment (ishift x₀ x₁ x₂) = "ishift" ! of_interval x₀ · leaf x₁ · of_interval x₂ · end
of_judgment (isubst x₀ x₁ x₂ x₃) = "isubst" ! of_interval x₀ · leaf x₁ · of_interval x₂ · of_interval x₃ · end
of_judgment (shift x₀ x₁ x₂) = "shift" ! of_quote x₀ · leaf x₁ · of_quote x₂ · end
of_judgment (subst x₀ x₁ x₂ x₃) = "subst" ! of_quote x₀ · leaf x₁ · of_quote x₂ · of_quote x₃ · end
of_judgment (dshift x₀ x₁ x₂) = "dshift" ! of_quote x₀ · leaf x₁ · of_quote x₂ · end
of_judgment (dsubst x₀ x₁ x₂ x₃) = "dsubst" ! of_quote x₀ · leaf x₁ · of_interval x₂ · of_quote x₃ · end
of_judgment (has x₀ x₁ x₂ x₃) = "has" ! leaf x₀ · of_context x₁ · of_quote x₂ · of_quote x₃ · end
of_judgment (eq x₀ x₁ x₂ x₃ x₄) = "eq" ! leaf x₀ · of_context x₁ · of_quote x₂ · of_quote x₃ · of_quote x₄ · end
of_judgment (iend x₀ x₁) = "iend" ! of_interval x₀ · of_interval x₁ · end

-- end of judgments as trees

-- A row with what it rests on: the conclusion, then the premises, one after the other.
abbrev pub of_judgments : List Judgment → Value
of_judgments [] = end
of_judgments (x ∷ js) = of_judgment x · of_judgments js

abbrev pub step : List Judgment → Judgment → Value
step js x = of_judgments (x ∷ js)

-- back: what a tree means, whatever the tree

pub data Thing : Type 0 where
  a_number : ℕ → Thing
  an_interval : Interval → Thing
  a_quote : Quote → Thing
  a_context : Quotes → Thing
  a_judgment : Judgment → Thing

abbrev to_number : Thing → ℕ
to_number (a_number n) = n
to_number (an_interval r) = 0
to_number (a_quote t) = 0
to_number (a_context g) = 0
to_number (a_judgment j) = 0

abbrev to_interval : Thing → Interval
to_interval (a_number n) = I0
to_interval (an_interval r) = r
to_interval (a_quote t) = I0
to_interval (a_context g) = I0
to_interval (a_judgment j) = I0

abbrev to_quote : Thing → Quote
to_quote (a_number n) = nat
to_quote (an_interval r) = nat
to_quote (a_quote t) = t
to_quote (a_context g) = nat
to_quote (a_judgment j) = nat

abbrev to_context : Thing → Quotes
to_context (a_number n) = nil
to_context (an_interval r) = nil
to_context (a_quote t) = nil
to_context (a_context g) = g
to_context (a_judgment j) = nil

abbrev to_judgment : Thing → Judgment
to_judgment (a_number n) = lt 0 0
to_judgment (an_interval r) = lt 0 0
to_judgment (a_quote t) = lt 0 0
to_judgment (a_context g) = lt 0 0
to_judgment (a_judgment j) = j

-- A thing, or what waits for an argument more.
pub data Meaning : Type 0 where
  it : Thing → Meaning
  given : (Thing → Meaning) → Meaning

abbrev n : (ℕ → Meaning) → Meaning
n f = given λ x. f (to_number x)

abbrev i : (Interval → Meaning) → Meaning
i f = given λ x. f (to_interval x)

abbrev q : (Quote → Meaning) → Meaning
q f = given λ x. f (to_quote x)

abbrev c : (Quotes → Meaning) → Meaning
c f = given λ x. f (to_context x)

abbrev j : Judgment → Meaning
j x = it (a_judgment x)

infix 60 ◌means◌
abbrev ◌means◌ : String → Meaning → Text × Meaning
s means m = (bytes s, m)

abbrev words : List (Text × Meaning)
words =
    -- written by tools/written.py: words
    ("i0" means it (an_interval I0)) ∷
    ("i1" means it (an_interval I1)) ∷
    ("dim" means n λ x₀. it (an_interval (Dim x₀))) ∷
    ("neg" means i λ x₀. it (an_interval (Neg x₀))) ∷
    ("meet" means i λ x₀. i λ x₁. it (an_interval (Meet x₀ x₁))) ∷
    ("join" means i λ x₀. i λ x₁. it (an_interval (Join x₀ x₁))) ∷
    ("u" means n λ x₀. it (a_quote (u x₀))) ∷
    ("v" means n λ x₀. it (a_quote (v x₀))) ∷
    ("nat" means it (a_quote nat)) ∷
    ("zero" means it (a_quote zero)) ∷
    ("pi" means q λ x₀. q λ x₁. it (a_quote (pi x₀ x₁))) ∷
    ("lam" means q λ x₀. it (a_quote (lam x₀))) ∷
    ("app" means q λ x₀. q λ x₁. it (a_quote (app x₀ x₁))) ∷
    ("path" means q λ x₀. q λ x₁. q λ x₂. it (a_quote (path x₀ x₁ x₂))) ∷
    ("plam" means q λ x₀. it (a_quote (plam x₀))) ∷
    ("papp" means q λ x₀. i λ x₁. it (a_quote (papp x₀ x₁))) ∷
    ("sigma" means q λ x₀. q λ x₁. it (a_quote (sigma x₀ x₁))) ∷
    ("pair" means q λ x₀. q λ x₁. it (a_quote (pair x₀ x₁))) ∷
    ("fst" means q λ x₀. it (a_quote (fst x₀))) ∷
    ("snd" means q λ x₀. it (a_quote (snd x₀))) ∷
    ("nil" means it (a_context nil)) ∷
    ("cons" means q λ x₀. c λ x₁. it (a_context (cons x₀ x₁))) ∷
    ("ctx" means n λ x₀. c λ x₁. j (ctx x₀ x₁)) ∷
    ("dshiftctx" means c λ x₀. n λ x₁. c λ x₂. j (dshiftctx x₀ x₁ x₂)) ∷
    ("lookup" means c λ x₀. n λ x₁. q λ x₂. j (lookup x₀ x₁ x₂)) ∷
    ("lt" means n λ x₀. n λ x₁. j (lt x₀ x₁)) ∷
    ("le" means n λ x₀. n λ x₁. j (le x₀ x₁)) ∷
    ("max" means n λ x₀. n λ x₁. n λ x₂. j (max x₀ x₁ x₂)) ∷
    ("interval" means n λ x₀. i λ x₁. j (interval x₀ x₁)) ∷
    ("ishift" means i λ x₀. n λ x₁. i λ x₂. j (ishift x₀ x₁ x₂)) ∷
    ("isubst" means i λ x₀. n λ x₁. i λ x₂. i λ x₃. j (isubst x₀ x₁ x₂ x₃)) ∷
    ("shift" means q λ x₀. n λ x₁. q λ x₂. j (shift x₀ x₁ x₂)) ∷
    ("subst" means q λ x₀. n λ x₁. q λ x₂. q λ x₃. j (subst x₀ x₁ x₂ x₃)) ∷
    ("dshift" means q λ x₀. n λ x₁. q λ x₂. j (dshift x₀ x₁ x₂)) ∷
    ("dsubst" means q λ x₀. n λ x₁. i λ x₂. q λ x₃. j (dsubst x₀ x₁ x₂ x₃)) ∷
    ("has" means n λ x₀. c λ x₁. q λ x₂. q λ x₃. j (has x₀ x₁ x₂ x₃)) ∷
    ("eq" means n λ x₀. c λ x₁. q λ x₂. q λ x₃. q λ x₄. j (eq x₀ x₁ x₂ x₃ x₄)) ∷
    ("iend" means i λ x₀. i λ x₁. j (iend x₀ x₁)) ∷
    -- end of words
    []

abbrev pub same : Text → Text → Bool
same [] [] = true
same [] (b ∷ y) = false
same (a ∷ x) [] = false
same (a ∷ x) (b ∷ y) = elim (eqb a b) [ true ↦ same x y | false ↦ false ]

abbrev meaning : Text → List (Text × Meaning) → Meaning
meaning w [] = it (a_number 0)
meaning w (x ∷ xs) = elim (same w x.0) [ true ↦ x.1 | false ↦ meaning w xs ]

abbrev apply : Meaning → Thing → Meaning
apply (it t) x = it t
apply (given f) x = f x

abbrev thing : Meaning → Thing
thing (it t) = t
thing (given f) = a_number 0

abbrev mutual
  read : Value → Meaning
  read (leaf k) = it (a_number k)
  read (word w) = meaning w words
  read (f · r) = feed r (read f)

  feed : Value → Meaning → Meaning
  feed (leaf k) m = m
  feed (word w) m = m
  feed (a · r) m = feed r (apply m (thing (read a)))

abbrev pub judgment : Value → Judgment
judgment t = to_judgment (thing (read t))

abbrev judgments : Value → List Judgment
judgments (leaf k) = []
judgments (word w) = []
judgments (t · ts) = judgment t ∷ judgments ts

abbrev pub conclusion : Value → Judgment
conclusion (leaf k) = lt 0 0
conclusion (word w) = lt 0 0
conclusion (t · ts) = judgment t

abbrev pub premises : Value → List Judgment
premises (leaf k) = []
premises (word w) = []
premises (t · ts) = judgments ts

-- what is written reads back

read_interval : (r : Interval) → read (of_interval r) ≡ it (an_interval r)
-- written by tools/written.py: intervals read back
read_interval I0 = refl
read_interval I1 = refl
read_interval (Dim x₀) = refl
read_interval (Neg x₀) = rw (read_interval x₀)
read_interval (Meet x₀ x₁) = rw (read_interval x₀, read_interval x₁)
read_interval (Join x₀ x₁) = rw (read_interval x₀, read_interval x₁)

-- end of intervals read back

read_quote : (t : Quote) → read (of_quote t) ≡ it (a_quote t)
-- written by tools/written.py: quotes read back
read_quote (u x₀) = refl
read_quote (v x₀) = refl
read_quote nat = refl
read_quote zero = refl
read_quote (pi x₀ x₁) = rw (read_quote x₀, read_quote x₁)
read_quote (lam x₀) = rw (read_quote x₀)
read_quote (app x₀ x₁) = rw (read_quote x₀, read_quote x₁)
read_quote (path x₀ x₁ x₂) = rw (read_quote x₀, read_quote x₁, read_quote x₂)
read_quote (plam x₀) = rw (read_quote x₀)
read_quote (papp x₀ x₁) = rw (read_quote x₀, read_interval x₁)
read_quote (sigma x₀ x₁) = rw (read_quote x₀, read_quote x₁)
read_quote (pair x₀ x₁) = rw (read_quote x₀, read_quote x₁)
read_quote (fst x₀) = rw (read_quote x₀)
read_quote (snd x₀) = rw (read_quote x₀)

-- end of quotes read back

read_context : (g : Quotes) → read (of_context g) ≡ it (a_context g)
-- written by tools/written.py: contexts read back
read_context nil = refl
read_context (cons x₀ x₁) = rw (read_quote x₀, read_context x₁)

-- end of contexts read back

read_judgment : (x : Judgment) → judgment (of_judgment x) ≡ x
-- written by tools/written.py: judgments read back
read_judgment (ctx x₀ x₁) = rw (read_context x₁)
read_judgment (dshiftctx x₀ x₁ x₂) = rw (read_context x₀, read_context x₂)
read_judgment (lookup x₀ x₁ x₂) = rw (read_context x₀, read_quote x₂)
read_judgment (lt x₀ x₁) = refl
read_judgment (le x₀ x₁) = refl
read_judgment (max x₀ x₁ x₂) = refl
read_judgment (interval x₀ x₁) = rw (read_interval x₁)
read_judgment (ishift x₀ x₁ x₂) = rw (read_interval x₀, read_interval x₂)
read_judgment (isubst x₀ x₁ x₂ x₃) = rw (read_interval x₀, read_interval x₂, read_interval x₃)
read_judgment (shift x₀ x₁ x₂) = rw (read_quote x₀, read_quote x₂)
read_judgment (subst x₀ x₁ x₂ x₃) = rw (read_quote x₀, read_quote x₂, read_quote x₃)
read_judgment (dshift x₀ x₁ x₂) = rw (read_quote x₀, read_quote x₂)
read_judgment (dsubst x₀ x₁ x₂ x₃) = rw (read_quote x₀, read_interval x₂, read_quote x₃)
read_judgment (has x₀ x₁ x₂ x₃) = rw (read_context x₁, read_quote x₂, read_quote x₃)
read_judgment (eq x₀ x₁ x₂ x₃ x₄) = rw (read_context x₁, read_quote x₂, read_quote x₃, read_quote x₄)
read_judgment (iend x₀ x₁) = rw (read_interval x₀, read_interval x₁)

-- end of judgments read back

read_judgments : (js : List Judgment) → judgments (of_judgments js) ≡ js
read_judgments [] = refl
read_judgments (x ∷ js) = rw (read_judgment x, read_judgments js)

pub read_conclusion : (js : List Judgment) (x : Judgment) → conclusion (step js x) ≡ x
read_conclusion js x = read_judgment x

pub read_premises : (js : List Judgment) (x : Judgment) → premises (step js x) ≡ js
read_premises js x = read_judgments js
