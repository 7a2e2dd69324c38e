-- Things in cells: which cell a thing has, and which is the lowest with its quote. Assumes nothing.
-- That `cell` and `quoted` are the numbers of these is proved in proofs/Things.
use Rattle.std.specs.Prelude.{ℕ, ◌≡◌, Bool, true, false, length, List, [], ◌∷◌, ◌++◌, Some, None}
use Rattle.std.proofs.Math.Path.{refl}
use Rattle.std.proofs.Common.{sym, ap, ◌∙◌, arith}
use Rattle.std.proofs.Math.Option.{Option, none, some}
use Rattle.walk.specs.Syntax.{Interval, Quote, Quotes, quote, quotes, quote?, quotes?, interval?}
use Rattle.walk.specs.State.{Thing, term, interval, context, inference, thing?}
use Rattle.link.specs.Lists.{yes?, first, Nth, nth_unique, Extends, same, more, first_stays, first_passes}

-- what a cell shows: its quote; a remembered inference has none
pub data Shown : Type 0 where
  a_quote : Quote → Shown
  an_interval : Interval → Shown
  a_context : Quotes → Shown
  a_memory : Shown
  deriving Discrete as ShownDiscrete

unfoldable pub shown? : Discrete Shown
shown? = ShownDiscrete quote? interval? quotes?

abbrev pub show : Thing → Shown
show (term t) = a_quote (quote t)
show (interval r) = an_interval r
show (context g) = a_context (quotes g)
show (inference k) = a_memory

unfoldable pub is_thing : Thing → Thing → Bool
is_thing x y = yes? (thing? x y)

unfoldable pub shows : Shown → Thing → Bool
shows s y = yes? (shown? s (show y))

-- A thing takes a cell when it is first counted, and has the number of those counted before it. Things have the newest first: x was
-- counted when `before` were, and is cell `length before`.
abbrev pub Counted : Thing → List Thing → List Thing → Type 0
Counted x before xs = Extends (x ∷ before) xs

-- the lowest cell that passes
abbrev pub or_this : Option ℕ → Option ℕ → Option ℕ
or_this (some n) m = some n
or_this none m = m

unfoldable pub lowest : (Thing → Bool) → List Thing → Option ℕ
lowest p [] = none
lowest p (x ∷ xs) = or_this (lowest p xs) (elim (p x) [ true ↦ some (length xs) | false ↦ none ])

-- the cell of a thing, and the lowest with a quote
abbrev pub cell : List Thing → Thing → Option ℕ
cell xs x = lowest (is_thing x) xs

abbrev pub quoted : List Thing → Shown → Option ℕ
quoted xs s = lowest (shows s) xs

-- The rest is for proofs: the same as facts, by the search that the program's model has.

pub yes_true : {P : Type 0} (d : Dec P) → yes? d ≡ true → P
yes_true (yes h) e = h
yes_true (no h) e = let z : ◌≡◌ {A = ℕ} 0 1 = cc in absurd (omega arith)

-- cell n is x: the first that is
pub record Cell (n : ℕ) (x : Thing) (xs : List Thing) : Type 0 where
  pub found : first (is_thing x) xs ≡ Some n

-- cell n is the lowest that shows s
pub record Low (n : ℕ) (s : Shown) (xs : List Thing) : Type 0 where
  pub found : first (shows s) xs ≡ Some n

-- no thing has two cells
pub record Distinct (xs : List Thing) : Type 0 where
  pub once : (x : Thing) (before : List Thing) → Counted x before xs → first (is_thing x) before ≡ None

pub no_cell : {x : Thing} {before xs : List Thing} → Counted x before xs → xs ≡ [] → ⊥
no_cell same q = let z : ◌≡◌ {A = ℕ} 0 1 = cc in omega arith
no_cell (more c) q = let z : ◌≡◌ {A = ℕ} 0 1 = cc in omega arith

pub none_distinct : Distinct []
none_distinct = record { once = λ x before c. absurd (no_cell c refl) }

once_more : {x y : Thing} {xs before : List Thing} → first (is_thing x) xs ≡ None → Distinct xs → Counted y before (x ∷ xs) → first (is_thing y) before ≡ None
once_more f d same = f
once_more f d (more c) = d.once _ _ c

pub more_distinct : {x : Thing} {xs : List Thing} → first (is_thing x) xs ≡ None → Distinct xs → Distinct (x ∷ xs)
more_distinct f d = record { once = λ y before c. once_more f d c }

pub cell_lift : {n : ℕ} {x : Thing} {xs ys : List Thing} → Extends xs ys → Cell n x xs → Cell n x ys
cell_lift {x = x} e h = record { found = first_stays (is_thing x) e h.found }

pub low_lift : {n : ℕ} {s : Shown} {xs ys : List Thing} → Extends xs ys → Low n s xs → Low n s ys
low_lift {s = s} e h = record { found = first_stays (shows s) e h.found }

pub cell_nth : {n : ℕ} {x : Thing} {xs : List Thing} → Cell n x xs → Nth n x xs
unfolding is_thing
cell_nth {n} {x} {xs} h = let p = first_passes (is_thing x) xs n h.found in let e = yes_true (thing? x p.one) p.passes in rw e p.nth

pub cell_same : {n : ℕ} {x y : Thing} {xs : List Thing} → Cell n x xs → Cell n y xs → x ≡ y
cell_same h k = nth_unique (cell_nth h) (cell_nth k)

pub cell_number : {n m : ℕ} {x : Thing} {xs : List Thing} → Cell n x xs → Cell m x xs → n ≡ m
cell_number h k = let e = h.found in let f = k.found in cc

pub low_same : {n : ℕ} {s r : Shown} {xs : List Thing} → Low n s xs → Low n r xs → s ≡ r
unfolding shows
low_same {n} {s} {r} {xs} h k =
    let p = first_passes (shows s) xs n h.found in
    let q = first_passes (shows r) xs n k.found in
    yes_true (shown? s (show p.one)) p.passes ∙ ap show (nth_unique p.nth q.nth) ∙ sym (yes_true (shown? r (show q.one)) q.passes)

pub low_number : {n m : ℕ} {s : Shown} {xs : List Thing} → Low n s xs → Low m s xs → n ≡ m
low_number h k = let e = h.found in let f = k.found in cc

-- what is no remembered inference
abbrev pub Plain : Thing → Type 0
Plain (term t) = Unit {0}
Plain (interval r) = Unit {0}
Plain (context g) = Unit {0}
Plain (inference k) = ⊥

abbrev pub Seen : Shown → Type 0
Seen (a_quote t) = Unit {0}
Seen (an_interval r) = Unit {0}
Seen (a_context g) = Unit {0}
Seen a_memory = ⊥

-- a thing has a cell; all have
pub record Held (x : Thing) (xs : List Thing) : Type 0 where
  pub number : ℕ
  pub cell : Cell number x xs

pub held : {n : ℕ} {x : Thing} {xs : List Thing} → Cell n x xs → Held x xs
held {n} c = record { number = n; cell = c }

pub data Known (xs : List Thing) : List Thing → Type 0 where
  none_left : Known xs []
  known : {z : Thing} {zs : List Thing} → Held z xs → Known xs zs → Known xs (z ∷ zs)

pub known_append : {xs as' bs : List Thing} → Known xs as' → Known xs bs → Known xs (as' ++ bs)
known_append none_left k = k
known_append (known h hs) k = known h (known_append hs k)

pub known_head : {xs zs : List Thing} {z : Thing} → Known xs (z ∷ zs) → Held z xs
known_head (known h hs) = h

pub known_tail : {xs zs : List Thing} {z : Thing} → Known xs (z ∷ zs) → Known xs zs
known_tail (known h hs) = hs

pub held_lift : {x : Thing} {xs ys : List Thing} → Extends xs ys → Held x xs → Held x ys
held_lift e h = record { number = h.number; cell = cell_lift e h.cell }

pub known_lift : {xs ys zs : List Thing} → Extends xs ys → Known xs zs → Known ys zs
known_lift e none_left = none_left
known_lift e (known h hs) = known (held_lift e h) (known_lift e hs)
