-- The ends that intervals work out to are their ends in the free De Morgan algebra: `ends_alike`.
use Rattle.std.specs.Prelude.{ℕ, ◌≡◌, refl, List, [], ◌∷◌, Bool, true, false, ◌&&◌, ◌||◌}
use Rattle.std.proofs.Common.{sym, ap, ◌∙◌, subst}
use Rattle.walk.specs.Syntax.{Interval, I0, I1, Dim, Neg, Meet, Join}
use Rattle.walk.specs.Judgment.{Judgment, iend}
use Rattle.walk.specs.Rules.{by_iend_0, by_iend_1, by_iend_neg_0, by_iend_neg_1, by_iend_meet_0, by_iend_meet_1, by_iend_meet_2, by_iend_join_0, by_iend_join_1, by_iend_join_2}
use Rattle.walk.specs.Walk.Reference.{End, E0, E1}
use Rattle.walk.specs.Walk.Endpoints.{literal}
use Rattle.order.specs.Algebra.{Among, first, further, Derivable, by, ◌≈◌, same, back, via, in_neg, in_meet, in_join, meet_turned, join_turned, meet_grouped, join_grouped, meet_absorbs, join_absorbs, meet_over_join, meet_one, join_zero, neg_neg, neg_meet, neg_zero, Four, not, neg, meet, join, value, middle, EndsAlike}

-- a derivation is a chain of laws

zero_meet : {r : Interval} → Meet I0 r ≈ I0
zero_meet = via (in_meet same (back (via join_turned join_zero))) meet_absorbs

one_join : {r : Interval} → Join I1 r ≈ I1
one_join = via (in_join same (back (via meet_turned meet_one))) join_absorbs

neg_one : Neg I1 ≈ I0
neg_one = via (in_neg (back neg_zero)) neg_neg

pub equal : {r e : Interval} → Derivable (iend r e) → r ≈ e
equal (by by_iend_0 ts) = same
equal (by by_iend_1 ts) = same
equal (by by_iend_neg_0 ts) = via (in_neg (equal (ts _ first))) neg_zero
equal (by by_iend_neg_1 ts) = via (in_neg (equal (ts _ first))) neg_one
equal (by by_iend_meet_0 ts) = via (in_meet (equal (ts _ first)) same) zero_meet
equal (by by_iend_meet_1 ts) = via meet_turned (via (in_meet (equal (ts _ first)) same) zero_meet)
equal (by by_iend_meet_2 ts) = via (in_meet (equal (ts _ first)) (equal (ts _ (further first)))) meet_one
equal (by by_iend_join_0 ts) = via (in_join (equal (ts _ first)) same) one_join
equal (by by_iend_join_1 ts) = via join_turned (via (in_join (equal (ts _ first)) same) one_join)
equal (by by_iend_join_2 ts) = via (in_join (equal (ts _ first)) (equal (ts _ (further first)))) join_zero

-- what is equal by the laws has one value: each law, of truth values

and_turned : (a b : Bool) → (a && b) ≡ (b && a)
and_turned true true = refl
and_turned true false = refl
and_turned false true = refl
and_turned false false = refl

or_turned : (a b : Bool) → (a || b) ≡ (b || a)
or_turned true true = refl
or_turned true false = refl
or_turned false true = refl
or_turned false false = refl

and_grouped : (a b c : Bool) → ((a && b) && c) ≡ (a && (b && c))
and_grouped true b c = refl
and_grouped false b c = refl

or_grouped : (a b c : Bool) → ((a || b) || c) ≡ (a || (b || c))
or_grouped true b c = refl
or_grouped false b c = refl

and_absorbs : (a b : Bool) → (a && (a || b)) ≡ a
and_absorbs true b = refl
and_absorbs false b = refl

or_absorbs : (a b : Bool) → (a || (a && b)) ≡ a
or_absorbs true b = refl
or_absorbs false b = refl

and_over_or : (a b c : Bool) → (a && (b || c)) ≡ ((a && b) || (a && c))
and_over_or true b c = refl
and_over_or false b c = refl

and_one : (a : Bool) → (a && true) ≡ a
and_one true = refl
and_one false = refl

or_zero : (a : Bool) → (a || false) ≡ a
or_zero true = refl
or_zero false = refl

not_not : (a : Bool) → not (not a) ≡ a
not_not true = refl
not_not false = refl

not_and : (a b : Bool) → not (a && b) ≡ (not a || not b)
not_and true b = refl
not_and false b = refl

-- in both places
both : {a b c d : Bool} → a ≡ c → b ≡ d → ◌≡◌ {A = Four} (a, b) (c, d)
both p q = rw (p, q)

pub valued : {r s : Interval} → r ≈ s → (v : ℕ → Four) → value v r ≡ value v s
valued same v = refl
valued (back e) v = sym (valued e v)
valued (via e f) v = valued e v ∙ valued f v
valued (in_neg e) v = ap neg (valued e v)
valued (in_meet e f) v = rw (valued e v, valued f v)
valued (in_join e f) v = rw (valued e v, valued f v)
valued (meet_turned {r} {s}) v = let x = value v r in let y = value v s in both (and_turned x.0 y.0) (and_turned x.1 y.1)
valued (join_turned {r} {s}) v = let x = value v r in let y = value v s in both (or_turned x.0 y.0) (or_turned x.1 y.1)
valued (meet_grouped {r} {s} {t}) v = let x = value v r in let y = value v s in let z = value v t in both (and_grouped x.0 y.0 z.0) (and_grouped x.1 y.1 z.1)
valued (join_grouped {r} {s} {t}) v = let x = value v r in let y = value v s in let z = value v t in both (or_grouped x.0 y.0 z.0) (or_grouped x.1 y.1 z.1)
valued (meet_absorbs {r} {s}) v = let x = value v r in let y = value v s in both (and_absorbs x.0 y.0) (and_absorbs x.1 y.1)
valued (join_absorbs {r} {s}) v = let x = value v r in let y = value v s in both (or_absorbs x.0 y.0) (or_absorbs x.1 y.1)
valued (meet_over_join {r} {s} {t}) v = let x = value v r in let y = value v s in let z = value v t in both (and_over_or x.0 y.0 z.0) (and_over_or x.1 y.1 z.1)
valued (meet_one {r}) v = let x = value v r in both (and_one x.0) (and_one x.1)
valued (join_zero {r}) v = let x = value v r in both (or_zero x.0) (or_zero x.1)
valued (neg_neg {r}) v = let x = value v r in both (not_not x.0) (not_not x.1)
valued (neg_meet {r} {s}) v = let x = value v r in let y = value v s in both (not_and x.1 y.1) (not_and x.0 y.0)
valued neg_zero v = refl

-- Where every dimension is worth a middle element, working out and valuing are the same: what is worth an end works out to it, and nothing is
-- worth the other middle element.

abbrev Worth : Interval → Four → Type 0
Worth r (false, false) = Derivable (iend r I0)
Worth r (true, true) = Derivable (iend r I1)
Worth r (true, false) = Unit {0}
Worth r (false, true) = ⊥

no_premise : (k : Judgment) → Among k [] → Derivable k
no_premise k = elim [ ]

one : {a : Judgment} → Derivable a → (k : Judgment) → Among k (a ∷ []) → Derivable k
one d k first = d
one d k (further h) = elim h [ ]

two : {a b : Judgment} → Derivable a → Derivable b → (k : Judgment) → Among k (a ∷ b ∷ []) → Derivable k
two d f k first = d
two d f k (further first) = f
two d f k (further (further h)) = elim h [ ]

of_neg : (r : Interval) (x : Four) → Worth r x → Worth (Neg r) (neg x)
of_neg r (false, false) d = by by_iend_neg_0 (one d)
of_neg r (true, true) d = by by_iend_neg_1 (one d)
of_neg r (true, false) d = tt
of_neg r (false, true) d = d

of_meet : (r s : Interval) (x y : Four) → Worth r x → Worth s y → Worth (Meet r s) (meet x y)
of_meet r s (false, false) y d f = by by_iend_meet_0 (one d)
of_meet r s (true, true) (false, false) d f = by by_iend_meet_1 (one f)
of_meet r s (true, true) (true, true) d f = by by_iend_meet_2 (two d f)
of_meet r s (true, true) (true, false) d f = tt
of_meet r s (true, true) (false, true) d f = f
of_meet r s (true, false) (false, false) d f = by by_iend_meet_1 (one f)
of_meet r s (true, false) (true, true) d f = tt
of_meet r s (true, false) (true, false) d f = tt
of_meet r s (true, false) (false, true) d f = absurd f
of_meet r s (false, true) y d f = absurd d

of_join : (r s : Interval) (x y : Four) → Worth r x → Worth s y → Worth (Join r s) (join x y)
of_join r s (true, true) y d f = by by_iend_join_0 (one d)
of_join r s (false, false) (true, true) d f = by by_iend_join_1 (one f)
of_join r s (false, false) (false, false) d f = by by_iend_join_2 (two d f)
of_join r s (false, false) (true, false) d f = tt
of_join r s (false, false) (false, true) d f = f
of_join r s (true, false) (true, true) d f = by by_iend_join_1 (one f)
of_join r s (true, false) (false, false) d f = tt
of_join r s (true, false) (true, false) d f = tt
of_join r s (true, false) (false, true) d f = absurd f
of_join r s (false, true) y d f = absurd d

worth : (r : Interval) → Worth r (value middle r)
worth I0 = by by_iend_0 no_premise
worth I1 = by by_iend_1 no_premise
worth (Dim n) = tt
worth (Neg r) = of_neg r (value middle r) (worth r)
worth (Meet r s) = of_meet r s (value middle r) (value middle s) (worth r) (worth s)
worth (Join r s) = of_join r s (value middle r) (value middle s) (worth r) (worth s)

pub derived : (r : Interval) (e : End) → value middle r ≡ value middle (literal e) → Derivable (iend r (literal e))
derived r E0 q = subst (Worth r) q (worth r)
derived r E1 q = subst (Worth r) q (worth r)

pub ends_alike : (r : Interval) (e : End) → EndsAlike r e
ends_alike r e = record { by_laws = equal; by_values = valued; by_rules = λ h. derived r e (h middle) }
