-- The ends that intervals work out to are their ends in the free De Morgan algebra, the 𝕀 of CCHM, section 3: `iend r e` has a derivation
-- exactly where r and e are equal by the laws of such an algebra, and exactly where r has the value e whatever its dimensions are worth in
-- the algebra of four elements: `EndsAlike`. That it is so is `ends_alike` of proofs/Algebra; that the walk finds these ends, in Finds.
use Rattle.std.specs.Prelude.{ℕ, ◌≡◌, List, [], ◌∷◌, Bool, true, false, ◌&&◌, ◌||◌}
use Rattle.walk.specs.Syntax.{Interval, I0, I1, Dim, Neg, Meet, Join}
use Rattle.walk.specs.Judgment.{Judgment, iend}
use Rattle.walk.specs.Rules.{Follows}
use Rattle.walk.specs.Walk.Reference.{End}
use Rattle.walk.specs.Walk.Endpoints.{literal}

-- A judgment has a derivation: a finite tree of rule steps ends in it.
pub data Among (j : Judgment) : List Judgment → Type 0 where
  first : {js : List Judgment} → Among j (j ∷ js)
  further : {k : Judgment} {js : List Judgment} → Among j js → Among j (k ∷ js)

pub data Derivable : Judgment → Type 0 where
  by : {rule : ℕ} {js : List Judgment} {j : Judgment} → Follows rule js j → ((k : Judgment) → Among k js → Derivable k) → Derivable j

-- Equal in the free De Morgan algebra: a bounded distributive lattice, whose negation is an involution that turns it round.
infix 10 ◌≈◌
pub data ◌≈◌ : Interval → Interval → Type 0 where
  same : {r : Interval} → r ≈ r
  back : {r s : Interval} → r ≈ s → s ≈ r
  via : {r s t : Interval} → r ≈ s → s ≈ t → r ≈ t
  in_neg : {r r' : Interval} → r ≈ r' → Neg r ≈ Neg r'
  in_meet : {r r' s s' : Interval} → r ≈ r' → s ≈ s' → Meet r s ≈ Meet r' s'
  in_join : {r r' s s' : Interval} → r ≈ r' → s ≈ s' → Join r s ≈ Join r' s'
  meet_turned : {r s : Interval} → Meet r s ≈ Meet s r
  join_turned : {r s : Interval} → Join r s ≈ Join s r
  meet_grouped : {r s t : Interval} → Meet (Meet r s) t ≈ Meet r (Meet s t)
  join_grouped : {r s t : Interval} → Join (Join r s) t ≈ Join r (Join s t)
  meet_absorbs : {r s : Interval} → Meet r (Join r s) ≈ r
  join_absorbs : {r s : Interval} → Join r (Meet r s) ≈ r
  meet_over_join : {r s t : Interval} → Meet r (Join s t) ≈ Join (Meet r s) (Meet r t)
  meet_one : {r : Interval} → Meet r I1 ≈ r
  join_zero : {r : Interval} → Join r I0 ≈ r
  neg_neg : {r : Interval} → Neg (Neg r) ≈ r
  neg_meet : {r s : Interval} → Neg (Meet r s) ≈ Join (Neg r) (Neg s)
  neg_zero : Neg I0 ≈ I1

-- The four elements are pairs of truth values, ordered in each place, and negation changes both the values and the places: so the two
-- between bottom and top, (true, false) and (false, true), are incomparable, and each is its own negation.
abbrev pub Four : Type 0
Four = Bool × Bool

abbrev pub not : Bool → Bool
not true = false
not false = true

abbrev pub neg : Four → Four
neg x = (not x.1, not x.0)

abbrev pub meet : Four → Four → Four
meet x y = (x.0 && y.0, x.1 && y.1)

abbrev pub join : Four → Four → Four
join x y = (x.0 || y.0, x.1 || y.1)

-- The value of an interval, where each dimension has one.
abbrev pub value : (ℕ → Four) → Interval → Four
value v I0 = (false, false)
value v I1 = (true, true)
value v (Dim n) = v n
value v (Neg r) = neg (value v r)
value v (Meet r s) = meet (value v r) (value v s)
value v (Join r s) = join (value v r) (value v s)

-- where each dimension is worth a middle element
abbrev pub middle : ℕ → Four
middle n = (true, false)

-- The three are one.
pub record EndsAlike (r : Interval) (e : End) : Type 0 where
  pub by_laws : Derivable (iend r (literal e)) → r ≈ literal e
  pub by_values : r ≈ literal e → (v : ℕ → Four) → value v r ≡ value v (literal e)
  pub by_rules : ((v : ℕ → Four) → value v r ≡ value v (literal e)) → Derivable (iend r (literal e))
