-- Working an interval out misses no end: `finds`, and `answers_derivable` and `no_end`.
use Rattle.std.specs.Prelude.{ℕ, ◌≡◌, refl, List, Bool, true, false, ◌&&◌, ◌||◌}
use Rattle.std.proofs.Common.{sym, ap, ◌∙◌, subst}
use Rattle.std.proofs.Math.Option.{Option, none, some}
use Rattle.walk.specs.Syntax.{Interval, I0, I1, Dim, Neg, Meet, Join}
use Rattle.walk.specs.Judgment.{iend}
use Rattle.walk.specs.State.{State, Thing, Outcome, done, refused, M, go_on, ◌>>=◌, pure, refuse, choose◌then◌else◌, from◌get◌or◌, note, enter}
use Rattle.walk.specs.Walk.Reference.{End, E0, E1, EndDiscrete, Callees}
use Rattle.walk.specs.Walk.Endpoints.{literal, other, worked_out, right_part, two_parts, endpoint_body}
use Rattle.walk.specs.Walk.{none_left, entered, callees_by, one_more, callees}
use Rattle.order.specs.Algebra.{Four, neg, meet, join, value, middle, Derivable}
use Rattle.order.specs.Finds.{worth, Said, Given, Gives, Finds}
use Rattle.order.proofs.Algebra.{equal, valued, derived}

bind : {A B : Type 0} {P : A → Type 0} {Q : B → Type 0} {m : M A} {f : A → M B} → Gives P m → ((a : A) → P a → Gives Q (f a)) → Gives Q (m >>= f)
unfolding ◌>>=◌ go_on
bind {A = A} {P = P} {Q = Q} {m = m} {f = f} h k = record { gives = λ s. go (m s) (h.gives s) }
  where
    go : (o : Outcome A) → Given P o → Given Q (go_on o f)
    go (done a s) p = (k a p).gives s
    go (refused n s) p = tt

giving : {A : Type 0} {P : A → Type 0} (a : A) → P a → Gives P (pure a)
unfolding pure
giving a p = record { gives = λ s. p }

refusing : {A : Type 0} {P : A → Type 0} (n : ℕ) → Gives {A = A} P (refuse n)
unfolding refuse
refusing n = record { gives = λ s. tt }

whatever : {A : Type 0} (m : M A) → Gives (λ (_ : A). Unit {0}) m
whatever {A} m = record { gives = λ s. go (m s) }
  where
    go : (o : Outcome A) → Given (λ (_ : A). Unit {0}) o
    go (done a s) = tt
    go (refused n s) = tt

branches : {D A : Type 0} {P : A → Type 0} {x y : M A} (d : Dec D) → (D → Gives P x) → ((D → ⊥) → Gives P y) → Gives P (choose d then x else y)
unfolding choose◌then◌else◌
branches (yes p) h k = h p
branches (no p) h k = k p

gets : {A B : Type 0} {P : B → Type 0} {f : A → M B} {z : M B} (o : Option A) → ((a : A) → o ≡ some a → Gives P (f a)) → (o ≡ none → Gives P z) → Gives P (from o get f or z)
unfolding from◌get◌or◌
gets (some a) h k = h a refl
gets none h k = k refl

entering : {A : Type 0} {P : A → Type 0} {m : M A} (n : ℕ) (xs : List Thing) → Gives P m → Gives P (enter n xs m)
unfolding enter
entering n xs h = bind (whatever _) λ _ _. bind (whatever _) λ _ _. h

worked : (r : Interval) (e : End) (rule : ℕ) (refs : List ℕ) → value middle r ≡ worth e → Gives (Said r) (worked_out r e rule refs)
unfolding worked_out
worked r e rule refs q = bind (whatever _) λ _ _. bind (whatever _) λ row _. giving (some (e, row)) q

other_end : (e f : End) → (e ≡ f → ⊥) → e ≡ other f
other_end E0 E0 n = absurd (n refl)
other_end E0 E1 n = refl
other_end E1 E0 n = refl
other_end E1 E1 n = absurd (n refl)

neg_worth : (e : End) → neg (worth e) ≡ worth (other e)
neg_worth E0 = refl
neg_worth E1 = refl

-- how an operation is decided by an end, and what it makes of the others
record Decides (op : Four → Four → Four) (enough : End) : Type 0 where
  left : (y : Four) → op (worth enough) y ≡ worth enough
  right : (x : Four) → op x (worth enough) ≡ worth enough
  both : op (worth (other enough)) (worth (other enough)) ≡ worth (other enough)
  left_alone : op (worth (other enough)) (true, false) ≡ (true, false)
  right_alone : op (true, false) (worth (other enough)) ≡ (true, false)
  neither : op (true, false) (true, false) ≡ (true, false)

and_false : (a : Bool) → (a && false) ≡ false
and_false true = refl
and_false false = refl

or_true : (a : Bool) → (a || true) ≡ true
or_true true = refl
or_true false = refl

pairs : {a b c d : Bool} → a ≡ c → b ≡ d → ◌≡◌ {A = Four} (a, b) (c, d)
pairs p q = rw (p, q)

meets : Decides meet E0
meets = record { left = λ y. refl; right = λ x. pairs (and_false x.0) (and_false x.1); both = refl; left_alone = refl; right_alone = refl; neither = refl }

joins : Decides join E1
joins = record { left = λ y. refl; right = λ x. pairs (or_true x.0) (or_true x.1); both = refl; left_alone = refl; right_alone = refl; neither = refl }

-- what is known of the left part, where it was not enough
abbrev Left : End → Option ℕ → Four → Type 0
Left enough none x = x ≡ (true, false)
Left enough (some n) x = x ≡ worth (other enough)

module _ (c : Callees) (F : Finds c) where
  module _ (op : Four → Four → Four) (enough : End) (D : Decides op enough) (r a b : Interval) (q : value middle r ≡ op (value middle a) (value middle b)) (rule : ℕ) where
    with_parts : {x y z : Four} → value middle a ≡ x → value middle b ≡ y → op x y ≡ z → value middle r ≡ z
    with_parts p p' e = q ∙ ap (λ x. op x (value middle b)) p ∙ ap (op _) p' ∙ e

    none_left_over : (left : Option ℕ) → Left enough left (value middle a) → value middle b ≡ (true, false) → value middle r ≡ (true, false)
    none_left_over none l p = with_parts l p D.neither
    none_left_over (some n) l p = with_parts l p D.left_alone

    right_part_finds : (left : Option ℕ) → Left enough left (value middle a) → Gives (Said r) (right_part c r b enough rule left)
    unfolding right_part
    right_part_finds left l =
        bind (F.endpoint b) λ o p.
        gets o
        (λ of i.
        let p' : value middle b ≡ worth of.0 = subst (Said b) i p in
        branches (EndDiscrete of.0 enough)
        (λ e. worked r enough rule _ (with_parts refl (p' ∙ ap worth e) (D.right _)))
        (λ e.
        let p'' = p' ∙ ap worth (other_end of.0 enough e) in
        gets left
        (λ n j. worked r (other enough) rule _ (with_parts (subst (λ o. Left enough o (value middle a)) j l) p'' D.both))
        (λ j. giving none (with_parts (subst (λ o. Left enough o (value middle a)) j l) p'' D.right_alone))))
        (λ i. giving none (none_left_over left l (subst (Said b) i p)))

    two_parts_finds : Gives (Said r) (two_parts c r a b enough rule)
    unfolding two_parts
    two_parts_finds =
        bind (F.endpoint a) λ o p.
        gets o
        (λ of i.
        let p' : value middle a ≡ worth of.0 = subst (Said a) i p in
        branches (EndDiscrete of.0 enough)
        (λ e. worked r enough rule _ (with_parts (p' ∙ ap worth e) refl (D.left _)))
        (λ e. right_part_finds (some of.1) (p' ∙ ap worth (other_end of.0 enough e))))
        (λ i. right_part_finds none (subst (Said a) i p))

  endpoint_finds : (r : Interval) → Gives (Said r) (endpoint_body c r)
  unfolding endpoint_body
  endpoint_finds I0 = worked I0 E0 _ _ refl
  endpoint_finds I1 = worked I1 E1 _ _ refl
  endpoint_finds (Dim n) = giving none refl
  endpoint_finds (Neg a) =
      bind (F.endpoint a) λ o p.
      gets o
      (λ of i. worked (Neg a) (other of.0) _ _ (ap neg (subst (Said a) i p) ∙ neg_worth of.0))
      (λ i. giving none (ap neg (subst (Said a) i p)))
  endpoint_finds (Meet a b) = two_parts_finds meet E0 meets (Meet a b) a b refl _
  endpoint_finds (Join a b) = two_parts_finds join E1 joins (Join a b) a b refl _

-- with n entries left
pub finds : (n : ℕ) → Finds (callees n)
unfolding callees callees_by none_left entered
finds ℕ.zero = record { endpoint = λ r. refusing _ }
finds (ℕ.suc n) = record { endpoint = λ r. entering n _ (endpoint_finds (callees n) (finds n) r) }

-- an end that is answered is the one that is derivable, and where none is answered none is
pub answers_derivable : (r : Interval) (e : End) (x : ℕ) → Said r (some (e, x)) → Derivable (iend r (literal e))
answers_derivable r e x q = derived r e q

apart : ◌≡◌ {A = Bool} true false → ⊥
apart z = subst (λ b. elim b as (λ _. Type 0) [ true ↦ Unit {0} | false ↦ ⊥ ]) z tt

not_worth : (e : End) → ◌≡◌ {A = Four} (true, false) (worth e) → ⊥
not_worth E0 i = apart (ap (λ (x : Four). x.0) i)
not_worth E1 i = apart (sym (ap (λ (x : Four). x.1) i))

pub no_end : (r : Interval) (e : End) → Said r none → Derivable (iend r (literal e)) → ⊥
no_end r e q d = not_worth e (sym q ∙ valued (equal d) middle)
