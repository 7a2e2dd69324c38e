-- Code 7 beside code 4. What a reader has to believe is `first`: the first term that a call of either code goes to, if it goes anywhere.
-- `same_first`: sent with the same bytes after the code at the same spot of a run, and neither refused, code 7 reduces wherever code 4 does,
-- and to the same first term.
use Rattle.std.specs.Prelude.{ℕ, zero, suc, ◌≡◌, List, [], ◌∷◌, ◌++◌, Bool, true, false}
use Rattle.std.proofs.Math.Path.{refl}
use Rattle.std.proofs.Common.{sym, ◌∙◌, arith}
use Rattle.std.proofs.Math.Option.{Option, none, some}
use Rattle.walk.specs.Syntax.{Term, Context, Nil}
use Rattle.walk.specs.Rule as R
use Rattle.walk.specs.Refusal as Refusal
use Rattle.walk.specs.State.{State, Thing, Outcome, done, refused, M, go_on, ◌>>=◌, pure, refuse, from◌get◌or◌, of_term, of_context, count_all, emit, with_deepest, note, enter}
use Rattle.walk.specs.Walk.Reference.{Step, Callees}
use Rattle.walk.specs.Walk.Equality.{equation, reduce_body, at_head, head_step_body, rounds, normal_by, normalize_body, head_normalize_body}
use Rattle.walk.specs.Walk.{none_left, entered, callees_by, one_more, callees}
use Rattle.walk.specs.Reader.{Call}
use Rattle.walk.specs.Run.{scope_of, nth}
use Rattle.order.specs.Deeper.{Agree, both_done, both_refused, nested, AllAlike, deeper}
use Rattle.link.specs.Match.{Absorbs, absorbs_entered}

-- the step of code 4, and that of code 7
abbrev pub step_of : Callees → Bool → ℕ → Context → Term → M (Option Step)
step_of c false d g = c.reduce d g
step_of c true d g = c.head_step d g

-- the walk of such a call as far as its first step: the term that this goes to, or none where it goes nowhere
unfoldable pub first_by : Callees → (Term → M (Option Step)) → ℕ → Context → Term → Term → M (Option Term)
first_by c step d g t ty = do
  typed ← c.check d g t ty
  _ ← emit R.eq_refl (typed ∷ []) (equation d g t t ty)
  next ← step t
  from next get (λ found. pure (some found.term)) or pure none

-- the same, entered, with so many left
unfoldable pub first_walk : ℕ → Bool → ℕ → Context → Term → Term → M (Option Term)
first_walk ℕ.zero heads d g t ty = refuse Refusal.nesting
first_walk (ℕ.suc n) heads d g t ty = enter n (of_context g ++ of_term t ++ of_term ty) (first_by (callees n) (step_of (callees n) heads d g) d g t ty)

-- what is answered, where nothing is refused
abbrev pub answered : Outcome (Option Term) → Option Term
answered (done o s) = o
answered (refused n s) = none

-- the first term of a call, from a state of a run: by code 7 where heads is true, else by code 4
abbrev pub first : Bool → Call → State → Option Term
first heads call s = answered (first_walk s.limit heads call.dims (scope_of Nil call.types) (nth call.terms 0) (nth call.terms 1) (with_deepest 0 s))

-- the function that a call of either code enters, and that it is not refused
abbrev pub whole : ℕ → Bool → ℕ → Context → Term → Term → M (Term × ℕ)
whole n false d g t ty = (callees n).normalize d g t ty
whole n true d g t ty = (callees n).head_normalize d g t ty

pub record Accepted (heads : Bool) (call : Call) (s : State) : Type 0 where
  pub value : Term × ℕ
  pub last : State
  pub walked : whole s.limit heads call.dims (scope_of Nil call.types) (nth call.terms 0) (nth call.terms 1) (with_deepest 0 s) ≡ done value last

-- two walks that start alike: where what they share is left
record Shared {A B C : Type 0} (m : M A) (f : A → M B) (h : A → M C) (s : State) (v : B) (s₁ : State) (w : C) (s₂ : State) : Type 0 where
  value : A
  between : State
  at : m s ≡ done value between
  left : f value between ≡ done v s₁
  right : h value between ≡ done w s₂

share : {A B C : Type 0} (m : M A) (f : A → M B) (h : A → M C) (s : State) (v : B) (s₁ : State) (w : C) (s₂ : State) → (m >>= f) s ≡ done v s₁ → (m >>= h) s ≡ done w s₂ → Shared m f h s v s₁ w s₂
unfolding ◌>>=◌ go_on
share {A} m f h s v s₁ w s₂ e e' = go (m s) refl e e'
  where
    go : (o : Outcome A) → m s ≡ o → go_on o f ≡ done v s₁ → go_on o h ≡ done w s₂ → Shared m f h s v s₁ w s₂
    go (done a t) q e e' = record { value = a; between = t; at = q; left = e; right = e' }
    go (refused n t) q e e' = let z : ◌≡◌ {A = ℕ} 0 1 = cc in absurd (omega arith)

-- what is done alike gives the same
same_value : {A : Type 0} {o o' : Outcome A} → Agree o o' → (v w : A) (s₁ s₂ : State) → o ≡ done v s₁ → o' ≡ done w s₂ → v ≡ w
same_value (both_done a s k) v w s₁ s₂ e e' = let x : a ≡ v = cc in let y : a ≡ w = cc in sym x ∙ y
same_value (both_refused n s k) v w s₁ s₂ e e' = let z : ◌≡◌ {A = ℕ} 0 1 = cc in absurd (omega arith)
same_value nested v w s₁ s₂ e e' = let z : ◌≡◌ {A = ℕ} 0 1 = cc in absurd (omega arith)

as_it_is : (s : State) → with_deepest s.deepest s ≡ s
unfolding with_deepest
as_it_is s = refl

-- where the root goes, the step of code 7 is that of code 4, though it enters `reduce` one level deeper
over : (c : Callees) (d : ℕ) (g : Context) (t : Term) (s s₁ s₂ : State) (step : Step) (next o : Option Step) → next ≡ some step → (from next get (λ found. pure (some found)) or at_head c d g t) s ≡ done o s₂ → o ≡ some step
unfolding from◌get◌or◌ pure
over c d g t s s₁ s₂ step next o q e = let e' = rw q at e in let z : some step ≡ o = cc in sym z

step_same : (n d : ℕ) (g : Context) (t : Term) (s s₁ s₂ : State) (step : Step) (o : Option Step) → (callees n).reduce d g t s ≡ done (some step) s₁ → (callees n).head_step d g t s ≡ done o s₂ → o ≡ some step
unfolding callees callees_by entered none_left refuse enter head_step_body
step_same ℕ.zero d g t s s₁ s₂ step o e f = let z : ◌≡◌ {A = ℕ} 0 1 = cc in absurd (omega arith)
step_same (ℕ.suc m) d g t s s₁ s₂ step o e f =
    let things = of_context g ++ of_term t in
    let a = share (note m) _ _ s (some step) s₁ o s₂ (sym ((absorbs_entered m things (reduce_body (callees m) d g t)).first_counted s) ∙ e) f in
    let b = share (count_all things) _ _ a.between (some step) s₁ o s₂ a.left a.right in
    let r = share ((callees m).reduce d g t) _ _ b.between o s₂ o s₂ b.right b.right in
    let x = b.between in
    over (callees m) d g t r.between s₁ s₂ step r.value o (same_value (((deeper m).reduce d g t).alike x x.deepest) r.value (some step) r.between s₁ r.at (rw (as_it_is x) b.left)) r.left

-- the first term of a step
term_of : (next o : Option Step) (step : Step) (u : Term) (s s₁ : State) → next ≡ some step → (from next get (λ found. pure (some found.term)) or pure none) s ≡ done (some u) s₁ → step.term ≡ u
unfolding from◌get◌or◌ pure
term_of next o step u s s₁ q e = let e' = rw q at e in cc

goes_somewhere : (next : Option Step) (u : Term) (s s₁ : State) (P : Type 0) → (from next get (λ found. pure (some found.term)) or pure none) s ≡ done (some u) s₁ → ((step : Step) → next ≡ some step → P) → P
unfolding from◌get◌or◌ pure
goes_somewhere (some step) u s s₁ P e k = k step refl
goes_somewhere none u s s₁ P e k = let z : ◌≡◌ {A = ℕ} 0 1 = cc in absurd (omega arith)

term_too : (next : Option Step) (step : Step) (o : Option Term) (s s₁ : State) → next ≡ some step → (from next get (λ found. pure (some found.term)) or pure none) s ≡ done o s₁ → o ≡ some step.term
unfolding from◌get◌or◌ pure
term_too next step o s s₁ q e = let e' = rw q at e in let z : some step.term ≡ o = cc in sym z

pub walks_same : (n d : ℕ) (g : Context) (t ty u : Term) (s s₁ s₂ : State) (o : Option Term) → first_walk n false d g t ty s ≡ done (some u) s₁ → first_walk n true d g t ty s ≡ done o s₂ → o ≡ some u
unfolding first_walk first_by enter refuse
walks_same ℕ.zero d g t ty u s s₁ s₂ o e f = let z : ◌≡◌ {A = ℕ} 0 1 = cc in absurd (omega arith)
walks_same (ℕ.suc n) d g t ty u s s₁ s₂ o e f =
    let a = share (note n) _ _ s (some u) s₁ o s₂ e f in
    let b = share (count_all (of_context g ++ of_term t ++ of_term ty)) _ _ a.between (some u) s₁ o s₂ a.left a.right in
    let k = share ((callees n).check d g t ty) _ _ b.between (some u) s₁ o s₂ b.left b.right in
    let r = share (emit R.eq_refl (k.value ∷ []) (equation d g t t ty)) _ _ k.between (some u) s₁ o s₂ k.left k.right in
    let x = share ((callees n).reduce d g t) _ _ r.between (some u) s₁ (some u) s₁ r.left r.left in
    let y = share ((callees n).head_step d g t) _ _ r.between o s₂ o s₂ r.right r.right in
    goes_somewhere x.value u x.between s₁ (o ≡ some u) x.left λ step q.
    let p = step_same n d g t r.between x.between y.between step y.value (rw q at x.at) y.at in
    let z = term_of x.value x.value step u x.between s₁ q x.left in
    rw z at (term_too y.value step o y.between s₂ p y.left)

-- what is put together of its two parts
joined : {A B : Type 0} (m : M A) (f : A → M B) (s : State) (a : A) (s' : State) (o : Outcome B) → m s ≡ done a s' → f a s' ≡ o → (m >>= f) s ≡ o
unfolding ◌>>=◌ go_on
joined m f s a s' o e k = rw e k

-- a walk that is not refused was not refused as far as its first step
record Begun (n : ℕ) (d : ℕ) (g : Context) (t ty : Term) (s : State) : Type 0 where
  term : Option Term
  last : State
  walked : first_walk n true d g t ty s ≡ done term last

abbrev from_step : Option Step → Option Term
from_step (some step) = some step.term
from_step none = none

ends : (next : Option Step) (s : State) → (from next get (λ found. pure (some found.term)) or pure none) s ≡ done (from_step next) s
unfolding from◌get◌or◌ pure
ends (some step) s = refl
ends none s = refl

begun : (n d : ℕ) (g : Context) (t ty : Term) (s : State) (v : Term × ℕ) (s' : State) → whole n true d g t ty s ≡ done v s' → Begun n d g t ty s
unfolding first_walk first_by callees callees_by entered none_left refuse enter head_normalize_body normal_by rounds
begun ℕ.zero d g t ty s v s' e = let z : ◌≡◌ {A = ℕ} 0 1 = cc in absurd (omega arith)
begun (ℕ.suc n) d g t ty s v s' e =
    let a = share (note n) _ _ s v s' v s' e e in
    let b = share (count_all (of_context g ++ of_term t ++ of_term ty)) _ _ a.between v s' v s' a.left a.left in
    let k = share ((callees n).check d g t ty) _ _ b.between v s' v s' b.left b.left in
    let r = share (emit R.eq_refl (k.value ∷ []) (equation d g t t ty)) _ _ k.between v s' v s' k.left k.left in
    let x = share ((callees n).head_step d g t) _ _ r.between v s' v s' r.left r.left in
    record {
      term = from_step x.value;
      last = x.between;
      walked = joined (note n) _ s a.value a.between _ a.at (joined (count_all (of_context g ++ of_term t ++ of_term ty)) _ a.between b.value b.between _ b.at (joined ((callees n).check d g t ty) _ b.between k.value k.between _ k.at (joined (emit R.eq_refl (k.value ∷ []) (equation d g t t ty)) _ k.between r.value r.between _ r.at (joined ((callees n).head_step d g t) _ r.between x.value x.between _ x.at (ends x.value x.between)))));
    }

-- Sent with the same bytes after the code at the same spot of a run: where code 4 reduces and code 7 is not refused, code 7 reduces, and to
-- the same first term. (That code 4 is not refused later is not needed.)
pub same_first : (call : Call) (s : State) (u : Term) → Accepted true call s → first false call s ≡ some u → first true call s ≡ some u
same_first call s u h e = go (first_walk s.limit false call.dims (scope_of Nil call.types) (nth call.terms 0) (nth call.terms 1) (with_deepest 0 s)) refl e
  where
    go : (o : Outcome (Option Term)) → first_walk s.limit false call.dims (scope_of Nil call.types) (nth call.terms 0) (nth call.terms 1) (with_deepest 0 s) ≡ o → answered o ≡ some u → first true call s ≡ some u
    go (refused n s') q e = let z : ◌≡◌ {A = ℕ} 0 1 = cc in absurd (omega arith)
    go (done o s') q e =
        let b = begun s.limit call.dims (scope_of Nil call.types) (nth call.terms 0) (nth call.terms 1) (with_deepest 0 s) h.value h.last h.walked in
        let p = walks_same s.limit call.dims (scope_of Nil call.types) (nth call.terms 0) (nth call.terms 1) u (with_deepest 0 s) s' b.last b.term (rw e at q) b.walked in
        rw b.walked p
