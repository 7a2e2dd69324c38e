-- The walk's `transform`, `itransform` and `under`, where they are not refused, give what the functions of Transforms give: `results`.
-- So does the guarded walk (`guarded_results`), and it is the walk while every number is far from the guard (`exact_results`). One proof:
-- over any way to make the next number, one line for each line of the body that it is about.
use Rattle.std.specs.Prelude.{ℕ, suc, ◌+◌, ◌≤◌, ◌<◌, max, ◌≡◌, List, Bool}
use Rattle.std.proofs.Math.Path.{refl}
use Rattle.std.proofs.Math.Bool.{true, false}
use Rattle.std.proofs.Math.Decide.{ℕ_discrete, dec_lt, dec_le}
use Rattle.std.proofs.Common.{arith}
use Rattle.walk.specs.Syntax.{Interval, I0, I1, Dim, Neg, Meet, Join, Term, Universe, Var, Nat, Zero, Pi, Lam, App, Path, PathLam, PathApp, Sigma, Pair, Fst, Snd}
use Rattle.walk.specs.State.{Thing, Outcome, done, refused, M, go_on, ◌>>=◌, pure, refuse, choose◌then◌else◌, enter}
use Rattle.walk.specs.Walk.Reference.{Op, Shift, Subst, DShift, DSubst, IOp, IShift, ISubst, Callees}
use Rattle.walk.specs.Walk.Numbers.{lt_by, le_by, comparison_body}
use Rattle.walk.specs.Walk.Intervals.{ifinish, idim_above, idim, itransform_body}
use Rattle.walk.specs.Walk.Transforms.{under_body, finish, tvar_above, tvar, tinterval, tbinder, tprojection, transform_body}
use Rattle.walk.specs.Walk.{none_left, entered, callees_by, one_more, callees}
use Rattle.order.specs.Numbers.{interval_top, term_top}
use Rattle.order.specs.Guarded.{beyond, bump_to, guarded_to}
use Rattle.laws.specs.Indices.{put}
use Rattle.laws.proofs.Indices.{up_below, up_above, put_at, put_below, put_above}
use Rattle.laws.specs.Transforms.{itransform, at_dim, at_var, at_interval, transform_with, transform, under}
use Rattle.laws.proofs.Squares.{lifted_is}
use Rattle.laws.specs.Tops.{place_top, call_top, icall_top}
use Rattle.laws.proofs.Tops.{under_top}
use Rattle.laws.specs.Results.{Gave, Gives, AnyValue, GivesTerm, GivesInterval, GivesOp, Falls, Results, Any, Far, Called, ICalled}

-- one lemma for each combinator

module _ {A : Type 0} {Q P : A → Type 0} where
  bind :
      {B : Type 0} {Q' P' : B → Type 0} {m e : M A} {f g : A → M B} →
      Gives m e Q P → ((a : A) → Q a → P a → Gives (f a) (g a) Q' P') → Gives (m >>= f) (e >>= g) Q' P'
  unfolding ◌>>=◌ go_on
  bind {B = B} {Q' = Q'} {P' = P'} {m = m} {e = e} {f = f} {g = g} h k = record {
    gives = λ s. value (m s) (h.gives s) (h.small s);
    small = λ s. numbers (m s) (h.gives s) (h.small s);
    same = λ s. rw (h.same s) (alike (m s) (h.gives s) (h.small s));
  }
    where
      value : (o : Outcome A) → Gave Q o → Gave P o → Gave Q' (go_on o f)
      value (done a s) q p = (k a q p).gives s
      value (refused n s) q p = tt

      numbers : (o : Outcome A) → Gave Q o → Gave P o → Gave P' (go_on o f)
      numbers (done a s) q p = (k a q p).small s
      numbers (refused n s) q p = tt

      alike : (o : Outcome A) → Gave Q o → Gave P o → go_on o g ≡ go_on o f
      alike (done a s) q p = (k a q p).same s
      alike (refused n s) q p = refl

  giving : (a : A) → P a → Q a → Gives (pure a) (pure a) Q P
  unfolding pure
  giving a p q = record { gives = λ s. q; small = λ s. p; same = λ s. refl }

  refusing : (n : ℕ) → Gives (refuse n) (refuse n) Q P
  unfolding refuse
  refusing n = record { gives = λ s. tt; small = λ s. tt; same = λ s. refl }

  branch :
      {D : Type 0} {x y x' y' : M A} (d : Dec D) →
      (D → Gives x x' Q P) → ((D → ⊥) → Gives y y' Q P) → Gives (choose d then x else y) (choose d then x' else y') Q P
  unfolding choose◌then◌else◌
  branch (yes h) f g = f h
  branch (no h) f g = g h

-- of rows and cells nothing is asked
any : {A : Type 0} (m : M A) → Gives m m AnyValue AnyValue
any {A = A} m = record { gives = λ s. go (m s); small = λ s. go (m s); same = λ s. refl }
  where
    go : (o : Outcome A) → Gave AnyValue o
    go (done a s) = tt
    go (refused n s) = tt

module _ {A : Type 0} {Q P : A → Type 0} where
  after : {B : Type 0} (m : M B) {f g : B → M A} → ((b : B) → Gives (f b) (g b) Q P) → Gives (m >>= f) (m >>= g) Q P
  after m k = bind (any m) λ b _ _. k b

  entering : (n : ℕ) (xs : List Thing) {m e : M A} → Gives m e Q P → Gives (enter n xs m) (enter n xs e) Q P
  unfolding enter
  entering n xs h = after _ λ _. after _ λ _. h

finished :
    {t out : Term} {most : ℕ} (r : Term) (op : Op) (rule : ℕ) (refs : List ℕ) → term_top out ≤ most → out ≡ t →
    GivesTerm (finish r op out rule refs) (finish r op out rule refs) t most
unfolding finish
finished r op rule refs l e = after _ λ _. after _ λ row. giving _ l e

ifinished :
    {q out : Interval} {most : ℕ} (r : Interval) (op : IOp) (rule : ℕ) (refs : List ℕ) → interval_top out ≤ most → out ≡ q →
    GivesInterval (ifinish r op out rule refs) (ifinish r op out rule refs) q most
unfolding ifinish
ifinished r op rule refs l e = after _ λ _. after _ λ row. giving _ l e

weaker : {m e : M (Term × ℕ)} {x : Term} {a b : ℕ} → GivesTerm m e x a → a ≤ b → GivesTerm m e x b
weaker {m} {a = a} {b = b} h l = record { gives = h.gives; small = λ s. go (m s) (h.small s); same = h.same }
  where
    go : (o : Outcome (Term × ℕ)) → Gave (λ o. term_top o.0 ≤ a) o → Gave (λ o. term_top o.0 ≤ b) o
    go (done x s) k = omega arith
    go (refused n s) k = tt

three : {x y z m : ℕ} → x ≤ m → y ≤ m → z ≤ m → max x (max y z) ≤ m
three p q r = omega arith

module _ (Fine : ℕ → ℕ → Type 0) (F : Falls Fine) (n : ℕ) (c e : Callees) (R : Results Fine n c e) where
  lt_by_gives : (m k : ℕ) → Gives (lt_by c m k) (lt_by e m k) AnyValue AnyValue
  unfolding lt_by
  lt_by_gives m ℕ.zero = refusing _
  lt_by_gives ℕ.zero (ℕ.suc k) = any _
  lt_by_gives (ℕ.suc m) (ℕ.suc k) = bind (R.comparison m k true) λ _ _ _. any _

  le_by_gives : (m k : ℕ) → Gives (le_by c m k) (le_by e m k) AnyValue AnyValue
  unfolding le_by
  le_by_gives ℕ.zero k = any _
  le_by_gives (ℕ.suc m) ℕ.zero = refusing _
  le_by_gives (ℕ.suc m) (ℕ.suc k) = bind (R.comparison m k false) λ _ _ _. any _

  comparison_gives : (m k : ℕ) (strict : Bool) → Gives (comparison_body c m k strict) (comparison_body e m k strict) AnyValue AnyValue
  unfolding comparison_body
  comparison_gives m k true = branch (dec_lt m k) (λ _. lt_by_gives m k) (λ _. refusing _)
  comparison_gives m k false = branch (dec_le m k) (λ _. le_by_gives m k) (λ _. refusing _)

  idim_above_gives :
      (i k : ℕ) (q : Interval) {most : ℕ} → k < i → i ≤ suc most →
      GivesInterval (idim_above c i k q) (idim_above e i k q) (put Dim k q i) most
  unfolding idim_above
  idim_above_gives ℕ.zero k q l m = refusing _
  idim_above_gives (ℕ.suc i) k q l m =
      bind (R.comparison _ _ _) λ _ _ _. ifinished _ _ _ _ (omega arith) (rw (put_above Dim k q i (omega arith)))

  idim_gives : (i : ℕ) (op : IOp) → Fine n i → GivesInterval (idim c i op) (idim e i op) (at_dim op i) (icall_top (Dim i) op + suc n)
  unfolding idim
  idim_gives i (IShift k) f = branch (dec_lt i k)
      (λ h. bind (R.comparison _ _ _) λ _ _ _. ifinished _ _ _ _ (omega arith) (rw (up_below k i h)))
      (λ h. bind (R.comparison _ _ _) λ _ _ _.
      bind (R.more i f) λ i' g _. ifinished _ _ _ _ (omega arith) (rw (up_above k i (omega arith), g)))
  idim_gives i (ISubst k q) f = branch (ℕ_discrete i k)
      (λ h. ifinished _ _ _ _ (omega arith) (rw (put_at Dim k q i h)))
      (λ g. branch (dec_lt i k)
      (λ h. bind (R.comparison _ _ _) λ _ _ _. ifinished _ _ _ _ (omega arith) (rw (put_below Dim k q i h)))
      (λ h. idim_above_gives i k q (omega arith) (omega arith)))

  itransform_gives :
      (r : Interval) (op : IOp) → Fine (suc n) (icall_top r op) →
      GivesInterval (itransform_body c r op) (itransform_body e r op) (itransform op r) (icall_top r op + suc n)
  unfolding itransform_body itransform
  itransform_gives I0 op f = ifinished _ _ _ _ (omega arith) refl
  itransform_gives I1 op f = ifinished _ _ _ _ (omega arith) refl
  itransform_gives (Dim i) op f = idim_gives i op (F.next (omega arith) f)
  itransform_gives (Neg a) op f = bind (R.itransform a op (F.next (omega arith) f)) λ o h l. ifinished _ _ _ _ (omega arith) cc
  itransform_gives (Meet a b) op f =
      bind (R.itransform a op (F.next (omega arith) f)) λ o₁ h₁ l₁.
      bind (R.itransform b op (F.next (omega arith) f)) λ o₂ h₂ l₂.
      ifinished _ _ _ _ (omega arith) cc
  itransform_gives (Join a b) op f =
      bind (R.itransform a op (F.next (omega arith) f)) λ o₁ h₁ l₁.
      bind (R.itransform b op (F.next (omega arith) f)) λ o₂ h₂ l₂.
      ifinished _ _ _ _ (omega arith) cc

  under_gives : (op : Op) (d : Bool) → Fine (suc n) (place_top op) → GivesOp (under_body c op d) (under_body e op d) (under op d)
  unfolding under_body
  under_gives (Shift k) false f = bind (R.more k (F.next (omega arith) f)) λ k' g _. giving _ tt cc
  under_gives (Shift k) true f = giving _ tt refl
  under_gives (Subst k r) false f =
      bind (R.transform r (Shift 0) (F.next (omega arith) f)) λ o h _.
      bind (R.more k (F.next (omega arith) f)) λ k' g _.
      giving _ tt (cc (lifted_is false r))
  under_gives (Subst k r) true f =
      bind (R.transform r (DShift 0) (F.next (omega arith) f)) λ o h _.
      giving _ tt (cc (lifted_is true r))
  under_gives (DShift k) false f = giving _ tt refl
  under_gives (DShift k) true f = bind (R.more k (F.next (omega arith) f)) λ k' g _. giving _ tt cc
  under_gives (DSubst k r) false f = giving _ tt refl
  under_gives (DSubst k r) true f =
      bind (R.itransform r (IShift 0) (F.next (omega arith) f)) λ o h _.
      bind (R.more k (F.next (omega arith) f)) λ k' g _.
      giving _ tt cc

  tvar_above_gives :
      (i k : ℕ) (r : Term) {most : ℕ} → k < i → i ≤ suc most →
      GivesTerm (tvar_above c i k r) (tvar_above e i k r) (put Var k r i) most
  unfolding tvar_above
  tvar_above_gives ℕ.zero k r l m = refusing _
  tvar_above_gives (ℕ.suc i) k r l m =
      bind (R.comparison _ _ _) λ _ _ _. finished _ _ _ _ (omega arith) (rw (put_above Var k r i (omega arith)))

  tvar_gives : (i : ℕ) (op : Op) → Fine n i → GivesTerm (tvar c i op) (tvar e i op) (at_var op i) (call_top (Var i) op + suc n)
  unfolding tvar
  tvar_gives i (Shift k) f = branch (dec_lt i k)
      (λ h. bind (R.comparison _ _ _) λ _ _ _. finished _ _ _ _ (omega arith) (rw (up_below k i h)))
      (λ h. bind (R.comparison _ _ _) λ _ _ _.
      bind (R.more i f) λ i' g _. finished _ _ _ _ (omega arith) (rw (up_above k i (omega arith), g)))
  tvar_gives i (Subst k r) f = branch (ℕ_discrete i k)
      (λ h. finished _ _ _ _ (omega arith) (rw (put_at Var k r i h)))
      (λ g. branch (dec_lt i k)
      (λ h. bind (R.comparison _ _ _) λ _ _ _. finished _ _ _ _ (omega arith) (rw (put_below Var k r i h)))
      (λ h. tvar_above_gives i k r (omega arith) (omega arith)))
  tvar_gives i (DShift k) f = finished _ _ _ _ (omega arith) refl
  tvar_gives i (DSubst k r) f = finished _ _ _ _ (omega arith) refl

  tinterval_gives :
      (r : Interval) (op : Op) {most : ℕ} → Fine n (max (place_top op) (interval_top r)) → max (place_top op) (interval_top r) + n ≤ most →
      GivesInterval (tinterval c r op) (tinterval e r op) (at_interval op r) most
  unfolding tinterval
  tinterval_gives r (Shift k) f m = giving _ (omega arith) refl
  tinterval_gives r (Subst k x) f m = giving _ (omega arith) refl
  tinterval_gives r (DShift k) f m = bind (R.itransform r (IShift k) f) λ o h l. giving _ (omega arith) h
  tinterval_gives r (DSubst k q) f m = bind (R.itransform r (ISubst k q) f) λ o h l. giving _ (omega arith) h

  -- a part under a binder, with what `under` gave for it
  part_gives :
      (t : Term) (op inner : Op) (d : Bool) {m : ℕ} → call_top t op ≤ m → inner ≡ under op d → Fine (suc n) m →
      Gives (c.transform t inner) (e.transform t inner) (λ o. o.0 ≡ transform (under op d) t) (λ o. term_top o.0 ≤ m + suc n)
  part_gives t op inner d l q f =
      let x = under_top op d in
      rw q (weaker (R.transform t (under op d) (F.next (omega arith) f)) (omega arith))

  tbinder_gives :
      (node : Term → Term → Term) (rule : Op → ℕ) (a b : Term) (op : Op) {m : ℕ} →
      ((x y : Term) → term_top (node x y) ≤ max (term_top x) (term_top y)) → call_top a op ≤ m → call_top b op ≤ m → Fine (suc n) m →
      GivesTerm (tbinder c node rule a b op) (tbinder e node rule a b op) (node (transform op a) (transform (under op false) b)) (m + suc n)
  unfolding tbinder
  tbinder_gives node rule a b op tops l k f =
      bind (R.transform a op (F.next (omega arith) f)) λ o₁ h₁ l₁.
      bind (R.under op false (F.next (omega arith) f)) λ o₂ h₂ _.
      bind (part_gives b op o₂.0 false k h₂ f) λ o₃ h₃ l₃.
      let x = tops o₁.0 o₃.0 in
      finished _ _ _ _ (omega arith) cc

  tprojection_gives :
      (node : Term → Term) (rule : Op → ℕ) (p : Term) (op : Op) →
      ((x : Term) → term_top (node x) ≤ term_top x) → Fine (suc n) (call_top p op) →
      GivesTerm (tprojection c node rule p op) (tprojection e node rule p op) (node (transform op p)) (call_top p op + suc n)
  unfolding tprojection
  tprojection_gives node rule p op tops f =
      bind (R.transform p op (F.next (omega arith) f)) λ o h l.
      let x = tops o.0 in
      finished _ _ _ _ (omega arith) cc

  transform_gives :
      (t : Term) (op : Op) → Fine (suc n) (call_top t op) →
      GivesTerm (transform_body c t op) (transform_body e t op) (transform op t) (call_top t op + suc n)
  unfolding transform_body transform_with
  transform_gives (Universe l) op f = finished _ _ _ _ (omega arith) refl
  transform_gives (Var i) op f = tvar_gives i op (F.next (omega arith) f)
  transform_gives Nat op f = finished _ _ _ _ (omega arith) refl
  transform_gives Zero op f = finished _ _ _ _ (omega arith) refl
  transform_gives (Pi a b) op f = tbinder_gives Pi _ a b op (λ x y. omega arith) (omega arith) (omega arith) f
  transform_gives (Lam a b) op f =
      bind (R.transform a op (F.next (omega arith) f)) λ o₁ h₁ l₁.
      bind (R.under op false (F.next (omega arith) f)) λ o₂ h₂ _.
      bind (part_gives b op o₂.0 false (omega arith) h₂ f) λ o₃ h₃ l₃.
      finished _ _ _ _ (omega arith) cc
  transform_gives (App g a) op f =
      bind (R.transform g op (F.next (omega arith) f)) λ o₁ h₁ l₁.
      bind (R.transform a op (F.next (omega arith) f)) λ o₂ h₂ l₂.
      finished _ _ _ _ (omega arith) cc
  transform_gives (Path a b z) op f =
      bind (R.under op true (F.next (omega arith) f)) λ o₁ h₁ _.
      bind (part_gives a op o₁.0 true (omega arith) h₁ f) λ o₂ h₂ l₂.
      bind (weaker (R.transform b op (F.next (omega arith) f)) (omega arith)) λ o₃ h₃ l₃.
      bind (weaker (R.transform z op (F.next (omega arith) f)) (omega arith)) λ o₄ h₄ l₄.
      finished _ _ _ _ (three l₂ l₃ l₄) cc
  transform_gives (PathLam a b) op f =
      bind (R.under op true (F.next (omega arith) f)) λ o₁ h₁ _.
      bind (part_gives a op o₁.0 true (omega arith) h₁ f) λ o₂ h₂ l₂.
      bind (part_gives b op o₁.0 true (omega arith) h₁ f) λ o₃ h₃ l₃.
      finished _ _ _ _ (omega arith) cc
  transform_gives (PathApp p r) op f =
      bind (R.transform p op (F.next (omega arith) f)) λ o₁ h₁ l₁.
      bind (tinterval_gives r op {most = call_top (PathApp p r) op + suc n} (F.next (omega arith) f) (omega arith)) λ o₂ h₂ l₂.
      finished _ _ _ _ (omega arith) cc
  transform_gives (Sigma a b) op f = tbinder_gives Sigma _ a b op (λ x y. omega arith) (omega arith) (omega arith) f
  transform_gives (Pair ty a b) op f =
      bind (weaker (R.transform ty op (F.next (omega arith) f)) (omega arith)) λ o₁ h₁ l₁.
      bind (weaker (R.transform a op (F.next (omega arith) f)) (omega arith)) λ o₂ h₂ l₂.
      bind (weaker (R.transform b op (F.next (omega arith) f)) (omega arith)) λ o₃ h₃ l₃.
      finished _ _ _ _ (three l₁ l₂ l₃) cc
  transform_gives (Fst p) op f = tprojection_gives Fst _ p op (λ x. omega arith) f
  transform_gives (Snd p) op f = tprojection_gives Snd _ p op (λ x. omega arith) f

  entered_results : Results Fine (suc n) (entered n c) (entered n e)
  unfolding entered
  entered_results = record {
    transform = λ t op f. entering n _ (transform_gives t op f);
    itransform = λ r op f. entering n _ (itransform_gives r op f);
    under = λ op d f. entering n _ (under_gives op d f);
    comparison = λ m k strict. entering n _ (comparison_gives m k strict);
    more = λ k f. R.more k (F.next (omega arith) f);
  }

-- the walk over any way to make the next number, m, and the same over e
module _ {Fine : ℕ → ℕ → Type 0} (F : Falls Fine) (m e : ℕ → M ℕ)
    (more : (n k : ℕ) → Fine n k → Gives (m k) (e k) (λ k'. k' ≡ suc k) AnyValue) where
  none_left_results : Results Fine 0 (none_left m) (none_left e)
  unfolding none_left
  none_left_results = record {
    transform = λ t op f. refusing _;
    itransform = λ r op f. refusing _;
    under = λ op d f. refusing _;
    comparison = λ m k strict. refusing _;
    more = λ k f. more 0 k f;
  }

  results_by : (n : ℕ) → Results Fine n (callees_by m n) (callees_by e n)
  unfolding callees_by
  results_by ℕ.zero = none_left_results
  results_by (ℕ.suc n) = entered_results Fine F n (callees_by m n) (callees_by e n) (results_by n)

any_falls : Falls Any
any_falls = record { next = λ l f. tt }

pub results : (n : ℕ) → Results Any n (callees n) (callees n)
unfolding callees one_more
results n = results_by any_falls one_more one_more (λ _ k _. giving (suc k) tt refl) n

pub guarded_results : (top n : ℕ) → Results Any n (guarded_to top n) (guarded_to top n)
unfolding bump_to
guarded_results top n =
    results_by any_falls (bump_to top) (bump_to top) (λ _ k _. branch (dec_lt k top) (λ _. giving (suc k) tt refl) (λ _. refusing _)) n

far_falls : (top : ℕ) → Falls (Far top)
far_falls top = record { next = λ l f. omega arith }

passed : (top k : ℕ) → k < top → Gives (bump_to top k) (one_more k) (λ k'. k' ≡ suc k) AnyValue
unfolding bump_to one_more choose◌then◌else◌
passed top k l = go (dec_lt k top)
  where
    go : (d : Dec (k < top)) → Gives (choose d then pure (suc k) else refuse beyond) (pure (suc k)) (λ k'. k' ≡ suc k) AnyValue
    go (yes h) = giving (suc k) tt refl
    go (no h) = absurd (h l)

pub exact_results : (top n : ℕ) → Results (Far top) n (guarded_to top n) (callees n)
unfolding callees
exact_results top n = results_by (far_falls top) (bump_to top) one_more (λ n k f. passed top k (omega arith)) n

pub gives : {t t' : Term} {op : Op} → Called t op t' → t' ≡ transform op t
gives {t = t} {op = op} c = rw c.call at (((results c.left).transform t op tt).gives c.from)

pub igives : {r r' : Interval} {op : IOp} → ICalled r op r' → r' ≡ itransform op r
igives {r = r} {op = op} c = rw c.call at (((results c.left).itransform r op tt).gives c.from)
