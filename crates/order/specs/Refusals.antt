-- How the functions below typing are refused, from any state. A transform, and what it calls, is refused where a row, an entry or a
-- cell is wanting, and for nothing else: the other refusals that stand in their bodies are never met. So is `endpoint`, which knows of no
-- dimension count. `interval` is refused besides
-- where a dimension is not below the dimension count, `lookup` where the context has no such variable.
use Rattle.std.specs.Prelude.{ℕ, suc, ◌≤◌, ◌<◌, List, [], ◌∷◌, Bool, length}
use Rattle.std.proofs.Math.Option.{Option, none, some}
use Rattle.std.proofs.Math.Bool.{true, false}
use Rattle.std.proofs.Math.Decide.{ℕ_discrete, dec_lt, dec_le}
use Rattle.std.proofs.Common.{arith}
use Rattle.walk.specs.Syntax.{Interval, I0, I1, Dim, Neg, Meet, Join, Term, Universe, Var, Nat, Zero, Pi, Lam, App, Path, PathLam, PathApp, Sigma, Pair, Fst, Snd, Context, Nil, Cons}
use Rattle.walk.specs.Judgment.{Judgment}
use Rattle.walk.specs.Refusal as Refusal
use Rattle.walk.specs.State.{Thing, State, Outcome, done, refused, M, go_on, looking, ◌>>=◌, pure, refuse, choose◌then◌else◌, from◌get◌or◌, row_of, push, emit, among, with_cell, count, count_all, note, enter}
use Rattle.walk.specs.Walk.Reference.{Op, Shift, Subst, DShift, DSubst, IOp, IShift, ISubst, End, EndDiscrete, Callees}
use Rattle.walk.specs.Walk.Numbers.{lt_by, le_by, comparison_body, max_body}
use Rattle.walk.specs.Walk.Intervals.{ifinish, idim_above, idim, itransform_body, interval_body}
use Rattle.walk.specs.Walk.Endpoints.{worked_out, right_part, two_parts, endpoint_body}
use Rattle.walk.specs.Walk.Transforms.{under_body, finish, tvar_above, tvar, tinterval, tbinder, tprojection, transform_body}
use Rattle.walk.specs.Walk.Contexts.{dshiftctx_body, lookup_body}
use Rattle.walk.specs.Walk.{none_left, entered, callees_by, one_more, callees}

-- a new row, an entry or a new cell that cannot be had
pub data Full : ℕ → Type 0 where
  no_row : Full Refusal.rows
  no_entry : Full Refusal.nesting
  no_cell : Full Refusal.cells

-- a dimension of the interval is not below d
pub data Outside (d : ℕ) : Interval → Type 0 where
  here : {n : ℕ} → d ≤ n → Outside d (Dim n)
  in_neg : {r : Interval} → Outside d r → Outside d (Neg r)
  in_left_meet : {r q : Interval} → Outside d r → Outside d (Meet r q)
  in_right_meet : {r q : Interval} → Outside d q → Outside d (Meet r q)
  in_left_join : {r q : Interval} → Outside d r → Outside d (Join r q)
  in_right_join : {r q : Interval} → Outside d q → Outside d (Join r q)

pub data OfInterval (d : ℕ) (r : Interval) : ℕ → Type 0 where
  full : {n : ℕ} → Full n → OfInterval d r n
  outside : Outside d r → OfInterval d r Refusal.dimension

-- a context of so many types
abbrev pub size : Context → ℕ
size Nil = 0
size (Cons a g) = suc (size g)

pub data OfLookup (g : Context) (k : ℕ) : ℕ → Type 0 where
  full : {n : ℕ} → Full n → OfLookup g k n
  unbound : size g ≤ k → OfLookup g k Refusal.unbound

-- m is refused with numbers of P only
abbrev pub Passes : {A : Type 0} → (ℕ → Type 0) → Outcome A → Type 0
Passes P (done a s) = Unit {0}
Passes P (refused n s) = P n

pub record Only {A : Type 0} (P : ℕ → Type 0) (m : M A) : Type 0 where
  pub only : (s : State) → Passes P (m s)

-- one lemma for each combinator

binds : {A B : Type 0} {P : ℕ → Type 0} {m : M A} {f : A → M B} → Only P m → ((a : A) → Only P (f a)) → Only P (m >>= f)
unfolding ◌>>=◌ go_on
binds {A = A} {P = P} {m = m} {f = f} h k = record { only = λ s. go (m s) (h.only s) }
  where
    go : (o : Outcome A) → Passes P o → Passes P (go_on o f)
    go (done a s) p = (k a).only s
    go (refused n s) p = p

gives : {A : Type 0} {P : ℕ → Type 0} (a : A) → Only P (pure a)
unfolding pure
gives a = record { only = λ s. tt }

refuses : {A : Type 0} {P : ℕ → Type 0} (n : ℕ) → P n → Only {A = A} P (refuse n)
unfolding refuse
refuses n p = record { only = λ s. p }

wider : {A : Type 0} {P Q : ℕ → Type 0} {m : M A} → ((n : ℕ) → P n → Q n) → Only P m → Only Q m
wider {A = A} {P = P} {Q = Q} {m = m} f h = record { only = λ s. go (m s) (h.only s) }
  where
    go : (o : Outcome A) → Passes P o → Passes Q o
    go (done a s) p = tt
    go (refused n s) p = f n p

branches : {D A : Type 0} {P : ℕ → Type 0} {x y : M A} (d : Dec D) → (D → Only P x) → ((D → ⊥) → Only P y) → Only P (choose d then x else y)
unfolding choose◌then◌else◌
branches (yes p) h k = h p
branches (no p) h k = k p

gets : {A B : Type 0} {P : ℕ → Type 0} {f : A → M B} {z : M B} (o : Option A) → ((a : A) → Only P (f a)) → Only P z → Only P (from o get f or z)
unfolding from◌get◌or◌
gets (some a) h k = h a
gets none h k = k

emits : (rule : ℕ) (refs : List ℕ) (j : Judgment) → Only Full (emit rule refs j)
unfolding emit looking pure push refuse choose◌then◌else◌ from◌get◌or◌
emits rule refs j = record { only = λ s. go s (row_of j s.rows) (dec_lt (length s.rows) s.row_room) }
  where
    go : (s : State) (o : Option ℕ) (d : Dec (length s.rows < s.row_room)) → Passes Full ((from o get pure or (choose d then push (record { rule = rule; refs = refs; judgment = j }) else refuse Refusal.rows)) s)
    go s (some n) d = tt
    go s none (yes h) = tt
    go s none (no h) = no_row

counts : (x : Thing) → Only Full (count x)
unfolding count
counts x = record { only = λ s. go s (among x s.cells) (dec_lt (length s.cells) s.cell_room) }
  where
    go : (s : State) (b : Bool) (d : Dec (length s.cells < s.cell_room)) → Passes {A = Unit {0}} Full (elim b as (λ _. Outcome (Unit {0})) [ true ↦ done tt s | false ↦ elim d as (λ _. Outcome (Unit {0})) [ yes h ↦ done tt (with_cell x s) | no h ↦ refused Refusal.cells s ] ])
    go s true d = tt
    go s false (yes h) = tt
    go s false (no h) = no_cell

counts_all : (xs : List Thing) → Only Full (count_all xs)
unfolding count_all
counts_all [] = gives tt
counts_all (x ∷ xs) = binds (counts x) λ _. counts_all xs

notes : {P : ℕ → Type 0} (n : ℕ) → Only P (note n)
unfolding note
notes n = record { only = λ s. tt }

enters : {A : Type 0} {P : ℕ → Type 0} {m : M A} (n : ℕ) (xs : List Thing) → ((k : ℕ) → Full k → P k) → Only P m → Only P (enter n xs m)
unfolding enter
enters n xs f h = binds (notes n) λ _. binds (wider f (counts_all xs)) λ _. h

-- the functions
pub record Refusals (c : Callees) : Type 0 where
  -- a comparison that holds
  pub below : (m n : ℕ) → m < n → Only Full (c.comparison m n true)
  pub at_most : (m n : ℕ) → m ≤ n → Only Full (c.comparison m n false)
  pub max : (m n : ℕ) → Only Full (c.max m n)
  pub itransform : (r : Interval) (op : IOp) → Only Full (c.itransform r op)
  pub under : (op : Op) (dimension : Bool) → Only Full (c.under op dimension)
  pub transform : (t : Term) (op : Op) → Only Full (c.transform t op)
  pub dshiftctx : (g : Context) → Only Full (c.dshiftctx g)
  pub lookup : (g : Context) (k : ℕ) → Only (OfLookup g k) (c.lookup g k)
  pub interval : (d : ℕ) (r : Interval) → Only (OfInterval d r) (c.interval d r)
  pub endpoint : (r : Interval) → Only Full (c.endpoint r)
  -- any comparison
  pub compared : (m n : ℕ) → Only (OfInterval n (Dim m)) (c.comparison m n true)
  pub more : (n : ℕ) → Only Full (c.more n)

ruleset combinators = (binds, gives, emits, counts_all)

module _ (c : Callees) (R : Refusals c) where
  lt_by_only : (m n : ℕ) → m < n → Only Full (lt_by c m n)
  unfolding lt_by
  lt_by_only m ℕ.zero l = absurd (omega (arith, l))
  lt_by_only ℕ.zero (ℕ.suc n) l = search combinators
  lt_by_only (ℕ.suc m) (ℕ.suc n) l = binds (R.below m n (omega arith)) λ x. emits _ _ _

  le_by_only : (m n : ℕ) → m ≤ n → Only Full (le_by c m n)
  unfolding le_by
  le_by_only ℕ.zero n l = search combinators
  le_by_only (ℕ.suc m) ℕ.zero l = absurd (omega (arith, l))
  le_by_only (ℕ.suc m) (ℕ.suc n) l = binds (R.at_most m n (omega arith)) λ x. emits _ _ _

  below_only : (m n : ℕ) → m < n → Only Full (comparison_body c m n true)
  unfolding comparison_body
  below_only m n l = branches (dec_lt m n) (λ h. lt_by_only m n h) (λ h. absurd (h l))

  at_most_only : (m n : ℕ) → m ≤ n → Only Full (comparison_body c m n false)
  unfolding comparison_body
  at_most_only m n l = branches (dec_le m n) (λ h. le_by_only m n h) (λ h. absurd (h l))

  compared_only : (m n : ℕ) → Only (OfInterval n (Dim m)) (comparison_body c m n true)
  unfolding comparison_body
  compared_only m n = branches (dec_lt m n) (λ h. wider (λ n. full) (lt_by_only m n h)) (λ h. refuses _ (outside (here (omega arith))))

  max_only : (m n : ℕ) → Only Full (max_body c m n)
  unfolding max_body
  max_only ℕ.zero n = search combinators
  max_only (ℕ.suc m) ℕ.zero = search combinators
  max_only (ℕ.suc m) (ℕ.suc n) = search (combinators, R.max)

  interval_only : (d : ℕ) (r : Interval) → Only (OfInterval d r) (interval_body c d r)
  unfolding interval_body
  interval_only d I0 = wider (λ n. full) (emits _ _ _)
  interval_only d I1 = wider (λ n. full) (emits _ _ _)
  interval_only d (Dim n) = binds (R.compared n d) λ x. wider (λ n. full) (emits _ _ _)
  interval_only d (Neg r) = binds (wider up (R.interval d r)) λ x. wider (λ n. full) (emits _ _ _)
    where
      up : (n : ℕ) → OfInterval d r n → OfInterval d (Neg r) n
      up n (full f) = full f
      up n (outside o) = outside (in_neg o)
  interval_only d (Meet r q) = binds (wider left (R.interval d r)) λ x. binds (wider right (R.interval d q)) λ y. wider (λ n. full) (emits _ _ _)
    where
      left : (n : ℕ) → OfInterval d r n → OfInterval d (Meet r q) n
      left n (full f) = full f
      left n (outside o) = outside (in_left_meet o)

      right : (n : ℕ) → OfInterval d q n → OfInterval d (Meet r q) n
      right n (full f) = full f
      right n (outside o) = outside (in_right_meet o)
  interval_only d (Join r q) = binds (wider left (R.interval d r)) λ x. binds (wider right (R.interval d q)) λ y. wider (λ n. full) (emits _ _ _)
    where
      left : (n : ℕ) → OfInterval d r n → OfInterval d (Join r q) n
      left n (full f) = full f
      left n (outside o) = outside (in_left_join o)

      right : (n : ℕ) → OfInterval d q n → OfInterval d (Join r q) n
      right n (full f) = full f
      right n (outside o) = outside (in_right_join o)

  worked_out_only : (r : Interval) (e : End) (rule : ℕ) (refs : List ℕ) → Only Full (worked_out r e rule refs)
  unfolding worked_out
  worked_out_only r e rule refs = search combinators

  right_part_only : (r b : Interval) (enough : End) (rule : ℕ) (left : Option ℕ) → Only Full (right_part c r b enough rule left)
  unfolding right_part
  right_part_only r b enough rule left = binds (R.endpoint b) λ o. gets o (λ of. branches (EndDiscrete of.0 enough) (λ _. worked_out_only _ _ _ _) (λ _. gets left (λ x. worked_out_only _ _ _ _) (gives none))) (gives none)

  two_parts_only : (r a b : Interval) (enough : End) (rule : ℕ) → Only Full (two_parts c r a b enough rule)
  unfolding two_parts
  two_parts_only r a b enough rule = binds (R.endpoint a) λ o. gets o (λ of. branches (EndDiscrete of.0 enough) (λ _. worked_out_only _ _ _ _) (λ _. right_part_only _ _ _ _ _)) (right_part_only _ _ _ _ _)

  endpoint_only : (r : Interval) → Only Full (endpoint_body c r)
  unfolding endpoint_body
  endpoint_only I0 = search worked_out_only
  endpoint_only I1 = search worked_out_only
  endpoint_only (Dim n) = search combinators
  endpoint_only (Neg r) = binds (R.endpoint r) λ o. gets o (λ of. worked_out_only _ _ _ _) (gives none)
  endpoint_only (Meet r q) = search two_parts_only
  endpoint_only (Join r q) = search two_parts_only

  ifinish_only : (r : Interval) (op : IOp) (out : Interval) (rule : ℕ) (refs : List ℕ) → Only Full (ifinish r op out rule refs)
  unfolding ifinish
  ifinish_only r op out rule refs = search combinators

  idim_above_only : (n k : ℕ) (q : Interval) → k < n → Only Full (idim_above c n k q)
  unfolding idim_above
  idim_above_only ℕ.zero k q l = absurd (omega (arith, l))
  idim_above_only (ℕ.suc n) k q l = binds (R.below k (suc n) l) λ x. ifinish_only _ _ _ _ _

  idim_only : (n : ℕ) (op : IOp) → Only Full (idim c n op)
  unfolding idim
  idim_only n (IShift k) = branches (dec_lt n k) (λ h. binds (R.below n k h) λ x. ifinish_only _ _ _ _ _) (λ h. binds (R.at_most k n (omega arith)) λ x. binds (R.more n) λ n'. ifinish_only _ _ _ _ _)
  idim_only n (ISubst k q) = branches (ℕ_discrete n k) (λ e. ifinish_only _ _ _ _ _) (λ e. branches (dec_lt n k) (λ h. binds (R.below n k h) λ x. ifinish_only _ _ _ _ _) (λ h. idim_above_only n k q (omega (arith, e, h))))

  itransform_only : (r : Interval) (op : IOp) → Only Full (itransform_body c r op)
  unfolding itransform_body
  itransform_only I0 op = search ifinish_only
  itransform_only I1 op = search ifinish_only
  itransform_only (Dim n) op = search idim_only
  itransform_only (Neg r) op = search (combinators, ifinish_only, R.itransform)
  itransform_only (Meet r q) op = search (combinators, ifinish_only, R.itransform)
  itransform_only (Join r q) op = search (combinators, ifinish_only, R.itransform)

  under_only : (op : Op) (dimension : Bool) → Only Full (under_body c op dimension)
  unfolding under_body
  under_only (Shift k) false = search (combinators, R.more)
  under_only (Shift k) true = search combinators
  under_only (Subst k r) false = search (combinators, R.transform, R.more)
  under_only (Subst k r) true = search (combinators, R.transform)
  under_only (DShift k) false = search combinators
  under_only (DShift k) true = search (combinators, R.more)
  under_only (DSubst k r) false = search combinators
  under_only (DSubst k r) true = search (combinators, R.itransform, R.more)

  finish_only : (t : Term) (op : Op) (out : Term) (rule : ℕ) (refs : List ℕ) → Only Full (finish t op out rule refs)
  unfolding finish
  finish_only t op out rule refs = search combinators

  tvar_above_only : (n k : ℕ) (r : Term) → k < n → Only Full (tvar_above c n k r)
  unfolding tvar_above
  tvar_above_only ℕ.zero k r l = absurd (omega (arith, l))
  tvar_above_only (ℕ.suc n) k r l = binds (R.below k (suc n) l) λ x. finish_only _ _ _ _ _

  tvar_only : (n : ℕ) (op : Op) → Only Full (tvar c n op)
  unfolding tvar
  tvar_only n (Shift k) = branches (dec_lt n k) (λ h. binds (R.below n k h) λ x. finish_only _ _ _ _ _) (λ h. binds (R.at_most k n (omega arith)) λ x. binds (R.more n) λ n'. finish_only _ _ _ _ _)
  tvar_only n (Subst k r) = branches (ℕ_discrete n k) (λ e. finish_only _ _ _ _ _) (λ e. branches (dec_lt n k) (λ h. binds (R.below n k h) λ x. finish_only _ _ _ _ _) (λ h. tvar_above_only n k r (omega (arith, e, h))))
  tvar_only n (DShift k) = search finish_only
  tvar_only n (DSubst k r) = search finish_only

  tinterval_only : (r : Interval) (op : Op) → Only Full (tinterval c r op)
  unfolding tinterval
  tinterval_only r (Shift k) = search combinators
  tinterval_only r (Subst k x) = search combinators
  tinterval_only r (DShift k) = search (combinators, R.itransform)
  tinterval_only r (DSubst k q) = search (combinators, R.itransform)

  transform_only : (t : Term) (op : Op) → Only Full (transform_body c t op)
  unfolding transform_body tbinder tprojection
  transform_only (Universe l) op = search finish_only
  transform_only (Var n) op = search tvar_only
  transform_only Nat op = search finish_only
  transform_only Zero op = search finish_only
  transform_only (Pi a b) op = search (combinators, finish_only, R.transform, R.under) depth 10
  transform_only (Lam a b) op = search (combinators, finish_only, R.transform, R.under) depth 10
  transform_only (App f a) op = search (combinators, finish_only, R.transform) depth 10
  transform_only (Path a b e) op = search (combinators, finish_only, R.transform, R.under) depth 10
  transform_only (PathLam a b) op = search (combinators, finish_only, R.transform, R.under) depth 10
  transform_only (PathApp p r) op = search (combinators, finish_only, R.transform, tinterval_only) depth 10
  transform_only (Sigma a b) op = search (combinators, finish_only, R.transform, R.under) depth 10
  transform_only (Pair ty a b) op = search (combinators, finish_only, R.transform) depth 10
  transform_only (Fst p) op = search (combinators, finish_only, R.transform)
  transform_only (Snd p) op = search (combinators, finish_only, R.transform)

  dshiftctx_only : (g : Context) → Only Full (dshiftctx_body c g)
  unfolding dshiftctx_body
  dshiftctx_only Nil = search combinators
  dshiftctx_only (Cons a g) = search (combinators, R.dshiftctx, R.transform) depth 10

  lookup_only : (g : Context) (k : ℕ) → Only (OfLookup g k) (lookup_body c g k)
  unfolding lookup_body
  lookup_only Nil k = refuses _ (unbound (omega arith))
  lookup_only (Cons a g) ℕ.zero = wider (λ n. full) (binds (R.transform a (Shift 0)) λ p. binds (counts_all _) λ _. binds (emits _ _ _) λ row. gives _)
  lookup_only (Cons a g) (ℕ.suc k) = binds (wider up (R.lookup g k)) λ p. wider (λ n. full) (binds (R.transform p.0 (Shift 0)) λ q. binds (counts_all _) λ _. binds (emits _ _ _) λ row. gives _)
    where
      up : (n : ℕ) → OfLookup g k n → OfLookup (Cons a g) (suc k) n
      up n (full f) = full f
      up n (unbound l) = unbound (omega arith)

none_only : Refusals (none_left one_more)
unfolding none_left one_more
none_only = record {
  below = λ m n l. refuses _ no_entry;
  at_most = λ m n l. refuses _ no_entry;
  max = λ m n. refuses _ no_entry;
  itransform = λ r op. refuses _ no_entry;
  under = λ op dimension. refuses _ no_entry;
  transform = λ t op. refuses _ no_entry;
  dshiftctx = λ g. refuses _ no_entry;
  lookup = λ g k. refuses _ (full no_entry);
  interval = λ d r. refuses _ (full no_entry);
  endpoint = λ r. refuses _ no_entry;
  compared = λ m n. refuses _ (full no_entry);
  more = λ n. gives (suc n);
}

entered_only : (n : ℕ) (c : Callees) → Refusals c → Refusals (entered n c)
unfolding entered
entered_only n c R = record {
  below = λ m k l. enters n _ (λ k f. f) (below_only c R m k l);
  at_most = λ m k l. enters n _ (λ k f. f) (at_most_only c R m k l);
  max = λ m k. enters n _ (λ k f. f) (max_only c R m k);
  itransform = λ r op. enters n _ (λ k f. f) (itransform_only c R r op);
  under = λ op dimension. enters n _ (λ k f. f) (under_only c R op dimension);
  transform = λ t op. enters n _ (λ k f. f) (transform_only c R t op);
  dshiftctx = λ g. enters n _ (λ k f. f) (dshiftctx_only c R g);
  lookup = λ g k. enters n _ (λ k. full) (lookup_only c R g k);
  interval = λ d r. enters n _ (λ k. full) (interval_only c R d r);
  endpoint = λ r. enters n _ (λ k f. f) (endpoint_only c R r);
  compared = λ m k. enters n _ (λ k. full) (compared_only c R m k);
  more = R.more;
}

-- with n entries left
pub refusals : (n : ℕ) → Refusals (callees n)
unfolding callees callees_by
refusals ℕ.zero = none_only
refusals (ℕ.suc n) = entered_only n (callees n) (refusals n)
