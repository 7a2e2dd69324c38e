-- With more nesting left a walk goes the same way: where it is not refused for nesting, it gives the same, and leaves the same but for deepest.
-- `Alike m m'`: so m' goes beside m, from any state and from that state with another deepest.
use Rattle.std.specs.Prelude.{ℕ, suc, ◌+◌, ◌-◌, ◌<◌, max, List, [], ◌∷◌, Bool, length}
use Rattle.std.proofs.Math.Option.{Option, none, some}
use Rattle.std.proofs.Math.Bool.{true, false}
use Rattle.std.proofs.Math.Decide.{dec_lt}
use Rattle.walk.specs.Syntax.{Interval, I0, I1, Dim, Neg, Meet, Join, Term, Universe, Var, Nat, Zero, Pi, Lam, App, Path, PathLam, PathApp, Sigma, Pair, Fst, Snd, Context, Nil, Cons}
use Rattle.walk.specs.Judgment.{Judgment}
use Rattle.walk.specs.Refusal as Refusal
use Rattle.walk.specs.State.{Row, Key, Thing, inference, Memory, State, Outcome, done, refused, M, go_on, looking, ◌>>=◌, pure, refuse, choose◌then◌else◌, from◌get◌or◌, row_of, with_row, push, emit, among, with_cell, count, count_all, recall, with_memory, store, remember, with_conversions, ended, converted, converting, with_deepest, note, enter}
use Rattle.walk.specs.Walk.Reference.{Op, Shift, Subst, DShift, DSubst, IOp, IShift, ISubst, Step, End, Callees}
use Rattle.walk.specs.Walk.Numbers.{lt_by, le_by, comparison_body, max_body}
use Rattle.walk.specs.Walk.Intervals.{ifinish, idim_above, idim, itransform_body, interval_body}
use Rattle.walk.specs.Walk.Endpoints.{worked_out, right_part, two_parts, endpoint_body}
use Rattle.walk.specs.Walk.Transforms.{under_body, finish, tvar_above, tvar, tinterval, tbinder, tprojection, transform_body}
use Rattle.walk.specs.Walk.Contexts.{dshiftctx_body, new_ctx, ctx_body, lookup_body}
use Rattle.walk.specs.Reader.{Kind}
use Rattle.walk.specs.Walk.Typing.{expose_body, universe_body, check_body, headed, as_parts, found, find_binder, find_pair, find, new_infer, infer_body}
use Rattle.walk.specs.Walk.Equality.{beta, at_end, pbeta, ends, along, long_end, at_val, fst_beta, snd_beta, reduce_body, head_goes, congruent, app_cong, papp_cong, at_head, head_step_body, rounds, normal_by, normalize_body, head_normalize_body, equal_body}
use Rattle.walk.specs.Walk.{none_left, entered, callees_by, one_more, callees}

-- what is done alike; m was refused for nesting where nothing is said of m'
pub data Agree {A : Type 0} : Outcome A → Outcome A → Type 0 where
  both_done : (a : A) (s : State) (k : ℕ) → Agree (done a s) (done a (with_deepest k s))
  both_refused : (n : ℕ) (s : State) (k : ℕ) → Agree (refused n s) (refused n (with_deepest k s))
  nested : {s : State} {o : Outcome A} → Agree (refused Refusal.nesting s) o

pub record Alike {A : Type 0} (m m' : M A) : Type 0 where
  pub alike : (s : State) (k : ℕ) → Agree (m s) (m' (with_deepest k s))

-- one lemma for each combinator

pub binds : {A B : Type 0} {m m' : M A} {f f' : A → M B} → Alike m m' → ((a : A) → Alike (f a) (f' a)) → Alike (m >>= f) (m' >>= f')
unfolding ◌>>=◌ go_on
binds {A = A} {B = B} {f = f} {f' = f'} h k = record { alike = λ s q. go (h.alike s q) }
  where
    go : {o o' : Outcome A} → Agree o o' → Agree (go_on o f) (go_on o' f')
    go (both_done a s q) = (k a).alike s q
    go (both_refused n s q) = both_refused n s q
    go nested = nested

pub gives : {A : Type 0} (a : A) → Alike (pure a) (pure a)
unfolding pure
gives a = record { alike = λ s k. both_done a s k }

pub refuses : {A : Type 0} (n : ℕ) → Alike {A = A} (refuse n) (refuse n)
unfolding refuse
refuses n = record { alike = λ s k. both_refused n s k }

pub branches : {P A : Type 0} {x y x' y' : M A} (d : Dec P) → Alike x x' → Alike y y' → Alike (choose d then x else y) (choose d then x' else y')
unfolding choose◌then◌else◌
branches (yes p) h k = h
branches (no p) h k = k

pub gets : {A B : Type 0} {f f' : A → M B} {z z' : M B} (o : Option A) → ((a : A) → Alike (f a) (f' a)) → Alike z z' → Alike (from o get f or z) (from o get f' or z')
unfolding from◌get◌or◌
gets (some a) h k = h a
gets none h k = k

-- a known context, a remembered inference: neither rests on deepest
knows : {A : Type 0} (j : Judgment) (f f' : ℕ → M A) (z z' : M A) → ((n : ℕ) → Alike (f n) (f' n)) → Alike z z' → Alike (looking λ s. from row_of j s.rows get f or z) (looking λ s. from row_of j s.rows get f' or z')
unfolding looking with_deepest
knows j f f' z z' h k = record { alike = λ s q. (gets (row_of j s.rows) h k).alike s q }

recalls : {A : Type 0} (x : Key) (f f' : Term × ℕ → M A) (z z' : M A) → ((n : Term × ℕ) → Alike (f n) (f' n)) → Alike z z' → Alike (looking λ s. from recall x s.memory get f or z) (looking λ s. from recall x s.memory get f' or z')
unfolding looking with_deepest
recalls x f f' z z' h k = record { alike = λ s q. (gets (recall x s.memory) h k).alike s q }

pub emits : (rule : ℕ) (refs : List ℕ) (j : Judgment) → Alike (emit rule refs j) (emit rule refs j)
unfolding emit looking pure push with_row refuse choose◌then◌else◌ from◌get◌or◌ with_deepest
emits rule refs j = record { alike = λ s k. go s k (row_of j s.rows) (dec_lt (length s.rows) s.row_room) }
  where
    go : (s : State) (k : ℕ) (o : Option ℕ) (d : Dec (length s.rows < s.row_room)) → Agree ((from o get pure or (choose d then push (record { rule = rule; refs = refs; judgment = j }) else refuse Refusal.rows)) s) ((from o get pure or (choose d then push (record { rule = rule; refs = refs; judgment = j }) else refuse Refusal.rows)) (with_deepest k s))
    go s k (some n) d = both_done _ _ k
    go s k none (yes h) = both_done _ _ k
    go s k none (no h) = both_refused _ _ k

pub counts : (x : Thing) → Alike (count x) (count x)
unfolding count with_cell with_deepest
counts x = record { alike = λ s k. go s k (among x s.cells) (dec_lt (length s.cells) s.cell_room) }
  where
    go : (s : State) (k : ℕ) (b : Bool) (d : Dec (length s.cells < s.cell_room)) → Agree {A = Unit {0}} (elim b as (λ _. Outcome (Unit {0})) [ true ↦ done tt s | false ↦ elim d as (λ _. Outcome (Unit {0})) [ yes h ↦ done tt (with_cell x s) | no h ↦ refused Refusal.cells s ] ]) (elim b as (λ _. Outcome (Unit {0})) [ true ↦ done tt (with_deepest k s) | false ↦ elim d as (λ _. Outcome (Unit {0})) [ yes h ↦ done tt (with_cell x (with_deepest k s)) | no h ↦ refused Refusal.cells (with_deepest k s) ] ])
    go s k true d = both_done _ _ k
    go s k false (yes h) = both_done _ _ k
    go s k false (no h) = both_refused _ _ k

pub counts_all : (xs : List Thing) → Alike (count_all xs) (count_all xs)
unfolding count_all
counts_all [] = gives tt
counts_all (x ∷ xs) = binds (counts x) λ _. counts_all xs

stores : (m : Memory) → Alike (store m) (store m)
unfolding store with_memory with_deepest
stores m = record { alike = λ s k. both_done _ _ k }

pub remembers : (k : Key) (ty : Term) (row : ℕ) → Alike (remember k ty row) (remember k ty row)
unfolding remember
remembers k ty row = binds (counts (inference k)) λ _. stores _

converts : {A : Type 0} {m m' : M A} → Alike m m' → Alike (converted m) (converted m')
unfolding converted ended with_conversions with_deepest
converts {A} {m} {m'} h = record { alike = λ s k. go (h.alike (with_conversions (s.conversions + 1) s) k) }
  where
    go : {o o' : Outcome A} → Agree o o' → Agree (ended o) (ended o')
    go (both_done a s k) = both_done a (with_conversions (s.conversions - 1) s) k
    go (both_refused n s k) = both_refused n (with_conversions (s.conversions - 1) s) k
    go nested = nested

pub converting_alike : {A : Type 0} {m m' : M A} → Alike m m' → Alike (converting m) (converting m')
unfolding converting looking with_deepest
converting_alike h = record { alike = λ s k. (branches (dec_lt s.conversions 32) (converts h) (refuses Refusal.conversions)).alike s k }

notes : (n n' : ℕ) → Alike (note n) (note n')
unfolding note with_deepest
notes n n' = record { alike = λ s k. both_done tt (with_deepest (max s.deepest (s.limit - n)) s) (max k (s.limit - n')) }

pub enters : {A : Type 0} {m m' : M A} (n n' : ℕ) (xs : List Thing) → Alike m m' → Alike (enter n xs m) (enter n' xs m')
unfolding enter
enters n n' xs h = binds (notes n n') λ _. binds (counts_all xs) λ _. h

-- the functions

pub record AllAlike (c c' : Callees) : Type 0 where
  pub ctx : (d : ℕ) (g : Context) → Alike (c.ctx d g) (c'.ctx d g)
  pub infer : (d : ℕ) (g : Context) (t : Term) → Alike (c.infer d g t) (c'.infer d g t)
  pub universe : (d : ℕ) (g : Context) (t : Term) → Alike (c.universe d g t) (c'.universe d g t)
  pub check : (d : ℕ) (g : Context) (t ty : Term) → Alike (c.check d g t ty) (c'.check d g t ty)
  pub expose : (d : ℕ) (g : Context) (t ty : Term) (row : ℕ) → Alike (c.expose d g t ty row) (c'.expose d g t ty row)
  pub normalize : (d : ℕ) (g : Context) (t ty : Term) → Alike (c.normalize d g t ty) (c'.normalize d g t ty)
  pub equal : (d : ℕ) (g : Context) (a b ty : Term) → Alike (c.equal d g a b ty) (c'.equal d g a b ty)
  pub reduce : (d : ℕ) (g : Context) (t : Term) → Alike (c.reduce d g t) (c'.reduce d g t)
  pub head_normalize : (d : ℕ) (g : Context) (t ty : Term) → Alike (c.head_normalize d g t ty) (c'.head_normalize d g t ty)
  pub head_step : (d : ℕ) (g : Context) (t : Term) → Alike (c.head_step d g t) (c'.head_step d g t)
  pub lookup : (g : Context) (n : ℕ) → Alike (c.lookup g n) (c'.lookup g n)
  pub dshiftctx : (g : Context) → Alike (c.dshiftctx g) (c'.dshiftctx g)
  pub transform : (t : Term) (op : Op) → Alike (c.transform t op) (c'.transform t op)
  pub itransform : (r : Interval) (op : IOp) → Alike (c.itransform r op) (c'.itransform r op)
  pub under : (op : Op) (dimension : Bool) → Alike (c.under op dimension) (c'.under op dimension)
  pub interval : (d : ℕ) (r : Interval) → Alike (c.interval d r) (c'.interval d r)
  pub endpoint : (r : Interval) → Alike (c.endpoint r) (c'.endpoint r)
  pub comparison : (m n : ℕ) (strict : Bool) → Alike (c.comparison m n strict) (c'.comparison m n strict)
  pub max : (m n : ℕ) → Alike (c.max m n) (c'.max m n)
  pub more : (n : ℕ) → Alike (c.more n) (c'.more n)

ruleset combinators = (binds, gives, refuses, branches, gets, knows, recalls, emits, counts_all, remembers, converting_alike)

module _ (c c' : Callees) (L : AllAlike c c') where
  lt_by_alike : (m n : ℕ) → Alike (lt_by c m n) (lt_by c' m n)
  unfolding lt_by
  lt_by_alike m ℕ.zero = search combinators
  lt_by_alike ℕ.zero (ℕ.suc n) = search combinators
  lt_by_alike (ℕ.suc m) (ℕ.suc n) = search (combinators, L.comparison)

  le_by_alike : (m n : ℕ) → Alike (le_by c m n) (le_by c' m n)
  unfolding le_by
  le_by_alike ℕ.zero n = search combinators
  le_by_alike (ℕ.suc m) ℕ.zero = search combinators
  le_by_alike (ℕ.suc m) (ℕ.suc n) = search (combinators, L.comparison)

  comparison_alike : (m n : ℕ) (strict : Bool) → Alike (comparison_body c m n strict) (comparison_body c' m n strict)
  unfolding comparison_body
  comparison_alike m n true = search (combinators, lt_by_alike)
  comparison_alike m n false = search (combinators, le_by_alike)

  max_alike : (m n : ℕ) → Alike (max_body c m n) (max_body c' m n)
  unfolding max_body
  max_alike ℕ.zero n = search combinators
  max_alike (ℕ.suc m) ℕ.zero = search combinators
  max_alike (ℕ.suc m) (ℕ.suc n) = search (combinators, L.max)

  interval_alike : (d : ℕ) (r : Interval) → Alike (interval_body c d r) (interval_body c' d r)
  unfolding interval_body
  interval_alike d I0 = search combinators
  interval_alike d I1 = search combinators
  interval_alike d (Dim n) = search (combinators, L.comparison)
  interval_alike d (Neg r) = search (combinators, L.interval)
  interval_alike d (Meet r q) = search (combinators, L.interval)
  interval_alike d (Join r q) = search (combinators, L.interval)

  worked_out_alike : (r : Interval) (e : End) (rule : ℕ) (refs : List ℕ) → Alike (worked_out r e rule refs) (worked_out r e rule refs)
  unfolding worked_out
  worked_out_alike r e rule refs = search combinators

  right_part_alike : (r b : Interval) (enough : End) (rule : ℕ) (left : Option ℕ) → Alike (right_part c r b enough rule left) (right_part c' r b enough rule left)
  unfolding right_part
  right_part_alike r b enough rule left = search (combinators, worked_out_alike, L.endpoint) depth 10

  two_parts_alike : (r a b : Interval) (enough : End) (rule : ℕ) → Alike (two_parts c r a b enough rule) (two_parts c' r a b enough rule)
  unfolding two_parts
  two_parts_alike r a b enough rule = search (combinators, worked_out_alike, right_part_alike, L.endpoint) depth 10

  endpoint_alike : (r : Interval) → Alike (endpoint_body c r) (endpoint_body c' r)
  unfolding endpoint_body
  endpoint_alike I0 = search worked_out_alike
  endpoint_alike I1 = search worked_out_alike
  endpoint_alike (Dim n) = search combinators
  endpoint_alike (Neg r) = search (combinators, worked_out_alike, L.endpoint)
  endpoint_alike (Meet r q) = search two_parts_alike
  endpoint_alike (Join r q) = search two_parts_alike

  idim_above_alike : (n k : ℕ) (q : Interval) → Alike (idim_above c n k q) (idim_above c' n k q)
  unfolding idim_above ifinish
  idim_above_alike ℕ.zero k q = search combinators
  idim_above_alike (ℕ.suc n) k q = search (combinators, L.comparison)

  idim_alike : (n : ℕ) (op : IOp) → Alike (idim c n op) (idim c' n op)
  unfolding idim ifinish
  idim_alike n (IShift k) = search (combinators, L.comparison, L.more) depth 10
  idim_alike n (ISubst k q) = search (combinators, L.comparison, idim_above_alike) depth 10

  itransform_alike : (r : Interval) (op : IOp) → Alike (itransform_body c r op) (itransform_body c' r op)
  unfolding itransform_body ifinish
  itransform_alike I0 op = search combinators
  itransform_alike I1 op = search combinators
  itransform_alike (Dim n) op = search idim_alike
  itransform_alike (Neg r) op = search (combinators, L.itransform)
  itransform_alike (Meet r q) op = search (combinators, L.itransform)
  itransform_alike (Join r q) op = search (combinators, L.itransform)

  under_alike : (op : Op) (dimension : Bool) → Alike (under_body c op dimension) (under_body c' op dimension)
  unfolding under_body
  under_alike (Shift k) false = search (combinators, L.more)
  under_alike (Shift k) true = search combinators
  under_alike (Subst k r) false = search (combinators, L.transform, L.more)
  under_alike (Subst k r) true = search (combinators, L.transform)
  under_alike (DShift k) false = search combinators
  under_alike (DShift k) true = search (combinators, L.more)
  under_alike (DSubst k r) false = search combinators
  under_alike (DSubst k r) true = search (combinators, L.itransform, L.more)

  tvar_above_alike : (n k : ℕ) (r : Term) → Alike (tvar_above c n k r) (tvar_above c' n k r)
  unfolding tvar_above finish
  tvar_above_alike ℕ.zero k r = search combinators
  tvar_above_alike (ℕ.suc n) k r = search (combinators, L.comparison)

  tvar_alike : (n : ℕ) (op : Op) → Alike (tvar c n op) (tvar c' n op)
  unfolding tvar finish
  tvar_alike n (Shift k) = search (combinators, L.comparison, L.more) depth 10
  tvar_alike n (Subst k r) = search (combinators, L.comparison, tvar_above_alike) depth 10
  tvar_alike n (DShift k) = search combinators
  tvar_alike n (DSubst k r) = search combinators

  tinterval_alike : (r : Interval) (op : Op) → Alike (tinterval c r op) (tinterval c' r op)
  unfolding tinterval
  tinterval_alike r (Shift k) = search combinators
  tinterval_alike r (Subst k x) = search combinators
  tinterval_alike r (DShift k) = search (combinators, L.itransform)
  tinterval_alike r (DSubst k q) = search (combinators, L.itransform)

  transform_alike : (t : Term) (op : Op) → Alike (transform_body c t op) (transform_body c' t op)
  unfolding transform_body tbinder tprojection finish
  transform_alike (Universe l) op = search combinators
  transform_alike (Var n) op = search tvar_alike
  transform_alike Nat op = search combinators
  transform_alike Zero op = search combinators
  transform_alike (Pi a b) op = search (combinators, L.transform, L.under) depth 10
  transform_alike (Lam a b) op = search (combinators, L.transform, L.under) depth 10
  transform_alike (App f a) op = search (combinators, L.transform) depth 10
  transform_alike (Path a b e) op = search (combinators, L.transform, L.under) depth 10
  transform_alike (PathLam a b) op = search (combinators, L.transform, L.under) depth 10
  transform_alike (PathApp p r) op = search (combinators, L.transform, tinterval_alike) depth 10
  transform_alike (Sigma a b) op = search (combinators, L.transform, L.under) depth 10
  transform_alike (Pair ty a b) op = search (combinators, L.transform) depth 10
  transform_alike (Fst p) op = search (combinators, L.transform)
  transform_alike (Snd p) op = search (combinators, L.transform)

  dshiftctx_alike : (g : Context) → Alike (dshiftctx_body c g) (dshiftctx_body c' g)
  unfolding dshiftctx_body
  dshiftctx_alike Nil = search combinators
  dshiftctx_alike (Cons a g) = search (combinators, L.dshiftctx, L.transform) depth 10

  new_ctx_alike : (d : ℕ) (g : Context) → Alike (new_ctx c d g) (new_ctx c' d g)
  unfolding new_ctx
  new_ctx_alike d Nil = search combinators
  new_ctx_alike d (Cons a g) = search (combinators, L.ctx, L.universe)

  ctx_alike : (d : ℕ) (g : Context) → Alike (ctx_body c d g) (ctx_body c' d g)
  unfolding ctx_body
  ctx_alike d g = search (combinators, new_ctx_alike)

  lookup_alike : (g : Context) (n : ℕ) → Alike (lookup_body c g n) (lookup_body c' g n)
  unfolding lookup_body
  lookup_alike Nil n = search combinators
  lookup_alike (Cons a g) ℕ.zero = search (combinators, L.transform) depth 10
  lookup_alike (Cons a g) (ℕ.suc n) = search (combinators, L.lookup, L.transform) depth 10

  expose_alike : (d : ℕ) (g : Context) (t ty : Term) (row : ℕ) → Alike (expose_body c d g t ty row) (expose_body c' d g t ty row)
  unfolding expose_body
  expose_alike d g t ty row = search (combinators, L.universe, L.normalize, L.check) depth 10

  universe_alike : (d : ℕ) (g : Context) (t : Term) → Alike (universe_body c d g t) (universe_body c' d g t)
  unfolding universe_body
  universe_alike d g t = search (combinators, L.infer, L.expose) depth 10

  check_alike : (d : ℕ) (g : Context) (t ty : Term) → Alike (check_body c d g t ty) (check_body c' d g t ty)
  unfolding check_body
  check_alike d g t ty = search (combinators, L.infer, L.universe, L.equal) depth 10

  headed_alike : (k : Kind) (d : ℕ) (g : Context) (t : Term) → Alike (headed k c d g t) (headed k c' d g t)
  unfolding headed
  headed_alike k d g t = search (combinators, L.infer, L.expose)

  as_parts_alike : {A : Type 0} (k : Kind) (parts : Term → Option A) (refusal d : ℕ) (g : Context) (t : Term) → Alike (as_parts k parts refusal c d g t) (as_parts k parts refusal c' d g t)
  unfolding as_parts
  as_parts_alike k parts refusal d g t = search (combinators, headed_alike)

  founds : (ty : Term) (refs : List ℕ) (rule : ℕ) → Alike (found ty refs rule) (found ty refs rule)
  unfolding found
  founds ty refs rule = search combinators

  find_alike : (d : ℕ) (g : Context) (t : Term) → Alike (find c d g t) (find c' d g t)
  unfolding find find_binder find_pair
  find_alike d g (Universe l) = search (combinators, founds, L.ctx, L.more)
  find_alike d g Nat = search (combinators, founds, L.ctx)
  find_alike d g Zero = search (combinators, founds, L.ctx)
  find_alike d g (Var n) = search (combinators, founds, L.ctx, L.lookup)
  find_alike d g (Pi a b) = search (combinators, founds, L.universe, L.max)
  find_alike d g (Lam a b) = search (combinators, founds, L.universe, L.infer)
  find_alike d g (App f a) = search (combinators, founds, as_parts_alike, L.check, L.transform)
  find_alike d g (Path a b e) = search (combinators, founds, L.ctx, L.dshiftctx, L.more, L.universe, L.check, L.transform) depth 20
  find_alike d g (PathLam a b) = search (combinators, founds, L.ctx, L.dshiftctx, L.more, L.universe, L.check, L.transform) depth 20
  find_alike d g (PathApp p r) = search (combinators, founds, as_parts_alike, L.interval, L.transform, L.universe) depth 10
  find_alike d g (Sigma a b) = search (combinators, founds, L.universe, L.max)
  find_alike d g (Pair ty a b) = search (combinators, founds, L.universe, L.check, L.transform) depth 10
  find_alike d g (Fst p) = search (combinators, founds, as_parts_alike, L.universe)
  find_alike d g (Snd p) = search (combinators, founds, as_parts_alike, L.transform, L.universe)

  infer_alike : (d : ℕ) (g : Context) (t : Term) → Alike (infer_body c d g t) (infer_body c' d g t)
  unfolding infer_body new_infer
  infer_alike d g t = search (combinators, find_alike) depth 10

  beta_alike : (d : ℕ) (g : Context) (a body r : Term) → Alike (beta c d g a body r) (beta c' d g a body r)
  unfolding beta
  beta_alike d g a body r = search (combinators, L.universe, L.infer, L.check, L.transform) depth 10

  at_end_alike : (d : ℕ) (g : Context) (t out ty : Term) (refs : List ℕ) (rule : ℕ) → Alike (at_end c d g t out ty refs rule) (at_end c' d g t out ty refs rule)
  unfolding at_end
  at_end_alike d g t out ty refs rule = search (combinators, L.check)

  pbeta_alike : (d : ℕ) (g : Context) (p : Term) (r : Interval) (body ty : Term) (x y : ℕ) → Alike (pbeta c d g p r body ty x y) (pbeta c' d g p r body ty x y)
  unfolding pbeta
  pbeta_alike d g p r body ty x y = search (combinators, L.interval, L.transform, L.check) depth 10

  ends_alike : (d : ℕ) (g : Context) (p : Term) (r : Interval) (b e ty : Term) (x y : ℕ) → Alike (ends c d g p r b e ty x y) (ends c' d g p r b e ty x y)
  unfolding ends
  ends_alike d g p I0 b e ty x y = search at_end_alike
  ends_alike d g p I1 b e ty x y = search at_end_alike
  ends_alike d g p (Dim n) b e ty x y = search combinators
  ends_alike d g p (Neg r) b e ty x y = search combinators
  ends_alike d g p (Meet r q) b e ty x y = search combinators
  ends_alike d g p (Join r q) b e ty x y = search combinators

  along_alike : (d : ℕ) (g : Context) (p : Term) (r : Interval) → Alike (along c d g p r) (along c' d g p r)
  unfolding along
  along_alike d g p r = search (combinators, as_parts_alike, L.transform, pbeta_alike, ends_alike) depth 10

  long_end_alike : (p : Term) (r : Interval) → Alike (long_end c p r) (long_end c' p r)
  unfolding long_end
  long_end_alike p r = search (combinators, L.endpoint)

  at_val_alike : (d : ℕ) (g : Context) (p : Term) (r : Interval) (e : End) (w : ℕ) → Alike (at_val c d g p r e w) (at_val c' d g p r e w)
  unfolding at_val
  at_val_alike d g p r e w = search (combinators, as_parts_alike, L.interval, L.transform, at_end_alike) depth 10

  reduce_alike : (d : ℕ) (g : Context) (t : Term) → Alike (reduce_body c d g t) (reduce_body c' d g t)
  unfolding reduce_body fst_beta snd_beta
  reduce_alike d g (Universe l) = search combinators
  reduce_alike d g (Var n) = search combinators
  reduce_alike d g Nat = search combinators
  reduce_alike d g Zero = search combinators
  reduce_alike d g (Pi a b) = search combinators
  reduce_alike d g (Lam a b) = search combinators
  reduce_alike d g (App f r) = search (combinators, beta_alike)
  reduce_alike d g (Path a b e) = search combinators
  reduce_alike d g (PathLam a b) = search combinators
  reduce_alike d g (PathApp p r) = search (combinators, long_end_alike, at_val_alike, along_alike)
  reduce_alike d g (Sigma a b) = search combinators
  reduce_alike d g (Pair ty a b) = search combinators
  reduce_alike d g (Fst p) = search (combinators, as_parts_alike, L.check) depth 10
  reduce_alike d g (Snd p) = search (combinators, as_parts_alike, L.transform, at_end_alike) depth 10

  head_goes_alike : (d : ℕ) (g : Context) (f ty : Term) → Alike (head_goes c d g f ty) (head_goes c' d g f ty)
  unfolding head_goes
  head_goes_alike d g f ty = search (combinators, L.head_step)

  congruent_alike : (d : ℕ) (g : Context) (t out ty : Term) (refs : List ℕ) (rule : ℕ) → Alike (congruent c d g t out ty refs rule) (congruent c' d g t out ty refs rule)
  unfolding congruent
  congruent_alike d g t out ty refs rule = search (combinators, L.check)

  app_cong_alike : (d : ℕ) (g : Context) (f a : Term) → Alike (app_cong c d g f a) (app_cong c' d g f a)
  unfolding app_cong
  app_cong_alike d g f a = search (combinators, as_parts_alike, head_goes_alike, L.check, L.transform, congruent_alike) depth 10

  papp_cong_alike : (d : ℕ) (g : Context) (p : Term) (r : Interval) → Alike (papp_cong c d g p r) (papp_cong c' d g p r)
  unfolding papp_cong
  papp_cong_alike d g p r = search (combinators, as_parts_alike, head_goes_alike, L.interval, L.transform, congruent_alike) depth 10

  at_head_alike : (d : ℕ) (g : Context) (t : Term) → Alike (at_head c d g t) (at_head c' d g t)
  unfolding at_head
  at_head_alike d g (Universe l) = search combinators
  at_head_alike d g (Var n) = search combinators
  at_head_alike d g Nat = search combinators
  at_head_alike d g Zero = search combinators
  at_head_alike d g (Pi a b) = search combinators
  at_head_alike d g (Lam a b) = search combinators
  at_head_alike d g (App f a) = search app_cong_alike
  at_head_alike d g (Path a b e) = search combinators
  at_head_alike d g (PathLam a b) = search combinators
  at_head_alike d g (PathApp p r) = search papp_cong_alike
  at_head_alike d g (Sigma a b) = search combinators
  at_head_alike d g (Pair ty a b) = search combinators
  at_head_alike d g (Fst p) = search combinators
  at_head_alike d g (Snd p) = search combinators

  head_step_alike : (d : ℕ) (g : Context) (t : Term) → Alike (head_step_body c d g t) (head_step_body c' d g t)
  unfolding head_step_body
  head_step_alike d g t = search (combinators, L.reduce, at_head_alike)

  rounds_alike : (n : ℕ) (step step' : Term → M (Option Step)) → ((t : Term) → Alike (step t) (step' t)) → (d : ℕ) (g : Context) (t ty now : Term) (row : ℕ) → Alike (rounds n c step d g t ty now row) (rounds n c' step' d g t ty now row)
  unfolding rounds
  rounds_alike ℕ.zero step step' steps d g t ty now row = search (combinators, steps)
  rounds_alike (ℕ.suc n) step step' steps d g t ty now row = search (combinators, steps, L.check, rounds_alike n step step' steps) depth 10

  normal_by_alike : (step step' : Term → M (Option Step)) → ((t : Term) → Alike (step t) (step' t)) → (d : ℕ) (g : Context) (t ty : Term) → Alike (normal_by c step d g t ty) (normal_by c' step' d g t ty)
  unfolding normal_by
  normal_by_alike step step' steps d g t ty = search (combinators, L.check, rounds_alike 32 step step' steps)

  normalize_alike : (d : ℕ) (g : Context) (t ty : Term) → Alike (normalize_body c d g t ty) (normalize_body c' d g t ty)
  unfolding normalize_body
  normalize_alike d g t ty = normal_by_alike (c.reduce d g) (c'.reduce d g) (L.reduce d g) d g t ty

  head_normalize_alike : (d : ℕ) (g : Context) (t ty : Term) → Alike (head_normalize_body c d g t ty) (head_normalize_body c' d g t ty)
  unfolding head_normalize_body
  head_normalize_alike d g t ty = normal_by_alike (c.head_step d g) (c'.head_step d g) (L.head_step d g) d g t ty

  equal_alike : (d : ℕ) (g : Context) (a b ty : Term) → Alike (equal_body c d g a b ty) (equal_body c' d g a b ty)
  unfolding equal_body
  equal_alike d g a b ty = search (combinators, L.check, L.normalize) depth 10

none_alike : (c : Callees) → ((n : ℕ) → Alike (one_more n) (c.more n)) → AllAlike (none_left one_more) c
unfolding none_left refuse
none_alike c h = record {
  ctx = λ d g. record { alike = λ s k. nested };
  infer = λ d g t. record { alike = λ s k. nested };
  universe = λ d g t. record { alike = λ s k. nested };
  check = λ d g t ty. record { alike = λ s k. nested };
  expose = λ d g t ty row. record { alike = λ s k. nested };
  normalize = λ d g t ty. record { alike = λ s k. nested };
  equal = λ d g a b ty. record { alike = λ s k. nested };
  reduce = λ d g t. record { alike = λ s k. nested };
  head_normalize = λ d g t ty. record { alike = λ s k. nested };
  head_step = λ d g t. record { alike = λ s k. nested };
  lookup = λ g n. record { alike = λ s k. nested };
  dshiftctx = λ g. record { alike = λ s k. nested };
  transform = λ t op. record { alike = λ s k. nested };
  itransform = λ r op. record { alike = λ s k. nested };
  under = λ op dimension. record { alike = λ s k. nested };
  interval = λ d r. record { alike = λ s k. nested };
  endpoint = λ r. record { alike = λ s k. nested };
  comparison = λ m n strict. record { alike = λ s k. nested };
  max = λ m n. record { alike = λ s k. nested };
  more = h;
}

entered_alike : (n n' : ℕ) (c c' : Callees) → AllAlike c c' → AllAlike (entered n c) (entered n' c')
unfolding entered
entered_alike n n' c c' L = record {
  ctx = λ d g. enters n n' _ (ctx_alike c c' L d g);
  infer = λ d g t. enters n n' _ (infer_alike c c' L d g t);
  universe = λ d g t. enters n n' _ (universe_alike c c' L d g t);
  check = λ d g t ty. enters n n' _ (check_alike c c' L d g t ty);
  expose = λ d g t ty row. enters n n' _ (expose_alike c c' L d g t ty row);
  normalize = λ d g t ty. enters n n' _ (normalize_alike c c' L d g t ty);
  equal = λ d g a b ty. enters n n' _ (equal_alike c c' L d g a b ty);
  reduce = λ d g t. enters n n' _ (reduce_alike c c' L d g t);
  head_normalize = λ d g t ty. enters n n' _ (head_normalize_alike c c' L d g t ty);
  head_step = λ d g t. enters n n' _ (head_step_alike c c' L d g t);
  lookup = λ g k. enters n n' _ (lookup_alike c c' L g k);
  dshiftctx = λ g. enters n n' _ (dshiftctx_alike c c' L g);
  transform = λ t op. enters n n' _ (transform_alike c c' L t op);
  itransform = λ r op. enters n n' _ (itransform_alike c c' L r op);
  under = λ op dimension. enters n n' _ (under_alike c c' L op dimension);
  interval = λ d r. enters n n' _ (interval_alike c c' L d r);
  endpoint = λ r. enters n n' _ (endpoint_alike c c' L r);
  comparison = λ m k strict. enters n n' _ (comparison_alike c c' L m k strict);
  max = λ m k. enters n n' _ (max_alike c c' L m k);
  more = L.more;
}

first_more : (n : ℕ) → Alike (one_more n) ((entered 0 (none_left one_more)).more n)
unfolding one_more entered none_left
first_more n = gives (suc n)

-- with one more left
pub deeper : (n : ℕ) → AllAlike (callees n) (callees (suc n))
unfolding callees callees_by
deeper ℕ.zero = none_alike (entered 0 (none_left one_more)) first_more
deeper (ℕ.suc n) = entered_alike n (suc n) (callees n) (callees (suc n)) (deeper n)
