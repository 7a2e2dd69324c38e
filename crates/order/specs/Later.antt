-- A walk only adds: rows, cells and memory grow, conversions, limit and rooms are what they were, and each count stays within its room.
-- `Leads m`: so it is from any state to the one that m leaves, done or refused. Nothing is said of values.
use Rattle.std.specs.Prelude.{ℕ, ◌+◌, ◌-◌, ◌≤◌, ◌<◌, max, ◌≡◌, refl, List, [], ◌∷◌, Bool, length}
use Rattle.std.proofs.Common.{◌∙◌, arith}
use Rattle.std.proofs.Math.Option.{Option, none, some}
use Rattle.std.proofs.Math.Bool.{true, false}
use Rattle.std.proofs.Math.Decide.{dec_lt}
use Rattle.walk.specs.Syntax.{Interval, I0, I1, Dim, Neg, Meet, Join, Term, Universe, Var, Nat, Zero, Pi, Lam, App, Path, PathLam, PathApp, Sigma, Pair, Fst, Snd, Context, Nil, Cons}
use Rattle.walk.specs.Judgment.{Judgment}
use Rattle.walk.specs.Refusal as Refusal
use Rattle.walk.specs.State.{Row, Key, Thing, inference, Memory, State, Outcome, done, refused, M, go_on, looking, ◌>>=◌, pure, refuse, choose◌then◌else◌, from◌get◌or◌, row_of, with_row, push, emit, among, with_cell, count, count_all, with_memory, store, remember, with_conversions, ended, converted, converting, with_deepest, note, enter}
use Rattle.walk.specs.Walk.Reference.{Op, Shift, Subst, DShift, DSubst, IOp, IShift, ISubst, Step, End, Callees}
use Rattle.walk.specs.Walk.Numbers.{lt_by, le_by, comparison_body, max_body}
use Rattle.walk.specs.Walk.Intervals.{ifinish, idim_above, idim, itransform_body, interval_body}
use Rattle.walk.specs.Walk.Endpoints.{worked_out, right_part, two_parts, endpoint_body}
use Rattle.walk.specs.Walk.Transforms.{under_body, finish, tvar_above, tvar, tinterval, tbinder, tprojection, transform_body}
use Rattle.walk.specs.Walk.Contexts.{dshiftctx_body, new_ctx, ctx_body, lookup_body}
use Rattle.walk.specs.Reader.{Kind}
use Rattle.walk.specs.Walk.Typing.{expose_body, universe_body, check_body, headed, as_parts, found, find_binder, find_pair, find, new_infer, infer_body}
use Rattle.walk.specs.Walk.Equality.{beta, at_end, pbeta, ends, along, long_end, at_val, fst_beta, snd_beta, reduce_body, head_goes, congruent, app_cong, papp_cong, at_head, head_step_body, rounds, normal_by, normalize_body, head_normalize_body, equal_body}
use Rattle.walk.specs.Walk.{none_left, entered, callees_by, one_more, callees}
use Rattle.walk.specs.Demand.{Extends, same, more}
use Rattle.walk.specs.Sound.Logic.{extends_trans}

-- a longer list: elements are added in front
pub data Longer {A : Type 0} (xs : List A) : List A → Type 0 where
  no_longer : Longer xs xs
  one_longer : {x : A} {ys : List A} → Longer xs ys → Longer xs (x ∷ ys)

longer_trans : {A : Type 0} {xs ys zs : List A} → Longer xs ys → Longer ys zs → Longer xs zs
longer_trans e no_longer = e
longer_trans e (one_longer f) = one_longer (longer_trans e f)

-- what stays, and what only grows
pub record Grown (s s' : State) : Type 0 where
  pub rows : Extends s.rows s'.rows
  pub cells : Longer s.cells s'.cells
  pub memory : Longer s.memory s'.memory
  pub conversions : s'.conversions ≡ s.conversions
  pub limit : s'.limit ≡ s.limit
  pub row_room : s'.row_room ≡ s.row_room
  pub cell_room : s'.cell_room ≡ s.cell_room
  pub in_row_room : length s.rows ≤ s.row_room → length s'.rows ≤ s'.row_room
  pub in_cell_room : length s.cells ≤ s.cell_room → length s'.cells ≤ s'.cell_room

-- within a call, deepest too
pub record Later (s s' : State) : Type 0 where
  pub grown : Grown s s'
  pub deepest : s.deepest ≤ s'.deepest
  pub in_limit : s.deepest ≤ s.limit → s'.deepest ≤ s'.limit

pub grown_trans : {s s' s'' : State} → Grown s s' → Grown s' s'' → Grown s s''
grown_trans h k = record { rows = extends_trans h.rows k.rows; cells = longer_trans h.cells k.cells; memory = longer_trans h.memory k.memory; conversions = k.conversions ∙ h.conversions; limit = k.limit ∙ h.limit; row_room = k.row_room ∙ h.row_room; cell_room = k.cell_room ∙ h.cell_room; in_row_room = λ x. k.in_row_room (h.in_row_room x); in_cell_room = λ x. k.in_cell_room (h.in_cell_room x) }

pub later_trans : {s s' s'' : State} → Later s s' → Later s' s'' → Later s s''
later_trans h k = record { grown = grown_trans h.grown k.grown; deepest = omega arith; in_limit = λ x. k.in_limit (h.in_limit x) }

-- rows, cells, memory and deepest alone change
module _ (s : State) {rs : List Row} {cs : List Thing} {ms : List Memory} (n : ℕ) (r : Extends s.rows rs) (c : Longer s.cells cs) (m : Longer s.memory ms) (i : length s.rows ≤ s.row_room → length rs ≤ s.row_room) (j : length s.cells ≤ s.cell_room → length cs ≤ s.cell_room) where
  grows : Grown s (record { rows = rs; cells = cs; memory = ms; conversions = s.conversions; deepest = n; limit = s.limit; row_room = s.row_room; cell_room = s.cell_room })
  grows = record { rows = r; cells = c; memory = m; conversions = refl; limit = refl; row_room = refl; cell_room = refl; in_row_room = i; in_cell_room = j }

  adds : s.deepest ≤ n → (s.deepest ≤ s.limit → n ≤ s.limit) → Later s (record { rows = rs; cells = cs; memory = ms; conversions = s.conversions; deepest = n; limit = s.limit; row_room = s.row_room; cell_room = s.cell_room })
  adds d l = record { grown = grows; deepest = d; in_limit = l }

pub grown_refl : (s : State) → Grown s s
grown_refl s = grows s s.deepest same no_longer no_longer (λ h. h) (λ h. h)

later_refl : (s : State) → Later s s
later_refl s = adds s s.deepest same no_longer no_longer (λ h. h) (λ h. h) (omega arith) (λ h. h)

-- a call begins with deepest 0
pub fresh : (s : State) → Grown s (with_deepest 0 s)
unfolding with_deepest
fresh s = grows s 0 same no_longer no_longer (λ h. h) (λ h. h)

-- the state that an outcome leaves
abbrev pub left : {A : Type 0} → Outcome A → State
left (done a s) = s
left (refused n s) = s

pub record Leads {A : Type 0} (m : M A) : Type 0 where
  pub leads : (s : State) → Later s (left (m s))

-- one lemma for each combinator

pub binds : {A B : Type 0} {m : M A} {f : A → M B} → Leads m → ((a : A) → Leads (f a)) → Leads (m >>= f)
unfolding ◌>>=◌ go_on
binds {A = A} {m = m} {f = f} h k = record { leads = λ s. go s (m s) (h.leads s) }
  where
    go : (s : State) (o : Outcome A) → Later s (left o) → Later s (left (go_on o f))
    go s (done a s') e = later_trans e ((k a).leads s')
    go s (refused n s') e = e

pub gives : {A : Type 0} (a : A) → Leads (pure a)
unfolding pure
gives a = record { leads = λ s. later_refl s }

pub refuses : {A : Type 0} (n : ℕ) → Leads {A = A} (refuse n)
unfolding refuse
refuses n = record { leads = λ s. later_refl s }

pub branches : {P A : Type 0} {x y : M A} (d : Dec P) → Leads x → Leads y → Leads (choose d then x else y)
unfolding choose◌then◌else◌
branches (yes p) h k = h
branches (no p) h k = k

pub gets : {A B : Type 0} {f : A → M B} {z : M B} (o : Option A) → ((a : A) → Leads (f a)) → Leads z → Leads (from o get f or z)
unfolding from◌get◌or◌
gets (some a) h k = h a
gets none h k = k

pub looks : {A : Type 0} {f : State → M A} → ((s : State) → Leads (f s)) → Leads (looking f)
unfolding looking
looks h = record { leads = λ s. (h s).leads s }

pub emits : (rule : ℕ) (refs : List ℕ) (j : Judgment) → Leads (emit rule refs j)
unfolding emit looking pure push with_row refuse choose◌then◌else◌ from◌get◌or◌
emits rule refs j = record { leads = λ s. go s (row_of j s.rows) (dec_lt (length s.rows) s.row_room) }
  where
    go : (s : State) (o : Option ℕ) (d : Dec (length s.rows < s.row_room)) → Later s (left ((from o get pure or (choose d then push (record { rule = rule; refs = refs; judgment = j }) else refuse Refusal.rows)) s))
    go s (some n) d = later_refl s
    go s none (yes h) = adds s s.deepest (more same) no_longer no_longer (λ _. h) (λ h. h) (omega arith) (λ h. h)
    go s none (no h) = later_refl s

pub counts : (x : Thing) → Leads (count x)
unfolding count with_cell
counts x = record { leads = λ s. go s (among x s.cells) (dec_lt (length s.cells) s.cell_room) }
  where
    go : (s : State) (b : Bool) (d : Dec (length s.cells < s.cell_room)) → Later s (left {A = Unit {0}} (elim b as (λ _. Outcome (Unit {0})) [ true ↦ done tt s | false ↦ elim d as (λ _. Outcome (Unit {0})) [ yes h ↦ done tt (with_cell x s) | no h ↦ refused Refusal.cells s ] ]))
    go s true d = later_refl s
    go s false (yes h) = adds s s.deepest same (one_longer no_longer) no_longer (λ h. h) (λ _. h) (omega arith) (λ h. h)
    go s false (no h) = later_refl s

pub counts_all : (xs : List Thing) → Leads (count_all xs)
unfolding count_all
counts_all [] = gives tt
counts_all (x ∷ xs) = binds (counts x) λ _. counts_all xs

stores : (m : Memory) → Leads (store m)
unfolding store with_memory
stores m = record { leads = λ s. adds s s.deepest same no_longer (one_longer no_longer) (λ h. h) (λ h. h) (omega arith) (λ h. h) }

pub remembers : (k : Key) (ty : Term) (row : ℕ) → Leads (remember k ty row)
unfolding remember
remembers k ty row = binds (counts (inference k)) λ _. stores _

-- a conversion that is counted is counted off
converts : {A : Type 0} {m : M A} → Leads m → Leads (converted m)
unfolding converted ended with_conversions
converts {A} {m} h = record { leads = λ s. go s (m (with_conversions (s.conversions + 1) s)) (h.leads (with_conversions (s.conversions + 1) s)) }
  where
    off : (s s' : State) → Later (with_conversions (s.conversions + 1) s) s' → Later s (with_conversions (s'.conversions - 1) s')
    off s s' e = let g = e.grown in record { grown = record { rows = g.rows; cells = g.cells; memory = g.memory; conversions = omega arith; limit = g.limit; row_room = g.row_room; cell_room = g.cell_room; in_row_room = g.in_row_room; in_cell_room = g.in_cell_room }; deepest = e.deepest; in_limit = e.in_limit }

    go : (s : State) (o : Outcome A) → Later (with_conversions (s.conversions + 1) s) (left o) → Later s (left (ended o))
    go s (done a s') e = off s s' e
    go s (refused n s') e = off s s' e

pub converting_leads : {A : Type 0} {m : M A} → Leads m → Leads (converting m)
unfolding converting
converting_leads h = looks λ s. branches (dec_lt s.conversions 32) (converts h) (refuses Refusal.conversions)

notes : (n : ℕ) → Leads (note n)
unfolding note with_deepest
notes n = record { leads = λ s. adds s (max s.deepest (s.limit - n)) same no_longer no_longer (λ h. h) (λ h. h) (omega arith) (λ h. omega arith) }

pub enters : {A : Type 0} {m : M A} (n : ℕ) (xs : List Thing) → Leads m → Leads (enter n xs m)
unfolding enter
enters n xs h = binds (notes n) λ _. binds (counts_all xs) λ _. h

-- the functions

pub record AllLead (c : Callees) : Type 0 where
  pub ctx : (d : ℕ) (g : Context) → Leads (c.ctx d g)
  pub infer : (d : ℕ) (g : Context) (t : Term) → Leads (c.infer d g t)
  pub universe : (d : ℕ) (g : Context) (t : Term) → Leads (c.universe d g t)
  pub check : (d : ℕ) (g : Context) (t ty : Term) → Leads (c.check d g t ty)
  pub expose : (d : ℕ) (g : Context) (t ty : Term) (row : ℕ) → Leads (c.expose d g t ty row)
  pub normalize : (d : ℕ) (g : Context) (t ty : Term) → Leads (c.normalize d g t ty)
  pub equal : (d : ℕ) (g : Context) (a b ty : Term) → Leads (c.equal d g a b ty)
  pub reduce : (d : ℕ) (g : Context) (t : Term) → Leads (c.reduce d g t)
  pub head_normalize : (d : ℕ) (g : Context) (t ty : Term) → Leads (c.head_normalize d g t ty)
  pub head_step : (d : ℕ) (g : Context) (t : Term) → Leads (c.head_step d g t)
  pub lookup : (g : Context) (n : ℕ) → Leads (c.lookup g n)
  pub dshiftctx : (g : Context) → Leads (c.dshiftctx g)
  pub transform : (t : Term) (op : Op) → Leads (c.transform t op)
  pub itransform : (r : Interval) (op : IOp) → Leads (c.itransform r op)
  pub under : (op : Op) (dimension : Bool) → Leads (c.under op dimension)
  pub interval : (d : ℕ) (r : Interval) → Leads (c.interval d r)
  pub endpoint : (r : Interval) → Leads (c.endpoint r)
  pub comparison : (m n : ℕ) (strict : Bool) → Leads (c.comparison m n strict)
  pub max : (m n : ℕ) → Leads (c.max m n)
  pub more : (n : ℕ) → Leads (c.more n)

ruleset combinators = (binds, gives, refuses, branches, gets, looks, emits, counts_all, remembers, converting_leads)

module _ (c : Callees) (L : AllLead c) where
  lt_by_leads : (m n : ℕ) → Leads (lt_by c m n)
  unfolding lt_by
  lt_by_leads m ℕ.zero = search combinators
  lt_by_leads ℕ.zero (ℕ.suc n) = search combinators
  lt_by_leads (ℕ.suc m) (ℕ.suc n) = search (combinators, L.comparison)

  le_by_leads : (m n : ℕ) → Leads (le_by c m n)
  unfolding le_by
  le_by_leads ℕ.zero n = search combinators
  le_by_leads (ℕ.suc m) ℕ.zero = search combinators
  le_by_leads (ℕ.suc m) (ℕ.suc n) = search (combinators, L.comparison)

  comparison_leads : (m n : ℕ) (strict : Bool) → Leads (comparison_body c m n strict)
  unfolding comparison_body
  comparison_leads m n true = search (combinators, lt_by_leads)
  comparison_leads m n false = search (combinators, le_by_leads)

  max_leads : (m n : ℕ) → Leads (max_body c m n)
  unfolding max_body
  max_leads ℕ.zero n = search combinators
  max_leads (ℕ.suc m) ℕ.zero = search combinators
  max_leads (ℕ.suc m) (ℕ.suc n) = search (combinators, L.max)

  interval_leads : (d : ℕ) (r : Interval) → Leads (interval_body c d r)
  unfolding interval_body
  interval_leads d I0 = search combinators
  interval_leads d I1 = search combinators
  interval_leads d (Dim n) = search (combinators, L.comparison)
  interval_leads d (Neg r) = search (combinators, L.interval)
  interval_leads d (Meet r q) = search (combinators, L.interval)
  interval_leads d (Join r q) = search (combinators, L.interval)

  worked_out_leads : (r : Interval) (e : End) (rule : ℕ) (refs : List ℕ) → Leads (worked_out r e rule refs)
  unfolding worked_out
  worked_out_leads r e rule refs = search combinators

  right_part_leads : (r b : Interval) (enough : End) (rule : ℕ) (left : Option ℕ) → Leads (right_part c r b enough rule left)
  unfolding right_part
  right_part_leads r b enough rule left = search (combinators, worked_out_leads, L.endpoint) depth 10

  two_parts_leads : (r a b : Interval) (enough : End) (rule : ℕ) → Leads (two_parts c r a b enough rule)
  unfolding two_parts
  two_parts_leads r a b enough rule = search (combinators, worked_out_leads, right_part_leads, L.endpoint) depth 10

  endpoint_leads : (r : Interval) → Leads (endpoint_body c r)
  unfolding endpoint_body
  endpoint_leads I0 = search worked_out_leads
  endpoint_leads I1 = search worked_out_leads
  endpoint_leads (Dim n) = search combinators
  endpoint_leads (Neg r) = search (combinators, worked_out_leads, L.endpoint)
  endpoint_leads (Meet r q) = search two_parts_leads
  endpoint_leads (Join r q) = search two_parts_leads

  idim_above_leads : (n k : ℕ) (q : Interval) → Leads (idim_above c n k q)
  unfolding idim_above ifinish
  idim_above_leads ℕ.zero k q = search combinators
  idim_above_leads (ℕ.suc n) k q = search (combinators, L.comparison)

  idim_leads : (n : ℕ) (op : IOp) → Leads (idim c n op)
  unfolding idim ifinish
  idim_leads n (IShift k) = search (combinators, L.comparison, L.more) depth 10
  idim_leads n (ISubst k q) = search (combinators, L.comparison, idim_above_leads) depth 10

  itransform_leads : (r : Interval) (op : IOp) → Leads (itransform_body c r op)
  unfolding itransform_body ifinish
  itransform_leads I0 op = search combinators
  itransform_leads I1 op = search combinators
  itransform_leads (Dim n) op = search idim_leads
  itransform_leads (Neg r) op = search (combinators, L.itransform)
  itransform_leads (Meet r q) op = search (combinators, L.itransform)
  itransform_leads (Join r q) op = search (combinators, L.itransform)

  under_leads : (op : Op) (dimension : Bool) → Leads (under_body c op dimension)
  unfolding under_body
  under_leads (Shift k) false = search (combinators, L.more)
  under_leads (Shift k) true = search combinators
  under_leads (Subst k r) false = search (combinators, L.transform, L.more)
  under_leads (Subst k r) true = search (combinators, L.transform)
  under_leads (DShift k) false = search combinators
  under_leads (DShift k) true = search (combinators, L.more)
  under_leads (DSubst k r) false = search combinators
  under_leads (DSubst k r) true = search (combinators, L.itransform, L.more)

  tvar_above_leads : (n k : ℕ) (r : Term) → Leads (tvar_above c n k r)
  unfolding tvar_above finish
  tvar_above_leads ℕ.zero k r = search combinators
  tvar_above_leads (ℕ.suc n) k r = search (combinators, L.comparison)

  tvar_leads : (n : ℕ) (op : Op) → Leads (tvar c n op)
  unfolding tvar finish
  tvar_leads n (Shift k) = search (combinators, L.comparison, L.more) depth 10
  tvar_leads n (Subst k r) = search (combinators, L.comparison, tvar_above_leads) depth 10
  tvar_leads n (DShift k) = search combinators
  tvar_leads n (DSubst k r) = search combinators

  tinterval_leads : (r : Interval) (op : Op) → Leads (tinterval c r op)
  unfolding tinterval
  tinterval_leads r (Shift k) = search combinators
  tinterval_leads r (Subst k x) = search combinators
  tinterval_leads r (DShift k) = search (combinators, L.itransform)
  tinterval_leads r (DSubst k q) = search (combinators, L.itransform)

  transform_leads : (t : Term) (op : Op) → Leads (transform_body c t op)
  unfolding transform_body tbinder tprojection finish
  transform_leads (Universe l) op = search combinators
  transform_leads (Var n) op = search tvar_leads
  transform_leads Nat op = search combinators
  transform_leads Zero op = search combinators
  transform_leads (Pi a b) op = search (combinators, L.transform, L.under) depth 10
  transform_leads (Lam a b) op = search (combinators, L.transform, L.under) depth 10
  transform_leads (App f a) op = search (combinators, L.transform) depth 10
  transform_leads (Path a b e) op = search (combinators, L.transform, L.under) depth 10
  transform_leads (PathLam a b) op = search (combinators, L.transform, L.under) depth 10
  transform_leads (PathApp p r) op = search (combinators, L.transform, tinterval_leads) depth 10
  transform_leads (Sigma a b) op = search (combinators, L.transform, L.under) depth 10
  transform_leads (Pair ty a b) op = search (combinators, L.transform) depth 10
  transform_leads (Fst p) op = search (combinators, L.transform)
  transform_leads (Snd p) op = search (combinators, L.transform)

  dshiftctx_leads : (g : Context) → Leads (dshiftctx_body c g)
  unfolding dshiftctx_body
  dshiftctx_leads Nil = search combinators
  dshiftctx_leads (Cons a g) = search (combinators, L.dshiftctx, L.transform) depth 10

  new_ctx_leads : (d : ℕ) (g : Context) → Leads (new_ctx c d g)
  unfolding new_ctx
  new_ctx_leads d Nil = search combinators
  new_ctx_leads d (Cons a g) = search (combinators, L.ctx, L.universe)

  ctx_leads : (d : ℕ) (g : Context) → Leads (ctx_body c d g)
  unfolding ctx_body
  ctx_leads d g = search (combinators, new_ctx_leads)

  lookup_leads : (g : Context) (n : ℕ) → Leads (lookup_body c g n)
  unfolding lookup_body
  lookup_leads Nil n = search combinators
  lookup_leads (Cons a g) ℕ.zero = search (combinators, L.transform) depth 10
  lookup_leads (Cons a g) (ℕ.suc n) = search (combinators, L.lookup, L.transform) depth 10

  expose_leads : (d : ℕ) (g : Context) (t ty : Term) (row : ℕ) → Leads (expose_body c d g t ty row)
  unfolding expose_body
  expose_leads d g t ty row = search (combinators, L.universe, L.normalize, L.check) depth 10

  universe_leads : (d : ℕ) (g : Context) (t : Term) → Leads (universe_body c d g t)
  unfolding universe_body
  universe_leads d g t = search (combinators, L.infer, L.expose) depth 10

  check_leads : (d : ℕ) (g : Context) (t ty : Term) → Leads (check_body c d g t ty)
  unfolding check_body
  check_leads d g t ty = search (combinators, L.infer, L.universe, L.equal) depth 10

  headed_leads : (k : Kind) (d : ℕ) (g : Context) (t : Term) → Leads (headed k c d g t)
  unfolding headed
  headed_leads k d g t = search (combinators, L.infer, L.expose)

  as_parts_leads : {A : Type 0} (k : Kind) (parts : Term → Option A) (refusal d : ℕ) (g : Context) (t : Term) → Leads (as_parts k parts refusal c d g t)
  unfolding as_parts
  as_parts_leads k parts refusal d g t = search (combinators, headed_leads)

  founds : (ty : Term) (refs : List ℕ) (rule : ℕ) → Leads (found ty refs rule)
  unfolding found
  founds ty refs rule = search combinators

  find_leads : (d : ℕ) (g : Context) (t : Term) → Leads (find c d g t)
  unfolding find find_binder find_pair
  find_leads d g (Universe l) = search (combinators, founds, L.ctx, L.more)
  find_leads d g Nat = search (combinators, founds, L.ctx)
  find_leads d g Zero = search (combinators, founds, L.ctx)
  find_leads d g (Var n) = search (combinators, founds, L.ctx, L.lookup)
  find_leads d g (Pi a b) = search (combinators, founds, L.universe, L.max)
  find_leads d g (Lam a b) = search (combinators, founds, L.universe, L.infer)
  find_leads d g (App f a) = search (combinators, founds, as_parts_leads, L.check, L.transform)
  find_leads d g (Path a b e) = search (combinators, founds, L.ctx, L.dshiftctx, L.more, L.universe, L.check, L.transform) depth 20
  find_leads d g (PathLam a b) = search (combinators, founds, L.ctx, L.dshiftctx, L.more, L.universe, L.check, L.transform) depth 20
  find_leads d g (PathApp p r) = search (combinators, founds, as_parts_leads, L.interval, L.transform, L.universe) depth 10
  find_leads d g (Sigma a b) = search (combinators, founds, L.universe, L.max)
  find_leads d g (Pair ty a b) = search (combinators, founds, L.universe, L.check, L.transform) depth 10
  find_leads d g (Fst p) = search (combinators, founds, as_parts_leads, L.universe)
  find_leads d g (Snd p) = search (combinators, founds, as_parts_leads, L.transform, L.universe)

  infer_leads : (d : ℕ) (g : Context) (t : Term) → Leads (infer_body c d g t)
  unfolding infer_body new_infer
  infer_leads d g t = search (combinators, find_leads) depth 10

  beta_leads : (d : ℕ) (g : Context) (a body r : Term) → Leads (beta c d g a body r)
  unfolding beta
  beta_leads d g a body r = search (combinators, L.universe, L.infer, L.check, L.transform) depth 10

  at_end_leads : (d : ℕ) (g : Context) (t out ty : Term) (refs : List ℕ) (rule : ℕ) → Leads (at_end c d g t out ty refs rule)
  unfolding at_end
  at_end_leads d g t out ty refs rule = search (combinators, L.check)

  pbeta_leads : (d : ℕ) (g : Context) (p : Term) (r : Interval) (body ty : Term) (x y : ℕ) → Leads (pbeta c d g p r body ty x y)
  unfolding pbeta
  pbeta_leads d g p r body ty x y = search (combinators, L.interval, L.transform, L.check) depth 10

  ends_leads : (d : ℕ) (g : Context) (p : Term) (r : Interval) (b e ty : Term) (x y : ℕ) → Leads (ends c d g p r b e ty x y)
  unfolding ends
  ends_leads d g p I0 b e ty x y = search at_end_leads
  ends_leads d g p I1 b e ty x y = search at_end_leads
  ends_leads d g p (Dim n) b e ty x y = search combinators
  ends_leads d g p (Neg r) b e ty x y = search combinators
  ends_leads d g p (Meet r q) b e ty x y = search combinators
  ends_leads d g p (Join r q) b e ty x y = search combinators

  along_leads : (d : ℕ) (g : Context) (p : Term) (r : Interval) → Leads (along c d g p r)
  unfolding along
  along_leads d g p r = search (combinators, as_parts_leads, L.transform, pbeta_leads, ends_leads) depth 10

  long_end_leads : (p : Term) (r : Interval) → Leads (long_end c p r)
  unfolding long_end
  long_end_leads p r = search (combinators, L.endpoint)

  at_val_leads : (d : ℕ) (g : Context) (p : Term) (r : Interval) (e : End) (w : ℕ) → Leads (at_val c d g p r e w)
  unfolding at_val
  at_val_leads d g p r e w = search (combinators, as_parts_leads, L.interval, L.transform, at_end_leads) depth 10

  reduce_leads : (d : ℕ) (g : Context) (t : Term) → Leads (reduce_body c d g t)
  unfolding reduce_body fst_beta snd_beta
  reduce_leads d g (Universe l) = search combinators
  reduce_leads d g (Var n) = search combinators
  reduce_leads d g Nat = search combinators
  reduce_leads d g Zero = search combinators
  reduce_leads d g (Pi a b) = search combinators
  reduce_leads d g (Lam a b) = search combinators
  reduce_leads d g (App f r) = search (combinators, beta_leads)
  reduce_leads d g (Path a b e) = search combinators
  reduce_leads d g (PathLam a b) = search combinators
  reduce_leads d g (PathApp p r) = search (combinators, long_end_leads, at_val_leads, along_leads)
  reduce_leads d g (Sigma a b) = search combinators
  reduce_leads d g (Pair ty a b) = search combinators
  reduce_leads d g (Fst p) = search (combinators, as_parts_leads, L.check) depth 10
  reduce_leads d g (Snd p) = search (combinators, as_parts_leads, L.transform, at_end_leads) depth 10

  head_goes_leads : (d : ℕ) (g : Context) (f ty : Term) → Leads (head_goes c d g f ty)
  unfolding head_goes
  head_goes_leads d g f ty = search (combinators, L.head_step)

  congruent_leads : (d : ℕ) (g : Context) (t out ty : Term) (refs : List ℕ) (rule : ℕ) → Leads (congruent c d g t out ty refs rule)
  unfolding congruent
  congruent_leads d g t out ty refs rule = search (combinators, L.check)

  app_cong_leads : (d : ℕ) (g : Context) (f a : Term) → Leads (app_cong c d g f a)
  unfolding app_cong
  app_cong_leads d g f a = search (combinators, as_parts_leads, head_goes_leads, L.check, L.transform, congruent_leads) depth 10

  papp_cong_leads : (d : ℕ) (g : Context) (p : Term) (r : Interval) → Leads (papp_cong c d g p r)
  unfolding papp_cong
  papp_cong_leads d g p r = search (combinators, as_parts_leads, head_goes_leads, L.interval, L.transform, congruent_leads) depth 10

  at_head_leads : (d : ℕ) (g : Context) (t : Term) → Leads (at_head c d g t)
  unfolding at_head
  at_head_leads d g (Universe l) = search combinators
  at_head_leads d g (Var n) = search combinators
  at_head_leads d g Nat = search combinators
  at_head_leads d g Zero = search combinators
  at_head_leads d g (Pi a b) = search combinators
  at_head_leads d g (Lam a b) = search combinators
  at_head_leads d g (App f a) = search app_cong_leads
  at_head_leads d g (Path a b e) = search combinators
  at_head_leads d g (PathLam a b) = search combinators
  at_head_leads d g (PathApp p r) = search papp_cong_leads
  at_head_leads d g (Sigma a b) = search combinators
  at_head_leads d g (Pair ty a b) = search combinators
  at_head_leads d g (Fst p) = search combinators
  at_head_leads d g (Snd p) = search combinators

  head_step_leads : (d : ℕ) (g : Context) (t : Term) → Leads (head_step_body c d g t)
  unfolding head_step_body
  head_step_leads d g t = search (combinators, L.reduce, at_head_leads)

  rounds_leads : (n : ℕ) (step : Term → M (Option Step)) → ((t : Term) → Leads (step t)) → (d : ℕ) (g : Context) (t ty now : Term) (row : ℕ) → Leads (rounds n c step d g t ty now row)
  unfolding rounds
  rounds_leads ℕ.zero step steps d g t ty now row = search (combinators, steps)
  rounds_leads (ℕ.suc n) step steps d g t ty now row = search (combinators, steps, L.check, rounds_leads n step steps) depth 10

  normal_by_leads : (step : Term → M (Option Step)) → ((t : Term) → Leads (step t)) → (d : ℕ) (g : Context) (t ty : Term) → Leads (normal_by c step d g t ty)
  unfolding normal_by
  normal_by_leads step steps d g t ty = search (combinators, L.check, rounds_leads 32 step steps)

  normalize_leads : (d : ℕ) (g : Context) (t ty : Term) → Leads (normalize_body c d g t ty)
  unfolding normalize_body
  normalize_leads d g t ty = normal_by_leads (c.reduce d g) (L.reduce d g) d g t ty

  head_normalize_leads : (d : ℕ) (g : Context) (t ty : Term) → Leads (head_normalize_body c d g t ty)
  unfolding head_normalize_body
  head_normalize_leads d g t ty = normal_by_leads (c.head_step d g) (L.head_step d g) d g t ty

  equal_leads : (d : ℕ) (g : Context) (a b ty : Term) → Leads (equal_body c d g a b ty)
  unfolding equal_body
  equal_leads d g a b ty = search (combinators, L.check, L.normalize) depth 10

none_lead : AllLead (none_left one_more)
unfolding none_left one_more
none_lead = search (refuses, gives)

entered_lead : (n : ℕ) (c : Callees) → AllLead c → AllLead (entered n c)
unfolding entered
entered_lead n c L = search (L.more, enters, ctx_leads, infer_leads, universe_leads, check_leads, expose_leads, normalize_leads, equal_leads, reduce_leads, head_normalize_leads, head_step_leads, lookup_leads, dshiftctx_leads, transform_leads, itransform_leads, under_leads, interval_leads, endpoint_leads, comparison_leads, max_leads)

-- the nineteen functions, with n entries left
pub leads : (n : ℕ) → AllLead (callees n)
unfolding callees callees_by
leads ℕ.zero = none_lead
leads (ℕ.suc n) = entered_lead n (callees n) (leads n)
