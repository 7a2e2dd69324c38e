-- What it means that no number passes `largest`, which is 65,535. That it is so is proved in proofs/Bound: the walk that is guarded there, or
-- further up, is the walk (`bounds_to`, `bounds`).
-- `Within b m e Q`: from any state with b rows that fits, e does what m does, which is not stopped by the guard and leaves what fits.
-- In quotes and terms: a row has no number above 33 and the rows below it, and what is handed about none above 32 and the rows.
-- Elsewhere: dimension counts and cutoffs are at most 4,200, since each new one takes an entry; so 4,233 and the rows bound all.
use Rattle.std.specs.Prelude.{ℕ, suc, ◌+◌, ◌≤◌, ◌≡◌, List, [], ◌∷◌, Bool, length}
use Rattle.std.proofs.Math.Option.{Option, none, some}
use Rattle.walk.specs.Syntax.{Interval, Term, Context, quote}
use Rattle.walk.specs.Judgment.{Judgment, ctx, dshiftctx, lookup, lt, le, max as is_max, interval, ishift, isubst, shift, subst, dshift, dsubst, has, eq, iend}
use Rattle.walk.specs.State.{Row, Thing, State, Outcome, done, refused, M, Memory}
use Rattle.walk.specs.Walk.Reference.{Op, Shift, Subst, DShift, DSubst, IOp, IShift, ISubst, Step, Callees}
use Rattle.order.specs.Numbers.{largest, interval_top, term_top, context_top, quote_top, quotes_top, key_top, thing_top, AtMost}
use Rattle.order.specs.Guarded.{beyond}

-- a judgment with no number above m in its quotes, and none above 4,200 + m elsewhere
abbrev pub Below : ℕ → Judgment → Type 0
Below m (ctx d g) = (d ≤ 4200 + m) × (quotes_top g ≤ m)
Below m (dshiftctx g k h) = (k ≤ 4200 + m) × (quotes_top g ≤ m) × (quotes_top h ≤ m)
Below m (lookup g i t) = (i ≤ 4200 + m) × (quotes_top g ≤ m) × (quote_top t ≤ m)
Below m (lt i j) = (i ≤ 4200 + m) × (j ≤ 4200 + m)
Below m (le i j) = (i ≤ 4200 + m) × (j ≤ 4200 + m)
Below m (is_max i j k) = (i ≤ 4200 + m) × (j ≤ 4200 + m) × (k ≤ 4200 + m)
Below m (interval d r) = (d ≤ 4200 + m) × (interval_top r ≤ m)
Below m (ishift r k q) = (k ≤ 4200 + m) × (interval_top r ≤ m) × (interval_top q ≤ m)
Below m (isubst r k q p) = (k ≤ 4200 + m) × (interval_top r ≤ m) × (interval_top q ≤ m) × (interval_top p ≤ m)
Below m (shift t k r) = (k ≤ 4200 + m) × (quote_top t ≤ m) × (quote_top r ≤ m)
Below m (subst t k r p) = (k ≤ 4200 + m) × (quote_top t ≤ m) × (quote_top r ≤ m) × (quote_top p ≤ m)
Below m (dshift t k r) = (k ≤ 4200 + m) × (quote_top t ≤ m) × (quote_top r ≤ m)
Below m (dsubst t k r p) = (k ≤ 4200 + m) × (quote_top t ≤ m) × (interval_top r ≤ m) × (quote_top p ≤ m)
Below m (has d g t y) = (d ≤ 4200 + m) × (quotes_top g ≤ m) × (quote_top t ≤ m) × (quote_top y ≤ m)
Below m (eq d g a b y) = (d ≤ 4200 + m) × (quotes_top g ≤ m) × (quote_top a ≤ m) × (quote_top b ≤ m) × (quote_top y ≤ m)
Below m (iend r e) = (interval_top r ≤ m) × (interval_top e ≤ m)

-- the parts of what has no number above m
abbrev pub Cells : ℕ → List Thing → Type 0
Cells m xs = AtMost m thing_top xs

-- the table: each row by those below it
pub data Small : List Row → Type 0 where
  no_rows : Small []
  row_on : {r : Row} {rs : List Row} → Below (33 + length rs) r.judgment → Small rs → Small (r ∷ rs)

-- what is remembered, with b rows
pub data Remembered (b : ℕ) : List Memory → Type 0 where
  none_remembered : Remembered b []
  remembered_on : {m : Memory} {ms : List Memory} → (key_top m.of ≤ 4233 + b) × (term_top m.type ≤ 32 + b) → Remembered b ms → Remembered b (m ∷ ms)

-- a state that fits, by its parts
pub record Fitting (rows : List Row) (cells : List Thing) (memory : List Memory) (row_room limit : ℕ) : Type 0 where
  pub small : Small rows
  pub held : Cells largest cells
  pub remembered : Remembered (length rows) memory
  pub room : length rows ≤ row_room
  pub cap : row_room ≤ 50000
  pub low : limit ≤ 4096

abbrev pub Fit : State → Type 0
Fit s = Fitting s.rows s.cells s.memory s.row_room s.limit

-- what an outcome leaves
pub data After {A : Type 0} (b : ℕ) (Q : A → ℕ → Type 0) : Outcome A → Type 0 where
  fine : {a : A} {s : State} → b ≤ length s.rows → Fit s → Q a (length s.rows) → After b Q (done a s)
  stopped : {n : ℕ} {s : State} → (n ≡ beyond → ⊥) → b ≤ length s.rows → Fit s → After b Q (refused n s)

pub record Within {A : Type 0} (b : ℕ) (m e : M A) (Q : A → ℕ → Type 0) : Type 0 where
  pub holds : (s : State) → b ≤ length s.rows → Fit s → After b Q (m s)
  pub same : (s : State) → b ≤ length s.rows → Fit s → e s ≡ m s

-- a term, an interval or a context that is handed back
abbrev pub SmallTerm : Term × ℕ → ℕ → Type 0
SmallTerm o b = term_top o.0 ≤ 32 + b

abbrev pub SmallInterval : {A : Type 0} → Interval × A → ℕ → Type 0
SmallInterval o b = interval_top o.0 ≤ 32 + b

abbrev pub SmallContext : Context × ℕ → ℕ → Type 0
SmallContext o b = context_top o.0 ≤ 32 + b

-- the functions

-- what an operation puts in, and where
abbrev pub op_top : Op → ℕ
op_top (Shift k) = 0
op_top (Subst k r) = term_top r
op_top (DShift k) = 0
op_top (DSubst k r) = interval_top r

abbrev pub op_cutoff : Op → ℕ
op_cutoff (Shift k) = k
op_cutoff (Subst k r) = k
op_cutoff (DShift k) = k
op_cutoff (DSubst k r) = k

abbrev pub iop_top : IOp → ℕ
iop_top (IShift k) = 0
iop_top (ISubst k r) = interval_top r

abbrev pub iop_cutoff : IOp → ℕ
iop_cutoff (IShift k) = k
iop_cutoff (ISubst k r) = k

abbrev pub Stepped : Option Step → ℕ → Type 0
Stepped none b = Unit {0}
Stepped (some s) b = (term_top s.term ≤ 32 + b) × (term_top s.type ≤ 32 + b)

abbrev pub Nothing : {A : Type 0} → A → ℕ → Type 0
Nothing x b = Unit {0}

pub record Bounds (n : ℕ) (c c' : Callees) : Type 0 where
  pub ctx : {b : ℕ} (d : ℕ) (g : Context) → (d + n ≤ 4200) × (context_top g ≤ 32 + b) → Within b (c.ctx d g) (c'.ctx d g) Nothing
  pub infer : {b : ℕ} (d : ℕ) (g : Context) (t : Term) → (d + n ≤ 4200) × (context_top g ≤ 32 + b) × (term_top t ≤ 32 + b) → Within b (c.infer d g t) (c'.infer d g t) SmallTerm
  pub universe : {b : ℕ} (d : ℕ) (g : Context) (t : Term) → (d + n ≤ 4200) × (context_top g ≤ 32 + b) × (term_top t ≤ 32 + b) → Within b (c.universe d g t) (c'.universe d g t) (λ o b. o.0 ≤ 32 + b)
  pub check : {b : ℕ} (d : ℕ) (g : Context) (t y : Term) → (d + n ≤ 4200) × (context_top g ≤ 32 + b) × (term_top t ≤ 32 + b) × (term_top y ≤ 32 + b) → Within b (c.check d g t y) (c'.check d g t y) Nothing
  pub expose : {b : ℕ} (d : ℕ) (g : Context) (t y : Term) (row : ℕ) → (d + n ≤ 4200) × (context_top g ≤ 32 + b) × (term_top t ≤ 32 + b) × (term_top y ≤ 32 + b) → Within b (c.expose d g t y row) (c'.expose d g t y row) SmallTerm
  pub normalize : {b : ℕ} (d : ℕ) (g : Context) (t y : Term) → (d + n ≤ 4200) × (context_top g ≤ 32 + b) × (term_top t ≤ 32 + b) × (term_top y ≤ 32 + b) → Within b (c.normalize d g t y) (c'.normalize d g t y) SmallTerm
  pub equal : {b : ℕ} (d : ℕ) (g : Context) (s t y : Term) → (d + n ≤ 4200) × (context_top g ≤ 32 + b) × (term_top s ≤ 32 + b) × (term_top t ≤ 32 + b) × (term_top y ≤ 32 + b) → Within b (c.equal d g s t y) (c'.equal d g s t y) Nothing
  pub reduce : {b : ℕ} (d : ℕ) (g : Context) (t : Term) → (d + n ≤ 4200) × (context_top g ≤ 32 + b) × (term_top t ≤ 32 + b) → Within b (c.reduce d g t) (c'.reduce d g t) Stepped
  pub head_normalize : {b : ℕ} (d : ℕ) (g : Context) (t y : Term) → (d + n ≤ 4200) × (context_top g ≤ 32 + b) × (term_top t ≤ 32 + b) × (term_top y ≤ 32 + b) → Within b (c.head_normalize d g t y) (c'.head_normalize d g t y) SmallTerm
  pub head_step : {b : ℕ} (d : ℕ) (g : Context) (t : Term) → (d + n ≤ 4200) × (context_top g ≤ 32 + b) × (term_top t ≤ 32 + b) → Within b (c.head_step d g t) (c'.head_step d g t) Stepped
  pub lookup : {b : ℕ} (g : Context) (i : ℕ) → (i ≤ 32 + b) × (context_top g ≤ 32 + b) → Within b (c.lookup g i) (c'.lookup g i) SmallTerm
  pub dshiftctx : {b : ℕ} (g : Context) → context_top g ≤ 32 + b → Within b (c.dshiftctx g) (c'.dshiftctx g) SmallContext
  pub transform : {b : ℕ} (t : Term) (op : Op) → (op_cutoff op + n ≤ 4200) × (term_top t ≤ 32 + b) × (op_top op ≤ 32 + b) → Within b (c.transform t op) (c'.transform t op) SmallTerm
  pub itransform : {b : ℕ} (r : Interval) (op : IOp) → (iop_cutoff op + n ≤ 4200) × (interval_top r ≤ 32 + b) × (iop_top op ≤ 32 + b) → Within b (c.itransform r op) (c'.itransform r op) SmallInterval
  pub under : {b : ℕ} (op : Op) (dimension : Bool) → (op_cutoff op + n ≤ 4200) × (op_top op ≤ 32 + b) → Within b (c.under op dimension) (c'.under op dimension) (λ o b. (op_top o.0 ≤ 32 + b) × (op_cutoff o.0 ≤ suc (op_cutoff op)))
  pub interval : {b : ℕ} (d : ℕ) (r : Interval) → (d + n ≤ 4200) × (interval_top r ≤ 32 + b) → Within b (c.interval d r) (c'.interval d r) Nothing
  pub endpoint : {b : ℕ} (r : Interval) → interval_top r ≤ 32 + b → Within b (c.endpoint r) (c'.endpoint r) Nothing
  pub comparison : {b : ℕ} (m k : ℕ) (strict : Bool) → (m ≤ 4233 + b) × (k ≤ 4233 + b) → Within b (c.comparison m k strict) (c'.comparison m k strict) Nothing
  pub max : {b : ℕ} (m k : ℕ) → (m ≤ 4233 + b) × (k ≤ 4233 + b) → Within b (c.max m k) (c'.max m k) Nothing
  pub more : {b : ℕ} (k : ℕ) → k ≤ 4200 + b → Within b (c.more k) (c'.more k) (λ k' _. k' ≡ suc k)

-- a type that was found: one more than what was handed about only where it is a universe
abbrev pub Ready : Term → ℕ → Type 0
Ready ty b = (term_top ty ≤ 33 + b) × ((c : ℕ) → b ≤ c → quote_top (quote ty) ≤ 32 + c → term_top ty ≤ 32 + c)
