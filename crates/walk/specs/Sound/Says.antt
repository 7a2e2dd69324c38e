-- What the row of each reference function states: `Sound c`, of the functions c.
use Rattle.std.specs.Prelude.{ℕ, suc, ◌≡◌, List, [], ◌∷◌, Bool, true, false}
use Rattle.std.proofs.Math.Option.{Option, none, some}
use Rattle.walk.specs.Syntax.{quote, quotes, Interval, Term, Universe, Context}
use Rattle.walk.specs.Judgment.{Judgment, ctx, dshiftctx, lookup, max, interval, ishift, isubst, shift, dshift, iend}
use Rattle.walk.specs.Rules.{Follows}
use Rattle.walk.specs.State.{Row, pure}
use Rattle.walk.specs.Walk.{Op, Shift, Subst, DShift, DSubst, IOp, End, Step, Found, Callees, compared, larger, literal, itransformed, transformed, typing, equation}
use Rattle.walk.specs.Demand.{At, Cites}
use Rattle.walk.specs.Sound.Logic.{Keeps}

-- the rows that a step under a binder cites, with what they say
pub data Under : Op → Bool → Op → List Judgment → Type 0 where
  u_shift : {k : ℕ} → Under (Shift k) false (Shift (suc k)) []
  u_subst : {k : ℕ} {r r' : Term} → Under (Subst k r) false (Subst (suc k) r') (shift (quote r) 0 (quote r') ∷ [])
  u_dshift : {k : ℕ} → Under (DShift k) false (DShift k) []
  u_dsubst : {k : ℕ} {q : Interval} → Under (DSubst k q) false (DSubst k q) []
  d_shift : {k : ℕ} → Under (Shift k) true (Shift k) []
  d_subst : {k : ℕ} {r r' : Term} → Under (Subst k r) true (Subst k r') (dshift (quote r) 0 (quote r') ∷ [])
  d_dshift : {k : ℕ} → Under (DShift k) true (DShift (suc k)) []
  d_dsubst : {k : ℕ} {q q' : Interval} → Under (DSubst k q) true (DSubst (suc k) q') (ishift q 0 q' ∷ [])

pub record Lifted (op : Op) (dimension : Bool) (out : Op × List ℕ) (rs : List Row) : Type 0 where
  pub premises : List Judgment
  pub cited : Cites rs out.1 premises
  pub how : Under op dimension out.0 premises

-- the same of a papp's interval
pub data Inside : Interval → Op → Interval → List Judgment → Type 0 where
  i_shift : {r : Interval} {k : ℕ} → Inside r (Shift k) r []
  i_subst : {r : Interval} {k : ℕ} {t : Term} → Inside r (Subst k t) r []
  i_dshift : {r r' : Interval} {k : ℕ} → Inside r (DShift k) r' (ishift r k r' ∷ [])
  i_dsubst : {r r' q : Interval} {k : ℕ} → Inside r (DSubst k q) r' (isubst r k q r' ∷ [])

pub record Moved (r : Interval) (op : Op) (out : Interval × List ℕ) (rs : List Row) : Type 0 where
  pub premises : List Judgment
  pub cited : Cites rs out.1 premises
  pub how : Inside r op out.0 premises

-- what a step of reduce or of head_step says
abbrev pub Stepped : ℕ → Context → Term → Option Step → List Row → Type 0
Stepped d g t none rs = Unit {0}
Stepped d g t (some step) rs = At step.row (equation d g t step.term step.type) rs

-- what an end that is worked out says
abbrev pub Ended : Interval → Option (End × ℕ) → List Row → Type 0
Ended r none rs = Unit {0}
Ended r (some (e, x)) rs = At x (iend r (literal e)) rs

-- what `find` finds follows
pub record Finds (d : ℕ) (g : Context) (t : Term) (found : Found) (rs : List Row) : Type 0 where
  pub premises : List Judgment
  pub cited : Cites rs found.refs premises
  pub follows : Follows found.rule premises (typing d g t found.type)

-- what each function's row says, and that the number after n is n + 1
pub record Sound (c : Callees) : Type 0 where
  pub ctx : {rs : List Row} (d : ℕ) (g : Context) → Keeps rs (c.ctx d g) (λ x. At x (ctx d (quotes g)))
  pub infer : {rs : List Row} (d : ℕ) (g : Context) (t : Term) → Keeps rs (c.infer d g t) (λ o. At o.1 (typing d g t o.0))
  pub universe : {rs : List Row} (d : ℕ) (g : Context) (t : Term) → Keeps rs (c.universe d g t) (λ o. At o.1 (typing d g t (Universe o.0)))
  pub check : {rs : List Row} (d : ℕ) (g : Context) (t ty : Term) → Keeps rs (c.check d g t ty) (λ x. At x (typing d g t ty))
  pub expose : {rs : List Row} (d : ℕ) (g : Context) (t ty : Term) (x : ℕ) → At x (typing d g t ty) rs → Keeps rs (c.expose d g t ty x) (λ o. At o.1 (typing d g t o.0))
  pub normalize : {rs : List Row} (d : ℕ) (g : Context) (t ty : Term) → Keeps rs (c.normalize d g t ty) (λ o. At o.1 (equation d g t o.0 ty))
  pub equal : {rs : List Row} (d : ℕ) (g : Context) (a b ty : Term) → Keeps rs (c.equal d g a b ty) (λ x. At x (equation d g a b ty))
  pub reduce : {rs : List Row} (d : ℕ) (g : Context) (t : Term) → Keeps rs (c.reduce d g t) (Stepped d g t)
  pub head_normalize : {rs : List Row} (d : ℕ) (g : Context) (t ty : Term) → Keeps rs (c.head_normalize d g t ty) (λ o. At o.1 (equation d g t o.0 ty))
  pub head_step : {rs : List Row} (d : ℕ) (g : Context) (t : Term) → Keeps rs (c.head_step d g t) (Stepped d g t)
  pub lookup : {rs : List Row} (g : Context) (n : ℕ) → Keeps rs (c.lookup g n) (λ o. At o.1 (lookup (quotes g) n (quote o.0)))
  pub dshiftctx : {rs : List Row} (g : Context) → Keeps rs (c.dshiftctx g) (λ o. At o.1 (dshiftctx (quotes g) 0 (quotes o.0)))
  pub transform : {rs : List Row} (t : Term) (op : Op) → Keeps rs (c.transform t op) (λ o. At o.1 (transformed t op o.0))
  pub itransform : {rs : List Row} (r : Interval) (op : IOp) → Keeps rs (c.itransform r op) (λ o. At o.1 (itransformed r op o.0))
  pub under : {rs : List Row} (op : Op) (dimension : Bool) → Keeps rs (c.under op dimension) (Lifted op dimension)
  pub interval : {rs : List Row} (d : ℕ) (r : Interval) → Keeps rs (c.interval d r) (λ x. At x (interval d r))
  pub endpoint : {rs : List Row} (r : Interval) → Keeps rs (c.endpoint r) (Ended r)
  pub comparison : {rs : List Row} (m n : ℕ) (strict : Bool) → Keeps rs (c.comparison m n strict) (λ x. At x (compared strict m n))
  pub max : {rs : List Row} (m n : ℕ) → Keeps rs (c.max m n) (λ x. At x (max m n (larger m n)))
  pub more : (n : ℕ) → c.more n ≡ pure (suc n)
