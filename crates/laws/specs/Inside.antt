-- The seventeen functions with a check of each call of a transform, inside a run. That no check stops a run is proved in proofs/Inside:
-- `run_checked`.
use Rattle.std.specs.Prelude.{ℕ, suc, Bool, false}
use Rattle.std.proofs.Math.Option.{Option, none, some}
use Rattle.ast.specs.Words.{ifb}
use Rattle.producer.specs.declared.intervals.IOp.{IOp as IOpWords}
use Rattle.producer.specs.declared.intervals.IOp.TheVariants as I
use Rattle.producer.specs.declared.transforms.Op.{Op as OpWords}
use Rattle.producer.specs.declared.transforms.Op.TheVariants as O
use Rattle.producer.specs.Machine.{Machine, Result, is, not}
use Rattle.producer.specs.Callees.{Callees}
use Rattle.producer.specs.Calls as P
use Rattle.walk.specs.Syntax.{Interval, Term, Nil, interval?, term?}
use Rattle.walk.specs.State.{interval}
use Rattle.walk.specs.Walk.Reference.{Op, Shift, Subst, DShift, DSubst, IOp, IShift, ISubst}
use Rattle.walk.specs.Reader.{Call}
use Rattle.walk.specs.Run.{scope_of}
use Rattle.link.specs.Lists.{yes?}
use Rattle.link.specs.Link.{ready}
use Rattle.link.specs.Asked.{Said, afresh, ask}
use Rattle.link.specs.Table.{◌>>=◌, interval_at}
use Rattle.laws.specs.Cells.{term_at}
use Rattle.laws.specs.Transforms.{itransform, transform}

-- what cells and operations read back as

abbrev pub term_of : Machine → ℕ → Option Term
term_of w i = term_at w.state.cells w.cells i

abbrev pub interval_of : Machine → ℕ → Option Interval
interval_of w i = interval_at w.state.cells w.cells i

abbrev pub op_of : Machine → OpWords → Option Op
op_of w (O.Shift k) = some (Shift k)
op_of w (O.Subst k i) = term_of w i >>= λ a. some (Subst k a)
op_of w (O.DShift k) = some (DShift k)
op_of w (O.DSubst k i) = interval_of w i >>= λ s. some (DSubst k s)

abbrev pub iop_of : Machine → IOpWords → Option IOp
iop_of w (I.IShift k) = some (IShift k)
iop_of w (I.ISubst k i) = interval_of w i >>= λ s. some (ISubst k s)

-- what the functions make of them
abbrev pub made : Machine → ℕ → OpWords → Option Term
made w i op = term_of w i >>= λ t. op_of w op >>= λ o. some (transform o t)

abbrev pub imade : Machine → ℕ → IOpWords → Option Interval
imade w i op = interval_of w i >>= λ r. iop_of w op >>= λ o. some (itransform o r)

-- the check

abbrev pub agree : {A : Type 0} → Discrete A → Option A → Option A → Bool
agree same? none b = false
agree same? (some a) none = false
agree same? (some a) (some b) = yes? (same? a b)

-- what is given is stopped with N where it does not read back as what is wanted
unfoldable pub checked : {A : Type 0} → Discrete A → ℕ → (Machine → ℕ → Option A) → Option A → Result (ℕ × ℕ) → Result (ℕ × ℕ)
checked same? N read wanted (is out w) = ifb (agree same? wanted (read w out.0)) (is out w) (not N w)
checked same? N read wanted (not n w) = not n w

-- the functions with n entries left, each call of `transform` and `itransform` with a check
unfoldable pub with_checks : ℕ → Callees → Callees
with_checks N c = record {
  ready = c.ready;
  ctx = c.ctx;
  infer = c.infer;
  universe = c.universe;
  check = c.check;
  expose = c.expose;
  normalize = c.normalize;
  equal = c.equal;
  reduce = c.reduce;
  head_normalize = c.head_normalize;
  head_step = c.head_step;
  lookup = c.lookup;
  dshiftctx = c.dshiftctx;
  transform = λ i op w. checked term? N term_of (made w i op) (c.transform i op w);
  under = c.under;
  itransform = λ i op w. checked interval? N interval_of (imade w i op) (c.itransform i op w);
  interval = c.interval;
  endpoint = c.endpoint;
  comparison = c.comparison;
  max = c.max;
}

unfoldable pub checking : ℕ → ℕ → Callees
checking N ℕ.zero = with_checks N P.none_left
checking N (ℕ.suc n) = with_checks N (P.entered n (checking N n))

-- a call of a run that is let in, over such functions: over `callees` it is what `ask_sized` of `link` asks
unfoldable pub asked_by : (ℕ → Callees) → Call → Machine → Said × Machine
asked_by c call w = ask (c w.state.limit) call.code call.dims (scope_of Nil call.types) call.terms (afresh w)
