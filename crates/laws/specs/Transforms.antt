-- The transforms as functions of terms: what the walk's `transform`, `itransform` and `under` give (`results` of Results), without
-- rows, cells and refusals. They take the walk's operations. Annotations are transformed too: a lam's outside its binder, a
-- plam's under its dimension, a pair's beside its parts.
use Rattle.std.specs.Prelude.{ℕ, suc, Bool, true, false}
use Rattle.walk.specs.Syntax.{Interval, I0, I1, Dim, Neg, Meet, Join, Term, Universe, Var, Nat, Zero, Pi, Lam, App, Path, PathLam, PathApp, Sigma, Pair, Fst, Snd}
use Rattle.walk.specs.Walk.Reference.{Op, Shift, Subst, DShift, DSubst, IOp, IShift, ISubst}
use Rattle.laws.specs.Indices.{up, put}

-- of an interval

abbrev pub at_dim : IOp → ℕ → Interval
at_dim (IShift k) n = Dim (up k n)
at_dim (ISubst k s) n = put Dim k s n

unfoldable pub itransform : IOp → Interval → Interval
-- written by tools/written.py: an interval
itransform op I0 = I0
itransform op I1 = I1
itransform op (Dim n) = at_dim op n
itransform op (Neg a) = Neg (itransform op a)
itransform op (Meet a b) = Meet (itransform op a) (itransform op b)
itransform op (Join a b) = Join (itransform op a) (itransform op b)

-- end of an interval

-- of a term

abbrev pub at_var : Op → ℕ → Term
at_var (Shift k) n = Var (up k n)
at_var (Subst k a) n = put Var k a n
at_var (DShift k) n = Var n
at_var (DSubst k s) n = Var n

-- of the interval of a papp
abbrev pub at_interval : Op → Interval → Interval
at_interval (Shift k) r = r
at_interval (Subst k a) r = r
at_interval (DShift k) r = itransform (IShift k) r
at_interval (DSubst k s) r = itransform (ISubst k s) r

-- under a binder, of a variable (false) or of a dimension (true); `lift` moves a term there
abbrev pub under_with : (Bool → Term → Term) → Op → Bool → Op
under_with lift (Shift k) false = Shift (suc k)
under_with lift (Shift k) true = Shift k
under_with lift (Subst k a) false = Subst (suc k) (lift false a)
under_with lift (Subst k a) true = Subst k (lift true a)
under_with lift (DShift k) false = DShift k
under_with lift (DShift k) true = DShift (suc k)
under_with lift (DSubst k s) false = DSubst k s
under_with lift (DSubst k s) true = DSubst (suc k) (itransform (IShift 0) s)

module _ (lift : Bool → Term → Term) where
  unfoldable pub transform_with : Op → Term → Term
  -- written by tools/written.py: a term
  transform_with op (Universe n) = Universe n
  transform_with op (Var n) = at_var op n
  transform_with op Nat = Nat
  transform_with op Zero = Zero
  transform_with op (Pi a b) = Pi (transform_with op a) (transform_with (under_with lift op false) b)
  transform_with op (Lam a b) = Lam (transform_with op a) (transform_with (under_with lift op false) b)
  transform_with op (App a b) = App (transform_with op a) (transform_with op b)
  transform_with op (Path a b c) = Path (transform_with (under_with lift op true) a) (transform_with op b) (transform_with op c)
  transform_with op (PathLam a b) = PathLam (transform_with (under_with lift op true) a) (transform_with (under_with lift op true) b)
  transform_with op (PathApp a b) = PathApp (transform_with op a) (at_interval op b)
  transform_with op (Sigma a b) = Sigma (transform_with op a) (transform_with (under_with lift op false) b)
  transform_with op (Pair a b c) = Pair (transform_with op a) (transform_with op b) (transform_with op c)
  transform_with op (Fst a) = Fst (transform_with op a)
  transform_with op (Snd a) = Snd (transform_with op a)
  -- end of a term

-- A term moves under a binder by a shift at 0. A shift puts nothing in, so it has nothing to lift (`lifted_is` of Squares).
unfoldable pub lifted : Bool → Term → Term
lifted false t = transform_with (λ _ a. a) (Shift 0) t
lifted true t = transform_with (λ _ a. a) (DShift 0) t

abbrev pub transform : Op → Term → Term
transform op t = transform_with lifted op t

abbrev pub under : Op → Bool → Op
under op dimension = under_with lifted op dimension

-- by name

abbrev pub ishift : ℕ → Interval → Interval
ishift k r = itransform (IShift k) r

abbrev pub isubst : ℕ → Interval → Interval → Interval
isubst k s r = itransform (ISubst k s) r

abbrev pub shift : ℕ → Term → Term
shift k t = transform (Shift k) t

abbrev pub subst : ℕ → Term → Term → Term
subst k a t = transform (Subst k a) t

abbrev pub dshift : ℕ → Term → Term
dshift k t = transform (DShift k) t

abbrev pub dsubst : ℕ → Interval → Term → Term
dsubst k s t = transform (DSubst k s) t
