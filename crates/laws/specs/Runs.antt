-- The laws of calls one after the other, on a store. That they hold on the store of any run is proved in proofs/Runs: `run_laws`.
use Rattle.std.specs.Prelude.{ℕ, suc, ◌≤◌, ◌≡◌}
use Rattle.producer.specs.declared.intervals.IOp.{IOp as IOpWords}
use Rattle.producer.specs.declared.intervals.IOp.TheVariants as I
use Rattle.producer.specs.declared.transforms.Op.{Op as OpWords}
use Rattle.producer.specs.declared.transforms.Op.TheVariants as O
use Rattle.producer.specs.Machine.{Machine, is}
use Rattle.producer.specs.Calls.{callees}
use Rattle.walk.specs.Syntax.{Interval, Term}
use Rattle.walk.specs.State.{term, interval}
use Rattle.link.specs.Things.{Cell}
use Rattle.laws.specs.Transforms.{itransform, transform}
use Rattle.laws.specs.Stores.{Store}

-- A call that is not refused, with as many entries left as a run may have: over the words w, on the cell t, it gives the cell t' and
-- leaves w'. (`callees` is what the code's contract says that it does.)
pub record Does (w : Machine) (t : ℕ) (op : OpWords) (t' : ℕ) (w' : Machine) : Type 0 where
  pub left : ℕ
  pub low : left ≤ 4096
  pub row : ℕ
  pub call : (callees left).transform t op w ≡ is (t', row) w'

pub record IDoes (w : Machine) (r : ℕ) (op : IOpWords) (r' : ℕ) (w' : Machine) : Type 0 where
  pub left : ℕ
  pub low : left ≤ 4096
  pub row : ℕ
  pub call : (callees left).itransform r op w ≡ is (r', row) w'

-- a cell of a store that stands for a term, or for an interval
pub record TermCell {w : Machine} (store : Store w) (n : ℕ) : Type 0 where
  pub of : Term
  pub stands : Cell n (term of) store.s.cells

pub record IntervalCell {w : Machine} (store : Store w) (n : ℕ) : Type 0 where
  pub of : Interval
  pub stands : Cell n (interval of) store.s.cells

pub record CellLaws {w : Machine} (store : Store w) : Type 0 where
  pub shift_subst :
      {k t a t₁ t₂ : ℕ} {w₁ w₂ : Machine} → k ≤ 65535 → TermCell store t → TermCell store a →
      Does w t (O.Shift k) t₁ w₁ → Does w₁ t₁ (O.Subst k a) t₂ w₂ →
      t₂ ≡ t
  pub subst_subst :
      {k t a b t₁ t₂ b' u₁ a' u₂ : ℕ} {w₁ w₂ w₃ w₄ w₅ w₆ : Machine} → k ≤ 65535 →
      TermCell store t → TermCell store a → TermCell store b →
      Does w t (O.Subst 0 a) t₁ w₁ → Does w₁ t₁ (O.Subst k b) t₂ w₂ →
      Does w₂ b (O.Shift 0) b' w₃ → Does w₃ t (O.Subst (suc k) b') u₁ w₄ →
      Does w₄ a (O.Subst k b) a' w₅ → Does w₅ u₁ (O.Subst 0 a') u₂ w₆ →
      t₂ ≡ u₂
  pub subst_dsubst :
      {j k t a s t₁ t₂ u₁ a' u₂ : ℕ} {w₁ w₂ w₃ w₄ w₅ : Machine} → j ≤ 65535 → k ≤ 65535 →
      TermCell store t → TermCell store a → IntervalCell store s →
      Does w t (O.Subst k a) t₁ w₁ → Does w₁ t₁ (O.DSubst j s) t₂ w₂ →
      Does w₂ t (O.DSubst j s) u₁ w₃ → Does w₃ a (O.DSubst j s) a' w₄ → Does w₄ u₁ (O.Subst k a') u₂ w₅ →
      t₂ ≡ u₂
  pub dshift_dsubst :
      {k t s t₁ t₂ : ℕ} {w₁ w₂ : Machine} → k ≤ 65535 → TermCell store t → IntervalCell store s →
      Does w t (O.DShift k) t₁ w₁ → Does w₁ t₁ (O.DSubst k s) t₂ w₂ →
      t₂ ≡ t
  pub dsubst_dsubst :
      {k t r s t₁ t₂ s' u₁ r' u₂ : ℕ} {w₁ w₂ w₃ w₄ w₅ w₆ : Machine} → k ≤ 65535 →
      TermCell store t → IntervalCell store r → IntervalCell store s →
      Does w t (O.DSubst 0 r) t₁ w₁ → Does w₁ t₁ (O.DSubst k s) t₂ w₂ →
      IDoes w₂ s (I.IShift 0) s' w₃ → Does w₃ t (O.DSubst (suc k) s') u₁ w₄ →
      IDoes w₄ r (I.ISubst k s) r' w₅ → Does w₅ u₁ (O.DSubst 0 r') u₂ w₆ →
      t₂ ≡ u₂
  pub ishift_isubst :
      {k q s q₁ q₂ : ℕ} {w₁ w₂ : Machine} → k ≤ 65535 → IntervalCell store q → IntervalCell store s →
      IDoes w q (I.IShift k) q₁ w₁ → IDoes w₁ q₁ (I.ISubst k s) q₂ w₂ →
      q₂ ≡ q
  pub isubst_isubst :
      {k q r s q₁ q₂ s' u₁ r' u₂ : ℕ} {w₁ w₂ w₃ w₄ w₅ w₆ : Machine} → k ≤ 65535 →
      IntervalCell store q → IntervalCell store r → IntervalCell store s →
      IDoes w q (I.ISubst 0 r) q₁ w₁ → IDoes w₁ q₁ (I.ISubst k s) q₂ w₂ →
      IDoes w₂ s (I.IShift 0) s' w₃ → IDoes w₃ q (I.ISubst (suc k) s') u₁ w₄ →
      IDoes w₄ r (I.ISubst k s) r' w₅ → IDoes w₅ u₁ (I.ISubst 0 r') u₂ w₆ →
      q₂ ≡ u₂
