-- The laws on the store of any run, of cells: calls of `transform` and `itransform` one after the other, each over the words that the one
-- before left, with nothing asked of states or numbers but that places are at most 65,535. Equal terms have one cell, so what a law says to
-- be equal is the same cell.
use Rattle.std.specs.Prelude.{ℕ, ◌+◌, ◌≤◌, ◌<◌, ◌≡◌, List, ◌++◌, length}
use Rattle.std.proofs.Common.{zero-le, ap, arith}
use Rattle.producer.specs.declared.intervals.IOp.{IOp as IOpWords}
use Rattle.producer.specs.declared.transforms.Op.{Op as OpWords}
use Rattle.producer.specs.Machine.{Machine}
use Rattle.walk.specs.Syntax.{Interval, Term}
use Rattle.walk.specs.State.{State, Thing, term, interval}
use Rattle.walk.specs.Walk.Reference.{Op, IOp}
use Rattle.walk.specs.Reader.{Call}
use Rattle.walk.specs.Run.{run}
use Rattle.order.specs.Numbers.{interval_top, term_top}
use Rattle.order.specs.Guarded.{word}
use Rattle.link.specs.Lists.{Extends, extends_trans}
use Rattle.link.specs.Things.{Cell, cell_lift, cell_number}
use Rattle.link.specs.Holds.{Before, Holds}
use Rattle.link.specs.Linked.{Ops, o_shift, o_subst, o_dshift, o_dsubst, IOps, i_shift, i_subst}
use Rattle.laws.specs.Transforms.{itransform, transform}
use Rattle.laws.specs.Tops.{call_top, icall_top}
use Rattle.laws.proofs.Substs as S
use Rattle.laws.proofs.Results.{results}
use Rattle.laws.proofs.Program.{transform_walked, itransform_walked}
use Rattle.laws.specs.Stores.{Store, small_cell, run_store}
use Rattle.laws.specs.Runs.{Does, IDoes, TermCell, IntervalCell, CellLaws}

-- One call after another. What a call leaves is handed on: a state that has the cells that were there, the cell that it gives, and that no
-- number of it is more than 4,096 above those that went in.

module _ {o : Before} {w w' : Machine} {s : State} {n n' : ℕ} (h : Holds o w s) (most : ℕ) (room : most + 4096 < word) where
  step :
      {C : Type 0} {t : Term} {op : Op} {words : OpWords} →
      Cell n (term t) s.cells → Ops s.cells words op → call_top t op ≤ most → Does w n words n' w' →
      ((s' : State) → Extends s.cells s'.cells → Holds o w' s' → Cell n' (term (transform op t)) s'.cells →
      term_top (transform op t) ≤ most + 4096 → C) → C
  step {t = t} {op = op} c p l d go =
      let low = d.low in
      let x = transform_walked h d.left c p (omega arith) d.call in
      let e = rw x.is_done at (((results d.left).transform t op tt).gives s) in
      let m = rw x.is_done at (((results d.left).transform t op tt).small s) in
      go x.to x.extends x.holds (rw (← e) x.stands) (rw (← e) (omega arith))

  istep :
      {C : Type 0} {r : Interval} {op : IOp} {words : IOpWords} →
      Cell n (interval r) s.cells → IOps s.cells words op → icall_top r op ≤ most → IDoes w n words n' w' →
      ((s' : State) → Extends s.cells s'.cells → Holds o w' s' → Cell n' (interval (itransform op r)) s'.cells →
      interval_top (itransform op r) ≤ most + 4096 → C) → C
  istep {r = r} {op = op} c p l d go =
      let low = d.low in
      let x = itransform_walked h d.left c p (omega arith) d.call in
      let e = rw x.is_done at (((results d.left).itransform r op tt).gives s) in
      let m = rw x.is_done at (((results d.left).itransform r op tt).small s) in
      go x.to x.extends x.holds (rw (← e) x.stands) (rw (← e) (omega arith))

-- equal terms have one cell
one_cell : {n m : ℕ} {x y : Thing} {xs : List Thing} → x ≡ y → Cell n x xs → Cell m y xs → n ≡ m
one_cell e c d = cell_number (rw e at c) d

module _ {w : Machine} (store : Store w) where
  top : {n : ℕ} (c : TermCell store n) → term_top c.of ≤ 65535
  top c = small_cell store.small c.stands

  itop : {n : ℕ} (c : IntervalCell store n) → interval_top c.of ≤ 65535
  itop c = small_cell store.small c.stands

  pub store_laws : CellLaws store
  store_laws = record {
    shift_subst = λ {k = k} l t a d₁ d₂.
        let l₁ = top t in let l₂ = top a in
        step store.holds 65535 (omega arith) t.stands o_shift (omega arith) d₁ λ s₁ e₁ h₁ c₁ m₁.
        step h₁ 69631 (omega arith) c₁ (o_subst (cell_lift e₁ a.stands)) (omega arith) d₂ λ s₂ e₂ h₂ c₂ m₂.
        one_cell (ap term (S.subst_shift k a.of t.of)) c₂ (cell_lift (extends_trans e₁ e₂) t.stands);
    subst_subst = λ {k = k} l t a b d₁ d₂ d₃ d₄ d₅ d₆.
        let l₁ = top t in let l₂ = top a in let l₃ = top b in
        step store.holds 65535 (omega arith) t.stands (o_subst a.stands) (omega arith) d₁ λ s₁ e₁ h₁ c₁ m₁.
        step h₁ 69631 (omega arith) c₁ (o_subst (cell_lift e₁ b.stands)) (omega arith) d₂ λ s₂ e₂ h₂ c₂ m₂.
        let f₂ = extends_trans e₁ e₂ in
        step h₂ 65535 (omega arith) (cell_lift f₂ b.stands) o_shift (omega arith) d₃ λ s₃ e₃ h₃ c₃ m₃.
        let f₃ = extends_trans f₂ e₃ in
        step h₃ 69631 (omega arith) (cell_lift f₃ t.stands) (o_subst c₃) (omega arith) d₄ λ s₄ e₄ h₄ c₄ m₄.
        let f₄ = extends_trans f₃ e₄ in
        step h₄ 65535 (omega arith) (cell_lift f₄ a.stands) (o_subst (cell_lift f₄ b.stands)) (omega arith) d₅ λ s₅ e₅ h₅ c₅ m₅.
        step h₅ 73727 (omega arith) (cell_lift e₅ c₄) (o_subst c₅) (omega arith) d₆ λ s₆ e₆ h₆ c₆ m₆.
        let later = extends_trans e₃ (extends_trans e₄ (extends_trans e₅ e₆)) in
        one_cell (ap term (S.subst_subst 0 k zero-le a.of b.of t.of)) (cell_lift later c₂) c₆;
    subst_dsubst = λ {j = j} {k = k} i l t a s d₁ d₂ d₃ d₄ d₅.
        let l₁ = top t in let l₂ = top a in let l₃ = itop s in
        step store.holds 65535 (omega arith) t.stands (o_subst a.stands) (omega arith) d₁ λ s₁ e₁ h₁ c₁ m₁.
        step h₁ 69631 (omega arith) c₁ (o_dsubst (cell_lift e₁ s.stands)) (omega arith) d₂ λ s₂ e₂ h₂ c₂ m₂.
        let f₂ = extends_trans e₁ e₂ in
        step h₂ 65535 (omega arith) (cell_lift f₂ t.stands) (o_dsubst (cell_lift f₂ s.stands)) (omega arith) d₃ λ s₃ e₃ h₃ c₃ m₃.
        let f₃ = extends_trans f₂ e₃ in
        step h₃ 65535 (omega arith) (cell_lift f₃ a.stands) (o_dsubst (cell_lift f₃ s.stands)) (omega arith) d₄ λ s₄ e₄ h₄ c₄ m₄.
        step h₄ 69631 (omega arith) (cell_lift e₄ c₃) (o_subst c₄) (omega arith) d₅ λ s₅ e₅ h₅ c₅ m₅.
        one_cell (ap term (S.dsubst_subst j k s.of a.of t.of)) (cell_lift (extends_trans e₃ (extends_trans e₄ e₅)) c₂) c₅;
    dshift_dsubst = λ {k = k} l t s d₁ d₂.
        let l₁ = top t in let l₂ = itop s in
        step store.holds 65535 (omega arith) t.stands o_dshift (omega arith) d₁ λ s₁ e₁ h₁ c₁ m₁.
        step h₁ 69631 (omega arith) c₁ (o_dsubst (cell_lift e₁ s.stands)) (omega arith) d₂ λ s₂ e₂ h₂ c₂ m₂.
        one_cell (ap term (S.dsubst_dshift k s.of t.of)) c₂ (cell_lift (extends_trans e₁ e₂) t.stands);
    dsubst_dsubst = λ {k = k} l t r s d₁ d₂ d₃ d₄ d₅ d₆.
        let l₁ = top t in let l₂ = itop r in let l₃ = itop s in
        step store.holds 65535 (omega arith) t.stands (o_dsubst r.stands) (omega arith) d₁ λ s₁ e₁ h₁ c₁ m₁.
        step h₁ 69631 (omega arith) c₁ (o_dsubst (cell_lift e₁ s.stands)) (omega arith) d₂ λ s₂ e₂ h₂ c₂ m₂.
        let f₂ = extends_trans e₁ e₂ in
        istep h₂ 65535 (omega arith) (cell_lift f₂ s.stands) i_shift (omega arith) d₃ λ s₃ e₃ h₃ c₃ m₃.
        let f₃ = extends_trans f₂ e₃ in
        step h₃ 69631 (omega arith) (cell_lift f₃ t.stands) (o_dsubst c₃) (omega arith) d₄ λ s₄ e₄ h₄ c₄ m₄.
        let f₄ = extends_trans f₃ e₄ in
        istep h₄ 65535 (omega arith) (cell_lift f₄ r.stands) (i_subst (cell_lift f₄ s.stands)) (omega arith) d₅ λ s₅ e₅ h₅ c₅ m₅.
        step h₅ 73727 (omega arith) (cell_lift e₅ c₄) (o_dsubst c₅) (omega arith) d₆ λ s₆ e₆ h₆ c₆ m₆.
        let later = extends_trans e₃ (extends_trans e₄ (extends_trans e₅ e₆)) in
        one_cell (ap term (S.dsubst_dsubst 0 k zero-le r.of s.of t.of)) (cell_lift later c₂) c₆;
    ishift_isubst = λ {k = k} l q s d₁ d₂.
        let l₁ = itop q in let l₂ = itop s in
        istep store.holds 65535 (omega arith) q.stands i_shift (omega arith) d₁ λ s₁ e₁ h₁ c₁ m₁.
        istep h₁ 69631 (omega arith) c₁ (i_subst (cell_lift e₁ s.stands)) (omega arith) d₂ λ s₂ e₂ h₂ c₂ m₂.
        one_cell (ap interval (S.isubst_ishift k s.of q.of)) c₂ (cell_lift (extends_trans e₁ e₂) q.stands);
    isubst_isubst = λ {k = k} l q r s d₁ d₂ d₃ d₄ d₅ d₆.
        let l₁ = itop q in let l₂ = itop r in let l₃ = itop s in
        istep store.holds 65535 (omega arith) q.stands (i_subst r.stands) (omega arith) d₁ λ s₁ e₁ h₁ c₁ m₁.
        istep h₁ 69631 (omega arith) c₁ (i_subst (cell_lift e₁ s.stands)) (omega arith) d₂ λ s₂ e₂ h₂ c₂ m₂.
        let f₂ = extends_trans e₁ e₂ in
        istep h₂ 65535 (omega arith) (cell_lift f₂ s.stands) i_shift (omega arith) d₃ λ s₃ e₃ h₃ c₃ m₃.
        let f₃ = extends_trans f₂ e₃ in
        istep h₃ 69631 (omega arith) (cell_lift f₃ q.stands) (i_subst c₃) (omega arith) d₄ λ s₄ e₄ h₄ c₄ m₄.
        let f₄ = extends_trans f₃ e₄ in
        istep h₄ 65535 (omega arith) (cell_lift f₄ r.stands) (i_subst (cell_lift f₄ s.stands)) (omega arith) d₅ λ s₅ e₅ h₅ c₅ m₅.
        istep h₅ 73727 (omega arith) (cell_lift e₅ c₄) (i_subst c₅) (omega arith) d₆ λ s₆ e₆ h₆ c₆ m₆.
        let later = extends_trans e₃ (extends_trans e₄ (extends_trans e₅ e₆)) in
        one_cell (ap interval (S.isubst_isubst 0 k zero-le r.of s.of q.of)) (cell_lift later c₂) c₆;
  }

-- for all bytes and all slices: from what any of a run's calls leave
pub run_laws :
    (rows cells answers bytes : List ℕ) (first others : List Call) →
    let ran = run (length rows) (length cells) (length answers) bytes in
    (e : ran.calls ≡ first ++ others) → CellLaws (run_store rows cells answers bytes first others e)
run_laws rows cells answers bytes first others e = store_laws (run_store rows cells answers bytes first others e)
