-- The program's calls of `transform` and `itransform` that are not refused are calls of the walk, so the laws hold of them.
-- The code's contract says that it does what the model does (`callees` of `producer`); `link` matches the model with the walk.
use Rattle.std.specs.Prelude.{ℕ, ◌≡◌, refl, List}
use Rattle.std.proofs.Common.{sym, arith}
use Rattle.producer.specs.declared.intervals.IOp.{IOp as IOpWords}
use Rattle.producer.specs.declared.transforms.Op.{Op as OpWords}
use Rattle.producer.specs.Machine.{Machine, Result, is}
use Rattle.producer.specs.Answers.{end}
use Rattle.producer.specs.Calls.{callees}
use Rattle.walk.specs.Syntax.{Interval, Term}
use Rattle.walk.specs.State.{State, Thing, term, interval, Outcome}
use Rattle.walk.specs.Walk.Reference.{Op, IOp}
use Rattle.walk.specs.Walk as W
use Rattle.order.specs.Guarded.{word}
use Rattle.order.specs.Refusals.{Full, no_row, no_entry, no_cell, Passes, refusals}
use Rattle.link.specs.Lists.{same}
use Rattle.link.specs.Things.{Cell}
use Rattle.link.specs.Holds.{Before, Holds}
use Rattle.link.specs.Match.{Agree, both_done, both_refused, by_guard, Returns}
use Rattle.link.specs.Linked.{Ops, IOps}
use Rattle.link.specs.Link.{link}
use Rattle.laws.specs.Cells.{term_back, interval_read}
use Rattle.laws.specs.Tops.{call_top, icall_top}
use Rattle.laws.specs.Results.{Far, Called, ICalled}
use Rattle.laws.proofs.Results.{exact_results}
use Rattle.laws.specs.Program.{RanTransform, RanItransform, Walked}

full_is : {n : ℕ} → Full n → n ≡ 0 → ⊥
full_is no_row e = omega arith
full_is no_entry e = omega arith
full_is no_cell e = omega arith

walked :
    {A : Type 0} {of : A → Thing} {o : Before} {xs : List Thing} {r : Result (ℕ × ℕ)} {d : Outcome (A × ℕ)} (n row : ℕ) (w : Machine) →
    Agree o xs (Returns of) r d → Passes Full d → r ≡ is (n, row) w → Walked o of xs d n row w
walked n row w (both_done {a = x} {b = b} {w = w'} {s = s} e h q) f p =
    let p₁ : w' ≡ w = cc in
    let p₂ : b.0 ≡ n = cc in
    let p₃ : b.1 ≡ row = cc in
    record {
      value = x.0;
      to = s;
      is_done = rw (← p₃, q.right);
      extends = e;
      holds = rw (← p₁) h;
      stands = rw (← p₂) q.left;
    }
walked n row w (both_refused {n = m} {w = w'} e h) f p = let z : ◌≡◌ {A = ℕ} 0 1 = cc in absurd (omega arith)
walked n row w by_guard f p = absurd (full_is f refl)

-- A call of the model's is a call of the walk, which ends alike; and what it leaves stands for a state again, so another call may start there.
module _ {o : Before} {w w' : Machine} {s : State} (h : Holds o w s) {cell cell' row : ℕ} (left : ℕ) where
  pub transform_walked :
      {t : Term} {op : Op} {words : OpWords} →
      Cell cell (term t) s.cells → Ops s.cells words op → Far word left (call_top t op) →
      (callees left).transform cell words w ≡ is (cell', row) w' →
      Walked o term s.cells ((W.callees left).transform t op s) cell' row w'
  transform_walked {t} {op} c p far e =
      let g = ((exact_results word left).transform t op far).same s in
      let f = ((refusals left).transform t op).only s in
      rw g (walked cell' row w' (((link left).transform c p).holds w s same h) (rw g at f) e)

  pub itransform_walked :
      {r : Interval} {op : IOp} {words : IOpWords} →
      Cell cell (interval r) s.cells → IOps s.cells words op → Far word left (icall_top r op) →
      (callees left).itransform cell words w ≡ is (cell', row) w' →
      Walked o interval s.cells ((W.callees left).itransform r op s) cell' row w'
  itransform_walked {r} {op} c p far e =
      let g = ((exact_results word left).itransform r op far).same s in
      let f = ((refusals left).itransform r op).only s in
      rw g (walked cell' row w' (((link left).itransform c p).holds w s same h) (rw g at f) e)

-- so of the code's

pub called : {t t' : Term} {op : Op} → RanTransform t op t' → Called t op t'
unfolding end
called {t} {t'} {op} c =
    let x = transform_walked c.holds c.left c.stands c.op_stands c.far (sym c.ensures) in
    let back = term_back x.holds x.stands in
    let same_term : x.value ≡ t' = cc (back, c.reads) in
    record { left = c.left; from = c.s; to = x.to; row = c.row; call = rw (← same_term) x.is_done }

pub icalled : {r r' : Interval} {op : IOp} → RanItransform r op r' → ICalled r op r'
unfolding end
icalled {r} {r'} {op} c =
    let x = itransform_walked c.holds c.left c.stands c.op_stands c.far (sym c.ensures) in
    let back = interval_read x.holds x.stands in
    let same_interval : x.value ≡ r' = cc (back, c.reads) in
    record { left = c.left; from = c.s; to = x.to; row = c.row; call = rw (← same_interval) x.is_done }
