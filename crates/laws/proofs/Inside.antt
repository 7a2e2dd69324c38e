-- Inside a run: each call of `transform` or `itransform` that a run makes, and that is not refused, gives a cell that reads back as what
-- the function of Transforms makes of what its arguments read back as. It is said by a check: calls are played with functions that, after
-- each such call, read the words back, compare, and stop the call with the number N where they differ; and each call of the run answers as
-- it does without checks, whatever N is: `run_checked`. So no check ever fails.
use Rattle.std.specs.Prelude.{ℕ, suc, ◌≡◌, refl, List, ◌∷◌, ◌++◌, length}
use Rattle.std.proofs.Common.{sym, subst, ap, ◌∙◌, arith}
use Rattle.std.proofs.Math.Option.{Option, some}
use Rattle.std.proofs.Math.Bool.{true}
use Rattle.producer.specs.declared.intervals.IOp.{IOp as IOpWords}
use Rattle.producer.specs.declared.transforms.Op.{Op as OpWords}
use Rattle.producer.specs.declared.State.{State as Counts}
use Rattle.producer.specs.Machine.{Machine, Result}
use Rattle.producer.specs.Callees.{Callees}
use Rattle.producer.specs.Calls as P
use Rattle.walk.specs.Syntax.{Interval, Term, Nil, interval?, term?}
use Rattle.walk.specs.State.{State, Thing, term, interval, Outcome, M, with_deepest}
use Rattle.walk.specs.Walk.Reference as D
use Rattle.walk.specs.Walk.Reference.{Op, IOp}
use Rattle.walk.specs.Walk as B
use Rattle.walk.specs.Reader.{Call}
use Rattle.walk.specs.Limits.{fits, size_call}
use Rattle.walk.specs.Run.{scope_of, walk, run}
use Rattle.walk.specs.Run as R
use Rattle.order.specs.Guarded.{word, guarded}
use Rattle.order.specs.Bound.{Fit}
use Rattle.order.specs.Sent.{scope_low, Let, let_in}
use Rattle.link.specs.Lists.{yes?}
use Rattle.link.specs.Things.{Cell, cell_lift, low_number}
use Rattle.link.specs.Holds.{Before, Holds}
use Rattle.link.specs.Match.{Agree, both_done, both_refused, by_guard, Returns}
use Rattle.link.specs.Linked.{Linked, Ops, o_shift, o_subst, o_dshift, o_dsubst, ops_lift, IOps, i_shift, i_subst, iops_lift}
use Rattle.link.specs.Link.{ready, linked_none, linked_entered, link}
use Rattle.link.specs.Asked.{Said, afresh, ask, ask_all, start}
use Rattle.link.specs.Runs.{no_word, level_word, term_word, Says, Leaves}
use Rattle.link.proofs.Runs.{asked, afresh_holds, runs}
use Rattle.link.specs.Runs.{Results as Words}
use Rattle.link.specs.Table.{◌>>=◌}
use Rattle.laws.specs.Cells.{term_back as read_term, interval_read}
use Rattle.laws.specs.Transforms.{itransform, transform}
use Rattle.laws.specs.Results.{Gave, Results, Any}
use Rattle.laws.proofs.Results.{guarded_results}
use Rattle.laws.specs.Stores.{limit_most}
use Rattle.laws.specs.Inside.{term_of, interval_of, op_of, iop_of, made, imade, agree, checked, with_checks, checking, asked_by}

-- no check fails

agree_same : {A : Type 0} (same? : Discrete A) (a : A) → agree same? (some a) (some a) ≡ true
agree_same same? a = go (same? a a)
  where
    go : (d : Dec (a ≡ a)) → yes? d ≡ true
    go (yes e) = refl
    go (no e) = absurd (e refl)

module _ {A : Type 0} (of : A → Thing) (same? : Discrete A) (N : ℕ) (read : Machine → ℕ → Option A)
    (back : (o : Before) (w : Machine) (s : State) (n : ℕ) (x : A) → Holds o w s → Cell n (of x) s.cells → read w n ≡ some x) where
  check_agrees :
      {o : Before} {xs : List Thing} {wanted : Option A} {a : A} {r : Result (ℕ × ℕ)} {d : Outcome (A × ℕ)} →
      wanted ≡ some a → Agree o xs (Returns of) r d → Gave (λ out. out.0 ≡ a) d → Agree o xs (Returns of) (checked same? N read wanted r) d
  unfolding checked
  check_agrees {o} {wanted = wanted} {a = a} q (both_done {a = x} {b = b} {w = w} {s = s} e h p) g =
      let there = back o w s b.0 x.0 h p.left in
      let passes : agree same? wanted (read w b.0) ≡ true = rw (q, there, g) (agree_same same? a) in
      rw passes (both_done e h p)
  check_agrees q (both_refused e h) g = both_refused e h
  check_agrees q by_guard g = by_guard

term_back : (o : Before) (w : Machine) (s : State) (n : ℕ) (t : Term) → Holds o w s → Cell n (term t) s.cells → term_of w n ≡ some t
term_back o w s n t h c = read_term h c

interval_back :
    (o : Before) (w : Machine) (s : State) (n : ℕ) (r : Interval) → Holds o w s → Cell n (interval r) s.cells →
    interval_of w n ≡ some r
interval_back o w s n r h c = interval_read h c

op_back : {o : Before} {w : Machine} {s : State} {a : OpWords} {op : Op} → Holds o w s → Ops s.cells a op → op_of w a ≡ some op
unfolding ◌>>=◌
op_back h o_shift = refl
op_back {o} {w} {s} h (o_subst {t = t} c) = rw (term_back o w s _ t h c)
op_back h o_dshift = refl
op_back {o} {w} {s} h (o_dsubst {r = r} c) = rw (interval_back o w s _ r h c)

iop_back : {o : Before} {w : Machine} {s : State} {a : IOpWords} {op : IOp} → Holds o w s → IOps s.cells a op → iop_of w a ≡ some op
unfolding ◌>>=◌
iop_back h i_shift = refl
iop_back {o} {w} {s} h (i_subst {r = r} c) = rw (interval_back o w s _ r h c)

made_is :
    {o : Before} {w : Machine} {s : State} {i : ℕ} {t : Term} {a : OpWords} {op : Op} → Holds o w s → Cell i (term t) s.cells →
    Ops s.cells a op →
    made w i a ≡ some (transform op t)
unfolding ◌>>=◌
made_is {o} {w} {s} {i} {t} h c p = rw (term_back o w s i t h c, op_back h p)

imade_is :
    {o : Before} {w : Machine} {s : State} {i : ℕ} {r : Interval} {a : IOpWords} {op : IOp} → Holds o w s →
    Cell i (interval r) s.cells → IOps s.cells a op →
    imade w i a ≡ some (itransform op r)
unfolding ◌>>=◌
imade_is {o} {w} {s} {i} {r} h c p = rw (interval_back o w s i r h c, iop_back h p)

with_checks_linked :
    {o : Before} {rd : M (Unit {0})} (N n : ℕ) (c : Callees) (d : D.Callees) → Results Any n d d → Linked o rd c d →
    Linked o rd (with_checks N c) d
unfolding with_checks
with_checks_linked N n c d G L = record {
  ready = L.ready;
  ctx_absorbs = L.ctx_absorbs;
  infer_absorbs = L.infer_absorbs;
  universe_absorbs = L.universe_absorbs;
  check_absorbs = L.check_absorbs;
  normalize_absorbs = L.normalize_absorbs;
  head_normalize_absorbs = L.head_normalize_absorbs;
  equal_absorbs = L.equal_absorbs;
  transform_absorbs = L.transform_absorbs;
  ctx = L.ctx;
  infer = L.infer;
  universe = L.universe;
  check = L.check;
  expose = L.expose;
  normalize = L.normalize;
  equal = L.equal;
  reduce = L.reduce;
  head_normalize = L.head_normalize;
  head_step = L.head_step;
  lookup = L.lookup;
  dshiftctx = L.dshiftctx;
  transform = λ {t' = t} {b = b} i op. record {
    holds = λ w s e h.
        check_agrees term term? N term_of term_back (made_is h (cell_lift e i) (ops_lift e op))
        ((L.transform i op).holds w s e h) ((G.transform t b tt).gives s);
  };
  under = L.under;
  itransform = λ {r = r} {b = b} i op. record {
    holds = λ w s e h.
        check_agrees interval interval? N interval_of interval_back (imade_is h (cell_lift e i) (iops_lift e op))
        ((L.itransform i op).holds w s e h) ((G.itransform r b tt).gives s);
  };
  interval = L.interval;
  endpoint = L.endpoint;
  comparison = L.comparison;
  max = L.max;
  more = L.more;
}

pub checking_linked : {o : Before} (N n : ℕ) → Linked o (ready n) (checking N n) (guarded n)
unfolding checking B.callees_by
checking_linked N ℕ.zero = with_checks_linked N 0 P.none_left (guarded 0) (guarded_results word 0) linked_none
checking_linked N (ℕ.suc n) =
    with_checks_linked N (suc n) (P.entered n (checking N n)) (guarded (suc n)) (guarded_results word (suc n))
    (linked_entered n (checking N n) (guarded n) (checking_linked N n))

-- the answer's words are determined by the walk's answer
results_same : {xs : List Thing} {n m : ℕ} {r : R.Result} → Words xs n r → Words xs m r → n ≡ m
results_same no_word no_word = refl
results_same (level_word e) (level_word f) = e ∙ sym f
results_same (term_word c) (term_word d) = low_number c d

says_same : {xs : List Thing} {a b : Said} {answer : R.Answer} → Says xs a answer → Says xs b answer → a ≡ b
says_same h k = λ i. record {
  number = (h.number ∙ sym k.number) i;
  row = (h.row ∙ sym k.row) i;
  result = results_same h.result k.result i;
  deepest = (h.deepest ∙ sym k.deepest) i;
}

-- what the walk answers and leaves
walked : Call → State → R.Answer × State
walked call s = walk (B.callees s.limit) call.code call.dims (scope_of Nil call.types) call.terms (with_deepest 0 s)

-- a call answers as the walk does, over any functions that match the guarded walk's
says_so :
    {o : Before} {w : Machine} {s : State} (c : ℕ → Callees) → ((n : ℕ) → Linked o (ready n) (c n) (guarded n)) →
    (call : Call) → Let call → Fit s → Holds o w s → Leaves o s.cells (asked_by c call w) (walked call s)
unfolding asked_by walked with_deepest
says_so {o} {w} {s} c L call k f h =
    let d = k.dims in
    let l = f.low in
    let g = scope_of Nil call.types in
    let same_limit : s.limit ≡ w.state.limit = ap (λ (n : Counts). n.limit) (sym h.counts) in
    subst (λ (m : ℕ). Leaves o s.cells (ask (c m) call.code call.dims g call.terms (afresh w)) (walked call s)) same_limit
    (asked {s = with_deepest 0 s} s.limit (L s.limit) call.code call.dims g call.terms
    (omega arith) (scope_low Nil call.types (omega arith) k.types) k.terms f (afresh_holds h))

-- For all bytes and all slices: each call of a run that is let in, from what the calls before it left, has the same answer with checks as
-- without, whatever the number N is that a check would stop it with.
pub run_checked :
    (N : ℕ) (rows cells answers bytes : List ℕ) (first others : List Call) (call : Call) (n : ℕ) →
    let ran = run (length rows) (length cells) (length answers) bytes in
    ran.calls ≡ first ++ call ∷ others → size_call call ≡ fits n →
    let w = (ask_all first (start ran.limit rows cells)).1 in
    (asked_by (checking N) call w).0 ≡ (asked_by P.callees call w).0
run_checked N rows cells answers bytes first others call n q e =
    let r = runs _ rows cells first (limit_most (length rows) (length cells) (length answers) bytes) in
    let k = let_in call n e in
    says_same
    (says_so (checking N) (λ m. checking_linked N m) call k r.fit r.holds).says
    (says_so P.callees (λ m. link m) call k r.fit r.holds).says
