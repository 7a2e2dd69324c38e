-- A cell that is read back as a quote holds that quote: it has the kind, and its parts in lower cells. Assumes nothing.
use Rattle.std.specs.Prelude.{ℕ, zero, suc, ◌<◌, ◌≡◌, refl, List, Bool, true, false, ltb}
use Rattle.std.proofs.Math.Option.{Option, none, some}
use Rattle.std.proofs.Common.{add-zero, ltb→lt}
use Rattle.walk.specs.Syntax.{Interval, Quote, Quotes}
use Rattle.walk.specs.Reader.{Kind, k_u, k_v, k_nat, k_zero, k_pi, k_lam, k_app, k_path, k_plam, k_papp, k_sigma, k_pair, k_fst, k_snd, IKind, k_0, k_1, k_dim, k_neg, k_meet, k_join}
use Rattle.link.specs.Table.{◌>>=◌, kind_word, part, interval_by, quote_by, CKind, k_nil, k_cons, context_by, lower, interval_at, quote_at, context_at}
use Rattle.quotes.specs.Quotes.{cell_word}
use Rattle.listed.specs.Said.{PartIn, IntervalCell, cell_0, cell_1, cell_dim, cell_neg, cell_meet, cell_join, QuoteCell, cell_u, cell_v, cell_nat, cell_zero, cell_pi, cell_lam, cell_app, cell_path, cell_plam, cell_papp, cell_sigma, cell_pair, cell_fst, cell_snd, ContextCell, cell_nil, cell_cons}
use Rattle.walk.specs.Bytes.{no_some, kind_byte, kind_is, ikind_byte, ikind_is}
use Rattle.listed.specs.Kinds.{ckind_byte, ckind_is}

-- what gives something gave something at each step

record Then {A B : Type 0} (x : Option A) (f : A → Option B) (b : B) : Type 0 where
  one : A
  first : x ≡ some one
  rest : f one ≡ some b

then : {A B : Type 0} (x : Option A) (f : A → Option B) {b : B} → (x >>= f) ≡ some b → Then x f b
unfolding ◌>>=◌
then (some a) f e = record { one = a; first = refl; rest = e }
then none f e = absurd (no_some e)

-- a number under a bound, with what it gives
pub record Under {A : Type 0} (n : ℕ) (at : ℕ → Option A) (i : ℕ) (a : A) : Type 0 where
  pub under : i < n
  pub is : at i ≡ some a

pub lowered : {A : Type 0} (n : ℕ) (at : ℕ → Option A) (i : ℕ) {a : A} → lower n at i ≡ some a → Under n at i a
lowered {A} n at i {a} e = go (ltb i n) refl e
  where
    go : (b : Bool) → ltb i n ≡ b → (elim b as (λ _. Option A) [ true ↦ at i | false ↦ none ]) ≡ some a → Under n at i a
    go true l e = record { under = ltb→lt i n (rw l tt); is = e }
    go false l e = absurd (no_some e)

-- A part of cell n, found by `at`: its cell is lower, and the rest goes on from what it is.
record Part {A B : Type 0} (C : List ℕ) (n w : ℕ) (at : ℕ → Option A) (f : A → Option B) (b : B) : Type 0 where
  one : A
  lies : PartIn C n w (part w C n)
  is : at (part w C n) ≡ some one
  rest : f one ≡ some b

part_then : {A B : Type 0} (C : List ℕ) (n w : ℕ) (at : ℕ → Option A) (f : A → Option B) {b : B} → (lower n at (part w C n) >>= f) ≡ some b → Part C n w at f b
part_then C n w at f e =
    let t = then (lower n at (part w C n)) f e in
    let l = lowered n at (part w C n) t.first in
    record { one = t.one; lies = record { word = refl; lower = l.under }; is = l.is; rest = t.rest }

-- The kind is word 0.
first_word : (C : List ℕ) (n : ℕ) {k : ℕ} → kind_word C n ≡ k → cell_word C n 0 ≡ k
first_word C n e = rw add-zero e

pub some_is : {A : Type 0} {a b : A} → some a ≡ some b → a ≡ b
some_is e = cc

-- intervals

module _ (C : List ℕ) (n f : ℕ) (cell : (m : ℕ) (r : Interval) → interval_at f C m ≡ some r → IntervalCell C m r) where
  interval_kind : (k : IKind) {q : Interval} → cell_word C n 0 ≡ ikind_byte k → interval_by (lower n (interval_at f C)) k (part 1 C n) (part 2 C n) ≡ some q → IntervalCell C n q
  unfolding interval_by
  -- written by tools/written.py: cell of an interval
  interval_kind k_0 h e = rw (← some_is e) (cell_0 h)
  interval_kind k_1 h e = rw (← some_is e) (cell_1 h)
  interval_kind k_dim h e = rw (← some_is e) (cell_dim h refl)
  interval_kind k_neg h e =
      let a = part_then C n 1 (interval_at f C) _ e in
      rw (← some_is a.rest) (cell_neg h a.lies (cell _ _ a.is))
  interval_kind k_meet h e =
      let a = part_then C n 1 (interval_at f C) _ e in
      let b = part_then C n 2 (interval_at f C) _ a.rest in
      rw (← some_is b.rest) (cell_meet h a.lies (cell _ _ a.is) b.lies (cell _ _ b.is))
  interval_kind k_join h e =
      let a = part_then C n 1 (interval_at f C) _ e in
      let b = part_then C n 2 (interval_at f C) _ a.rest in
      rw (← some_is b.rest) (cell_join h a.lies (cell _ _ a.is) b.lies (cell _ _ b.is))
  -- end of cell of an interval

pub interval_cell : (f : ℕ) (C : List ℕ) (n : ℕ) (q : Interval) → interval_at f C n ≡ some q → IntervalCell C n q
unfolding interval_at
interval_cell zero C n q e = absurd (no_some e)
interval_cell (suc f) C n q e =
    let t = then _ _ e in
    interval_kind C n f (interval_cell f C) t.one (first_word C n (ikind_is (kind_word C n) t.one t.first)) t.rest

-- terms

module _ (C : List ℕ) (n f : ℕ) (cell : (m : ℕ) (t : Quote) → quote_at f C m ≡ some t → QuoteCell C m t) where
  quote_kind : (k : Kind) {q : Quote} → cell_word C n 0 ≡ kind_byte k → quote_by (lower n (quote_at f C)) (lower n (interval_at f C)) k (part 1 C n) (part 2 C n) (part 3 C n) ≡ some q → QuoteCell C n q
  unfolding quote_by
  -- written by tools/written.py: cell of a quote
  quote_kind k_u h e = rw (← some_is e) (cell_u h refl)
  quote_kind k_v h e = rw (← some_is e) (cell_v h refl)
  quote_kind k_nat h e = rw (← some_is e) (cell_nat h)
  quote_kind k_zero h e = rw (← some_is e) (cell_zero h)
  quote_kind k_pi h e =
      let a = part_then C n 1 (quote_at f C) _ e in
      let b = part_then C n 2 (quote_at f C) _ a.rest in
      rw (← some_is b.rest) (cell_pi h a.lies (cell _ _ a.is) b.lies (cell _ _ b.is))
  quote_kind k_lam h e =
      let b = part_then C n 2 (quote_at f C) _ e in
      rw (← some_is b.rest) (cell_lam h b.lies (cell _ _ b.is))
  quote_kind k_app h e =
      let a = part_then C n 1 (quote_at f C) _ e in
      let b = part_then C n 2 (quote_at f C) _ a.rest in
      rw (← some_is b.rest) (cell_app h a.lies (cell _ _ a.is) b.lies (cell _ _ b.is))
  quote_kind k_path h e =
      let a = part_then C n 1 (quote_at f C) _ e in
      let b = part_then C n 2 (quote_at f C) _ a.rest in
      let c = part_then C n 3 (quote_at f C) _ b.rest in
      rw (← some_is c.rest) (cell_path h a.lies (cell _ _ a.is) b.lies (cell _ _ b.is) c.lies (cell _ _ c.is))
  quote_kind k_plam h e =
      let b = part_then C n 2 (quote_at f C) _ e in
      rw (← some_is b.rest) (cell_plam h b.lies (cell _ _ b.is))
  quote_kind k_papp h e =
      let a = part_then C n 1 (quote_at f C) _ e in
      let b = part_then C n 2 (interval_at f C) _ a.rest in
      rw (← some_is b.rest) (cell_papp h a.lies (cell _ _ a.is) b.lies (interval_cell f C _ _ b.is))
  quote_kind k_sigma h e =
      let a = part_then C n 1 (quote_at f C) _ e in
      let b = part_then C n 2 (quote_at f C) _ a.rest in
      rw (← some_is b.rest) (cell_sigma h a.lies (cell _ _ a.is) b.lies (cell _ _ b.is))
  quote_kind k_pair h e =
      let b = part_then C n 2 (quote_at f C) _ e in
      let c = part_then C n 3 (quote_at f C) _ b.rest in
      rw (← some_is c.rest) (cell_pair h b.lies (cell _ _ b.is) c.lies (cell _ _ c.is))
  quote_kind k_fst h e =
      let a = part_then C n 1 (quote_at f C) _ e in
      rw (← some_is a.rest) (cell_fst h a.lies (cell _ _ a.is))
  quote_kind k_snd h e =
      let a = part_then C n 1 (quote_at f C) _ e in
      rw (← some_is a.rest) (cell_snd h a.lies (cell _ _ a.is))
  -- end of cell of a quote

pub quote_cell : (f : ℕ) (C : List ℕ) (n : ℕ) (q : Quote) → quote_at f C n ≡ some q → QuoteCell C n q
unfolding quote_at
quote_cell zero C n q e = absurd (no_some e)
quote_cell (suc f) C n q e =
    let t = then _ _ e in
    quote_kind C n f (quote_cell f C) t.one (first_word C n (kind_is (kind_word C n) t.one t.first)) t.rest

-- contexts

module _ (C : List ℕ) (n f : ℕ) (cell : (m : ℕ) (g : Quotes) → context_at f C m ≡ some g → ContextCell C m g) where
  context_kind : (k : CKind) {q : Quotes} → cell_word C n 0 ≡ ckind_byte k → context_by (lower n (context_at f C)) (lower n (quote_at f C)) k (part 1 C n) (part 2 C n) ≡ some q → ContextCell C n q
  unfolding context_by
  context_kind k_nil h e = rw (← some_is e) (cell_nil h)
  context_kind k_cons h e =
      let a = part_then C n 1 (quote_at f C) _ e in
      let b = part_then C n 2 (context_at f C) _ a.rest in
      rw (← some_is b.rest) (cell_cons h a.lies (quote_cell f C _ _ a.is) b.lies (cell _ _ b.is))

pub context_cell : (f : ℕ) (C : List ℕ) (n : ℕ) (q : Quotes) → context_at f C n ≡ some q → ContextCell C n q
unfolding context_at
context_cell zero C n q e = absurd (no_some e)
context_cell (suc f) C n q e =
    let t = then _ _ e in
    context_kind C n f (context_cell f C) t.one (first_word C n (ckind_is (kind_word C n) t.one t.first)) t.rest
