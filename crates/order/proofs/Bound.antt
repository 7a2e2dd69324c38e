-- No number passes `largest`, which is 65,535: the walk that is guarded there, or further up, is the walk, its guard never stops it, and what
-- is left is small.
-- `Within b m e Q`: from any state with b rows that fits, e does what m does, which is not stopped by the guard and leaves what fits.
-- In quotes and terms: a row has no number above 33 and the rows below it, and what is handed about none above 32 and the rows.
-- Elsewhere: dimension counts and cutoffs are at most 4,200, since each new one takes an entry; so 4,233 and the rows bound all.
use Rattle.std.specs.Prelude.{ℕ, suc, ◌+◌, ◌≤◌, ◌<◌, max, ◌≡◌, List, [], ◌∷◌, ◌++◌, Bool, length}
use Rattle.std.proofs.Math.Path.{refl, subst as along}
use Rattle.std.proofs.Common.{ap, arith}
use Rattle.std.proofs.Math.Option.{Option, none, some}
use Rattle.std.proofs.Math.Bool.{true, false}
use Rattle.std.proofs.Math.Decide.{ℕ_discrete, dec_lt, dec_le}
use Rattle.walk.specs.Syntax.{Interval, I0, I1, Dim, Neg, Meet, Join, Term, Universe, Var, Nat, Zero, Pi, Lam, App, Path, PathLam, PathApp, Sigma, Pair, Fst, Snd, Context, Nil, Cons, quote, quotes, quote?}
use Rattle.walk.specs.Judgment.{Judgment, ctx, dshiftctx, lookup, lt, le, max as is_max, interval, ishift, isubst, shift, subst, dshift, dsubst, has, eq, iend}
use Rattle.walk.specs.State.{Row, Key, key, key?, Thing, inference, State, Outcome, done, refused, M, go_on, looking, ◌>>=◌, pure, refuse, choose◌then◌else◌, from◌get◌or◌, row_of, with_row, push, emit, among, with_cell, count, count_all, recall, Memory, with_memory, store, remember, with_conversions, ended, converted, converting, with_deepest, note, enter, of_term, of_interval, of_context}
use Rattle.walk.specs.Walk.Reference.{Op, Shift, Subst, DShift, DSubst, IOp, IShift, ISubst, Step, End, E0, E1, EndDiscrete, Callees, of_op, of_iop}
use Rattle.walk.specs.Walk.Numbers.{lt_by, le_by, larger, comparison_body, max_body}
use Rattle.walk.specs.Walk.Intervals.{itransformed, ifinish, idim_above, idim, itransform_body, interval_body}
use Rattle.walk.specs.Walk.Endpoints.{literal, worked_out, right_part, two_parts, endpoint_body}
use Rattle.walk.specs.Walk.Transforms.{under_body, transformed, finish, tvar_above, tvar, tinterval, tbinder, tprojection, transform_body}
use Rattle.walk.specs.Walk.Contexts.{dshiftctx_body, new_ctx, ctx_body, lookup_body}
use Rattle.walk.specs.Reader.{Kind, KindDiscrete, k_pi, k_path, k_sigma}
use Rattle.walk.specs.Walk.Typing.{level, pi_parts, lam_parts, path_parts, plam_parts, sigma_parts, pair_parts, expose_body, universe_body, check_body, view, headed, as_parts, as_pi, as_path, as_sigma, found, find_binder, find_pair, find, new_infer, infer_body}
use Rattle.walk.specs.Walk.Equality.{beta, at_end, pbeta, ends, along as walk_along, written, long_end, side, at_val, fst_beta, snd_beta, reduce_body, head_goes, congruent, app_cong, papp_cong, at_head, head_step_body, rounds, normal_by, normalize_body, head_normalize_body, equal_body}
use Rattle.walk.specs.Refusal as Refusal
use Rattle.walk.specs.Walk.{none_left, entered, callees_by, one_more, callees}
use Rattle.order.specs.Numbers.{largest, interval_top, term_top, context_top, quote_top, quotes_top, judgment_top, key_top, thing_top, memory_top, AtMost, at_most_nil, at_most_cons, StateBounded}
use Rattle.order.specs.Guarded.{beyond, bump_to, guarded_to, word, guarded}
use Rattle.walk.specs.Sound.Parts.{level_is, pi_is, lam_is, path_is, plam_is, sigma_is, pair_is}
use Rattle.walk.specs.Demand.{At, here, there}
use Rattle.walk.specs.Sound.Logic.{found as row_found}
use Rattle.order.specs.Bound.{Below, Cells, Small, no_rows, row_on, Remembered, none_remembered, remembered_on, Fit, After, fine, stopped, Within, SmallTerm, SmallInterval, SmallContext, op_top, op_cutoff, iop_top, iop_cutoff, Stepped, Nothing, Bounds, Ready}

-- a quote shows no more than the term
pub quote_below : (t : Term) → quote_top (quote t) ≤ term_top t
-- written by tools/written.py: quotes
quote_below (Universe n) = omega arith
quote_below (Var n) = omega arith
quote_below Nat = omega arith
quote_below Zero = omega arith
quote_below (Pi a b) = let x = quote_below a in let y = quote_below b in omega arith
quote_below (Lam a b) = let y = quote_below b in omega arith
quote_below (App a b) = let x = quote_below a in let y = quote_below b in omega arith
quote_below (Path a b c) = let x = quote_below a in let y = quote_below b in let z = quote_below c in omega arith
quote_below (PathLam a b) = let y = quote_below b in omega arith
quote_below (PathApp a b) = let x = quote_below a in omega arith
quote_below (Sigma a b) = let x = quote_below a in let y = quote_below b in omega arith
quote_below (Pair a b c) = let y = quote_below b in let z = quote_below c in omega arith
quote_below (Fst a) = let x = quote_below a in omega arith
quote_below (Snd a) = let x = quote_below a in omega arith

-- end of quotes

pub quotes_below : (g : Context) → quotes_top (quotes g) ≤ context_top g
quotes_below Nil = omega arith
quotes_below (Cons a g) = let x = quote_below a in let y = quotes_below g in omega arith

below_more : (m m' : ℕ) (j : Judgment) → m ≤ m' → Below m j → Below m' j
below_more m m' (ctx d g) l h = omega arith
below_more m m' (dshiftctx g k g') l h = omega arith
below_more m m' (lookup g i t) l h = omega arith
below_more m m' (lt i k) l h = omega arith
below_more m m' (le i k) l h = omega arith
below_more m m' (is_max i k o) l h = omega arith
below_more m m' (interval d r) l h = omega arith
below_more m m' (ishift r k q) l h = omega arith
below_more m m' (isubst r k q p) l h = omega arith
below_more m m' (shift t k r) l h = omega arith
below_more m m' (subst t k r p) l h = omega arith
below_more m m' (dshift t k r) l h = omega arith
below_more m m' (dsubst t k r p) l h = omega arith
below_more m m' (has d g t y) l h = omega arith
below_more m m' (eq d g a b y) l h = omega arith
below_more m m' (iend r e) l h = omega arith

-- so all its numbers are bounded
below_top : (m : ℕ) (j : Judgment) → Below m j → judgment_top j ≤ 4200 + m
below_top m (ctx d g) h = omega arith
below_top m (dshiftctx g k g') h = omega arith
below_top m (lookup g i t) h = omega arith
below_top m (lt i k) h = omega arith
below_top m (le i k) h = omega arith
below_top m (is_max i k o) h = omega arith
below_top m (interval d r) h = omega arith
below_top m (ishift r k q) h = omega arith
below_top m (isubst r k q p) h = omega arith
below_top m (shift t k r) h = omega arith
below_top m (subst t k r p) h = omega arith
below_top m (dshift t k r) h = omega arith
below_top m (dsubst t k r p) h = omega arith
below_top m (has d g t y) h = omega arith
below_top m (eq d g a b y) h = omega arith
below_top m (iend r e) h = omega arith

-- lists

infixl 30 ◌+++◌
◌+++◌ : {A : Type 0} {m : ℕ} {top : A → ℕ} {xs ys : List A} → AtMost m top xs → AtMost m top ys → AtMost m top (xs ++ ys)
at_most_nil +++ ks = ks
(at_most_cons h hs) +++ ks = at_most_cons h (hs +++ ks)

one_cell : {m : ℕ} {x : Thing} → thing_top x ≤ m → Cells m (x ∷ [])
one_cell h = at_most_cons h at_most_nil

interval_cells : {m : ℕ} (r : Interval) → interval_top r ≤ m → Cells m (of_interval r)
-- written by tools/written.py: cells of an interval
interval_cells I0 h = one_cell h
interval_cells I1 h = one_cell h
interval_cells (Dim n) h = one_cell h
interval_cells (Neg a) h = interval_cells a (omega arith) +++ one_cell h
interval_cells (Meet a b) h = interval_cells a (omega arith) +++ interval_cells b (omega arith) +++ one_cell h
interval_cells (Join a b) h = interval_cells a (omega arith) +++ interval_cells b (omega arith) +++ one_cell h

-- end of cells of an interval

term_cells : {m : ℕ} (t : Term) → term_top t ≤ m → Cells m (of_term t)
-- written by tools/written.py: cells of a term
term_cells (Universe n) h = one_cell h
term_cells (Var n) h = one_cell h
term_cells Nat h = one_cell h
term_cells Zero h = one_cell h
term_cells (Pi a b) h = term_cells a (omega arith) +++ term_cells b (omega arith) +++ one_cell h
term_cells (Lam a b) h = term_cells a (omega arith) +++ term_cells b (omega arith) +++ one_cell h
term_cells (App a b) h = term_cells a (omega arith) +++ term_cells b (omega arith) +++ one_cell h
term_cells (Path a b c) h = term_cells a (omega arith) +++ term_cells b (omega arith) +++ term_cells c (omega arith) +++ one_cell h
term_cells (PathLam a b) h = term_cells a (omega arith) +++ term_cells b (omega arith) +++ one_cell h
term_cells (PathApp a b) h = term_cells a (omega arith) +++ interval_cells b (omega arith) +++ one_cell h
term_cells (Sigma a b) h = term_cells a (omega arith) +++ term_cells b (omega arith) +++ one_cell h
term_cells (Pair a b c) h = term_cells a (omega arith) +++ term_cells b (omega arith) +++ term_cells c (omega arith) +++ one_cell h
term_cells (Fst a) h = term_cells a (omega arith) +++ one_cell h
term_cells (Snd a) h = term_cells a (omega arith) +++ one_cell h

-- end of cells of a term

context_cells : {m : ℕ} (g : Context) → context_top g ≤ m → Cells m (of_context g)
context_cells Nil h = one_cell h
context_cells (Cons a g) h = context_cells g (omega arith) +++ term_cells a (omega arith) +++ one_cell h

remembered_more : {b c : ℕ} {ms : List Memory} → b ≤ c → Remembered b ms → Remembered c ms
remembered_more l none_remembered = none_remembered
remembered_more l (remembered_on {m = m} h hs) = remembered_on {m = m} (omega arith) (remembered_more l hs)

-- what fits has no number above `largest`
small_bounded : {rs : List Row} → length rs ≤ 50000 → Small rs → AtMost largest (λ r. judgment_top r.judgment) rs
small_bounded l no_rows = at_most_nil
small_bounded l (row_on {r = r} {rs = rs} h hs) = let x = below_top (33 + length rs) r.judgment h in at_most_cons {x = r} (omega arith) (small_bounded (omega arith) hs)

remembered_bounded : {b : ℕ} {ms : List Memory} → b ≤ 50000 → Remembered b ms → AtMost largest memory_top ms
remembered_bounded l none_remembered = at_most_nil
remembered_bounded l (remembered_on {m = m} h hs) = at_most_cons {x = m} (omega arith) (remembered_bounded l hs)

pub fit_bounded : (s : State) → Fit s → StateBounded s
fit_bounded s f = let x = f.room in let y = f.cap in record { rows = small_bounded (omega arith) f.small; cells = f.held; memory = remembered_bounded (omega arith) f.remembered }

later : {A : Type 0} {b c : ℕ} {Q : A → ℕ → Type 0} {o : Outcome A} → b ≤ c → After c Q o → After b Q o
later e (fine {s = s} f g q) = fine {s = s} (omega arith) g q
later e (stopped {s = s} z f g) = stopped {s = s} z (omega arith) g

module _ {A B : Type 0} {b : ℕ} {Q : A → ℕ → Type 0} {R : B → ℕ → Type 0} where
  go_on_after : {o : Outcome A} {f f' : A → M B} → After b Q o → ((a : A) (c : ℕ) → b ≤ c → Q a c → Within c (f a) (f' a) R) → After b R (go_on o f)
  unfolding go_on
  go_on_after (fine {a = a} {s = s} e g q) k = later e ((k a (length s.rows) e q).holds s (omega arith) g)
  go_on_after (stopped z e g) k = stopped z e g

  go_on_same : {o : Outcome A} {f f' : A → M B} → After b Q o → ((a : A) (c : ℕ) → b ≤ c → Q a c → Within c (f a) (f' a) R) → go_on o f' ≡ go_on o f
  unfolding go_on
  go_on_same (fine {a = a} {s = s} e g q) k = (k a (length s.rows) e q).same s (omega arith) g
  go_on_same (stopped z e g) k = refl

  pub bind : {m m' : M A} {f f' : A → M B} → Within b m m' Q → ((a : A) (c : ℕ) → b ≤ c → Q a c → Within c (f a) (f' a) R) → Within b (m >>= f) (m' >>= f') R
  unfolding ◌>>=◌
  bind h k = record { holds = λ s e g. go_on_after (h.holds s e g) k; same = λ s e g. rw (h.same s e g) (go_on_same (h.holds s e g) k) }

pub refusing : {A : Type 0} {b : ℕ} {Q : A → ℕ → Type 0} {n : ℕ} → (n ≡ beyond → ⊥) → Within b (refuse n) (refuse n) Q
unfolding refuse
refusing z = record { holds = λ s e g. stopped z e g; same = λ s e g. refl }

pub giving : {A : Type 0} {b : ℕ} {Q : A → ℕ → Type 0} (a : A) → ((c : ℕ) → b ≤ c → Q a c) → Within b (pure a) (pure a) Q
unfolding pure
giving a q = record { holds = λ s e g. fine e g (q (length s.rows) e); same = λ s e g. refl }

pub branch : {P A : Type 0} {b : ℕ} {Q : A → ℕ → Type 0} {x y x' y' : M A} (d : Dec P) → (P → Within b x x' Q) → ((P → ⊥) → Within b y y' Q) → Within b (choose d then x else y) (choose d then x' else y') Q
unfolding choose◌then◌else◌
branch (yes h) f g = f h
branch (no h) f g = g h

pub cases : {A B : Type 0} {b : ℕ} {Q : B → ℕ → Type 0} {f f' : A → M B} {z z' : M B} (o : Option A) → ((a : A) → o ≡ some a → Within b (f a) (f' a) Q) → (o ≡ none → Within b z z' Q) → Within b (from o get f or z) (from o get f' or z') Q
unfolding from◌get◌or◌
cases (some a) f g = f a refl
cases none f g = g refl

-- rows
small_at : {n : ℕ} {j : Judgment} {rs : List Row} → At n j rs → Small rs → Below (32 + length rs) j
small_at {j = j} (here {r = r} {rs = rs} e q) (row_on h hs) = let l : Below (33 + length rs) j = rw q h in below_more (33 + length rs) (32 + suc (length rs)) j (omega arith) l
small_at {j = j} (there {rs = rs} h) (row_on l hs) = below_more (32 + length rs) (32 + suc (length rs)) j (omega arith) (small_at h hs)

pub emitted : {b : ℕ} (j : Judgment) (rule : ℕ) (refs : List ℕ) → Below (33 + b) j → Within b (emit rule refs j) (emit rule refs j) (λ _ c. Below (32 + c) j)
unfolding emit looking pure push with_row refuse choose◌then◌else◌ from◌get◌or◌
emitted {b} j rule refs l = record { holds = λ s e g. go s e g (row_of j s.rows) refl (dec_lt (length s.rows) s.row_room); same = λ s e g. refl }
  where
    row : Row
    row = record { rule = rule; refs = refs; judgment = j }

    go : (s : State) → b ≤ length s.rows → Fit s → (o : Option ℕ) → row_of j s.rows ≡ o → (d : Dec (length s.rows < s.row_room)) → After b (λ _ c. Below (32 + c) j) ((from o get pure or (choose d then push row else refuse Refusal.rows)) s)
    go s e g (some n) q d = fine e g (small_at (row_found j s.rows n q) g.small)
    go s e g none q (yes h) = fine {s = with_row row s} (omega arith) (record { small = row_on {r = row} {rs = s.rows} (below_more (33 + b) (33 + length s.rows) j (omega arith) l) g.small; held = g.held; remembered = remembered_more {b = length s.rows} {c = suc (length s.rows)} (omega arith) g.remembered; room = omega arith; cap = g.cap; low = g.low }) (below_more (33 + b) (32 + suc (length s.rows)) j (omega arith) l)
    go s e g none q (no h) = stopped {n = Refusal.rows} (λ z. omega arith) e g

-- the guard lets pass what was handed about
passed : {P A : Type 0} {b : ℕ} {Q : A → ℕ → Type 0} {x e : M A} (d : Dec P) (y : M A) → (P → Within b x e Q) → ((P → ⊥) → ⊥) → Within b (choose d then x else y) e Q
unfolding choose◌then◌else◌
passed (yes h) y f g = f h
passed (no h) y f g = absurd (g h)

bumped : {b : ℕ} (top : ℕ) → largest ≤ top → (k : ℕ) → k ≤ 4200 + b → Within b (bump_to top k) (one_more k) (λ k' _. k' ≡ suc k)
unfolding bump_to one_more
bumped {b} top t k l = record { holds = λ s e g. (at s e g).holds s e g; same = λ s e g. (at s e g).same s e g }
  where
    at : (s : State) → b ≤ length s.rows → Fit s → Within b (bump_to top k) (one_more k) (λ k' _. k' ≡ suc k)
    at s e g = let x = g.room in let y = g.cap in passed (dec_lt k _) _ (λ _. giving (suc k) λ _ _. refl) (λ z. z (omega arith))

-- cells
counting_one : {b : ℕ} (x : Thing) → thing_top x ≤ 4233 + b → Within b (count x) (count x) (λ _ _. Unit {0})
unfolding count with_cell
counting_one {b} x l = record { holds = λ s e g. go s e g (among x s.cells) (dec_lt (length s.cells) s.cell_room); same = λ s e g. refl }
  where
    go : (s : State) → b ≤ length s.rows → Fit s → (t : Bool) → (d : Dec (length s.cells < s.cell_room)) → After {A = Unit {0}} b (λ _ _. Unit {0}) (elim t as (λ _. Outcome (Unit {0})) [ true ↦ done tt s | false ↦ elim d as (λ _. Outcome (Unit {0})) [ yes h ↦ done tt (with_cell x s) | no h ↦ refused Refusal.cells s ] ])
    go s e g true d = fine e g tt
    go s e g false (yes h) = let y = g.room in let z = g.cap in fine e (record { small = g.small; held = at_most_cons {x = x} (omega arith) g.held; remembered = g.remembered; room = g.room; cap = g.cap; low = g.low }) tt
    go s e g false (no h) = stopped {n = Refusal.cells} (λ z. omega arith) e g

counting_below : {m b : ℕ} {xs : List Thing} → m ≤ 4233 + b → Cells m xs → Within b (count_all xs) (count_all xs) (λ _ _. Unit {0})
unfolding count_all
counting_below l at_most_nil = giving tt λ _ _. tt
counting_below l (at_most_cons {x = x} h hs) = bind (counting_one x (omega arith)) λ _ c e _. counting_below (omega arith) hs

pub counting : {b : ℕ} {xs : List Thing} → Cells (33 + b) xs → Within b (count_all xs) (count_all xs) (λ _ _. Unit {0})
counting = counting_below (omega arith)

-- memory
recalled : {b : ℕ} (k : Key) (ms : List Memory) (out : Term × ℕ) → recall k ms ≡ some out → Remembered b ms → term_top out.0 ≤ 32 + b
unfolding recall
recalled k [] out e none_remembered = let z : ◌≡◌ {A = ℕ} 0 1 = cc in absurd (omega arith)
recalled {b} k (m ∷ ms) out e (remembered_on h hs) = go (key? k m.of) (λ q. recalled k ms out q hs) e
  where
    go : (d : Dec (k ≡ m.of)) → (recall k ms ≡ some out → term_top out.0 ≤ 32 + b) → (elim d as (λ _. Option (Term × ℕ)) [ yes e ↦ some (m.type, m.row) | no ne ↦ recall k ms ]) ≡ some out → term_top out.0 ≤ 32 + b
    go (yes p) ih q = let q' : (m.type, m.row) ≡ out = cc in along (λ (o : Term × ℕ). term_top o.0 ≤ 32 + b) q' h.1
    go (no np) ih q = ih q

pub recalling : {b : ℕ} (k : Key) {m m' : M (Term × ℕ)} → Within b m m' SmallTerm → Within b (looking λ s. from recall k s.memory get pure or m) (looking λ s. from recall k s.memory get pure or m') SmallTerm
unfolding looking from◌get◌or◌ pure
recalling {b} k {m} {m'} h = record { holds = λ s e g. go s e g (recall k s.memory) refl; same = λ s e g. alike s e g (recall k s.memory) }
  where
    alike : (s : State) → b ≤ length s.rows → Fit s → (o : Option (Term × ℕ)) → (from o get pure or m') s ≡ (from o get pure or m) s
    alike s e g (some out) = refl
    alike s e g none = h.same s e g

    go : (s : State) → b ≤ length s.rows → Fit s → (o : Option (Term × ℕ)) → recall k s.memory ≡ o → After b SmallTerm ((from o get pure or m) s)
    go s e g (some out) q = fine e g (recalled k s.memory out q g.remembered)
    go s e g none q = h.holds s e g

pub knowing : {b : ℕ} (j : Judgment) {m m' : M ℕ} → Within b m m' (λ _ _. Unit {0}) → Within b (looking λ s. from row_of j s.rows get pure or m) (looking λ s. from row_of j s.rows get pure or m') (λ _ _. Unit {0})
unfolding looking from◌get◌or◌ pure
knowing {b} j {m} {m'} h = record { holds = λ s e g. go s e g (row_of j s.rows); same = λ s e g. alike s e g (row_of j s.rows) }
  where
    alike : (s : State) → b ≤ length s.rows → Fit s → (o : Option ℕ) → (from o get pure or m') s ≡ (from o get pure or m) s
    alike s e g (some n) = refl
    alike s e g none = h.same s e g

    go : (s : State) → b ≤ length s.rows → Fit s → (o : Option ℕ) → After b (λ _ _. Unit {0}) ((from o get pure or m) s)
    go s e g (some n) = fine e g tt
    go s e g none = h.holds s e g

pub remembering : {b : ℕ} (k : Key) (ty : Term) (row : ℕ) → (key_top k ≤ 4233 + b) × (term_top ty ≤ 32 + b) → Within b (remember k ty row) (remember k ty row) (λ _ _. Unit {0})
unfolding remember store with_memory
remembering {b} k ty row l = bind (counting_one (inference k) l.0) λ _ c e₁ _. record { holds = λ s e g. fine e (record { small = g.small; held = g.held; remembered = remembered_on {m = record { of = k; type = ty; row = row }} (omega arith) g.remembered; room = g.room; cap = g.cap; low = g.low }) tt; same = λ s e g. refl }

ended_after : {A : Type 0} {b : ℕ} {Q : A → ℕ → Type 0} {o : Outcome A} → After b Q o → After b Q (ended o)
unfolding ended with_conversions
ended_after (fine e g q) = fine e g q
ended_after (stopped z e g) = stopped z e g

pub convert : {A : Type 0} {b : ℕ} {Q : A → ℕ → Type 0} {m m' : M A} → Within b m m' Q → Within b (converting m) (converting m') Q
unfolding converting looking with_conversions converted
convert {b = b} {Q = Q} {m = m} {m' = m'} h = record { holds = λ s e g. (go s).holds s e g; same = λ s e g. (go s).same s e g }
  where
    inner : Within b (converted m) (converted m') Q
    inner = record { holds = λ s e g. ended_after (h.holds (with_conversions (s.conversions + 1) s) e g); same = λ s e g. ap ended (h.same (with_conversions (s.conversions + 1) s) e g) }

    go : (s : State) → Within b (choose dec_lt s.conversions 32 then converted m else refuse Refusal.conversions) (choose dec_lt s.conversions 32 then converted m' else refuse Refusal.conversions) Q
    go s = branch (dec_lt s.conversions 32) (λ _. inner) (λ _. refusing (λ z. omega arith))

pub entering : {A : Type 0} {b : ℕ} {Q : A → ℕ → Type 0} {m m' : M A} (left : ℕ) {xs : List Thing} → Cells (32 + b) xs → ((c : ℕ) → b ≤ c → Within c m m' Q) → Within b (enter left xs m) (enter left xs m') Q
unfolding enter note with_deepest
entering left l h = bind {Q = λ _ _. Unit {0}} (record { holds = λ s e g. fine e g tt; same = λ s e g. refl }) λ _ _ e₁ _. bind (counting_below (omega arith) l) λ _ c e₂ _. h c (omega arith)

op_cells : {m : ℕ} (op : Op) → op_top op ≤ m → Cells m (of_op op)
op_cells (Shift k) h = at_most_nil
op_cells (Subst k r) h = term_cells r h
op_cells (DShift k) h = at_most_nil
op_cells (DSubst k r) h = interval_cells r h

iop_cells : {m : ℕ} (op : IOp) → iop_top op ≤ m → Cells m (of_iop op)
iop_cells (IShift k) h = at_most_nil
iop_cells (ISubst k r) h = interval_cells r h

side_top : (e : End) (p : Term × Term × Term) → term_top (side e p) ≤ max (term_top p.1) (term_top p.2)
side_top E0 p = omega arith
side_top E1 p = omega arith

literal_top : (e : End) → interval_top (literal e) ≡ 0
literal_top E0 = refl
literal_top E1 = refl

emits : {b : ℕ} (j : Judgment) (rule : ℕ) (refs : List ℕ) → Below (33 + b) j → Within b (emit rule refs j) (emit rule refs j) Nothing
emits j rule refs l = record { holds = λ s e g. forget ((emitted j rule refs l).holds s e g); same = λ s e g. refl }
  where
    forget : {b : ℕ} {Q : ℕ → ℕ → Type 0} {o : Outcome ℕ} → After b Q o → After b Nothing o
    forget (fine e g q) = fine e g tt
    forget (stopped z e g) = stopped z e g

itransformed_below : (r : Interval) (op : IOp) (out : Interval) (m : ℕ) → (interval_top r ≤ m) × (iop_cutoff op ≤ 4200 + m) × (iop_top op ≤ m) × (interval_top out ≤ m) → Below m (itransformed r op out)
itransformed_below r (IShift k) out m h = omega arith
itransformed_below r (ISubst k q) out m h = omega arith

itransformed_out : (r : Interval) (op : IOp) (out : Interval) (m : ℕ) → Below m (itransformed r op out) → interval_top out ≤ m
itransformed_out r (IShift k) out m h = omega arith
itransformed_out r (ISubst k q) out m h = omega arith

ifinished : {b : ℕ} (r : Interval) (op : IOp) (out : Interval) (rule : ℕ) (refs : List ℕ) → (interval_top r ≤ 32 + b) × (iop_cutoff op ≤ 4200) × (iop_top op ≤ 32 + b) × (interval_top out ≤ 33 + b) → Within b (ifinish r op out rule refs) (ifinish r op out rule refs) SmallInterval
unfolding ifinish
ifinished r op out rule refs h = bind (counting (interval_cells out (omega arith))) λ _ c e₁ _. bind (emitted (itransformed r op out) rule refs (itransformed_below r op out (33 + c) (omega arith))) λ row c₂ e₂ q. giving (out, row) λ c₃ e₃. let x = itransformed_out r op out (32 + c₂) q in omega arith

transformed_below : (t : Term) (op : Op) (out : Term) (m : ℕ) → (term_top t ≤ m) × (op_cutoff op ≤ 4200 + m) × (op_top op ≤ m) × (quote_top (quote out) ≤ m) → Below m (transformed t op out)
transformed_below t (Shift k) out m h = let x = quote_below t in omega arith
transformed_below t (Subst k r) out m h = let x = quote_below t in let y = quote_below r in omega arith
transformed_below t (DShift k) out m h = let x = quote_below t in omega arith
transformed_below t (DSubst k r) out m h = let x = quote_below t in omega arith

transformed_out : (t : Term) (op : Op) (out : Term) (m : ℕ) → Below m (transformed t op out) → quote_top (quote out) ≤ m
transformed_out t (Shift k) out m h = omega arith
transformed_out t (Subst k r) out m h = omega arith
transformed_out t (DShift k) out m h = omega arith
transformed_out t (DSubst k r) out m h = omega arith

finished : {b : ℕ} (t : Term) (op : Op) (out : Term) (rule : ℕ) (refs : List ℕ) → (term_top t ≤ 32 + b) × (op_cutoff op ≤ 4200) × (op_top op ≤ 32 + b) × (term_top out ≤ 32 + b) → Within b (finish t op out rule refs) (finish t op out rule refs) SmallTerm
unfolding finish
finished t op out rule refs h = bind (counting (term_cells out (omega arith))) λ _ c e₁ _. let x = quote_below out in bind (emits (transformed t op out) rule refs (transformed_below t op out (33 + c) (omega arith))) λ row c₂ e₂ q. giving (out, row) λ c₃ e₃. omega arith

finished_var : {b : ℕ} (t : Term) (op : Op) (i : ℕ) (rule : ℕ) (refs : List ℕ) → (term_top t ≤ 32 + b) × (op_cutoff op ≤ 4200) × (op_top op ≤ 32 + b) × (i ≤ 33 + b) → Within b (finish t op (Var i) rule refs) (finish t op (Var i) rule refs) SmallTerm
unfolding finish
finished_var t op i rule refs h = bind (counting (term_cells (Var i) (omega arith))) λ _ c e₁ _. bind (emitted (transformed t op (Var i)) rule refs (transformed_below t op (Var i) (33 + c) (omega arith))) λ row c₂ e₂ q. giving (Var i, row) λ c₃ e₃. let x = transformed_out t op (Var i) (32 + c₂) q in omega arith

larger_top : (i j m : ℕ) → (i ≤ m) × (j ≤ m) → larger i j ≤ m
larger_top ℕ.zero j m h = h.1
larger_top (ℕ.suc i) ℕ.zero m h = h.0
larger_top (ℕ.suc i) (ℕ.suc j) ℕ.zero h = absurd (omega arith)
larger_top (ℕ.suc i) (ℕ.suc j) (ℕ.suc m) h = let x = larger_top i j m (omega arith) in omega arith

-- what a part was taken from is as large
level_top : (t : Term) (l : ℕ) → level t ≡ some l → l ≤ term_top t
level_top t l e = rw (level_is t l e) (omega arith)

pi_top : (t : Term) (m : Term × Term) → pi_parts t ≡ some m → (term_top m.0 ≤ term_top t) × (term_top m.1 ≤ term_top t)
pi_top t m e = rw (pi_is t m e) (omega arith)

lam_top : (t : Term) (m : Term × Term) → lam_parts t ≡ some m → (term_top m.0 ≤ term_top t) × (term_top m.1 ≤ term_top t)
lam_top t m e = rw (lam_is t m e) (omega arith)

path_top : (t : Term) (m : Term × Term × Term) → path_parts t ≡ some m → (term_top m.0 ≤ term_top t) × (term_top m.1 ≤ term_top t) × (term_top m.2 ≤ term_top t)
path_top t m e = rw (path_is t m e) (omega arith)

plam_top : (t : Term) (m : Term × Term) → plam_parts t ≡ some m → (term_top m.0 ≤ term_top t) × (term_top m.1 ≤ term_top t)
plam_top t m e = rw (plam_is t m e) (omega arith)

sigma_top : (t : Term) (m : Term × Term) → sigma_parts t ≡ some m → (term_top m.0 ≤ term_top t) × (term_top m.1 ≤ term_top t)
sigma_top t m e = rw (sigma_is t m e) (omega arith)

pair_top : (t : Term) (m : Term × Term × Term) → pair_parts t ≡ some m → (term_top m.0 ≤ term_top t) × (term_top m.1 ≤ term_top t) × (term_top m.2 ≤ term_top t)
pair_top t m e = rw (pair_is t m e) (omega arith)

kept_ready : {b : ℕ} (ty : Term) → term_top ty ≤ 32 + b → Ready ty b
kept_ready ty h = (omega arith, λ c e q. omega arith)

level_ready : {b : ℕ} (l : ℕ) → l ≤ 33 + b → Ready (Universe l) b
level_ready l h = (h, λ c e q. q)

ready_more : {b c : ℕ} (ty : Term) → Ready ty b → b ≤ c → Ready ty c
ready_more ty r l = let x = r.0 in (omega arith, λ d e q. r.1 d (omega arith) q)

founds : {b : ℕ} (ty : Term) (refs : List ℕ) (rule : ℕ) → Ready ty b → Within b (found ty refs rule) (found ty refs rule) (λ o b. Ready o.type b)
unfolding found
founds ty refs rule r = let x = r.0 in bind (counting (term_cells ty (omega arith))) λ x₁ c₁ e₁ h₁. giving _ λ c e. ready_more ty r (omega arith)

module _ (n : ℕ) (c c' : Callees) (B : Bounds n c c') where
  lt_by_within : {b : ℕ} (m k : ℕ) → (m ≤ 4233 + b) × (k ≤ 4233 + b) → Within b (lt_by c m k) (lt_by c' m k) Nothing
  unfolding lt_by
  lt_by_within m ℕ.zero h = refusing (λ z. omega arith)
  lt_by_within ℕ.zero (ℕ.suc k) h = emits _ _ _ (omega arith)
  lt_by_within (ℕ.suc m) (ℕ.suc k) h = bind (B.comparison m k true (omega arith)) λ x₁ c₁ e₁ h₁. emits _ _ _ (omega arith)

  le_by_within : {b : ℕ} (m k : ℕ) → (m ≤ 4233 + b) × (k ≤ 4233 + b) → Within b (le_by c m k) (le_by c' m k) Nothing
  unfolding le_by
  le_by_within ℕ.zero k h = emits _ _ _ (omega arith)
  le_by_within (ℕ.suc m) ℕ.zero h = refusing (λ z. omega arith)
  le_by_within (ℕ.suc m) (ℕ.suc k) h = bind (B.comparison m k false (omega arith)) λ x₁ c₁ e₁ h₁. emits _ _ _ (omega arith)

  comparison_within : {b : ℕ} (m k : ℕ) (strict : Bool) → (m ≤ 4233 + b) × (k ≤ 4233 + b) → Within b (comparison_body c m k strict) (comparison_body c' m k strict) Nothing
  unfolding comparison_body
  comparison_within m k true h = branch (dec_lt m k) (λ _. lt_by_within m k (omega arith)) (λ _. refusing (λ z. omega arith))
  comparison_within m k false h = branch (dec_le m k) (λ _. le_by_within m k (omega arith)) (λ _. refusing (λ z. omega arith))

  max_within : {b : ℕ} (m k : ℕ) → (m ≤ 4233 + b) × (k ≤ 4233 + b) → Within b (max_body c m k) (max_body c' m k) Nothing
  unfolding max_body
  max_within ℕ.zero k h = emits _ _ _ (omega arith)
  max_within (ℕ.suc m) ℕ.zero h = emits _ _ _ (omega arith)
  max_within {b} (ℕ.suc m) (ℕ.suc k) h = let p = larger_top m k (4232 + b) (omega arith) in bind (B.max m k (omega arith)) λ x₁ c₁ e₁ h₁. emits _ _ _ (omega arith)

  interval_within : {b : ℕ} (d : ℕ) (r : Interval) → (d + suc n ≤ 4200) × (interval_top r ≤ 32 + b) → Within b (interval_body c d r) (interval_body c' d r) Nothing
  unfolding interval_body
  interval_within d I0 h = emits _ _ _ (omega arith)
  interval_within d I1 h = emits _ _ _ (omega arith)
  interval_within d (Dim i) h = bind (B.comparison i d true (omega arith)) λ x₁ c₁ e₁ h₁. emits _ _ _ (omega arith)
  interval_within d (Neg r) h = bind (B.interval d r (omega arith)) λ x₁ c₁ e₁ h₁. emits _ _ _ (omega arith)
  interval_within d (Meet r q) h = bind (B.interval d r (omega arith)) λ x₁ c₁ e₁ h₁. bind (B.interval d q (omega arith)) λ x₂ c₂ e₂ h₂. emits _ _ _ (omega arith)
  interval_within d (Join r q) h = bind (B.interval d r (omega arith)) λ x₁ c₁ e₁ h₁. bind (B.interval d q (omega arith)) λ x₂ c₂ e₂ h₂. emits _ _ _ (omega arith)

  worked_out_within : {b : ℕ} (r : Interval) (e : End) (rule : ℕ) (refs : List ℕ) → interval_top r ≤ 32 + b → Within b (worked_out r e rule refs) (worked_out r e rule refs) Nothing
  unfolding worked_out
  worked_out_within r e rule refs h = let z = literal_top e in bind (counting (interval_cells (literal e) (omega arith))) λ _ c₁ e₁ _. bind (emits _ _ _ (omega arith)) λ x₂ c₂ e₂ h₂. giving _ λ c e. tt

  right_part_within : {b : ℕ} (r q : Interval) (enough : End) (rule : ℕ) (left : Option ℕ) → (interval_top r ≤ 32 + b) × (interval_top q ≤ 32 + b) → Within b (right_part c r q enough rule left) (right_part c' r q enough rule left) Nothing
  unfolding right_part
  right_part_within r q enough rule left h =
      bind (B.endpoint q (omega arith)) λ x₁ c₁ e₁ h₁.
      cases x₁
      (λ of _. branch (EndDiscrete of.0 enough)
      (λ _. worked_out_within _ _ _ _ (omega arith))
      (λ _. cases left (λ x _. worked_out_within _ _ _ _ (omega arith)) (λ _. giving _ λ c e. tt)))
      (λ _. giving _ λ c e. tt)

  two_parts_within : {b : ℕ} (r p q : Interval) (enough : End) (rule : ℕ) → (interval_top r ≤ 32 + b) × (interval_top p ≤ 32 + b) × (interval_top q ≤ 32 + b) → Within b (two_parts c r p q enough rule) (two_parts c' r p q enough rule) Nothing
  unfolding two_parts
  two_parts_within r p q enough rule h =
      bind (B.endpoint p (omega arith)) λ x₁ c₁ e₁ h₁.
      cases x₁
      (λ of _. branch (EndDiscrete of.0 enough) (λ _. worked_out_within _ _ _ _ (omega arith)) (λ _. right_part_within _ _ _ _ _ (omega arith)))
      (λ _. right_part_within _ _ _ _ _ (omega arith))

  endpoint_within : {b : ℕ} (r : Interval) → interval_top r ≤ 32 + b → Within b (endpoint_body c r) (endpoint_body c' r) Nothing
  unfolding endpoint_body
  endpoint_within I0 h = worked_out_within _ _ _ _ (omega arith)
  endpoint_within I1 h = worked_out_within _ _ _ _ (omega arith)
  endpoint_within (Dim n) h = giving _ λ c e. tt
  endpoint_within (Neg r) h = bind (B.endpoint r (omega arith)) λ x₁ c₁ e₁ h₁. cases x₁ (λ of _. worked_out_within _ _ _ _ (omega arith)) (λ _. giving _ λ c e. tt)
  endpoint_within (Meet r q) h = two_parts_within _ _ _ _ _ (omega arith)
  endpoint_within (Join r q) h = two_parts_within _ _ _ _ _ (omega arith)

  idim_above_within : {b : ℕ} (i k : ℕ) (q : Interval) → (k ≤ 4200) × (i ≤ 32 + b) × (interval_top q ≤ 32 + b) → Within b (idim_above c i k q) (idim_above c' i k q) SmallInterval
  unfolding idim_above
  idim_above_within ℕ.zero k q h = refusing (λ z. omega arith)
  idim_above_within (ℕ.suc i) k q h = bind (B.comparison k (suc i) true (omega arith)) λ x₁ c₁ e₁ h₁. ifinished _ _ _ _ _ (omega arith)

  idim_within : {b : ℕ} (i : ℕ) (op : IOp) → (iop_cutoff op ≤ 4200) × (i ≤ 32 + b) × (iop_top op ≤ 32 + b) → Within b (idim c i op) (idim c' i op) SmallInterval
  unfolding idim
  idim_within i (IShift k) h =
      branch (dec_lt i k)
      (λ _. bind (B.comparison i k true (omega arith)) λ x₁ c₁ e₁ h₁. ifinished _ _ _ _ _ (omega arith))
      (λ _. bind (B.comparison k i false (omega arith)) λ x₁ c₁ e₁ h₁. bind (B.more i (omega arith)) λ x₂ c₂ e₂ h₂. ifinished _ _ _ _ _ (omega arith))
  idim_within i (ISubst k q) h =
      branch (ℕ_discrete i k)
      (λ _. ifinished _ _ _ _ _ (omega arith))
      (λ _. branch (dec_lt i k)
      (λ _. bind (B.comparison i k true (omega arith)) λ x₁ c₁ e₁ h₁. ifinished _ _ _ _ _ (omega arith))
      (λ _. idim_above_within i k q (omega arith)))

  itransform_within : {b : ℕ} (r : Interval) (op : IOp) → (iop_cutoff op + suc n ≤ 4200) × (interval_top r ≤ 32 + b) × (iop_top op ≤ 32 + b) → Within b (itransform_body c r op) (itransform_body c' r op) SmallInterval
  unfolding itransform_body
  itransform_within I0 op h = ifinished _ _ _ _ _ (omega arith)
  itransform_within I1 op h = ifinished _ _ _ _ _ (omega arith)
  itransform_within (Dim i) op h = idim_within i op (omega arith)
  itransform_within (Neg r) op h = bind (B.itransform r op (omega arith)) λ x₁ c₁ e₁ h₁. ifinished _ _ _ _ _ (omega arith)
  itransform_within (Meet r q) op h = bind (B.itransform r op (omega arith)) λ x₁ c₁ e₁ h₁. bind (B.itransform q op (omega arith)) λ x₂ c₂ e₂ h₂. ifinished _ _ _ _ _ (omega arith)
  itransform_within (Join r q) op h = bind (B.itransform r op (omega arith)) λ x₁ c₁ e₁ h₁. bind (B.itransform q op (omega arith)) λ x₂ c₂ e₂ h₂. ifinished _ _ _ _ _ (omega arith)

  -- terms

  under_within : {b : ℕ} (op : Op) (dimension : Bool) → (op_cutoff op + suc n ≤ 4200) × (op_top op ≤ 32 + b) → Within b (under_body c op dimension) (under_body c' op dimension) (λ o b. (op_top o.0 ≤ 32 + b) × (op_cutoff o.0 ≤ suc (op_cutoff op)))
  unfolding under_body
  under_within (Shift k) false h = bind (B.more k (omega arith)) λ x₂ c₂ e₂ h₂. giving _ λ c e. omega arith
  under_within (Shift k) true h = giving _ λ c e. omega arith
  under_within (Subst k r) false h = bind (B.transform r (Shift 0) (omega arith)) λ x₁ c₁ e₁ h₁. bind (B.more k (omega arith)) λ x₂ c₂ e₂ h₂. giving _ λ c e. omega arith
  under_within (Subst k r) true h = bind (B.transform r (DShift 0) (omega arith)) λ x₁ c₁ e₁ h₁. giving _ λ c e. omega arith
  under_within (DShift k) false h = giving _ λ c e. omega arith
  under_within (DShift k) true h = bind (B.more k (omega arith)) λ x₂ c₂ e₂ h₂. giving _ λ c e. omega arith
  under_within (DSubst k r) false h = giving _ λ c e. omega arith
  under_within (DSubst k r) true h = bind (B.itransform r (IShift 0) (omega arith)) λ x₁ c₁ e₁ h₁. bind (B.more k (omega arith)) λ x₂ c₂ e₂ h₂. giving _ λ c e. omega arith

  tvar_above_within : {b : ℕ} (i k : ℕ) (r : Term) → (k ≤ 4200) × (i ≤ 32 + b) × (term_top r ≤ 32 + b) → Within b (tvar_above c i k r) (tvar_above c' i k r) SmallTerm
  unfolding tvar_above
  tvar_above_within ℕ.zero k r h = refusing (λ z. omega arith)
  tvar_above_within (ℕ.suc i) k r h = bind (B.comparison k (suc i) true (omega arith)) λ x₁ c₁ e₁ h₁. finished _ _ _ _ _ (omega arith)

  tvar_within : {b : ℕ} (i : ℕ) (op : Op) → (op_cutoff op ≤ 4200) × (i ≤ 32 + b) × (op_top op ≤ 32 + b) → Within b (tvar c i op) (tvar c' i op) SmallTerm
  unfolding tvar
  tvar_within i (Shift k) h =
      branch (dec_lt i k)
      (λ _. bind (B.comparison i k true (omega arith)) λ x₁ c₁ e₁ h₁. finished _ _ _ _ _ (omega arith))
      (λ _. bind (B.comparison k i false (omega arith)) λ x₁ c₁ e₁ h₁. bind (B.more i (omega arith)) λ x₂ c₂ e₂ h₂. finished_var _ _ _ _ _ (omega arith))
  tvar_within i (Subst k r) h =
      branch (ℕ_discrete i k)
      (λ _. finished _ _ _ _ _ (omega arith))
      (λ _. branch (dec_lt i k)
      (λ _. bind (B.comparison i k true (omega arith)) λ x₁ c₁ e₁ h₁. finished _ _ _ _ _ (omega arith))
      (λ _. tvar_above_within i k r (omega arith)))
  tvar_within i (DShift k) h = finished _ _ _ _ _ (omega arith)
  tvar_within i (DSubst k r) h = finished _ _ _ _ _ (omega arith)

  tinterval_within : {b : ℕ} (r : Interval) (op : Op) → (op_cutoff op + suc n ≤ 4200) × (interval_top r ≤ 32 + b) × (op_top op ≤ 32 + b) → Within b (tinterval c r op) (tinterval c' r op) SmallInterval
  unfolding tinterval
  tinterval_within r (Shift k) h = giving _ λ c e. omega arith
  tinterval_within r (Subst k x) h = giving _ λ c e. omega arith
  tinterval_within r (DShift k) h = bind (B.itransform r (IShift k) (omega arith)) λ x₁ c₁ e₁ h₁. giving _ λ c e. omega arith
  tinterval_within r (DSubst k q) h = bind (B.itransform r (ISubst k q) (omega arith)) λ x₁ c₁ e₁ h₁. giving _ λ c e. omega arith

  transform_within : {b : ℕ} (t : Term) (op : Op) → (op_cutoff op + suc n ≤ 4200) × (term_top t ≤ 32 + b) × (op_top op ≤ 32 + b) → Within b (transform_body c t op) (transform_body c' t op) SmallTerm
  unfolding transform_body tbinder tprojection
  transform_within (Universe l) op h = finished _ _ _ _ _ (omega arith)
  transform_within (Var i) op h = tvar_within i op (omega arith)
  transform_within Nat op h = finished _ _ _ _ _ (omega arith)
  transform_within Zero op h = finished _ _ _ _ _ (omega arith)
  transform_within (Pi s t) op h = bind (B.transform s op (omega arith)) λ x₁ c₁ e₁ h₁. bind (B.under op false (omega arith)) λ x₂ c₂ e₂ h₂. bind (B.transform t _ (omega arith)) λ x₃ c₃ e₃ h₃. finished _ _ _ _ _ (omega arith)
  transform_within (Lam s t) op h = bind (B.transform s op (omega arith)) λ x₁ c₁ e₁ h₁. bind (B.under op false (omega arith)) λ x₂ c₂ e₂ h₂. bind (B.transform t _ (omega arith)) λ x₃ c₃ e₃ h₃. finished _ _ _ _ _ (omega arith)
  transform_within (App s t) op h = bind (B.transform s op (omega arith)) λ x₁ c₁ e₁ h₁. bind (B.transform t op (omega arith)) λ x₂ c₂ e₂ h₂. finished _ _ _ _ _ (omega arith)
  transform_within (Path s t r) op h = bind (B.under op true (omega arith)) λ x₁ c₁ e₁ h₁. bind (B.transform s _ (omega arith)) λ x₂ c₂ e₂ h₂. bind (B.transform t op (omega arith)) λ x₃ c₃ e₃ h₃. bind (B.transform r op (omega arith)) λ x₄ c₄ e₄ h₄. finished _ _ _ _ _ (omega arith)
  transform_within (PathLam s t) op h = bind (B.under op true (omega arith)) λ x₁ c₁ e₁ h₁. bind (B.transform s _ (omega arith)) λ x₂ c₂ e₂ h₂. bind (B.transform t _ (omega arith)) λ x₃ c₃ e₃ h₃. finished _ _ _ _ _ (omega arith)
  transform_within (PathApp s r) op h = bind (B.transform s op (omega arith)) λ x₁ c₁ e₁ h₁. bind (tinterval_within r op (omega arith)) λ x₂ c₂ e₂ h₂. finished _ _ _ _ _ (omega arith)
  transform_within (Sigma s t) op h = bind (B.transform s op (omega arith)) λ x₁ c₁ e₁ h₁. bind (B.under op false (omega arith)) λ x₂ c₂ e₂ h₂. bind (B.transform t _ (omega arith)) λ x₃ c₃ e₃ h₃. finished _ _ _ _ _ (omega arith)
  transform_within (Pair y s t) op h = bind (B.transform y op (omega arith)) λ x₁ c₁ e₁ h₁. bind (B.transform s op (omega arith)) λ x₂ c₂ e₂ h₂. bind (B.transform t op (omega arith)) λ x₃ c₃ e₃ h₃. finished _ _ _ _ _ (omega arith)
  transform_within (Fst p) op h = bind (B.transform p op (omega arith)) λ x₁ c₁ e₁ h₁. finished _ _ _ _ _ (omega arith)
  transform_within (Snd p) op h = bind (B.transform p op (omega arith)) λ x₁ c₁ e₁ h₁. finished _ _ _ _ _ (omega arith)

  dshiftctx_within : {b : ℕ} (g : Context) → (suc n ≤ 4200) × (context_top g ≤ 32 + b) → Within b (dshiftctx_body c g) (dshiftctx_body c' g) SmallContext
  unfolding dshiftctx_body
  dshiftctx_within Nil h = bind (emits _ _ _ (omega arith)) λ x₁ c₁ e₁ h₁. giving _ λ c e. omega arith
  dshiftctx_within (Cons a g) h =
      bind (B.dshiftctx g (omega arith)) λ x₁ c₁ e₁ h₁. bind (B.transform a (DShift 0) (omega arith)) λ x₂ c₂ e₂ h₂. bind (counting (context_cells (Cons x₂.0 x₁.0) (omega arith))) λ x₃ c₃ e₃ h₃.
      let p = quotes_below g in let q = quote_below a in let r = quotes_below x₁.0 in let s = quote_below x₂.0 in bind (emits _ _ _ (omega arith)) λ x₄ c₄ e₄ h₄. giving _ λ c e. omega arith

  ctx_within : {b : ℕ} (d : ℕ) (g : Context) → (d + suc n ≤ 4200) × (context_top g ≤ 32 + b) → Within b (ctx_body c d g) (ctx_body c' d g) Nothing
  unfolding ctx_body new_ctx
  ctx_within {b} d g h = knowing _ (new g (omega arith))
    where
      new : (g : Context) → context_top g ≤ 32 + b → Within b (new_ctx c d g) (new_ctx c' d g) Nothing
      new Nil l = emits _ _ _ (omega arith)
      new (Cons a g) l = bind (B.ctx d g (omega arith)) λ x₁ c₁ e₁ h₁. bind (B.universe d g a (omega arith)) λ x₂ c₂ e₂ h₂. let p = quotes_below g in let q = quote_below a in emits _ _ _ (omega arith)

  lookup_within : {b : ℕ} (g : Context) (i : ℕ) → (suc n ≤ 4200) × (i ≤ 32 + b) × (context_top g ≤ 32 + b) → Within b (lookup_body c g i) (lookup_body c' g i) SmallTerm
  unfolding lookup_body
  lookup_within Nil i h = refusing (λ z. omega arith)
  lookup_within (Cons a g) ℕ.zero h = bind (B.transform a (Shift 0) (omega arith)) λ x₁ c₁ e₁ h₁. bind (counting (term_cells x₁.0 (omega arith))) λ x₂ c₂ e₂ h₂. let p = quotes_below (Cons a g) in let q = quote_below x₁.0 in bind (emits _ _ _ (omega arith)) λ x₃ c₃ e₃ h₃. giving _ λ c e. omega arith
  lookup_within (Cons a g) (ℕ.suc i) h = bind (B.lookup g i (omega arith)) λ x₁ c₁ e₁ h₁. bind (B.transform x₁.0 (Shift 0) (omega arith)) λ x₂ c₂ e₂ h₂. bind (counting (term_cells x₂.0 (omega arith))) λ x₃ c₃ e₃ h₃. let p = quotes_below (Cons a g) in let q = quote_below x₂.0 in bind (emits _ _ _ (omega arith)) λ x₄ c₄ e₄ h₄. giving _ λ c e. omega arith

  -- typing

  expose_within : {b : ℕ} (d : ℕ) (g : Context) (t y : Term) (row : ℕ) → (d + suc n ≤ 4200) × (context_top g ≤ 32 + b) × (term_top t ≤ 32 + b) × (term_top y ≤ 32 + b) → Within b (expose_body c d g t y row) (expose_body c' d g t y row) SmallTerm
  unfolding expose_body
  expose_within d g t y row h =
      bind (B.universe d g y (omega arith)) λ x₁ c₁ e₁ h₁. bind (B.normalize d g y (Universe x₁.0) (omega arith)) λ x₂ c₂ e₂ h₂.
      branch (quote? (quote x₂.0) (quote y))
      (λ _. giving _ λ c e. omega arith)
      (λ _. bind (B.check d g x₂.0 (Universe x₁.0) (omega arith)) λ x₃ c₃ e₃ h₃.
      let p = quotes_below g in let q = quote_below t in let r = quote_below x₂.0 in bind (emits _ _ _ (omega arith)) λ x₄ c₄ e₄ h₄. giving _ λ c e. omega arith)

  universe_within : {b : ℕ} (d : ℕ) (g : Context) (t : Term) → (d + suc n ≤ 4200) × (context_top g ≤ 32 + b) × (term_top t ≤ 32 + b) → Within b (universe_body c d g t) (universe_body c' d g t) (λ o b. o.0 ≤ 32 + b)
  unfolding universe_body
  universe_within d g t h =
      bind (B.infer d g t (omega arith)) λ x₁ c₁ e₁ h₁.
      cases (level x₁.0)
      (λ l q. let p = level_top x₁.0 l q in giving _ λ c e. omega arith)
      (λ _. convert (bind (B.expose d g t x₁.0 x₁.1 (omega arith)) λ x₂ c₂ e₂ h₂.
      cases (level x₂.0) (λ l q. let p = level_top x₂.0 l q in giving _ λ c e. omega arith) (λ _. refusing (λ z. omega arith))))

  check_within : {b : ℕ} (d : ℕ) (g : Context) (t y : Term) → (d + suc n ≤ 4200) × (context_top g ≤ 32 + b) × (term_top t ≤ 32 + b) × (term_top y ≤ 32 + b) → Within b (check_body c d g t y) (check_body c' d g t y) Nothing
  unfolding check_body
  check_within d g t y h =
      bind (B.infer d g t (omega arith)) λ x₁ c₁ e₁ h₁.
      branch (quote? (quote x₁.0) (quote y))
      (λ _. giving _ λ c e. tt)
      (λ _. convert (bind (B.universe d g x₁.0 (omega arith)) λ x₂ c₂ e₂ h₂. bind (B.universe d g y (omega arith)) λ x₃ c₃ e₃ h₃.
      branch (ℕ_discrete x₂.0 x₃.0)
      (λ _. bind (B.equal d g x₁.0 y (Universe x₂.0) (omega arith)) λ x₄ c₄ e₄ h₄. let p = quotes_below g in let q = quote_below t in let r = quote_below y in emits _ _ _ (omega arith))
      (λ _. refusing (λ z. omega arith))))

  headed_within : {b : ℕ} (k : Kind) (d : ℕ) (g : Context) (t : Term) → (d + suc n ≤ 4200) × (context_top g ≤ 32 + b) × (term_top t ≤ 32 + b) → Within b (headed k c d g t) (headed k c' d g t) (λ o b. term_top o.0 ≤ 32 + b)
  unfolding headed
  headed_within k d g t h =
      bind (B.infer d g t (omega arith)) λ x₁ c₁ e₁ h₁. branch (KindDiscrete (view x₁.0).kind k) (λ _. giving _ λ c e. omega arith) (λ _. convert (B.expose d g t x₁.0 x₁.1 (omega arith)))

  as_parts_within : {b : ℕ} {A : Type 0} (k : Kind) (parts : Term → Option A) (Small : A → ℕ → Type 0) → ((t : Term) (m : A) (k : ℕ) → parts t ≡ some m → term_top t ≤ 32 + k → Small m k) → (refusal : ℕ) → (refusal ≡ 0 → ⊥) → (d : ℕ) (g : Context) (t : Term) → (d + suc n ≤ 4200) × (context_top g ≤ 32 + b) × (term_top t ≤ 32 + b) → Within b (as_parts k parts refusal c d g t) (as_parts k parts refusal c' d g t) (λ o b. Small o.0 b)
  unfolding as_parts
  as_parts_within k parts Small small refusal nonzero d g t h =
      bind (headed_within k d g t h) λ x₁ c₁ e₁ h₁. cases (parts x₁.0) (λ of q. giving _ λ k e. small x₁.0 of k q (omega arith)) (λ _. refusing nonzero)

  as_pi_within : {b : ℕ} (d : ℕ) (g : Context) (t : Term) → (d + suc n ≤ 4200) × (context_top g ≤ 32 + b) × (term_top t ≤ 32 + b) → Within b (as_pi c d g t) (as_pi c' d g t) (λ o b. (term_top o.0.0 ≤ 32 + b) × (term_top o.0.1 ≤ 32 + b))
  as_pi_within = as_parts_within k_pi pi_parts (λ m b. (term_top m.0 ≤ 32 + b) × (term_top m.1 ≤ 32 + b)) (λ t m k q h. let p = pi_top t m q in omega arith) _ (λ z. omega arith)

  as_path_within : {b : ℕ} (d : ℕ) (g : Context) (t : Term) → (d + suc n ≤ 4200) × (context_top g ≤ 32 + b) × (term_top t ≤ 32 + b) → Within b (as_path c d g t) (as_path c' d g t) (λ o b. (term_top o.0.0 ≤ 32 + b) × (term_top o.0.1 ≤ 32 + b) × (term_top o.0.2 ≤ 32 + b))
  as_path_within = as_parts_within k_path path_parts (λ m b. (term_top m.0 ≤ 32 + b) × (term_top m.1 ≤ 32 + b) × (term_top m.2 ≤ 32 + b)) (λ t m k q h. let p = path_top t m q in omega arith) _ (λ z. omega arith)

  as_sigma_within : {b : ℕ} (d : ℕ) (g : Context) (t : Term) → (d + suc n ≤ 4200) × (context_top g ≤ 32 + b) × (term_top t ≤ 32 + b) → Within b (as_sigma c d g t) (as_sigma c' d g t) (λ o b. (term_top o.0.0 ≤ 32 + b) × (term_top o.0.1 ≤ 32 + b))
  as_sigma_within = as_parts_within k_sigma sigma_parts (λ m b. (term_top m.0 ≤ 32 + b) × (term_top m.1 ≤ 32 + b)) (λ t m k q h. let p = sigma_top t m q in omega arith) _ (λ z. omega arith)

  find_binder_within : {b : ℕ} (d : ℕ) (g : Context) (s t : Term) (rule : ℕ) → (d + suc n ≤ 4200) × (context_top g ≤ 32 + b) × (term_top s ≤ 32 + b) × (term_top t ≤ 32 + b) → Within b (find_binder c d g s t rule) (find_binder c' d g s t rule) (λ o b. Ready o.type b)
  unfolding find_binder
  find_binder_within d g s t rule h = bind (B.universe d g s (omega arith)) λ x₁ c₁ e₁ h₁. bind (B.universe d (Cons s g) t (omega arith)) λ x₂ c₂ e₂ h₂. bind (B.max x₁.0 x₂.0 (omega arith)) λ x₃ c₃ e₃ h₃. let p = larger_top x₁.0 x₂.0 (32 + c₃) (omega arith) in founds (Universe (larger x₁.0 x₂.0)) _ _ (kept_ready (Universe (larger x₁.0 x₂.0)) (omega arith))

  find_pair_within : {b : ℕ} (d : ℕ) (g : Context) (ty ta tb s t : Term) → (d + suc n ≤ 4200) × (context_top g ≤ 32 + b) × (term_top ty ≤ 32 + b) × (term_top ta ≤ 32 + b) × (term_top tb ≤ 32 + b) × (term_top s ≤ 32 + b) × (term_top t ≤ 32 + b) → Within b (find_pair c d g ty ta tb s t) (find_pair c' d g ty ta tb s t) (λ o b. Ready o.type b)
  unfolding find_pair
  find_pair_within d g ty ta tb s t h =
      bind (B.universe d g ta (omega arith)) λ x₁ c₁ e₁ h₁. bind (B.universe d (Cons ta g) tb (omega arith)) λ x₂ c₂ e₂ h₂. bind (B.check d g s ta (omega arith)) λ x₃ c₃ e₃ h₃.
      bind (B.transform tb (Subst 0 s) (omega arith)) λ x₄ c₄ e₄ h₄. bind (B.check d g x₄.0 (Universe x₂.0) (omega arith)) λ x₅ c₅ e₅ h₅. bind (B.check d g t x₄.0 (omega arith)) λ x₆ c₆ e₆ h₆.
      founds ty _ _ (kept_ready ty (omega arith))

  find_within : {b : ℕ} (d : ℕ) (g : Context) (t : Term) → (d + suc n ≤ 4200) × (context_top g ≤ 32 + b) × (term_top t ≤ 32 + b) → Within b (find c d g t) (find c' d g t) (λ o b. Ready o.type b)
  unfolding find
  find_within d g (Universe l) h = bind (B.ctx d g (omega arith)) λ x₁ c₁ e₁ h₁. bind (B.more l (omega arith)) λ x₂ c₂ e₂ h₂. founds (Universe x₂) _ _ (level_ready x₂ (omega arith))
  find_within d g Nat h = bind (B.ctx d g (omega arith)) λ x₁ c₁ e₁ h₁. founds (Universe 0) _ _ (kept_ready (Universe 0) (omega arith))
  find_within d g Zero h = bind (B.ctx d g (omega arith)) λ x₁ c₁ e₁ h₁. founds Nat _ _ (kept_ready Nat (omega arith))
  find_within d g (Var k) h = bind (B.ctx d g (omega arith)) λ x₁ c₁ e₁ h₁. bind (B.lookup g k (omega arith)) λ x₂ c₂ e₂ h₂. founds x₂.0 _ _ (kept_ready x₂.0 (omega arith))
  find_within d g (Pi s t) h = find_binder_within d g s t _ (omega arith)
  find_within d g (Lam s t) h = bind (B.universe d g s (omega arith)) λ x₁ c₁ e₁ h₁. bind (B.infer d (Cons s g) t (omega arith)) λ x₂ c₂ e₂ h₂. bind (B.universe d (Cons s g) x₂.0 (omega arith)) λ x₃ c₃ e₃ h₃. founds (Pi s x₂.0) _ _ (kept_ready (Pi s x₂.0) (omega arith))
  find_within d g (App s t) h =
      bind (as_pi_within d g s (omega arith)) λ x₂ c₂ e₂ h₂.
      bind (B.check d g t x₂.0.0 (omega arith)) λ x₃ c₃ e₃ h₃. bind (B.transform x₂.0.1 (Subst 0 t) (omega arith)) λ x₄ c₄ e₄ h₄. founds x₄.0 _ _ (kept_ready x₄.0 (omega arith))
  find_within d g (Path s t r) h =
      bind (B.ctx d g (omega arith)) λ x₁ c₁ e₁ h₁. bind (B.dshiftctx g (omega arith)) λ x₂ c₂ e₂ h₂. bind (B.more d (omega arith)) λ x₃ c₃ e₃ h₃. bind (B.universe x₃ x₂.0 s (omega arith)) λ x₄ c₄ e₄ h₄.
      bind (B.transform s (DSubst 0 I0) (omega arith)) λ x₅ c₅ e₅ h₅. bind (B.transform s (DSubst 0 I1) (omega arith)) λ x₆ c₆ e₆ h₆.
      bind (B.check d g t x₅.0 (omega arith)) λ x₇ c₇ e₇ h₇. bind (B.check d g r x₆.0 (omega arith)) λ x₈ c₈ e₈ h₈. founds (Universe x₄.0) _ _ (kept_ready (Universe x₄.0) (omega arith))
  find_within d g (PathLam s t) h =
      bind (B.ctx d g (omega arith)) λ x₀ c₀ e₀ h₀. bind (B.dshiftctx g (omega arith)) λ y₀ d₀ f₀ g₀. bind (B.more d (omega arith)) λ x₁ c₁ e₁ h₁. bind (B.universe x₁ y₀.0 s (omega arith)) λ x₂ c₂ e₂ h₂. bind (B.check x₁ y₀.0 t s (omega arith)) λ x₃ c₃ e₃ h₃.
      bind (B.transform s (DSubst 0 I0) (omega arith)) λ x₄ c₄ e₄ h₄. bind (B.transform s (DSubst 0 I1) (omega arith)) λ x₅ c₅ e₅ h₅.
      bind (B.transform t (DSubst 0 I0) (omega arith)) λ x₆ c₆ e₆ h₆. bind (B.transform t (DSubst 0 I1) (omega arith)) λ x₇ c₇ e₇ h₇.
      bind (B.check d g x₆.0 x₄.0 (omega arith)) λ x₈ c₈ e₈ h₈. bind (B.check d g x₇.0 x₅.0 (omega arith)) λ x₉ c₉ e₉ h₉. founds (Path s x₆.0 x₇.0) _ _ (kept_ready (Path s x₆.0 x₇.0) (omega arith))
  find_within d g (PathApp s r) h =
      bind (as_path_within d g s (omega arith)) λ x₂ c₂ e₂ h₂.
      bind (B.interval d r (omega arith)) λ x₃ c₃ e₃ h₃. bind (B.transform x₂.0.0 (DSubst 0 r) (omega arith)) λ x₄ c₄ e₄ h₄. bind (B.universe d g x₄.0 (omega arith)) λ x₅ c₅ e₅ h₅. founds x₄.0 _ _ (kept_ready x₄.0 (omega arith))
  find_within d g (Sigma s t) h = find_binder_within d g s t _ (omega arith)
  find_within d g (Pair ty s t) h = cases (sigma_parts ty) (λ of q. let p = sigma_top ty of q in find_pair_within d g ty of.0 of.1 s t (omega arith)) (λ _. refusing (λ z. omega arith))
  find_within d g (Fst p) h = bind (as_sigma_within d g p (omega arith)) λ x₁ c₁ e₁ h₁. bind (B.universe d g x₁.0.0 (omega arith)) λ x₂ c₂ e₂ h₂. founds x₁.0.0 _ _ (kept_ready x₁.0.0 (omega arith))
  find_within d g (Snd p) h =
      bind (as_sigma_within d g p (omega arith)) λ x₁ c₁ e₁ h₁. bind (B.transform x₁.0.1 (Subst 0 (Fst p)) (omega arith)) λ x₂ c₂ e₂ h₂. bind (B.universe d g x₂.0 (omega arith)) λ x₃ c₃ e₃ h₃.
      founds x₂.0 _ _ (kept_ready x₂.0 (omega arith))

  new_infer_within : {b : ℕ} (d : ℕ) (g : Context) (t : Term) → (d + suc n ≤ 4200) × (context_top g ≤ 32 + b) × (term_top t ≤ 32 + b) → Within b (new_infer c d g t) (new_infer c' d g t) SmallTerm
  unfolding new_infer
  new_infer_within d g t h =
      bind (find_within d g t (omega arith)) λ x₁ c₁ e₁ h₁.
      let p = quotes_below g in let q = quote_below t in let r = quote_below x₁.type in let w = h₁.0 in
      bind (emitted (has d (quotes g) (quote t) (quote x₁.type)) _ _ (omega arith)) λ x₂ c₂ e₂ h₂.
      let y : term_top x₁.type ≤ 32 + c₂ = h₁.1 c₂ e₂ (omega arith) in
      bind (remembering (key d g t) x₁.type x₂ (omega arith)) λ x₃ c₃ e₃ h₃. giving _ λ c e. omega arith

  infer_within : {b : ℕ} (d : ℕ) (g : Context) (t : Term) → (d + suc n ≤ 4200) × (context_top g ≤ 32 + b) × (term_top t ≤ 32 + b) → Within b (infer_body c d g t) (infer_body c' d g t) SmallTerm
  unfolding infer_body
  infer_within d g t h = recalling (key d g t) (new_infer_within d g t (omega arith))

  -- equality

  beta_within : {b : ℕ} (d : ℕ) (g : Context) (s t r : Term) → (d + suc n ≤ 4200) × (context_top g ≤ 32 + b) × (term_top s ≤ 32 + b) × (term_top t ≤ 32 + b) × (term_top r ≤ 32 + b) → Within b (beta c d g s t r) (beta c' d g s t r) Stepped
  unfolding beta
  beta_within d g s t r h =
      bind (B.universe d g s (omega arith)) λ x₁ c₁ e₁ h₁. bind (B.infer d (Cons s g) t (omega arith)) λ x₂ c₂ e₂ h₂. bind (B.universe d (Cons s g) x₂.0 (omega arith)) λ x₃ c₃ e₃ h₃.
      bind (B.check d g r s (omega arith)) λ x₄ c₄ e₄ h₄. bind (B.transform t (Subst 0 r) (omega arith)) λ x₅ c₅ e₅ h₅. bind (B.transform x₂.0 (Subst 0 r) (omega arith)) λ x₆ c₆ e₆ h₆.
      let p = quotes_below g in let q = quote_below (App (Lam s t) r) in let u = quote_below x₅.0 in let v = quote_below x₆.0 in
      bind (emits _ _ _ (omega arith)) λ x₇ c₇ e₇ h₇. giving _ λ c e. omega arith

  at_end_within : {b : ℕ} (d : ℕ) (g : Context) (t out ty : Term) (refs : List ℕ) (rule : ℕ) → (d + suc n ≤ 4200) × (context_top g ≤ 32 + b) × (term_top t ≤ 32 + b) × (term_top out ≤ 32 + b) × (term_top ty ≤ 32 + b) → Within b (at_end c d g t out ty refs rule) (at_end c' d g t out ty refs rule) Stepped
  unfolding at_end
  at_end_within d g t out ty refs rule h =
      bind (B.check d g out ty (omega arith)) λ x₁ c₁ e₁ h₁. let a = quotes_below g in let q = quote_below t in let u = quote_below out in let v = quote_below ty in
      bind (emits _ _ _ (omega arith)) λ x₂ c₂ e₂ h₂. giving _ λ c e. omega arith

  pbeta_within : {b : ℕ} (d : ℕ) (g : Context) (p : Term) (r : Interval) (t ty : Term) (x y : ℕ) → (d + suc n ≤ 4200) × (context_top g ≤ 32 + b) × (term_top p ≤ 32 + b) × (interval_top r ≤ 32 + b) × (term_top t ≤ 32 + b) × (term_top ty ≤ 32 + b) → Within b (pbeta c d g p r t ty x y) (pbeta c' d g p r t ty x y) Stepped
  unfolding pbeta
  pbeta_within d g p r t ty x y h =
      bind (B.interval d r (omega arith)) λ x₁ c₁ e₁ h₁. bind (B.transform t (DSubst 0 r) (omega arith)) λ x₂ c₂ e₂ h₂. bind (B.check d g x₂.0 ty (omega arith)) λ x₃ c₃ e₃ h₃.
      let a = quotes_below g in let q = quote_below (PathApp p r) in let u = quote_below x₂.0 in let v = quote_below ty in
      bind (emits _ _ _ (omega arith)) λ x₄ c₄ e₄ h₄. giving _ λ c e. omega arith

  ends_within : {b : ℕ} (d : ℕ) (g : Context) (p : Term) (r : Interval) (s t ty : Term) (x y : ℕ) → (d + suc n ≤ 4200) × (context_top g ≤ 32 + b) × (term_top p ≤ 32 + b) × (interval_top r ≤ 32 + b) × (term_top s ≤ 32 + b) × (term_top t ≤ 32 + b) × (term_top ty ≤ 32 + b) → Within b (ends c d g p r s t ty x y) (ends c' d g p r s t ty x y) Stepped
  unfolding ends
  ends_within d g p I0 s t ty x y h = at_end_within d g (PathApp p I0) s ty _ _ (omega arith)
  ends_within d g p I1 s t ty x y h = at_end_within d g (PathApp p I1) t ty _ _ (omega arith)
  ends_within d g p (Dim z) s t ty x y h = giving _ λ c e. tt
  ends_within d g p (Neg r) s t ty x y h = giving _ λ c e. tt
  ends_within d g p (Meet r q) s t ty x y h = giving _ λ c e. tt
  ends_within d g p (Join r q) s t ty x y h = giving _ λ c e. tt

  fst_beta_within : {b : ℕ} (d : ℕ) (g : Context) (p s : Term) → (d + suc n ≤ 4200) × (context_top g ≤ 32 + b) × (term_top p ≤ 32 + b) × (term_top s ≤ 32 + b) → Within b (fst_beta c d g p s) (fst_beta c' d g p s) Stepped
  unfolding fst_beta
  fst_beta_within d g p s h =
      bind (as_sigma_within d g p (omega arith)) λ x₁ c₁ e₁ h₁. bind (B.check d g s x₁.0.0 (omega arith)) λ x₂ c₂ e₂ h₂.
      let a = quotes_below g in let q = quote_below (Fst p) in let u = quote_below s in let v = quote_below x₁.0.0 in
      bind (emits _ _ _ (omega arith)) λ x₃ c₃ e₃ h₃. giving _ λ c e. omega arith

  snd_beta_within : {b : ℕ} (d : ℕ) (g : Context) (p s : Term) → (d + suc n ≤ 4200) × (context_top g ≤ 32 + b) × (term_top p ≤ 32 + b) × (term_top s ≤ 32 + b) → Within b (snd_beta c d g p s) (snd_beta c' d g p s) Stepped
  unfolding snd_beta
  snd_beta_within d g p s h =
      bind (as_sigma_within d g p (omega arith)) λ x₁ c₁ e₁ h₁. bind (B.transform x₁.0.1 (Subst 0 (Fst p)) (omega arith)) λ x₂ c₂ e₂ h₂.
      at_end_within d g (Snd p) s x₂.0 _ _ (omega arith)

  along_within : {b : ℕ} (d : ℕ) (g : Context) (p : Term) (r : Interval) → (d + suc n ≤ 4200) × (context_top g ≤ 32 + b) × (term_top p ≤ 32 + b) × (interval_top r ≤ 32 + b) → Within b (walk_along c d g p r) (walk_along c' d g p r) Stepped
  unfolding walk_along
  along_within d g p r h =
      bind (as_path_within d g p (omega arith)) λ x₂ c₂ e₂ h₂. bind (B.transform x₂.0.0 (DSubst 0 r) (omega arith)) λ x₃ c₃ e₃ h₃.
      cases (plam_parts p)
      (λ ab q. let z = plam_top p ab q in pbeta_within d g p r ab.1 x₃.0 _ _ (omega arith))
      (λ _. ends_within d g p r x₂.0.1 x₂.0.2 x₃.0 _ _ (omega arith))

  long_end_within : {b : ℕ} (p : Term) (r : Interval) → interval_top r ≤ 32 + b → Within b (long_end c p r) (long_end c' p r) Nothing
  unfolding long_end
  long_end_within p r h = cases (plam_parts p) (λ _ _. giving _ λ c e. tt) (λ _. cases (written r) (λ _ _. giving _ λ c e. tt) (λ _. B.endpoint r h))

  at_val_within : {b : ℕ} (d : ℕ) (g : Context) (p : Term) (r : Interval) (e : End) (w : ℕ) → (d + suc n ≤ 4200) × (context_top g ≤ 32 + b) × (term_top p ≤ 32 + b) × (interval_top r ≤ 32 + b) → Within b (at_val c d g p r e w) (at_val c' d g p r e w) Stepped
  unfolding at_val
  at_val_within d g p r e w h =
      bind (as_path_within d g p (omega arith)) λ x₁ c₁ e₁ h₁. bind (B.interval d r (omega arith)) λ x₂ c₂ e₂ h₂. bind (B.transform x₁.0.0 (DSubst 0 r) (omega arith)) λ x₃ c₃ e₃ h₃.
      let z = side_top e x₁.0 in at_end_within d g (PathApp p r) (side e x₁.0) x₃.0 _ _ (omega arith)

  reduce_within : {b : ℕ} (d : ℕ) (g : Context) (t : Term) → (d + suc n ≤ 4200) × (context_top g ≤ 32 + b) × (term_top t ≤ 32 + b) → Within b (reduce_body c d g t) (reduce_body c' d g t) Stepped
  unfolding reduce_body
  reduce_within d g (Universe l) h = giving _ λ c e. tt
  reduce_within d g (Var k) h = giving _ λ c e. tt
  reduce_within d g Nat h = giving _ λ c e. tt
  reduce_within d g Zero h = giving _ λ c e. tt
  reduce_within d g (Pi s t) h = giving _ λ c e. tt
  reduce_within d g (Lam s t) h = giving _ λ c e. tt
  reduce_within d g (App f r) h = cases (lam_parts f) (λ ab q. let p = lam_top f ab q in beta_within d g ab.0 ab.1 r (omega arith)) (λ _. giving _ λ c e. tt)
  reduce_within d g (Path s t r) h = giving _ λ c e. tt
  reduce_within d g (PathLam s t) h = giving _ λ c e. tt
  reduce_within d g (PathApp p r) h =
      bind (long_end_within p r (omega arith)) λ x₁ c₁ e₁ h₁.
      cases x₁ (λ of _. at_val_within d g p r of.0 of.1 (omega arith)) (λ _. along_within d g p r (omega arith))
  reduce_within d g (Sigma s t) h = giving _ λ c e. tt
  reduce_within d g (Pair y s t) h = giving _ λ c e. tt
  reduce_within d g (Fst p) h = cases (pair_parts p) (λ of q. let z = pair_top p of q in fst_beta_within d g p of.1 (omega arith)) (λ _. giving _ λ c e. tt)
  reduce_within d g (Snd p) h = cases (pair_parts p) (λ of q. let z = pair_top p of q in snd_beta_within d g p of.2 (omega arith)) (λ _. giving _ λ c e. tt)

  -- what a head goes to
  abbrev Gone : Option (Term × ℕ) → ℕ → Type 0
  Gone none b = Unit {0}
  Gone (some x) b = term_top x.0 ≤ 32 + b

  head_goes_within : {b : ℕ} (d : ℕ) (g : Context) (f y : Term) → (d + suc n ≤ 4200) × (context_top g ≤ 32 + b) × (term_top f ≤ 32 + b) → Within b (head_goes c d g f y) (head_goes c' d g f y) Gone
  unfolding head_goes
  head_goes_within d g f y h =
      bind (B.head_step d g f (omega arith)) λ x₁ c₁ e₁ h₁.
      cases x₁
      (λ step q.
      let w : Stepped (some step) c₁ = along (λ (o : Option Step). Stepped o c₁) q h₁ in
      let w₀ : term_top step.term ≤ 32 + c₁ = w.0 in
      branch (quote? (quote step.type) (quote y)) (λ _. giving _ λ c e. omega arith) (λ _. refusing (λ z. omega arith)))
      (λ _. giving _ λ c e. tt)

  congruent_within : {b : ℕ} (d : ℕ) (g : Context) (t out ty : Term) (refs : List ℕ) (rule : ℕ) → (d + suc n ≤ 4200) × (context_top g ≤ 32 + b) × (term_top t ≤ 32 + b) × (term_top out ≤ 32 + b) × (term_top ty ≤ 32 + b) → Within b (congruent c d g t out ty refs rule) (congruent c' d g t out ty refs rule) Stepped
  unfolding congruent
  congruent_within d g t out ty refs rule h =
      bind (B.check d g t ty (omega arith)) λ x₁ c₁ e₁ h₁. bind (B.check d g out ty (omega arith)) λ x₂ c₂ e₂ h₂.
      let a = quotes_below g in let q = quote_below t in let u = quote_below out in let v = quote_below ty in
      bind (emits _ _ _ (omega arith)) λ x₃ c₃ e₃ h₃. giving _ λ c e. omega arith

  app_cong_within : {b : ℕ} (d : ℕ) (g : Context) (f r : Term) → (d + suc n ≤ 4200) × (context_top g ≤ 32 + b) × (term_top f ≤ 32 + b) × (term_top r ≤ 32 + b) → Within b (app_cong c d g f r) (app_cong c' d g f r) Stepped
  unfolding app_cong
  app_cong_within d g f r h =
      bind (as_pi_within d g f (omega arith)) λ x₁ c₁ e₁ h₁. bind (head_goes_within d g f (Pi x₁.0.0 x₁.0.1) (omega arith)) λ x₂ c₂ e₂ h₂.
      cases x₂
      (λ head q.
      let w : Gone (some head) c₂ = along (λ (o : Option (Term × ℕ)). Gone o c₂) q h₂ in
      let w₀ : term_top head.0 ≤ 32 + c₂ = w in
      bind (B.check d g r x₁.0.0 (omega arith)) λ x₃ c₃ e₃ h₃. bind (B.transform x₁.0.1 (Subst 0 r) (omega arith)) λ x₄ c₄ e₄ h₄.
      congruent_within d g (App f r) (App head.0 r) x₄.0 _ _ (omega arith))
      (λ _. giving _ λ c e. tt)

  papp_cong_within : {b : ℕ} (d : ℕ) (g : Context) (p : Term) (r : Interval) → (d + suc n ≤ 4200) × (context_top g ≤ 32 + b) × (term_top p ≤ 32 + b) × (interval_top r ≤ 32 + b) → Within b (papp_cong c d g p r) (papp_cong c' d g p r) Stepped
  unfolding papp_cong
  papp_cong_within d g p r h =
      bind (as_path_within d g p (omega arith)) λ x₁ c₁ e₁ h₁. bind (head_goes_within d g p (Path x₁.0.0 x₁.0.1 x₁.0.2) (omega arith)) λ x₂ c₂ e₂ h₂.
      cases x₂
      (λ head q.
      let w : Gone (some head) c₂ = along (λ (o : Option (Term × ℕ)). Gone o c₂) q h₂ in
      let w₀ : term_top head.0 ≤ 32 + c₂ = w in
      bind (B.interval d r (omega arith)) λ x₃ c₃ e₃ h₃. bind (B.transform x₁.0.0 (DSubst 0 r) (omega arith)) λ x₄ c₄ e₄ h₄.
      congruent_within d g (PathApp p r) (PathApp head.0 r) x₄.0 _ _ (omega arith))
      (λ _. giving _ λ c e. tt)

  at_head_within : {b : ℕ} (d : ℕ) (g : Context) (t : Term) → (d + suc n ≤ 4200) × (context_top g ≤ 32 + b) × (term_top t ≤ 32 + b) → Within b (at_head c d g t) (at_head c' d g t) Stepped
  unfolding at_head
  at_head_within d g (Universe l) h = giving _ λ c e. tt
  at_head_within d g (Var k) h = giving _ λ c e. tt
  at_head_within d g Nat h = giving _ λ c e. tt
  at_head_within d g Zero h = giving _ λ c e. tt
  at_head_within d g (Pi s t) h = giving _ λ c e. tt
  at_head_within d g (Lam s t) h = giving _ λ c e. tt
  at_head_within d g (App f r) h = app_cong_within d g f r (omega arith)
  at_head_within d g (Path s t r) h = giving _ λ c e. tt
  at_head_within d g (PathLam s t) h = giving _ λ c e. tt
  at_head_within d g (PathApp p r) h = papp_cong_within d g p r (omega arith)
  at_head_within d g (Sigma s t) h = giving _ λ c e. tt
  at_head_within d g (Pair y s t) h = giving _ λ c e. tt
  at_head_within d g (Fst p) h = giving _ λ c e. tt
  at_head_within d g (Snd p) h = giving _ λ c e. tt

  head_step_within : {b : ℕ} (d : ℕ) (g : Context) (t : Term) → (d + suc n ≤ 4200) × (context_top g ≤ 32 + b) × (term_top t ≤ 32 + b) → Within b (head_step_body c d g t) (head_step_body c' d g t) Stepped
  unfolding head_step_body
  head_step_within d g t h =
      bind (B.reduce d g t (omega arith)) λ x₁ c₁ e₁ h₁.
      cases x₁
      (λ step q.
      let w : Stepped (some step) c₁ = along (λ (o : Option Step). Stepped o c₁) q h₁ in
      let w₀ : term_top step.term ≤ 32 + c₁ = w.0 in
      let w₁ : term_top step.type ≤ 32 + c₁ = w.1 in
      giving _ λ c e. omega arith)
      (λ _. at_head_within d g t (omega arith))

  -- steps that keep the bounds
  abbrev Steps : ℕ → (Term → M (Option Step)) → (Term → M (Option Step)) → Type 0
  Steps b step step' = (c : ℕ) (t : Term) → b ≤ c → term_top t ≤ 32 + c → Within c (step t) (step' t) Stepped

  rounds_within : {b : ℕ} (left d : ℕ) (g : Context) (step step' : Term → M (Option Step)) → Steps b step step' → (t ty now : Term) (x : ℕ) → (d + suc n ≤ 4200) × (context_top g ≤ 32 + b) × (term_top t ≤ 32 + b) × (term_top ty ≤ 32 + b) × (term_top now ≤ 32 + b) → Within b (rounds left c step d g t ty now x) (rounds left c' step' d g t ty now x) SmallTerm
  unfolding rounds
  rounds_within ℕ.zero d g step step' steps t ty now x h = bind (steps _ now (omega arith) (omega arith)) λ x₁ c₁ e₁ h₁. cases x₁ (λ _ _. refusing (λ z. omega arith)) (λ _. giving _ λ c e. omega arith)
  rounds_within (ℕ.suc left) d g step step' steps t ty now x h =
      bind (steps _ now (omega arith) (omega arith)) λ x₁ c₁ e₁ h₁.
      cases x₁
      (λ found q.
      let w : Stepped (some found) c₁ = along (λ (o : Option Step). Stepped o c₁) q h₁ in
      let w₀ : term_top found.term ≤ 32 + c₁ = w.0 in
      branch (quote? (quote found.type) (quote ty))
      (λ _. bind (B.check d g found.term ty (omega arith)) λ x₂ c₂ e₂ h₂.
      let a = quotes_below g in let p = quote_below t in let u = quote_below found.term in let v = quote_below ty in
      bind (emits _ _ _ (omega arith)) λ x₃ c₃ e₃ h₃. rounds_within left d g step step' (λ c t l. steps c t (omega arith)) t ty found.term x₃ (omega arith))
      (λ _. refusing (λ z. omega arith)))
      (λ _. giving _ λ c e. omega arith)

  normal_by_within : {b : ℕ} (d : ℕ) (g : Context) (step step' : Term → M (Option Step)) → Steps b step step' → (t y : Term) → (d + suc n ≤ 4200) × (context_top g ≤ 32 + b) × (term_top t ≤ 32 + b) × (term_top y ≤ 32 + b) → Within b (normal_by c step d g t y) (normal_by c' step' d g t y) SmallTerm
  unfolding normal_by
  normal_by_within d g step step' steps t y h =
      bind (B.check d g t y (omega arith)) λ x₁ c₁ e₁ h₁. let a = quotes_below g in let p = quote_below t in let v = quote_below y in
      bind (emits _ _ _ (omega arith)) λ x₂ c₂ e₂ h₂. rounds_within 32 d g step step' (λ c t l. steps c t (omega arith)) t y t x₂ (omega arith)

  normalize_within : {b : ℕ} (d : ℕ) (g : Context) (t y : Term) → (d + suc n ≤ 4200) × (context_top g ≤ 32 + b) × (term_top t ≤ 32 + b) × (term_top y ≤ 32 + b) → Within b (normalize_body c d g t y) (normalize_body c' d g t y) SmallTerm
  unfolding normalize_body
  normalize_within d g t y h = normal_by_within d g (c.reduce d g) (c'.reduce d g) (λ b t l k. B.reduce d g t (omega arith)) t y h

  head_normalize_within : {b : ℕ} (d : ℕ) (g : Context) (t y : Term) → (d + suc n ≤ 4200) × (context_top g ≤ 32 + b) × (term_top t ≤ 32 + b) × (term_top y ≤ 32 + b) → Within b (head_normalize_body c d g t y) (head_normalize_body c' d g t y) SmallTerm
  unfolding head_normalize_body
  head_normalize_within d g t y h = normal_by_within d g (c.head_step d g) (c'.head_step d g) (λ b t l k. B.head_step d g t (omega arith)) t y h

  equal_within : {b : ℕ} (d : ℕ) (g : Context) (s t y : Term) → (d + suc n ≤ 4200) × (context_top g ≤ 32 + b) × (term_top s ≤ 32 + b) × (term_top t ≤ 32 + b) × (term_top y ≤ 32 + b) → Within b (equal_body c d g s t y) (equal_body c' d g s t y) Nothing
  unfolding equal_body
  equal_within d g s t y h =
      let a = quotes_below g in let p = quote_below s in let u = quote_below t in let v = quote_below y in
      bind (B.check d g s y (omega arith)) λ x₁ c₁ e₁ h₁. bind (B.check d g t y (omega arith)) λ x₂ c₂ e₂ h₂.
      branch (quote? (quote s) (quote t))
      (λ _. emits _ _ _ (omega arith))
      (λ _. bind (B.normalize d g s y (omega arith)) λ x₃ c₃ e₃ h₃. bind (B.normalize d g t y (omega arith)) λ x₄ c₄ e₄ h₄.
      branch (quote? (quote x₃.0) (quote x₄.0))
      (λ _. let w = quote_below x₄.0 in bind (emits _ _ _ (omega arith)) λ x₅ c₅ e₅ h₅. emits _ _ _ (omega arith))
      (λ _. refusing (λ z. omega arith)))

none_within : {A : Type 0} {b : ℕ} {Q : A → ℕ → Type 0} → Within b (refuse Refusal.nesting) (refuse Refusal.nesting) Q
none_within = refusing (λ z. omega arith)

bounds_none : (top : ℕ) → largest ≤ top → Bounds 0 (none_left (bump_to top)) (none_left one_more)
unfolding none_left
bounds_none top t = record {
  ctx = λ d g h. none_within;
  infer = λ d g t h. none_within;
  universe = λ d g t h. none_within;
  check = λ d g t y h. none_within;
  expose = λ d g t y row h. none_within;
  normalize = λ d g t y h. none_within;
  equal = λ d g s t y h. none_within;
  reduce = λ d g t h. none_within;
  head_normalize = λ d g t y h. none_within;
  head_step = λ d g t h. none_within;
  lookup = λ g i h. none_within;
  dshiftctx = λ g h. none_within;
  transform = λ t op h. none_within;
  itransform = λ r op h. none_within;
  under = λ op dimension h. none_within;
  interval = λ d r h. none_within;
  endpoint = λ r h. none_within;
  comparison = λ m k strict h. none_within;
  max = λ m k h. none_within;
  more = bumped top t;
}

bounds_entered : (n : ℕ) (c c' : Callees) → suc n ≤ 4200 → Bounds n c c' → Bounds (suc n) (entered n c) (entered n c')
unfolding entered
bounds_entered n c c' l B = record {
  ctx = λ d g h. entering n (context_cells g h.1) λ b e. ctx_within n c c' B d g (omega arith);
  infer = λ d g t h. entering n (context_cells g h.1 +++ term_cells t h.2) λ b e. infer_within n c c' B d g t (omega arith);
  universe = λ d g t h. entering n (context_cells g h.1 +++ term_cells t h.2) λ b e. universe_within n c c' B d g t (omega arith);
  check = λ d g t y h. entering n (context_cells g h.1 +++ term_cells t h.2 +++ term_cells y h.3) λ b e. check_within n c c' B d g t y (omega arith);
  expose = λ d g t y row h. entering n (context_cells g h.1 +++ term_cells t h.2 +++ term_cells y h.3) λ b e. expose_within n c c' B d g t y row (omega arith);
  normalize = λ d g t y h. entering n (context_cells g h.1 +++ term_cells t h.2 +++ term_cells y h.3) λ b e. normalize_within n c c' B d g t y (omega arith);
  equal = λ d g s t y h. entering n (context_cells g h.1 +++ term_cells s h.2 +++ term_cells t h.3 +++ term_cells y h.4) λ b e. equal_within n c c' B d g s t y (omega arith);
  reduce = λ d g t h. entering n (context_cells g h.1 +++ term_cells t h.2) λ b e. reduce_within n c c' B d g t (omega arith);
  head_normalize = λ d g t y h. entering n (context_cells g h.1 +++ term_cells t h.2 +++ term_cells y h.3) λ b e. head_normalize_within n c c' B d g t y (omega arith);
  head_step = λ d g t h. entering n (context_cells g h.1 +++ term_cells t h.2) λ b e. head_step_within n c c' B d g t (omega arith);
  lookup = λ g i h. entering n (context_cells g h.1) λ b e. lookup_within n c c' B g i (omega arith);
  dshiftctx = λ g h. entering n (context_cells g h) λ b e. dshiftctx_within n c c' B g (omega arith);
  transform = λ t op h. entering n (term_cells t h.1 +++ op_cells op h.2) λ b e. transform_within n c c' B t op (omega arith);
  itransform = λ r op h. entering n (interval_cells r h.1 +++ iop_cells op h.2) λ b e. itransform_within n c c' B r op (omega arith);
  under = λ op dimension h. entering n (op_cells op h.1) λ b e. under_within n c c' B op dimension (omega arith);
  interval = λ d r h. entering n (interval_cells r h.1) λ b e. interval_within n c c' B d r (omega arith);
  endpoint = λ r h. entering n (interval_cells r h) λ b e. endpoint_within n c c' B r (omega arith);
  comparison = λ m k strict h. entering n at_most_nil λ b e. comparison_within n c c' B m k strict (omega arith);
  max = λ m k h. entering n at_most_nil λ b e. max_within n c c' B m k (omega arith);
  more = B.more;
}

-- with n entries left, of 4,096, and at most 33 dimensions: the guarded walk is the walk
pub bounds_to : (top : ℕ) → largest ≤ top → (n : ℕ) → n ≤ 4200 → Bounds n (guarded_to top n) (callees n)
unfolding callees callees_by
bounds_to top t ℕ.zero l = bounds_none top t
bounds_to top t (ℕ.suc n) l = bounds_entered n (guarded_to top n) (callees n) l (bounds_to top t n (omega arith))

-- so with the guard where a word ends
pub bounds : (n : ℕ) → n ≤ 4200 → Bounds n (guarded n) (callees n)
bounds n l = bounds_to word (omega arith) n l
