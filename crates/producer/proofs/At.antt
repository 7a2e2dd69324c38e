-- Laws that the proofs of methods rewrite by: each reference function at a nesting that is left is its body over one less; a conversion
-- ends; a shape is unlike the one taken apart; one round of `normalize`. Assumes nothing.
use Prim.Native.Nat.{ℕ, zero, suc, ◌-◌, ◌+◌, ◌<◌, ◌≤◌}
use mathlib.Core.Path.{◌≡◌, refl}
use mathlib.Core.Bool.{Bool}
use mathlib.Core.List.{List, [], ◌∷◌}
use native.Mathlib.Numerals.{sub-one}
use native.Mathlib.Omega.{arith}
use Rattle.walk.specs.Refusal as Refusal
pub use Rattle.ast.proofs.Laws.{greater_is}
pub use Rattle.ast.proofs.Numbered.{kind_is, kind_isnt}
use Rattle.ast.specs.declared.cells.Node.{Node}
use Rattle.ast.specs.declared.cells.Shape.{Shape}
use Rattle.ast.specs.declared.cells.Shape.TheVariants.{Universe, Pi, Lam, Path, Plam, Sigma, Pair, Other}
use Rattle.std.specs.Prelude.{Result, Ok, Err, IsErrAnd}
use Rattle.producer.specs.declared.intervals.IOp.{IOp}
use Rattle.producer.specs.declared.transforms.Op.{Op}
use Rattle.producer.specs.Machine.{Machine, W, intern, next, ◌>>=◌, give, stop, enter, note, ended, on_maybe, on_universe, on_pi, on_lam, on_path, on_plam, on_sigma, on_pair}
use Rattle.producer.specs.Answers.{Answer, end, ended_answer}
use Rattle.producer.specs.Callees.{Callees}
use Rattle.producer.specs.Calls.{none_left, entered, callees}
use Rattle.producer.specs.Numbers.{comparison_body, max_body}
use Rattle.producer.specs.Intervals.{itransform_body, interval_body}
use Rattle.producer.specs.Endpoints.{endpoint_body}
use Rattle.producer.specs.Transforms.{rule_of, transform_body, under_body}
use Rattle.producer.specs.Contexts.{lookup_body, dshiftctx_body}
use Rattle.producer.specs.Typing.{ctx_body, infer_body, universe_body, check_body, expose_body}
use Rattle.producer.specs.Equality.{normalize_body, equal_body, reduce_body, step_by, round, rounds, on_step}
use Rattle.producer.specs.Heads.{head_normalize_body, head_step_body}

-- where `?` returns early, the refusal is the one that was met
pub residual : {A E : Type 0} (r : Result A E) (e : E) → IsErrAnd r (λ x. x ≡ e) → r ≡ Err e
residual (Ok x) e h = elim h [ ]
residual (Err x) e h = rw h

-- a node that is made has this kind and these parts
pub node : {n m : Node} → n ≡ m → intern m.kind m.a m.b m.c ≡ intern n.kind n.a n.b n.c
node h = rw h

-- and the rule is that of its kind
pub node_rule : {n m : Node} (op : Op) → n ≡ m → rule_of op m.kind ≡ rule_of op n.kind
node_rule op h = rw h

pub ready_none : (k : ℕ) (w : Machine) → k ≡ 0 → (callees k).ready w ≡ stop Refusal.nesting w
unfolding callees none_left
ready_none k w h = rw h

pub ready_in : (k : ℕ) (w : Machine) → (k ≡ 0 → ⊥) → (callees k).ready w ≡ note (k - 1) w
unfolding callees entered
ready_in zero w h = absurd (h refl)
ready_in (suc k) w h = rw sub-one

pub ctx_none : (k d g : ℕ) (w : Machine) → k ≡ 0 → (callees k).ctx d g w ≡ stop Refusal.nesting w
unfolding callees none_left
ctx_none k d g w h = rw h

pub ctx_in : (k d g : ℕ) (w : Machine) → (k ≡ 0 → ⊥) → (callees k).ctx d g w ≡ enter (k - 1) (ctx_body (callees (k - 1)) d g) w
unfolding callees entered
ctx_in zero d g w h = absurd (h refl)
ctx_in (suc k) d g w h = rw sub-one

pub infer_none : (k d g t : ℕ) (w : Machine) → k ≡ 0 → (callees k).infer d g t w ≡ stop Refusal.nesting w
unfolding callees none_left
infer_none k d g t w h = rw h

pub infer_in : (k d g t : ℕ) (w : Machine) → (k ≡ 0 → ⊥) → (callees k).infer d g t w ≡ enter (k - 1) (infer_body (callees (k - 1)) d g t) w
unfolding callees entered
infer_in zero d g t w h = absurd (h refl)
infer_in (suc k) d g t w h = rw sub-one

pub universe_none : (k d g t : ℕ) (w : Machine) → k ≡ 0 → (callees k).universe d g t w ≡ stop Refusal.nesting w
unfolding callees none_left
universe_none k d g t w h = rw h

pub universe_in : (k d g t : ℕ) (w : Machine) → (k ≡ 0 → ⊥) → (callees k).universe d g t w ≡ enter (k - 1) (universe_body (callees (k - 1)) d g t) w
unfolding callees entered
universe_in zero d g t w h = absurd (h refl)
universe_in (suc k) d g t w h = rw sub-one

pub check_none : (k d g t ty : ℕ) (w : Machine) → k ≡ 0 → (callees k).check d g t ty w ≡ stop Refusal.nesting w
unfolding callees none_left
check_none k d g t ty w h = rw h

pub check_in : (k d g t ty : ℕ) (w : Machine) → (k ≡ 0 → ⊥) → (callees k).check d g t ty w ≡ enter (k - 1) (check_body (callees (k - 1)) d g t ty) w
unfolding callees entered
check_in zero d g t ty w h = absurd (h refl)
check_in (suc k) d g t ty w h = rw sub-one

pub expose_none : (k d g t ty row : ℕ) (w : Machine) → k ≡ 0 → (callees k).expose d g t ty row w ≡ stop Refusal.nesting w
unfolding callees none_left
expose_none k d g t ty row w h = rw h

pub expose_in : (k d g t ty row : ℕ) (w : Machine) → (k ≡ 0 → ⊥) → (callees k).expose d g t ty row w ≡ enter (k - 1) (expose_body (callees (k - 1)) d g t ty row) w
unfolding callees entered
expose_in zero d g t ty row w h = absurd (h refl)
expose_in (suc k) d g t ty row w h = rw sub-one

pub normalize_none : (k d g t ty : ℕ) (w : Machine) → k ≡ 0 → (callees k).normalize d g t ty w ≡ stop Refusal.nesting w
unfolding callees none_left
normalize_none k d g t ty w h = rw h

pub normalize_in : (k d g t ty : ℕ) (w : Machine) → (k ≡ 0 → ⊥) → (callees k).normalize d g t ty w ≡ enter (k - 1) (normalize_body (callees (k - 1)) d g t ty) w
unfolding callees entered
normalize_in zero d g t ty w h = absurd (h refl)
normalize_in (suc k) d g t ty w h = rw sub-one

pub equal_none : (k d g a b ty : ℕ) (w : Machine) → k ≡ 0 → (callees k).equal d g a b ty w ≡ stop Refusal.nesting w
unfolding callees none_left
equal_none k d g a b ty w h = rw h

pub equal_in : (k d g a b ty : ℕ) (w : Machine) → (k ≡ 0 → ⊥) → (callees k).equal d g a b ty w ≡ enter (k - 1) (equal_body (callees (k - 1)) d g a b ty) w
unfolding callees entered
equal_in zero d g a b ty w h = absurd (h refl)
equal_in (suc k) d g a b ty w h = rw sub-one

pub reduce_none : (k d g t : ℕ) (w : Machine) → k ≡ 0 → (callees k).reduce d g t w ≡ stop Refusal.nesting w
unfolding callees none_left
reduce_none k d g t w h = rw h

pub reduce_in : (k d g t : ℕ) (w : Machine) → (k ≡ 0 → ⊥) → (callees k).reduce d g t w ≡ enter (k - 1) (reduce_body (callees (k - 1)) d g t) w
unfolding callees entered
reduce_in zero d g t w h = absurd (h refl)
reduce_in (suc k) d g t w h = rw sub-one

pub head_normalize_none : (k d g t ty : ℕ) (w : Machine) → k ≡ 0 → (callees k).head_normalize d g t ty w ≡ stop Refusal.nesting w
unfolding callees none_left
head_normalize_none k d g t ty w h = rw h

pub head_normalize_in : (k d g t ty : ℕ) (w : Machine) → (k ≡ 0 → ⊥) → (callees k).head_normalize d g t ty w ≡ enter (k - 1) (head_normalize_body (callees (k - 1)) d g t ty) w
unfolding callees entered
head_normalize_in zero d g t ty w h = absurd (h refl)
head_normalize_in (suc k) d g t ty w h = rw sub-one

pub head_step_none : (k d g t : ℕ) (w : Machine) → k ≡ 0 → (callees k).head_step d g t w ≡ stop Refusal.nesting w
unfolding callees none_left
head_step_none k d g t w h = rw h

pub head_step_in : (k d g t : ℕ) (w : Machine) → (k ≡ 0 → ⊥) → (callees k).head_step d g t w ≡ enter (k - 1) (head_step_body (callees (k - 1)) d g t) w
unfolding callees entered
head_step_in zero d g t w h = absurd (h refl)
head_step_in (suc k) d g t w h = rw sub-one

pub lookup_none : (k g n : ℕ) (w : Machine) → k ≡ 0 → (callees k).lookup g n w ≡ stop Refusal.nesting w
unfolding callees none_left
lookup_none k g n w h = rw h

pub lookup_in : (k g n : ℕ) (w : Machine) → (k ≡ 0 → ⊥) → (callees k).lookup g n w ≡ enter (k - 1) (lookup_body (callees (k - 1)) g n) w
unfolding callees entered
lookup_in zero g n w h = absurd (h refl)
lookup_in (suc k) g n w h = rw sub-one

pub dshiftctx_none : (k g : ℕ) (w : Machine) → k ≡ 0 → (callees k).dshiftctx g w ≡ stop Refusal.nesting w
unfolding callees none_left
dshiftctx_none k g w h = rw h

pub dshiftctx_in : (k g : ℕ) (w : Machine) → (k ≡ 0 → ⊥) → (callees k).dshiftctx g w ≡ enter (k - 1) (dshiftctx_body (callees (k - 1)) g) w
unfolding callees entered
dshiftctx_in zero g w h = absurd (h refl)
dshiftctx_in (suc k) g w h = rw sub-one

pub transform_none : (k t : ℕ) (op : Op) (w : Machine) → k ≡ 0 → (callees k).transform t op w ≡ stop Refusal.nesting w
unfolding callees none_left
transform_none k t op w h = rw h

pub transform_in : (k t : ℕ) (op : Op) (w : Machine) → (k ≡ 0 → ⊥) → (callees k).transform t op w ≡ enter (k - 1) (transform_body (callees (k - 1)) t op) w
unfolding callees entered
transform_in zero t op w h = absurd (h refl)
transform_in (suc k) t op w h = rw sub-one

pub under_none : (k : ℕ) (op : Op) (dimension : Bool) (w : Machine) → k ≡ 0 → (callees k).under op dimension w ≡ stop Refusal.nesting w
unfolding callees none_left
under_none k op dimension w h = rw h

pub under_in : (k : ℕ) (op : Op) (dimension : Bool) (w : Machine) → (k ≡ 0 → ⊥) → (callees k).under op dimension w ≡ enter (k - 1) (under_body (callees (k - 1)) op dimension) w
unfolding callees entered
under_in zero op dimension w h = absurd (h refl)
under_in (suc k) op dimension w h = rw sub-one

pub itransform_none : (k r : ℕ) (op : IOp) (w : Machine) → k ≡ 0 → (callees k).itransform r op w ≡ stop Refusal.nesting w
unfolding callees none_left
itransform_none k r op w h = rw h

pub itransform_in : (k r : ℕ) (op : IOp) (w : Machine) → (k ≡ 0 → ⊥) → (callees k).itransform r op w ≡ enter (k - 1) (itransform_body (callees (k - 1)) r op) w
unfolding callees entered
itransform_in zero r op w h = absurd (h refl)
itransform_in (suc k) r op w h = rw sub-one

pub interval_none : (k d r : ℕ) (w : Machine) → k ≡ 0 → (callees k).interval d r w ≡ stop Refusal.nesting w
unfolding callees none_left
interval_none k d r w h = rw h

pub interval_in : (k d r : ℕ) (w : Machine) → (k ≡ 0 → ⊥) → (callees k).interval d r w ≡ enter (k - 1) (interval_body (callees (k - 1)) d r) w
unfolding callees entered
interval_in zero d r w h = absurd (h refl)
interval_in (suc k) d r w h = rw sub-one

pub endpoint_none : (k r : ℕ) (w : Machine) → k ≡ 0 → (callees k).endpoint r w ≡ stop Refusal.nesting w
unfolding callees none_left
endpoint_none k r w h = rw h

pub endpoint_in : (k r : ℕ) (w : Machine) → (k ≡ 0 → ⊥) → (callees k).endpoint r w ≡ enter (k - 1) (endpoint_body (callees (k - 1)) r) w
unfolding callees entered
endpoint_in zero r w h = absurd (h refl)
endpoint_in (suc k) r w h = rw sub-one

pub comparison_none : (k m n : ℕ) (strict : Bool) (w : Machine) → k ≡ 0 → (callees k).comparison m n strict w ≡ stop Refusal.nesting w
unfolding callees none_left
comparison_none k m n strict w h = rw h

pub comparison_in : (k m n : ℕ) (strict : Bool) (w : Machine) → (k ≡ 0 → ⊥) → (callees k).comparison m n strict w ≡ enter (k - 1) (comparison_body (callees (k - 1)) m n strict) w
unfolding callees entered
comparison_in zero m n strict w h = absurd (h refl)
comparison_in (suc k) m n strict w h = rw sub-one

pub max_none : (k m n : ℕ) (w : Machine) → k ≡ 0 → (callees k).max m n w ≡ stop Refusal.nesting w
unfolding callees none_left
max_none k m n w h = rw h

pub max_in : (k m n : ℕ) (w : Machine) → (k ≡ 0 → ⊥) → (callees k).max m n w ≡ enter (k - 1) (max_body (callees (k - 1)) m n) w
unfolding callees entered
max_in zero m n w h = absurd (h refl)
max_in (suc k) m n w h = rw sub-one

-- a conversion that has ended
pub ended_end : {A : Type 0} (q : Answer A) (R C : List ℕ) → ended (end q R C) ≡ end (ended_answer q) R C
unfolding ended end ended_answer
ended_end (Ok (s, x)) R C = refl
ended_end (Err e) R C = refl

-- a shape that is not the one taken apart

-- written by tools/written.py: shapes
pub not_universe : {A : Type 0} (x : Shape) → ((n : ℕ) → x ≡ Universe n → ⊥) → (f : ℕ → W A) (z : W A) → on_universe x f z ≡ z
unfolding on_universe
not_universe (Universe n) h f z = absurd (h n refl)
not_universe (Pi a b) h f z = refl
not_universe (Lam a b) h f z = refl
not_universe (Path a b c) h f z = refl
not_universe (Plam a b) h f z = refl
not_universe (Sigma a b) h f z = refl
not_universe (Pair a b c) h f z = refl
not_universe Other h f z = refl

pub not_pi : {A : Type 0} (x : Shape) → ((a b : ℕ) → x ≡ Pi a b → ⊥) → (f : ℕ → ℕ → W A) (z : W A) → on_pi x f z ≡ z
unfolding on_pi
not_pi (Universe n) h f z = refl
not_pi (Pi a b) h f z = absurd (h a b refl)
not_pi (Lam a b) h f z = refl
not_pi (Path a b c) h f z = refl
not_pi (Plam a b) h f z = refl
not_pi (Sigma a b) h f z = refl
not_pi (Pair a b c) h f z = refl
not_pi Other h f z = refl

pub not_lam : {A : Type 0} (x : Shape) → ((a b : ℕ) → x ≡ Lam a b → ⊥) → (f : ℕ → ℕ → W A) (z : W A) → on_lam x f z ≡ z
unfolding on_lam
not_lam (Universe n) h f z = refl
not_lam (Pi a b) h f z = refl
not_lam (Lam a b) h f z = absurd (h a b refl)
not_lam (Path a b c) h f z = refl
not_lam (Plam a b) h f z = refl
not_lam (Sigma a b) h f z = refl
not_lam (Pair a b c) h f z = refl
not_lam Other h f z = refl

pub not_path : {A : Type 0} (x : Shape) → ((a b c : ℕ) → x ≡ Path a b c → ⊥) → (f : ℕ → ℕ → ℕ → W A) (z : W A) → on_path x f z ≡ z
unfolding on_path
not_path (Universe n) h f z = refl
not_path (Pi a b) h f z = refl
not_path (Lam a b) h f z = refl
not_path (Path a b c) h f z = absurd (h a b c refl)
not_path (Plam a b) h f z = refl
not_path (Sigma a b) h f z = refl
not_path (Pair a b c) h f z = refl
not_path Other h f z = refl

pub not_plam : {A : Type 0} (x : Shape) → ((a b : ℕ) → x ≡ Plam a b → ⊥) → (f : ℕ → ℕ → W A) (z : W A) → on_plam x f z ≡ z
unfolding on_plam
not_plam (Universe n) h f z = refl
not_plam (Pi a b) h f z = refl
not_plam (Lam a b) h f z = refl
not_plam (Path a b c) h f z = refl
not_plam (Plam a b) h f z = absurd (h a b refl)
not_plam (Sigma a b) h f z = refl
not_plam (Pair a b c) h f z = refl
not_plam Other h f z = refl

pub not_sigma : {A : Type 0} (x : Shape) → ((a b : ℕ) → x ≡ Sigma a b → ⊥) → (f : ℕ → ℕ → W A) (z : W A) → on_sigma x f z ≡ z
unfolding on_sigma
not_sigma (Universe n) h f z = refl
not_sigma (Pi a b) h f z = refl
not_sigma (Lam a b) h f z = refl
not_sigma (Path a b c) h f z = refl
not_sigma (Plam a b) h f z = refl
not_sigma (Sigma a b) h f z = absurd (h a b refl)
not_sigma (Pair a b c) h f z = refl
not_sigma Other h f z = refl

pub not_pair : {A : Type 0} (x : Shape) → ((a b c : ℕ) → x ≡ Pair a b c → ⊥) → (f : ℕ → ℕ → ℕ → W A) (z : W A) → on_pair x f z ≡ z
unfolding on_pair
not_pair (Universe n) h f z = refl
not_pair (Pi a b) h f z = refl
not_pair (Lam a b) h f z = refl
not_pair (Path a b c) h f z = refl
not_pair (Plam a b) h f z = refl
not_pair (Sigma a b) h f z = refl
not_pair (Pair a b c) h f z = absurd (h a b c refl)
not_pair Other h f z = refl

-- end of shapes

-- one round, and none left
pub rounds_turn : (c : Callees) (heads : Bool) (i d g t ty current row : ℕ) (w : Machine) → i < 32 → rounds (32 - i) c heads d g t ty current row w ≡ next (round c heads d g t ty current row w) (λ x. on_maybe x (λ term y. rounds (32 - (i + 1)) c heads d g t ty term y) (give (current, row)))
unfolding rounds ◌>>=◌
rounds_turn c heads i d g t ty current row w h = let e : 32 - i ≡ suc (32 - (i + 1)) = omega arith in rw e

pub rounds_over : (c : Callees) (heads : Bool) (i d g t ty current row : ℕ) (w : Machine) → 32 ≤ i → rounds (32 - i) c heads d g t ty current row w ≡ next (step_by c heads d g current w) (λ x. on_step x (λ step. stop Refusal.reductions) (give (current, row)))
unfolding rounds ◌>>=◌
rounds_over c heads i d g t ty current row w h = let e : 32 - i ≡ 0 = omega arith in rw e
