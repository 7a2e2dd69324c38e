-- With n entries left, the functions over words match the guarded walk's: `link`.
use Rattle.std.specs.Prelude.{ℕ, suc, refl, List}
use Rattle.producer.specs.declared.intervals.IOp.{IOp}
use Rattle.producer.specs.declared.transforms.Op.{Op}
use Rattle.producer.specs.Callees.{Callees}
use Rattle.producer.specs.Calls as P
use Rattle.walk.specs.Refusal as Refusal
use Rattle.walk.specs.State.{M, Thing, refuse, note}
use Rattle.walk.specs.Walk.Reference as D
use Rattle.walk.specs.Walk as B
use Rattle.order.specs.Guarded.{bump, guarded}
use Rattle.link.specs.Holds.{Before}
use Rattle.link.specs.Match.{stopping, entering, noting, absorbs_none, absorbs_entered, Present, nothing, the_interval, the_term, the_context, ◌with◌}
use Rattle.link.specs.Linked.{Linked, Ops, o_shift, o_subst, o_dshift, o_dsubst, IOps, i_shift, i_subst}
use Rattle.link.specs.Numbers.{comparison_matches, max_matches}
use Rattle.link.specs.Intervals.{interval_matches, itransform_matches}
use Rattle.link.specs.Endpoints.{endpoint_matches}
use Rattle.link.specs.Transforms.{under_matches, transform_matches}
use Rattle.link.specs.Contexts.{dshiftctx_matches, ctx_matches, lookup_matches}
use Rattle.link.specs.Typing.{expose_matches, universe_matches, check_matches, infer_matches}
use Rattle.link.specs.Equality.{reduce_matches, normalize_matches, equal_matches}
use Rattle.link.specs.Heads.{head_step_matches, head_normalize_matches}

of_op : {xs : List Thing} {a : Op} {b : D.Op} → Ops xs a b → Present xs (D.of_op b)
of_op o_shift = nothing
of_op (o_subst h) = the_term h
of_op o_dshift = nothing
of_op (o_dsubst h) = the_interval h

of_iop : {xs : List Thing} {a : IOp} {b : D.IOp} → IOps xs a b → Present xs (D.of_iop b)
of_iop i_shift = nothing
of_iop (i_subst h) = the_interval h

-- the entry alone, with n entries left
unfoldable pub ready : ℕ → M (Unit {0})
ready ℕ.zero = refuse Refusal.nesting
ready (ℕ.suc n) = note n

pub linked_none : {o : Before} → Linked o (ready 0) P.none_left (B.none_left bump)
unfolding P.none_left B.none_left ready
linked_none = record {
  ready = stopping _;
  ctx_absorbs = λ n g. absorbs_none _ _;
  infer_absorbs = λ n g t. absorbs_none _ _;
  universe_absorbs = λ n g t. absorbs_none _ _;
  check_absorbs = λ n g t y. absorbs_none _ _;
  normalize_absorbs = λ n g t y. absorbs_none _ _;
  head_normalize_absorbs = λ n g t y. absorbs_none _ _;
  equal_absorbs = λ n g a b y. absorbs_none _ _;
  transform_absorbs = λ t op. absorbs_none _ _;
  ctx = λ n g. stopping _;
  infer = λ n g t. stopping _;
  universe = λ n g t. stopping _;
  check = λ n g t y. stopping _;
  expose = λ n g t y row. stopping _;
  normalize = λ n g t y. stopping _;
  equal = λ n g a b y. stopping _;
  reduce = λ n g t. stopping _;
  head_normalize = λ n g t y. stopping _;
  head_step = λ n g t. stopping _;
  lookup = λ g n. stopping _;
  dshiftctx = λ g. stopping _;
  transform = λ t op. stopping _;
  under = λ op dimension. stopping _;
  itransform = λ r op. stopping _;
  interval = λ n r. stopping _;
  endpoint = λ r. stopping _;
  comparison = λ m n strict. stopping _;
  max = λ m n. stopping _;
  more = λ n. refl;
}

pub linked_entered : {o : Before} (n : ℕ) {rd : M (Unit {0})} (c : Callees) (d : D.Callees) → Linked o rd c d → Linked o (ready (suc n)) (P.entered n c) (B.entered n d)
unfolding P.entered B.entered ready
linked_entered n c d L = record {
  ready = noting n;
  ctx_absorbs = λ m g. absorbs_entered n _ _;
  infer_absorbs = λ m g t. absorbs_entered n _ _;
  universe_absorbs = λ m g t. absorbs_entered n _ _;
  check_absorbs = λ m g t y. absorbs_entered n _ _;
  normalize_absorbs = λ m g t y. absorbs_entered n _ _;
  head_normalize_absorbs = λ m g t y. absorbs_entered n _ _;
  equal_absorbs = λ m g a b y. absorbs_entered n _ _;
  transform_absorbs = λ t op. absorbs_entered n _ _;
  ctx = λ m g. entering n (the_context g) (ctx_matches c d L m g);
  infer = λ m g t. entering n (the_context g with the_term t) (infer_matches c d L m g t);
  universe = λ m g t. entering n (the_context g with the_term t) (universe_matches c d L m g t);
  check = λ m g t y. entering n (the_context g with the_term t with the_term y) (check_matches c d L m g t y);
  expose = λ m g t y row. entering n (the_context g with the_term t with the_term y) (expose_matches c d L m g t y row);
  normalize = λ m g t y. entering n (the_context g with the_term t with the_term y) (normalize_matches c d L m g t y);
  equal = λ m g a b y. entering n (the_context g with the_term a with the_term b with the_term y) (equal_matches c d L m g a b y);
  reduce = λ m g t. entering n (the_context g with the_term t) (reduce_matches c d L m g t);
  head_normalize = λ m g t y. entering n (the_context g with the_term t with the_term y) (head_normalize_matches c d L m g t y);
  head_step = λ m g t. entering n (the_context g with the_term t) (head_step_matches c d L m g t);
  lookup = λ g k. entering n (the_context g) (lookup_matches c d L g k);
  dshiftctx = λ g. entering n (the_context g) (dshiftctx_matches c d L g);
  transform = λ t op. entering n (the_term t with of_op op) (transform_matches c d L t op);
  under = λ op dimension. entering n (of_op op) (under_matches c d L op dimension);
  itransform = λ r op. entering n (the_interval r with of_iop op) (itransform_matches c d L r op);
  interval = λ m r. entering n (the_interval r) (interval_matches c d L m r);
  endpoint = λ r. entering n (the_interval r) (endpoint_matches c d L r);
  comparison = λ m k strict. entering n nothing (comparison_matches c d L m k strict);
  max = λ m k. entering n nothing (max_matches c d L m k);
  more = L.more;
}

pub link : {o : Before} (n : ℕ) → Linked o (ready n) (P.callees n) (guarded n)
unfolding P.callees B.callees_by
link ℕ.zero = linked_none
link (ℕ.suc n) = linked_entered n (P.callees n) (guarded n) (link n)
