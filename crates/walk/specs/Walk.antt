-- The walk: the sixteen reference functions of producer.rs, `endpoint`, and `head_normalize` with its `head_step`. Each body stands in a
-- module below, over the functions that it calls; `callees n` are the functions with n entries left, so that one number falls and nothing else recurses.
pub mod Reference
pub mod Numbers
pub mod Intervals
pub mod Endpoints
pub mod Transforms
pub mod Contexts
pub mod Typing
pub mod Equality
use Rattle.std.specs.Prelude.{ℕ, suc, [], ◌++◌}
use Rattle.walk.specs.Refusal as Refusal
use Rattle.walk.specs.State.{M, pure, refuse, of_interval, of_term, of_context, enter}
unfoldable pub use Reference.*
unfoldable pub use Numbers.*
unfoldable pub use Intervals.*
unfoldable pub use Endpoints.*
unfoldable pub use Transforms.*
unfoldable pub use Contexts.*
unfoldable pub use Typing.*
unfoldable pub use Equality.*

-- with nothing left each is refused
unfoldable pub none_left : (ℕ → M ℕ) → Callees
none_left more = record {
  ctx = λ d g. refuse Refusal.nesting;
  infer = λ d g t. refuse Refusal.nesting;
  universe = λ d g t. refuse Refusal.nesting;
  check = λ d g t ty. refuse Refusal.nesting;
  expose = λ d g t ty row. refuse Refusal.nesting;
  normalize = λ d g t ty. refuse Refusal.nesting;
  equal = λ d g a b ty. refuse Refusal.nesting;
  reduce = λ d g t. refuse Refusal.nesting;
  head_normalize = λ d g t ty. refuse Refusal.nesting;
  head_step = λ d g t. refuse Refusal.nesting;
  lookup = λ g n. refuse Refusal.nesting;
  dshiftctx = λ g. refuse Refusal.nesting;
  transform = λ t op. refuse Refusal.nesting;
  itransform = λ r op. refuse Refusal.nesting;
  under = λ op dimension. refuse Refusal.nesting;
  interval = λ d r. refuse Refusal.nesting;
  endpoint = λ r. refuse Refusal.nesting;
  comparison = λ m n strict. refuse Refusal.nesting;
  max = λ m n. refuse Refusal.nesting;
  more = more;
}

-- entered with n left below: the arguments are counted, left to right, and the body runs over what is left
unfoldable pub entered : ℕ → Callees → Callees
entered n c = record {
  ctx = λ d g. enter n (of_context g) (ctx_body c d g);
  infer = λ d g t. enter n (of_context g ++ of_term t) (infer_body c d g t);
  universe = λ d g t. enter n (of_context g ++ of_term t) (universe_body c d g t);
  check = λ d g t ty. enter n (of_context g ++ of_term t ++ of_term ty) (check_body c d g t ty);
  expose = λ d g t ty row. enter n (of_context g ++ of_term t ++ of_term ty) (expose_body c d g t ty row);
  normalize = λ d g t ty. enter n (of_context g ++ of_term t ++ of_term ty) (normalize_body c d g t ty);
  equal = λ d g a b ty. enter n (of_context g ++ of_term a ++ of_term b ++ of_term ty) (equal_body c d g a b ty);
  reduce = λ d g t. enter n (of_context g ++ of_term t) (reduce_body c d g t);
  head_normalize = λ d g t ty. enter n (of_context g ++ of_term t ++ of_term ty) (head_normalize_body c d g t ty);
  head_step = λ d g t. enter n (of_context g ++ of_term t) (head_step_body c d g t);
  lookup = λ g k. enter n (of_context g) (lookup_body c g k);
  dshiftctx = λ g. enter n (of_context g) (dshiftctx_body c g);
  transform = λ t op. enter n (of_term t ++ of_op op) (transform_body c t op);
  itransform = λ r op. enter n (of_interval r ++ of_iop op) (itransform_body c r op);
  under = λ op dimension. enter n (of_op op) (under_body c op dimension);
  interval = λ d r. enter n (of_interval r) (interval_body c d r);
  endpoint = λ r. enter n (of_interval r) (endpoint_body c r);
  comparison = λ m k strict. enter n [] (comparison_body c m k strict);
  max = λ m k. enter n [] (max_body c m k);
  more = c.more;
}

-- with n entries left, and numbers made by `more`
unfoldable pub callees_by : (ℕ → M ℕ) → ℕ → Callees
callees_by more ℕ.zero = none_left more
callees_by more (ℕ.suc n) = entered n (callees_by more n)

-- the walk: the number after n is n + 1
unfoldable pub one_more : ℕ → M ℕ
one_more n = pure (suc n)

unfoldable pub callees : ℕ → Callees
callees n = callees_by one_more n
