-- The functions: `callees n` are those that may be called with n entries left. Assumes nothing.
use Rattle.std.specs.Prelude.{ℕ, zero, suc}
use Rattle.walk.specs.Refusal as Refusal
use Rattle.producer.specs.Machine.{stop, enter, note}
use Rattle.producer.specs.Callees.{Callees}
use Rattle.producer.specs.Numbers.{comparison_body, max_body}
use Rattle.producer.specs.Intervals.{itransform_body, interval_body}
use Rattle.producer.specs.Endpoints.{endpoint_body}
use Rattle.producer.specs.Transforms.{transform_body, under_body}
use Rattle.producer.specs.Contexts.{lookup_body, dshiftctx_body}
use Rattle.producer.specs.Typing.{ctx_body, infer_body, universe_body, check_body, expose_body}
use Rattle.producer.specs.Equality.{normalize_body, equal_body, reduce_body}
use Rattle.producer.specs.Heads.{head_normalize_body, head_step_body}

-- with nothing left each is refused
unfoldable pub none_left : Callees
none_left = record {
  ready = stop Refusal.nesting;
  ctx = λ d g. stop Refusal.nesting;
  infer = λ d g t. stop Refusal.nesting;
  universe = λ d g t. stop Refusal.nesting;
  check = λ d g t ty. stop Refusal.nesting;
  expose = λ d g t ty row. stop Refusal.nesting;
  normalize = λ d g t ty. stop Refusal.nesting;
  equal = λ d g a b ty. stop Refusal.nesting;
  reduce = λ d g t. stop Refusal.nesting;
  head_normalize = λ d g t ty. stop Refusal.nesting;
  head_step = λ d g t. stop Refusal.nesting;
  lookup = λ g k. stop Refusal.nesting;
  dshiftctx = λ g. stop Refusal.nesting;
  transform = λ t op. stop Refusal.nesting;
  under = λ op dimension. stop Refusal.nesting;
  itransform = λ r op. stop Refusal.nesting;
  interval = λ d r. stop Refusal.nesting;
  endpoint = λ r. stop Refusal.nesting;
  comparison = λ m k strict. stop Refusal.nesting;
  max = λ m k. stop Refusal.nesting;
}

-- entered with n left below: the body runs over what is left
unfoldable pub entered : ℕ → Callees → Callees
entered n c = record {
  ready = note n;
  ctx = λ d g. enter n (ctx_body c d g);
  infer = λ d g t. enter n (infer_body c d g t);
  universe = λ d g t. enter n (universe_body c d g t);
  check = λ d g t ty. enter n (check_body c d g t ty);
  expose = λ d g t ty row. enter n (expose_body c d g t ty row);
  normalize = λ d g t ty. enter n (normalize_body c d g t ty);
  equal = λ d g a b ty. enter n (equal_body c d g a b ty);
  reduce = λ d g t. enter n (reduce_body c d g t);
  head_normalize = λ d g t ty. enter n (head_normalize_body c d g t ty);
  head_step = λ d g t. enter n (head_step_body c d g t);
  lookup = λ g k. enter n (lookup_body c g k);
  dshiftctx = λ g. enter n (dshiftctx_body c g);
  transform = λ t op. enter n (transform_body c t op);
  under = λ op dimension. enter n (under_body c op dimension);
  itransform = λ r op. enter n (itransform_body c r op);
  interval = λ d r. enter n (interval_body c d r);
  endpoint = λ r. enter n (endpoint_body c r);
  comparison = λ m k strict. enter n (comparison_body c m k strict);
  max = λ m k. enter n (max_body c m k);
}

unfoldable pub callees : ℕ → Callees
callees zero = none_left
callees (suc n) = entered n (callees n)
