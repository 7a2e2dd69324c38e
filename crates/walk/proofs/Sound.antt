-- The walk keeps the table in order, and the row of each function states what it should: `sound n : Sound (callees n)`.
-- A module below for each concern, as in Walk; a body's proof is one line a line of the body.
pub mod Numbers
pub mod Intervals
pub mod Endpoints
pub mod Transforms
pub mod Contexts
pub mod Typing
pub mod Equality
use Rattle.std.specs.Prelude.{ℕ, suc, refl}
use Rattle.std.proofs.Common.{lit<}
use Rattle.walk.specs.Walk.{Callees, none_left, entered, callees_by, one_more, callees}
use Rattle.walk.specs.Sound.Logic.{lift, refusing, entering}
use Rattle.walk.specs.Sound.Says.{Sound}
use Rattle.walk.proofs.Sound.Numbers.{comparison_sound, max_sound}
use Rattle.walk.proofs.Sound.Intervals.{itransform_sound, interval_sound}
use Rattle.walk.proofs.Sound.Endpoints.{endpoint_sound}
use Rattle.walk.proofs.Sound.Transforms.{under_sound, transform_sound}
use Rattle.walk.proofs.Sound.Contexts.{dshiftctx_sound, ctx_sound, lookup_sound}
use Rattle.walk.proofs.Sound.Typing.{expose_sound, universe_sound, check_sound, infer_sound}
use Rattle.walk.proofs.Sound.Equality.{reduce_sound, head_step_sound, normalize_sound, head_normalize_sound, equal_sound}

entered_sound : (n : ℕ) (c : Callees) → Sound c → Sound (entered n c)
unfolding entered
entered_sound n c S = record {
  ctx = λ d g. entering n _ λ _ _. ctx_sound c S d g;
  infer = λ d g t. entering n _ λ _ _. infer_sound c S d g t;
  universe = λ d g t. entering n _ λ _ _. universe_sound c S d g t;
  check = λ d g t ty. entering n _ λ _ _. check_sound c S d g t ty;
  expose = λ d g t ty x h. entering n _ λ _ e. expose_sound c S d g t ty x (lift e h);
  normalize = λ d g t ty. entering n _ λ _ _. normalize_sound c S d g t ty;
  equal = λ d g a b ty. entering n _ λ _ _. equal_sound c S d g a b ty;
  reduce = λ d g t. entering n _ λ _ _. reduce_sound c S d g t;
  head_normalize = λ d g t ty. entering n _ λ _ _. head_normalize_sound c S d g t ty;
  head_step = λ d g t. entering n _ λ _ _. head_step_sound c S d g t;
  lookup = λ g k. entering n _ λ _ _. lookup_sound c S g k;
  dshiftctx = λ g. entering n _ λ _ _. dshiftctx_sound c S g;
  transform = λ t op. entering n _ λ _ _. transform_sound c S t op;
  itransform = λ r op. entering n _ λ _ _. itransform_sound c S r op;
  under = λ op dimension. entering n _ λ _ _. under_sound c S op dimension;
  interval = λ d r. entering n _ λ _ _. interval_sound c S d r;
  endpoint = λ r. entering n _ λ _ _. endpoint_sound c S r;
  comparison = λ m k strict. entering n _ λ _ _. comparison_sound c S m k strict;
  max = λ m k. entering n _ λ _ _. max_sound c S m k;
  more = S.more;
}

none_left_sound : Sound (none_left one_more)
unfolding none_left one_more
none_left_sound = record {
  ctx = λ d g. refusing (lit< tt);
  infer = λ d g t. refusing (lit< tt);
  universe = λ d g t. refusing (lit< tt);
  check = λ d g t ty. refusing (lit< tt);
  expose = λ d g t ty x h. refusing (lit< tt);
  normalize = λ d g t ty. refusing (lit< tt);
  equal = λ d g a b ty. refusing (lit< tt);
  reduce = λ d g t. refusing (lit< tt);
  head_normalize = λ d g t ty. refusing (lit< tt);
  head_step = λ d g t. refusing (lit< tt);
  lookup = λ g k. refusing (lit< tt);
  dshiftctx = λ g. refusing (lit< tt);
  transform = λ t op. refusing (lit< tt);
  itransform = λ r op. refusing (lit< tt);
  under = λ op dimension. refusing (lit< tt);
  interval = λ d r. refusing (lit< tt);
  endpoint = λ r. refusing (lit< tt);
  comparison = λ m k strict. refusing (lit< tt);
  max = λ m k. refusing (lit< tt);
  more = λ n. refl;
}

pub sound : (n : ℕ) → Sound (callees n)
unfolding callees callees_by
sound ℕ.zero = none_left_sound
sound (ℕ.suc n) = entered_sound n (callees n) (sound n)
