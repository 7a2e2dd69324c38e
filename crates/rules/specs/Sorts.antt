-- The table of judgments has the sorts of each judgment's arguments. Assumes nothing.
use Rattle.std.specs.Prelude.{◌≡◌, refl, map}
use Rattle.walk.specs.Judgment.{Judgment, kind, Argument, number, of_interval, of_quote, of_context, arguments, ctx, dshiftctx, lookup, lt, le, max, interval, ishift, isubst, shift, subst, dshift, dsubst, has, eq, iend}
use Rattle.rules.specs.declared.Sort.{Sort}
use Rattle.rules.specs.declared.Sort.TheVariants.{Number, Term, Interval, Context}
use Rattle.rules.specs.Kinds as K

-- The sort of an argument, as the table of judgments has it.
abbrev pub sort : Argument → Sort
sort (number n) = Number
sort (of_quote t) = Term
sort (of_interval r) = Interval
sort (of_context g) = Context

pub sorted : (j : Judgment) → map sort (arguments j) ≡ K.sorts_of (kind j)
unfolding K.sorts_of
-- written by tools/written.py: sorts of judgments
sorted (ctx d g) = refl
sorted (dshiftctx g k h) = refl
sorted (lookup g n A) = refl
sorted (lt m n) = refl
sorted (le m n) = refl
sorted (max m n k) = refl
sorted (interval d r) = refl
sorted (ishift r k r') = refl
sorted (isubst r k s r') = refl
sorted (shift t k t') = refl
sorted (subst t k s t') = refl
sorted (dshift t k t') = refl
sorted (dsubst t k r t') = refl
sorted (has d g t A) = refl
sorted (eq d g a b A) = refl
sorted (iend r e) = refl

-- end of sorts of judgments
