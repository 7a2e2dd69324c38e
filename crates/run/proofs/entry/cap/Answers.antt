use Rattle.std.proofs.Common.{◌≡◌, ◌<◌, ◌%◌, ◌∙◌, ℕ, Bool, true, false, min, refl, arith}
use Rattle.std.proofs.lemmas.Bool.{ltb-true, ltb-false}
use Rattle.std.specs.Prelude.{ltb, Result, Ok, Err}
use Rattle.std.specs.Result.{OkIff, result_unwrap_or}
use Rattle.ast.specs.Words.{ifb}
use Rattle.run.specs.Run.{low_of, at_most}
use Rattle.run.proofs.entry.cap.Goals as goal

at_most_is : (n most : ℕ) → most < 4294967296 → at_most n most ≡ min n most
unfolding at_most low_of
at_most_is n most l = go (ltb most n) refl
  where
    go : (b : Bool) → ltb most n ≡ b → ifb b most (n % 4294967296) ≡ min n most
    go true e = omega (arith, ltb-true most n e)
    go false e = omega (arith, ltb-false most n e)

capped : {E : Type 0} (r : Result ℕ E) (n most : ℕ) → most < 4294967296 → OkIff r (n < 4294967296) n → min (result_unwrap_or r most) most ≡ at_most n most
capped (Ok x) n most l (p, e) = rw (at_most_is n most l, e) refl
capped (Err e) n most l h = rw (at_most_is n most l) (omega (arith, l, h))

pub returns : goal.returns
returns c =
    rw (c.min.ensures, c.unwrap_or.ensures) (capped c.try_from.result c.args.n c.args.most c.ranges.most.fits c.try_from.ensures)
