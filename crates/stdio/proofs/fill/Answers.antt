-- A read takes from the front of what the reader has left, and puts it past what came before.
use Rattle.std.proofs.Common.{◌-◌, length, subst, rules}
use Rattle.std.proofs.KnownBytes.{Consumes-trans}
use Rattle.std.specs.Io.KnownBytes.{Consumes}
use Rattle.stdio.proofs.Parts.{front_put}
use Rattle.stdio.proofs.fill.Goals as goal

pub loop-done-preserved : goal.loop-done-preserved
loop-done-preserved g c = record {
  within = search rules;
  same_length = search rules;
  taken =
      subst (Consumes _ _)
      (front_put c.loop-done.done (length c.loop-done.buf - c.loop-done.done) c.in_ok-n.n c.loop-done.buf c.read.new.buf
      c.loop-done.invariant.within c.in_ok-n.ensures.bound.0)
      (Consumes-trans _ _ _ _ _ c.loop-done.invariant.taken c.in_ok-n.ensures.bytes.0);
}
