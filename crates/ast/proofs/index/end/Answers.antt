use Rattle.ast.specs.Paths.{place_step, place_end}
use Rattle.ast.proofs.Laws.{falls}
use Rattle.ast.proofs.index.end.Goals as goal

pub loop-i-smaller : goal.loop-i-smaller
loop-i-smaller g c = falls _ _ _ _ c.loop-i-test.true c.next-i.ensures

pub loop-i-preserved : goal.loop-i-preserved
loop-i-preserved g c = rw (c.loop-i.invariant, place_step _ _ _ _ _ _ _ c.loop-i-test.true, ← c.next-i.ensures, ← c.slot-at.ensures, ← c.rest-h.ensures)

pub returns : goal.returns
returns g c = rw (c.loop-i.invariant, place_end _ _ _ _ _ _ _ c.loop-i-test.false)
