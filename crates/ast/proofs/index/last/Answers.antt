use Rattle.ast.specs.Paths.{last_step, last_end}
use Rattle.ast.proofs.Laws.{falls, or_none, or_kept}
use Rattle.ast.proofs.index.last.Goals as goal

pub loop-i-init : goal.loop-i-init
loop-i-init g c passes p = or_none _

pub loop-i-smaller : goal.loop-i-smaller
loop-i-smaller g c = falls _ _ _ _ c.loop-i-test.true c.next-i.ensures

pub loop-i-preserved : goal.loop-i-preserved
loop-i-preserved g c passes p =
    let e = p _ _ c.loop-i-test.true c.test.ensures in
    rw (c.loop-i.invariant passes p, last_step _ _ _ _ _ _ _ c.loop-i-test.true, or_kept _ _ _ _, ← e, ← c.kept-found.ensures, ← c.next-i.ensures, ← c.rest-h.ensures)

pub returns : goal.returns
returns g c passes p = rw (c.loop-i.invariant passes p, last_end _ _ _ _ _ _ _ c.loop-i-test.false)
