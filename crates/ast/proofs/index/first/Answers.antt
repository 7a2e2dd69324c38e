use Rattle.ast.specs.Paths.{first_step, first_end}
use Rattle.ast.proofs.Laws.{falls}
use Rattle.ast.proofs.index.first.Goals as goal

pub returns-then-test : goal.returns-then-test
returns-then-test g c passes p = let e = p _ _ c.loop-i-test.true c.test.ensures in rw (c.loop-i.invariant passes p, first_step _ _ _ _ _ _ _ c.loop-i-test.true, ← e, c.if-test.true)

pub loop-i-smaller : goal.loop-i-smaller
loop-i-smaller g c = falls _ _ _ _ c.loop-i-test.true c.next-i.ensures

pub loop-i-preserved : goal.loop-i-preserved
loop-i-preserved g c passes p =
    let e = p _ _ c.loop-i-test.true c.test.ensures in
    rw (c.loop-i.invariant passes p, first_step _ _ _ _ _ _ _ c.loop-i-test.true, ← e, c.if-test.false, ← c.next-i.ensures, ← c.rest-h.ensures)

pub returns : goal.returns
returns g c passes p = rw (c.loop-i.invariant passes p, first_end _ _ _ _ _ _ _ c.loop-i-test.false)
