-- Each turn leaves what the turns from the start give, with as many fewer to go.
use Rattle.std.proofs.Common.{◌≡◌, ◌-◌, ◌≤◌}
use Rattle.std.specs.Prelude.{true}
use Rattle.producer.specs.Calls.{callees}
use Rattle.producer.specs.Equality.{rounds}
use Rattle.producer.specs.Machine.{machine}
use Rattle.producer.proofs.State.head_turns.Given as goal

abbrev pub invariant-loop : goal.invariant-loop
invariant-loop l =
    (l.counter ≤ 32) × (rounds 32 (callees l.left) true l.d l.g l.t l.ty l.t l.evidence (machine l.fn.rows l.fn.cells l.fn.self) ≡ rounds (32 - l.counter) (callees l.left) true l.d l.g l.t l.ty l.current l.row (machine l.rows l.cells l.s))
