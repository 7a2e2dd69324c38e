-- The nesting left falls at each function that is entered; between two entries, the second number of a member does.
use Rattle.std.proofs.Common.{◌≡◌, ◌*◌, ◌+◌, ◌-◌, ◌≤◌}
use Rattle.std.specs.Prelude.{false}
use Rattle.producer.specs.Calls.{callees}
use Rattle.producer.specs.Equality.{rounds}
use Rattle.producer.specs.Machine.{machine}
use Rattle.producer.proofs.State.+typing.Given as goal

abbrev pub decreases-along : goal.decreases-along
decreases-along l = 4 * l.left + 2

abbrev pub decreases-app : goal.decreases-app
decreases-app l = 4 * l.left + 2

abbrev pub decreases-atom : goal.decreases-atom
decreases-atom l = 4 * l.left + 1

abbrev pub decreases-beta : goal.decreases-beta
decreases-beta l = 4 * l.left + 1

abbrev pub decreases-check : goal.decreases-check
decreases-check l = 4 * l.left

abbrev pub decreases-conv : goal.decreases-conv
decreases-conv l = 4 * l.left + 1

abbrev pub decreases-ctx : goal.decreases-ctx
decreases-ctx l = 4 * l.left

abbrev pub decreases-equal : goal.decreases-equal
decreases-equal l = 4 * l.left

abbrev pub decreases-expose : goal.decreases-expose
decreases-expose l = 4 * l.left

abbrev pub decreases-find : goal.decreases-find
decreases-find l = 4 * l.left + 3

abbrev pub decreases-fst : goal.decreases-fst
decreases-fst l = 4 * l.left + 2

abbrev pub decreases-head : goal.decreases-head
decreases-head l = 4 * l.left + 1

abbrev pub decreases-infer : goal.decreases-infer
decreases-infer l = 4 * l.left

abbrev pub decreases-lam : goal.decreases-lam
decreases-lam l = 4 * l.left + 1

abbrev pub decreases-line : goal.decreases-line
decreases-line l = 4 * l.left + 3

abbrev pub decreases-normalize : goal.decreases-normalize
decreases-normalize l = 4 * l.left

abbrev pub decreases-pair : goal.decreases-pair
decreases-pair l = 4 * l.left + 1

abbrev pub decreases-papp : goal.decreases-papp
decreases-papp l = 4 * l.left + 2

abbrev pub decreases-path : goal.decreases-path
decreases-path l = 4 * l.left + 1

abbrev pub decreases-pbeta : goal.decreases-pbeta
decreases-pbeta l = 4 * l.left + 1

abbrev pub decreases-pi : goal.decreases-pi
decreases-pi l = 4 * l.left + 1

abbrev pub decreases-plam : goal.decreases-plam
decreases-plam l = 4 * l.left + 1

abbrev pub decreases-reduce : goal.decreases-reduce
decreases-reduce l = 4 * l.left

abbrev pub decreases-snd : goal.decreases-snd
decreases-snd l = 4 * l.left + 2

abbrev pub decreases-sort : goal.decreases-sort
decreases-sort l = 4 * l.left + 1

abbrev pub decreases-step : goal.decreases-step
decreases-step l = 4 * l.left + 1

abbrev pub decreases-turn : goal.decreases-turn
decreases-turn l = 4 * l.left + 1

abbrev pub decreases-turns : goal.decreases-turns
decreases-turns l = 4 * l.left + 2

abbrev pub decreases-universe : goal.decreases-universe
decreases-universe l = 4 * l.left

abbrev pub decreases-val : goal.decreases-val
decreases-val l = 4 * l.left + 2

abbrev pub decreases-var : goal.decreases-var
decreases-var l = 4 * l.left + 1

abbrev pub invariant-turns-loop : goal.invariant-turns-loop
invariant-turns-loop l =
    (l.counter ≤ 32) × (rounds 32 (callees l.left) false l.d l.g l.t l.ty l.t l.evidence (machine l.fn.rows l.fn.cells l.fn.self) ≡ rounds (32 - l.counter) (callees l.left) false l.d l.g l.t l.ty l.current l.row (machine l.rows l.cells l.s))
