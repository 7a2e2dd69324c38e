-- A turn of the loop for each term.
use Rattle.std.proofs.Common.{◌≡◌, ◌-◌}
use Rattle.syntax.specs.Told.{terms_at, next_of}
use Rattle.syntax.proofs.lent.Lent.terms.Given as goal

abbrev pub invariant-loop : goal.invariant-loop
invariant-loop l = (l.self.bytes ≡ l.fn.self.bytes) × (next_of (terms_at l.count l.fn.self.bytes.now l.from) ≡ next_of (terms_at (l.count - l.counter) l.fn.self.bytes.now l.at))
