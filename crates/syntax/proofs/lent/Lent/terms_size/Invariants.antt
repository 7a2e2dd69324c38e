-- A turn of the loop for each term.
use Rattle.std.proofs.Common.{◌≡◌, ◌-◌}
use Rattle.walk.specs.Limits.{size_terms}
use Rattle.syntax.specs.Told.{terms_at}
use Rattle.syntax.specs.Parts.{Count, Counts}
use Rattle.syntax.proofs.lent.Lent.terms_size.Given as goal

abbrev pub invariant-loop : goal.invariant-loop
invariant-loop l = (l.self.bytes ≡ l.fn.self.bytes) × ((r : Count) → Counts (λ ts. size_terms ts l.counted.nodes) (terms_at (l.count - l.counter) l.fn.self.bytes.now l.counted.next) r → Counts (λ ts. size_terms ts 0) (terms_at l.count l.fn.self.bytes.now l.from) r)
