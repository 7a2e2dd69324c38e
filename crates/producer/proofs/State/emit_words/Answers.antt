use borrow.Author.Tests.{lt-ltb, le-ltb}
use Rattle.producer.specs.Judgments.{emit_words}
use Rattle.producer.specs.Machine.{emit, known_row, known_or, new_row, add_row}
use Rattle.producer.proofs.Steps.{steps}
use Rattle.producer.proofs.State.emit_words.Goals as goal

pub returns-then-n-self : goal.returns-then-n-self
unfolding emit_words emit steps known_row known_or new_row add_row
returns-then-n-self c =
    rw (← c.find_row.ensures, c.in-None.is, lt-ltb _ _ c.if-n-self.true, ← c.link_row.ensures, ← c.put_row.ensures)

pub returns-in-Some : goal.returns-in-Some
unfolding emit_words emit steps known_row known_or
returns-in-Some c = rw (← c.find_row.ensures, c.in-Some.is)

pub returns-else-n-self : goal.returns-else-n-self
unfolding emit_words emit steps known_row known_or new_row
returns-else-n-self c =
    rw (← c.find_row.ensures, c.in-None.is, le-ltb _ _ c.if-n-self.false, c.refused.ensures)
