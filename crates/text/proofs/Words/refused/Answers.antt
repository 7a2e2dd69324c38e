-- The listing is its parts, one after the other.
use Rattle.writer.proofs.Laws.{written_nil, written_cons}
use Rattle.text.proofs.Laws.{written_refused}
use Rattle.text.proofs.Words.refused.Goals as goal

pub returns : goal.returns
returns c = rw (written_refused, ← c.bytes.ensures) (simp (written_cons, written_nil) (rw (← c.number.ensures, ← c.put.ensures, ← c.number-2.ensures, ← c.put-2.ensures)))
