-- By the run's number; where that is 0, the listing is its parts, one after the other.
use Rattle.std.proofs.Common.{eq-eqb, ne_eqb}
use Rattle.text.specs.Listing.{listing}
use Rattle.text.proofs.Laws.{written_read}
use Rattle.text.proofs.Words.listing.Goals as goal

pub returns-then-self-ne0 : goal.returns-then-self-ne0
unfolding listing
returns-then-self-ne0 c = rw (ne_eqb _ _ c.if-self-ne0.true, listing, ← c.refused.ensures)

pub returns : goal.returns
unfolding listing
returns c = rw (eq-eqb _ _ c.if-self-ne0.false, listing, written_read)
    (rw (← c.bytes.ensures, ← c.call_lines.ensures, ← c.bytes-2.ensures, ← c.row_lines.ensures, ← c.bytes-3.ensures, ← c.totals.ensures))
