-- The number of the cell falls: twice that number, and one more for the cell itself.
use Rattle.std.proofs.Common.{◌+◌}
use Rattle.quotes.proofs.Table.+part_quote.Given as goal

abbrev pub decreases-part : goal.decreases-part
decreases-part l = l.i + l.i

abbrev pub decreases-quote : goal.decreases-quote
decreases-quote l = l.i + l.i + 1
