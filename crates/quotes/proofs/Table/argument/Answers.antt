-- By the sort of the argument.
use Rattle.writer.proofs.Laws.{written_nil, written_cons}
use Rattle.quotes.specs.Quotes.{by_sort, argument}
use Rattle.quotes.proofs.Laws.{quoted}
use Rattle.quotes.proofs.Table.argument.Goals as goal

pub returns-in_default : goal.returns-in_default
unfolding argument
returns-in_default c = rw (← c.argument_sort.ensures, c.in_default.is, written_nil)

pub returns-in-Number : goal.returns-in-Number
unfolding by_sort argument
returns-in-Number c = rw (← c.argument_sort.ensures, c.in-Some.is, c.in-Number.is, written_cons, ← c.row_word-x.ensures) (rw (← c.put.ensures, ← c.number.ensures))

pub returns-in-Term : goal.returns-in-Term
unfolding argument
returns-in-Term c = rw (← c.argument_sort.ensures, c.in-Some.is, quoted _ _ _ c.in-Term.is, written_cons, ← c.row_word-x.ensures) (rw (← c.put.ensures, ← c.quote.ensures))
