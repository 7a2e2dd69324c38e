-- A part is written by its sort, a cell by its parts.
use Rattle.std.proofs.Common.{sym, ◌∙◌}
use Rattle.writer.proofs.Laws.{written_nil, written_cons, written_ended}
use Rattle.quotes.specs.Quotes.{by_sort, part_in}
use Rattle.quotes.specs.Quoted.{lower_yes, lower_no, quote_node}
use Rattle.quotes.proofs.Laws.{quoted, node_atom, node_parts, written_node}
use Rattle.quotes.proofs.Table.+part_quote.Goals as goal

pub part-returns-in_default : goal.part-returns-in_default
unfolding part_in
part-returns-in_default t c = rw (← c.node_part.ensures, c.in_default.is, written_nil)

pub part-returns-in-Number : goal.part-returns-in-Number
unfolding by_sort part_in
part-returns-in-Number t c = rw (← c.node_part.ensures, c.in-Some.is, c.in-Number.is, written_cons, ← c.cell_word-x.ensures) (rw (← c.put.ensures, ← c.number.ensures))

pub part-returns-then-x-i : goal.part-returns-then-x-i
unfolding part_in
part-returns-then-x-i t c = rw (← c.node_part.ensures, c.in-Some.is, quoted _ _ _ c.in-Term.is, written_cons, ← c.cell_word-x.ensures) (rw (lower_yes _ _ _ c.if-x-i.true, ← c.put.ensures, ← c.quote.ensures))

pub part-returns-else-x-i : goal.part-returns-else-x-i
unfolding part_in
part-returns-else-x-i t c = rw (← c.node_part.ensures, c.in-Some.is, quoted _ _ _ c.in-Term.is, written_cons, ← c.cell_word-x.ensures) (rw (lower_no _ _ _ c.if-x-i.false, written_nil, ← c.put.ensures))

pub quote-returns-then-ended : goal.quote-returns-then-ended
quote-returns-then-ended t c = sym (written_ended _ c.args.output.now (sym c.ended.ensures ∙ c.if-ended.true))

pub quote-returns-in_default : goal.quote-returns-in_default
quote-returns-in_default t c = rw (quote_node, ← c.cell_word-kind.ensures, node_atom _ _ _ _ (sym c.node_part.ensures ∙ c.in_default.is), ← c.bytes-name.ensures, ← c.bytes.ensures)

pub quote-returns : goal.quote-returns
quote-returns t c = rw (quote_node, ← c.cell_word-kind.ensures, node_parts _ _ _ _ _ (sym c.node_part.ensures ∙ c.in-Some.is), written_node, ← c.bytes-name.ensures)
    (rw (← c.put.ensures, ← c.bytes-2.ensures, ← c.part.ensures, ← c.part-2.ensures, ← c.part-3.ensures, ← c.put-2.ensures))
