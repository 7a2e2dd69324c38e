-- A number's digits but the last are those of a tenth of it.
use Rattle.writer.proofs.Laws.{written_nil, written_cons, written_append, decimal_small, decimal_more}
use Rattle.writer.proofs.Output.+number.Goals.{then-n-ge10, else-n-ge10}
use Rattle.writer.proofs.Output.+number.Goals as goal

pub returns : goal.returns
returns t c = elim c.if-n-ge10.branch [
  | then-n-ge10 w ↦ rw (c.put.ensures, c.digit.ensures, w.self-is, w.number.ensures, decimal_more c.args.n w.if-n-ge10.true, written_append, written_cons, written_nil)
  | else-n-ge10 w ↦ rw (c.put.ensures, c.digit.ensures, w.self-is, decimal_small c.args.n w.if-n-ge10.false, written_cons, written_nil)
]
