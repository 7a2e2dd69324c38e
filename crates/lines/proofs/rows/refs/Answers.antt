-- Each turn writes the row cited at k, and after the last one nothing is left.
use Rattle.std.proofs.Common.{sym, ◌∙◌}
use Rattle.std.proofs.Math.Nat.{min_comm}
use Rattle.writer.proofs.Laws.{written_nil, written_cons, written_append, written_turn, written_end}
use Rattle.lines.specs.Rows.{reference, refs}
use Rattle.lines.proofs.Laws.{refs_none, refs_some}
use Rattle.lines.proofs.rows.refs.Goals as goal

pub returns-then-n-eq0 : goal.returns-then-n-eq0
unfolding refs
returns-then-n-eq0 c = rw (← c.row_word.ensures, min_comm 10 _, ← c.min-n.ensures, refs_none _ _ _ c.if-n-eq0.true, written_cons, written_nil, ← c.put.ensures)

pub loop-k-preserved : goal.loop-k-preserved
loop-k-preserved c =
    written_turn (reference c.args.table.now.rows.now c.args.i) c.loop-k.k c.min-n.result _ c.loop-k.output c.loop-k-test.true
    (rw (c.number-in-loop-k.ensures, c.put-in-loop-k.ensures, c.row_word-in-loop-k.ensures, written_cons)) ∙
    c.loop-k.invariant

pub returns : goal.returns
unfolding refs
returns c = sym (written_end _ _ _ _ c.loop-k-test.false) ∙ c.loop-k.invariant ∙
    rw (← c.row_word.ensures, min_comm 10 _, ← c.min-n.ensures, refs_some _ _ _ c.if-n-eq0.false, written_append, ← c.row_word-2.ensures, ← c.number.ensures)
