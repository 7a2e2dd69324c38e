use Rattle.std.proofs.Common.{rules}
use Rattle.producer.specs.Machine.{same_row, find_row}
use Rattle.producer.proofs.rows.find_row.Goals as goal

pub returns : goal.returns
unfolding find_row
returns c =
    rw (← c.row_hash-h.ensures) (c.last.ensures (same_row c.args.rows.now c.args.words.kind c.args.words.a c.args.words.b c.args.words.c c.args.words.d c.args.words.e) (λ i b l p. search rules))
