-- What the proof of every method unfolds: the steps of the machine, and the ends that its answers are. No step here is the whole of
-- a method's contract: those stay shut where the method is called. Assumes nothing.
use Rattle.ast.specs.Kinds.{kind_number}
use Rattle.ast.specs.Refusals.{refusal_number}
use Rattle.producer.specs.Judgments.{rule_number, words_of, emit_words, emit_as, known_words, known_as}
use Rattle.producer.specs.Machine.{refs_of, refs_1, refs_2, refs_3, refs_4, refs_5, refs_6, refs_7, refs_10}
use Rattle.producer.specs.Answers.{refused_of, end, end_state, end_found, end_step, end_maybe}
use Rattle.producer.specs.Endpoints.{with_left}
use Rattle.producer.specs.Equality.{on_step}
use Rattle.producer.specs.Machine.{next, ◌>>=◌, give, stop, when◌then◌else◌, on_maybe, open_cell, lowest, same_quote, at_universe, at_pi, at_lam, at_path, at_plam, at_sigma, at_pair, on_universe, on_pi, on_lam, on_path, on_plam, on_sigma, on_pair, converting, recall_or, recalled_or, enter, note}
use Rattle.producer.specs.Numbers.{lt_by, le_by}
use Rattle.producer.specs.Typing.{found, ctx_by}

-- written by tools/written.py: shapes
unfoldable pub shapes : Unit {0}
unfolding at_universe at_pi at_lam at_path at_plam at_sigma at_pair on_universe on_pi on_lam on_path on_plam on_sigma on_pair
shapes = tt

-- end of shapes

unfoldable pub steps : Unit {0}
unfolding next ◌>>=◌ give stop when◌then◌else◌ open_cell lowest same_quote shapes converting recall_or recalled_or found on_step on_maybe with_left enter note ctx_by lt_by le_by refused_of refusal_number end end_state end_found end_step end_maybe
steps = tt

-- what a row states: its rule, its judgment and the rows cited
unfoldable pub stated : Unit {0}
unfolding rule_number words_of emit_words emit_as known_words known_as kind_number refs_of refs_1 refs_2 refs_3 refs_4 refs_5 refs_6 refs_7 refs_10
stated = tt
