-- Every definition of the run, opened at once: `unfolding opened` computes a run.
-- Written by tools/opened.py.
use Rattle.std.proofs.Math.Decide.{ℕ_discrete, dec_lt, dec_le}
use Rattle.walk.specs.Syntax.{interval?, term?, context?, quote?, quotes?}
use Rattle.walk.specs.Judgment.{judgment?}
use Rattle.walk.specs.State.{key?, thing?, go_on, ◌>>=◌, pure, refuse, looking, choose◌then◌else◌, from◌get◌or◌, among, with_cell, count, count_all, row_of, with_row, push, emit, recall, with_memory, store, remember, with_conversions, ended, converted, converting, with_deepest, note, enter}
use Rattle.walk.specs.Walk.{lt_by, le_by, comparison_body, max_body, ifinish, idim_above, idim, itransform_body, interval_body, worked_out, right_part, two_parts, endpoint_body, under_body, finish, tvar_above, tvar, tinterval, tbinder, tprojection, transform_body, dshiftctx_body, new_ctx, ctx_body, lookup_body, expose_body, universe_body, check_body, headed, as_parts, found, find_binder, find_pair, find, new_infer, infer_body, beta, at_end, pbeta, ends, along, long_end, at_val, fst_beta, snd_beta, reduce_body, head_goes, congruent, app_cong, papp_cong, at_head, head_step_body, rounds, normal_by, normalize_body, head_normalize_body, equal_body, none_left, entered, callees_by, one_more, callees}
use Rattle.walk.specs.Reader.{read_on, ◌>>=◌ as ◌>>=ʳ◌, ok, byte, meant, one_of, read_interval, read_term, read_terms, read_head, read_call, read_drafts, read_sent, checks_of, calls_of, all_calls, read_calls, read_limit, read_run}
use Rattle.walk.specs.Limits.{size_on, node, size_interval, size_term, size_terms, size_call}
use Rattle.walk.specs.Run.{answered, scope_of, walk, play_sized, play_counted, play, play_all, added_by, made_by, start, run_read, run, accepted, occurs, repeats_after, repeats}

unfoldable pub opened : Unit {0}
unfolding ℕ_discrete dec_lt dec_le interval? term? context? quote? quotes? judgment? key? thing? go_on ◌>>=◌ pure refuse looking choose◌then◌else◌ from◌get◌or◌ among with_cell count count_all row_of with_row push emit recall with_memory store remember with_conversions ended converted converting with_deepest note enter lt_by le_by comparison_body max_body ifinish idim_above idim itransform_body interval_body worked_out right_part two_parts endpoint_body under_body finish tvar_above tvar tinterval tbinder tprojection transform_body dshiftctx_body new_ctx ctx_body lookup_body expose_body universe_body check_body headed as_parts found find_binder find_pair find new_infer infer_body beta at_end pbeta ends along long_end at_val fst_beta snd_beta reduce_body head_goes congruent app_cong papp_cong at_head head_step_body rounds normal_by normalize_body head_normalize_body equal_body none_left entered callees_by one_more callees read_on ◌>>=ʳ◌ ok byte meant one_of read_interval read_term read_terms read_head read_call read_drafts read_sent checks_of calls_of all_calls read_calls read_limit read_run size_on node size_interval size_term size_terms size_call answered scope_of walk play_sized play_counted play play_all added_by made_by start run_read run accepted occurs repeats_after repeats
opened = tt
