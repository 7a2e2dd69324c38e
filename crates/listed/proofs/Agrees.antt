-- Words that hold a quote, an argument, a judgment, a row or a call have its text. Assumes nothing.
use Rattle.std.specs.Prelude.{◌≡◌, refl, List, [], ◌∷◌, ◌++◌, ℕ, zero, suc, min, length, Some}
use Rattle.std.proofs.Common.{ap, ◌∙◌, append-nil}
use Rattle.std.proofs.Math.Nat.{min-eq_right}
use Rattle.walk.specs.Syntax.{Interval, Quote, Quotes}
use Rattle.walk.specs.Rule.{kind_of}
use Rattle.walk.specs.Judgment.{Judgment, kind, ctx, dshiftctx, lookup, lt, le, max, interval, ishift, isubst, shift, subst, dshift, dsubst, has, eq, iend, Argument, arguments}
use Rattle.rules.specs.Names.{bytes, judgment_name, node_name}
use Rattle.rules.specs.Kinds.{sorts_of, sort_of, parts_of, part_of}
use Rattle.rules.specs.Sorts.{sort}
use Rattle.writer.specs.Text.{Text, decimal, each}
use Rattle.quotes.specs.Quotes.{cell_word, by_sort, argument, part_in, node_as, lower, quote}
use Rattle.quotes.specs.Judgments.{judgment_as}
use Rattle.lines.specs.Rows.{reference, some_refs, refs, row_head, row_line}
use Rattle.lines.specs.Calls.{call_row, result, call_result, call_head, call_line, answer_word, code}
use Rattle.syntax.specs.Told.{code_number}
use Rattle.walk.specs.State.{Row}
use Rattle.walk.specs.Reader.{Code}
use Rattle.walk.specs.Run.{Result, Answer}
use Rattle.std.proofs.Math.Dec.{eqb-suc-zero}
use Rattle.listed.specs.Said.{spaced, all_texts, interval_text, quote_text, context_text, argument_text, judgment_text, PartIn, IntervalCell, QuoteCell, ContextCell, ArgumentWord, word_number, word_term, word_interval, word_context, ArgumentsIn, no_more, and_then, commas, refs_text, row_text, result_text, accepted_row, call_text, ResultIn, of_context, of_universe, of_infer, of_check, of_normalise, of_equal, of_head, Ended, accepted, refused, CallIn, RefsIn, no_refs, and_ref, RowIn, cell_0, cell_1, cell_dim, cell_neg, cell_meet, cell_join, cell_u, cell_v, cell_nat, cell_zero, cell_pi, cell_lam, cell_app, cell_path, cell_plam, cell_papp, cell_sigma, cell_pair, cell_fst, cell_snd, cell_nil, cell_cons}
use Rattle.quotes.specs.Quoted.{lower_yes, quote_node}

-- Absent parts leave nothing before the end.
close_1 : (s : Text) → s ++ [] ++ bytes ")" ≡ s ++ bytes ")"
close_1 s = ap (λ t. t ++ bytes ")") (append-nil s)

close_2 : (s : Text) → s ++ [] ++ [] ++ bytes ")" ≡ s ++ bytes ")"
close_2 s = close_1 (s ++ []) ∙ close_1 s

close_3 : (s : Text) → s ++ [] ++ [] ++ [] ++ bytes ")" ≡ s ++ bytes ")"
close_3 s = close_2 (s ++ []) ∙ close_1 s

-- A part of a cell, by what the part's cell shows.
part_said : {C : List ℕ} {i w j : ℕ} (t : Text) → PartIn C i w j → quote C j ≡ t → lower i (quote C) (cell_word C i w) ≡ t
part_said {C} {i} {w} {j} t p e = rw (p.word, lower_yes i j (quote C) p.lower) e

pub interval_said : {C : List ℕ} {i : ℕ} {r : Interval} → IntervalCell C i r → quote C i ≡ interval_text r
unfolding node_name parts_of part_of by_sort part_in node_as interval_text
-- written by tools/written.py: text of an interval
interval_said (cell_0 k) = rw (quote_node, k)
interval_said (cell_1 k) = rw (quote_node, k)
interval_said (cell_dim {n = n} k e) = rw (quote_node, k, e) (close_2 (spaced (bytes "(dim") (decimal n ∷ [])))
interval_said (cell_neg {x = x} k p1 h1) = rw (quote_node, k, part_said _ p1 (interval_said h1)) (close_2 (spaced (bytes "(neg") (interval_text x ∷ [])))
interval_said (cell_meet {x = x} {y = y} k p1 h1 p2 h2) = rw (quote_node, k, part_said _ p1 (interval_said h1), part_said _ p2 (interval_said h2)) (close_1 (spaced (bytes "(meet") (interval_text x ∷ interval_text y ∷ [])))
interval_said (cell_join {x = x} {y = y} k p1 h1 p2 h2) = rw (quote_node, k, part_said _ p1 (interval_said h1), part_said _ p2 (interval_said h2)) (close_1 (spaced (bytes "(join") (interval_text x ∷ interval_text y ∷ [])))

-- end of text of an interval

pub quote_said : {C : List ℕ} {i : ℕ} {t : Quote} → QuoteCell C i t → quote C i ≡ quote_text t
unfolding node_name parts_of part_of by_sort part_in node_as quote_text
-- written by tools/written.py: text of a quote
quote_said (cell_u {n = n} k e) = rw (quote_node, k, e) (close_2 (spaced (bytes "(u") (decimal n ∷ [])))
quote_said (cell_v {n = n} k e) = rw (quote_node, k, e) (close_2 (spaced (bytes "(v") (decimal n ∷ [])))
quote_said (cell_nat k) = rw (quote_node, k)
quote_said (cell_zero k) = rw (quote_node, k)
quote_said (cell_pi {x = x} {y = y} k p1 h1 p2 h2) = rw (quote_node, k, part_said _ p1 (quote_said h1), part_said _ p2 (quote_said h2)) (close_1 (spaced (bytes "(pi") (quote_text x ∷ quote_text y ∷ [])))
quote_said (cell_lam {y = y} k p2 h2) = rw (quote_node, k, part_said _ p2 (quote_said h2)) (close_2 (spaced (bytes "(lam") (quote_text y ∷ [])))
quote_said (cell_app {x = x} {y = y} k p1 h1 p2 h2) = rw (quote_node, k, part_said _ p1 (quote_said h1), part_said _ p2 (quote_said h2)) (close_1 (spaced (bytes "(app") (quote_text x ∷ quote_text y ∷ [])))
quote_said (cell_path {x = x} {y = y} {z = z} k p1 h1 p2 h2 p3 h3) = rw (quote_node, k, part_said _ p1 (quote_said h1), part_said _ p2 (quote_said h2), part_said _ p3 (quote_said h3))
quote_said (cell_plam {y = y} k p2 h2) = rw (quote_node, k, part_said _ p2 (quote_said h2)) (close_2 (spaced (bytes "(plam") (quote_text y ∷ [])))
quote_said (cell_papp {x = x} {y = y} k p1 h1 p2 h2) = rw (quote_node, k, part_said _ p1 (quote_said h1), part_said _ p2 (interval_said h2)) (close_1 (spaced (bytes "(papp") (quote_text x ∷ interval_text y ∷ [])))
quote_said (cell_sigma {x = x} {y = y} k p1 h1 p2 h2) = rw (quote_node, k, part_said _ p1 (quote_said h1), part_said _ p2 (quote_said h2)) (close_1 (spaced (bytes "(sigma") (quote_text x ∷ quote_text y ∷ [])))
quote_said (cell_pair {y = y} {z = z} k p2 h2 p3 h3) = rw (quote_node, k, part_said _ p2 (quote_said h2), part_said _ p3 (quote_said h3)) (close_1 (spaced (bytes "(pair") (quote_text y ∷ quote_text z ∷ [])))
quote_said (cell_fst {x = x} k p1 h1) = rw (quote_node, k, part_said _ p1 (quote_said h1)) (close_2 (spaced (bytes "(fst") (quote_text x ∷ [])))
quote_said (cell_snd {x = x} k p1 h1) = rw (quote_node, k, part_said _ p1 (quote_said h1)) (close_2 (spaced (bytes "(snd") (quote_text x ∷ [])))

-- end of text of a quote

pub context_said : {C : List ℕ} {i : ℕ} {g : Quotes} → ContextCell C i g → quote C i ≡ context_text g
unfolding node_name parts_of part_of by_sort part_in node_as context_text
context_said (cell_nil k) = rw (quote_node, k)
context_said (cell_cons {t = t} {g = g} k p h q l) = rw (quote_node, k, part_said _ p (quote_said h), part_said _ q (context_said l)) (close_1 (spaced (bytes "(cons") (quote_text t ∷ context_text g ∷ [])))

-- An argument after its blank.
argument_said : {C : List ℕ} {x : ℕ} {a : Argument} → ArgumentWord C x a → argument (quote C) (Some (sort a)) x ≡ bytes " " ++ argument_text a
unfolding by_sort argument argument_text
argument_said word_number = refl
argument_said (word_term h) = rw (quote_said h)
argument_said (word_interval h) = rw (interval_said h)
argument_said (word_context h) = rw (context_said h)

-- A row's judgment, where the row holds its arguments.
pub judgment_said : {R C : List ℕ} {i : ℕ} (j : Judgment) → ArgumentsIn R C i 0 (arguments j) → judgment_as (kind j) R C i ≡ judgment_text j
unfolding sorts_of sort_of argument judgment_as judgment_text
-- written by tools/written.py: text of a judgment
judgment_said (ctx d g) (and_then h0 (and_then h1 no_more)) = rw (argument_said h0, argument_said h1) (close_3 (spaced (bytes "(" ++ judgment_name 0) (all_texts (arguments (ctx d g)))))
judgment_said (dshiftctx g k h) (and_then h0 (and_then h1 (and_then h2 no_more))) = rw (argument_said h0, argument_said h1, argument_said h2) (close_2 (spaced (bytes "(" ++ judgment_name 1) (all_texts (arguments (dshiftctx g k h)))))
judgment_said (lookup g n A) (and_then h0 (and_then h1 (and_then h2 no_more))) = rw (argument_said h0, argument_said h1, argument_said h2) (close_2 (spaced (bytes "(" ++ judgment_name 2) (all_texts (arguments (lookup g n A)))))
judgment_said (lt m n) (and_then h0 (and_then h1 no_more)) = rw (argument_said h0, argument_said h1) (close_3 (spaced (bytes "(" ++ judgment_name 3) (all_texts (arguments (lt m n)))))
judgment_said (le m n) (and_then h0 (and_then h1 no_more)) = rw (argument_said h0, argument_said h1) (close_3 (spaced (bytes "(" ++ judgment_name 4) (all_texts (arguments (le m n)))))
judgment_said (max m n k) (and_then h0 (and_then h1 (and_then h2 no_more))) = rw (argument_said h0, argument_said h1, argument_said h2) (close_2 (spaced (bytes "(" ++ judgment_name 5) (all_texts (arguments (max m n k)))))
judgment_said (interval d r) (and_then h0 (and_then h1 no_more)) = rw (argument_said h0, argument_said h1) (close_3 (spaced (bytes "(" ++ judgment_name 6) (all_texts (arguments (interval d r)))))
judgment_said (ishift r k r') (and_then h0 (and_then h1 (and_then h2 no_more))) = rw (argument_said h0, argument_said h1, argument_said h2) (close_2 (spaced (bytes "(" ++ judgment_name 7) (all_texts (arguments (ishift r k r')))))
judgment_said (isubst r k s r') (and_then h0 (and_then h1 (and_then h2 (and_then h3 no_more)))) = rw (argument_said h0, argument_said h1, argument_said h2, argument_said h3) (close_1 (spaced (bytes "(" ++ judgment_name 8) (all_texts (arguments (isubst r k s r')))))
judgment_said (shift t k t') (and_then h0 (and_then h1 (and_then h2 no_more))) = rw (argument_said h0, argument_said h1, argument_said h2) (close_2 (spaced (bytes "(" ++ judgment_name 9) (all_texts (arguments (shift t k t')))))
judgment_said (subst t k s t') (and_then h0 (and_then h1 (and_then h2 (and_then h3 no_more)))) = rw (argument_said h0, argument_said h1, argument_said h2, argument_said h3) (close_1 (spaced (bytes "(" ++ judgment_name 10) (all_texts (arguments (subst t k s t')))))
judgment_said (dshift t k t') (and_then h0 (and_then h1 (and_then h2 no_more))) = rw (argument_said h0, argument_said h1, argument_said h2) (close_2 (spaced (bytes "(" ++ judgment_name 11) (all_texts (arguments (dshift t k t')))))
judgment_said (dsubst t k r t') (and_then h0 (and_then h1 (and_then h2 (and_then h3 no_more)))) = rw (argument_said h0, argument_said h1, argument_said h2, argument_said h3) (close_1 (spaced (bytes "(" ++ judgment_name 12) (all_texts (arguments (dsubst t k r t')))))
judgment_said (has d g t A) (and_then h0 (and_then h1 (and_then h2 (and_then h3 no_more)))) = rw (argument_said h0, argument_said h1, argument_said h2, argument_said h3) (close_1 (spaced (bytes "(" ++ judgment_name 13) (all_texts (arguments (has d g t A)))))
judgment_said (eq d g a b A) (and_then h0 (and_then h1 (and_then h2 (and_then h3 (and_then h4 no_more))))) = rw (argument_said h0, argument_said h1, argument_said h2, argument_said h3, argument_said h4)
judgment_said (iend r e) (and_then h0 (and_then h1 no_more)) = rw (argument_said h0, argument_said h1) (close_3 (spaced (bytes "(" ++ judgment_name 15) (all_texts (arguments (iend r e)))))

-- end of text of a judgment

-- The rows that a row cites.
commas_said : {R : List ℕ} {i : ℕ} {k : ℕ} {ns : List ℕ} → RefsIn R i k ns → each (reference R i) k (length ns) ≡ commas ns
unfolding each
commas_said no_refs = refl
commas_said (and_ref h r) = rw (h, commas_said r)

refs_said : {R : List ℕ} {i : ℕ} (ns : List ℕ) → RefsIn R i 0 ns → some_refs R i (length ns) ≡ refs_text ns
unfolding some_refs refs_text
refs_said [] h = refl
refs_said (n ∷ ns) (and_ref h r) = rw (h, commas_said r)

-- A row's line, where the words hold the row and its judgment is of the kind that its rule concludes.
pub row_said : {R C : List ℕ} {i : ℕ} (r : Row) → RowIn R C i r → kind r.judgment ≡ kind_of r.rule → row_line R C i ≡ row_text i r
unfolding refs row_head row_line row_text
row_said {R} {C} {i} r h k =
    let c : min 10 (length r.refs) ≡ length r.refs = min-eq_right h.few in
    rw (h.rule, h.count, c, refs_said r.refs h.refs, ← k, judgment_said r.judgment h.arguments)

-- A call's line, where the words hold its code and its answer.
result_said : {C : List ℕ} {x : ℕ} {c : Code} {r : Result} → ResultIn C x c r → result (code_number c) C x ≡ result_text r
unfolding result result_text
result_said of_context = refl
result_said of_universe = refl
result_said (of_infer h) = quote_said h
result_said of_check = refl
result_said (of_normalise h) = quote_said h
result_said of_equal = refl
result_said (of_head h) = quote_said h

ended_said : (codes A C : List ℕ) (i : ℕ) {c : Code} {n : ℕ} {r : Result} → code codes i ≡ code_number c → answer_word A i 0 ≡ n → Ended C (answer_word A i 2) c n r → call_result codes A C i ≡ result_text r
unfolding call_result result_text
ended_said codes A C i e h (accepted o) = rw (h, call_result, e) (result_said o)
ended_said codes A C i e h refused = rw (h, call_result, eqb-suc-zero, call_result)

call_row_said : (A : List ℕ) (i n row : ℕ) → answer_word A i 0 ≡ n → answer_word A i 1 ≡ row → call_row A i ≡ accepted_row n row
unfolding call_row accepted_row
call_row_said A i zero row h e = rw (h, call_row, e)
call_row_said A i (suc n) row h e = rw (h, call_row, accepted_row, eqb-suc-zero)

pub call_said : {codes A C : List ℕ} {i : ℕ} {c : Code} (a : Answer) → CallIn codes A C i c a → call_line codes A C i ≡ call_text i a
unfolding call_head call_line call_text
call_said {codes} {A} {C} {i} a h =
    rw (ended_said codes A C i h.code h.number h.ended, call_row_said A i a.number a.row h.number h.row, h.number, h.deepest)
