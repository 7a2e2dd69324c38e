-- A row's words, as the contract has them, hold the row, so the rows' lines are those of the table. Assumes nothing.
use Rattle.std.specs.Prelude.{ℕ, zero, suc, ◌+◌, ◌<◌, ◌≤◌, ◌≡◌, refl, List, [], ◌∷◌, ◌++◌, length, get_or}
use Rattle.std.proofs.Common.{ap, sym, ◌∙◌, subst, append_assoc, append-nil, arith, add-zero, zero-add, lit≤}
use Rattle.std.proofs.Math.Option.{some}
use Rattle.walk.specs.Judgment.{Judgment, Argument, number, of_interval, of_quote, of_context, arguments}
use Rattle.walk.specs.Judgment as J
use Rattle.walk.specs.State.{Row, Thing}
use Rattle.walk.specs.Demand.{RowAt, newest, older, Cites, none_cited, ◌also◌, DerivationOrder}
use Rattle.schemas.proofs.Concludes.{concludes, few_premises}
use Rattle.link.proofs.Things.{is_low}
use Rattle.link.specs.Table.{interval_at, quote_at, context_at, CellsWords, argument_word, RowWords}
use Rattle.link.proofs.Back.{interval_read, quote_read, context_read}
use Rattle.writer.specs.Text.{Text, each}
use Rattle.quotes.specs.Judgments.{row_word}
use Rattle.lines.specs.Rows.{row_line}
use Rattle.listed.specs.Said.{ArgumentWord, word_number, word_term, word_interval, word_context, ArgumentsIn, no_more, and_then, RefsIn, no_refs, and_ref, RowIn, row_text}
use Rattle.listed.proofs.Agrees.{row_said}
use Rattle.listed.specs.Cells.{lowered, some_is, interval_cell, quote_cell, context_cell}
use Rattle.listed.specs.Listed.{row_lines}

pub next : (k m : ℕ) → k + suc m ≡ suc k + m
next k m = omega arith

at_most_five : (j : Judgment) → length (arguments j) ≤ 5
-- written by tools/written.py: numbers of arguments
at_most_five (J.ctx d g) = lit≤ tt
at_most_five (J.dshiftctx g k h) = lit≤ tt
at_most_five (J.lookup g n A) = lit≤ tt
at_most_five (J.lt m n) = lit≤ tt
at_most_five (J.le m n) = lit≤ tt
at_most_five (J.max m n k) = lit≤ tt
at_most_five (J.interval d r) = lit≤ tt
at_most_five (J.ishift r k r') = lit≤ tt
at_most_five (J.isubst r k s r') = lit≤ tt
at_most_five (J.shift t k t') = lit≤ tt
at_most_five (J.subst t k s t') = lit≤ tt
at_most_five (J.dshift t k t') = lit≤ tt
at_most_five (J.dsubst t k r t') = lit≤ tt
at_most_five (J.has d g t A) = lit≤ tt
at_most_five (J.eq d g a b A) = lit≤ tt
at_most_five (J.iend r e) = lit≤ tt

-- end of numbers of arguments

module _ {xs : List Thing} {C : List ℕ} (cs : CellsWords xs C) where
  stands : (w : ℕ) (a : Argument) → some w ≡ argument_word xs a → ArgumentWord C w a
  stands w (number m) e = rw (some_is e) word_number
  stands w (of_interval r) e = word_interval (interval_cell (length xs) C w r (lowered (length xs) (interval_at (length xs) C) w (interval_read cs (is_low e))).is)
  stands w (of_quote t) e = word_term (quote_cell (length xs) C w t (lowered (length xs) (quote_at (length xs) C) w (quote_read cs (is_low e))).is)
  stands w (of_context g) e = word_context (context_cell (length xs) C w g (lowered (length xs) (context_at (length xs) C) w (context_read cs (is_low e))).is)

-- a row that cites has as many premises

cited_many : {rows : List Row} {refs : List ℕ} {js : List Judgment} → Cites rows refs js → length refs ≡ length js
cited_many none_cited = refl
cited_many (at also c) = ap suc (cited_many c)

few_refs : {rows : List Row} → DerivationOrder rows → (i : ℕ) (r : Row) → RowAt i r rows → length r.refs ≤ 10
few_refs o i r at = let f = o.follows i r at in rw (cited_many f.cited) (few_premises f.follows)

module _ {xs : List Thing} {C : List ℕ} (cs : CellsWords xs C) (R : List ℕ) (i : ℕ) where
  -- place k and those after it
  arguments_in : (k : ℕ) (as' : List Argument) → ((m : ℕ) → m < length as' → some (row_word R i (13 + (k + m))) ≡ argument_word xs (get_or as' m (number 0))) → ArgumentsIn R C i k as'
  arguments_in k [] h = no_more
  arguments_in k (a ∷ as') h =
      and_then (stands cs _ a (subst (λ (p : ℕ). some (row_word R i (13 + p)) ≡ argument_word xs a) (add-zero k) (h 0 (omega arith))))
      (arguments_in (suc k) as' (λ m l. subst (λ (p : ℕ). some (row_word R i (13 + p)) ≡ argument_word xs (get_or as' m (number 0))) (next k m) (h (suc m) (omega arith))))

  refs_in : (k : ℕ) (refs : List ℕ) → ((m : ℕ) → m < length refs → row_word R i (2 + (k + m)) ≡ get_or refs m 0) → RefsIn R i k refs
  refs_in k [] h = no_refs
  refs_in k (x ∷ refs) h =
      and_ref (subst (λ (p : ℕ). row_word R i (2 + p) ≡ x) (add-zero k) (h 0 (omega arith)))
      (refs_in (suc k) refs (λ m l. subst (λ (p : ℕ). row_word R i (2 + p) ≡ get_or refs m 0) (next k m) (h (suc m) (omega arith))))

  row_in : (r : Row) → length r.refs ≤ 10 → RowWords xs R i r → RowIn R C i r
  row_in r few h =
      let five = at_most_five r.judgment in
      record {
        rule = h.rule;
        count = h.cited;
        few = few;
        refs = refs_in 0 r.refs (λ m l. rw zero-add (h.places m (omega arith)));
        arguments = arguments_in 0 (arguments r.judgment) (λ m l. rw zero-add (h.judgment m (omega arith)));
      }

  row_is : {rows : List Row} → DerivationOrder rows → (r : Row) → RowAt i r rows → RowWords xs R i r → row_line R C i ≡ row_text i r
  row_is o r at h = row_said r (row_in r (few_refs o i r at) h) (concludes (o.follows i r at).follows)

-- all rows, the oldest first

each_last : (f : ℕ → Text) (k n : ℕ) → each f k (suc n) ≡ each f k n ++ f (k + n)
unfolding each
each_last f k zero = append-nil (f k) ∙ ap f (sym (add-zero k))
each_last f k (suc n) = ap (λ (t : Text). f k ++ t) (each_last f (suc k) n) ∙ sym (append_assoc (f k) (each f (suc k) n) (f (suc k + n))) ∙ ap (λ (m : ℕ). f k ++ each f (suc k) n ++ f m) (sym (next k n))

lines : (f : ℕ → Text) (rows : List Row) → ((i : ℕ) (r : Row) → RowAt i r rows → f i ≡ row_text i r) → each f 0 (length rows) ≡ row_lines rows
unfolding each row_lines
lines f [] h = refl
lines f (r ∷ rows) h =
    each_last f 0 (length rows) ∙
    ap (λ (t : Text). t ++ f (0 + length rows)) (lines f rows (λ i r at. h i r (older at))) ∙
    ap (λ (t : Text). row_lines rows ++ t) (ap f (zero-add (length rows)) ∙ h (length rows) r (newest refl))

pub rows_said : {xs : List Thing} {C : List ℕ} → CellsWords xs C → (R : List ℕ) (rows : List Row) → DerivationOrder rows → ((i : ℕ) (r : Row) → RowAt i r rows → RowWords xs R i r) → each (row_line R C) 0 (length rows) ≡ row_lines rows
rows_said {C = C} cs R rows o h = lines (row_line R C) rows (λ i r at. row_is cs R i o r at (h i r at))
