-- The line of a call, over the words of its answer and the calls' codes. Assumes nothing.
use Rattle.std.specs.Prelude.{ℕ, ◌+◌, ◌*◌, true, false, List, ◌++◌, eqb, get_or}
use Rattle.rules.specs.Names.{bytes}
use Rattle.writer.specs.Text.{Text, decimal}
use Rattle.quotes.specs.Quotes.{quote}

-- Of call i: a word of its answer (number, row, result, deepest), and its code.
abbrev pub answer_word : List ℕ → ℕ → ℕ → ℕ
answer_word A i w = get_or A (i * 4 + w) 0

abbrev pub code : List ℕ → ℕ → ℕ
code codes i = get_or codes i 0

-- The row of an accepted call, else -.
unfoldable pub call_row : List ℕ → ℕ → Text
call_row A i = elim (eqb (answer_word A i 0) 0) [ true ↦ decimal (answer_word A i 1) | false ↦ bytes "-" ]

-- The result of an accepted call: a level for code 1, a quote for codes 2, 4 and 7; else -.
unfoldable pub result : ℕ → List ℕ → ℕ → Text
result code C x =
    elim (eqb code 1) [
      | true ↦ decimal x
      | false ↦ elim (eqb code 2) [
        | true ↦ quote C x
        | false ↦ elim (eqb code 4) [ true ↦ quote C x | false ↦ elim (eqb code 7) [ true ↦ quote C x | false ↦ bytes "-" ] ]
      ]
    ]

unfoldable pub call_result : List ℕ → List ℕ → List ℕ → ℕ → Text
call_result codes A C i = elim (eqb (answer_word A i 0) 0) [ true ↦ result (code codes i) C (answer_word A i 2) | false ↦ bytes "-" ]

-- The call, its refusal's number and its row; then its result and its deepest.
unfoldable pub call_head : List ℕ → ℕ → Text
call_head A i = decimal i ++ bytes " " ++ decimal (answer_word A i 0) ++ bytes " " ++ call_row A i

unfoldable pub call_line : List ℕ → List ℕ → List ℕ → ℕ → Text
call_line codes A C i = call_head A i ++ bytes " " ++ call_result codes A C i ++ bytes " " ++ decimal (answer_word A i 3) ++ bytes "\n"
