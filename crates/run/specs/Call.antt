-- One call over the bytes of the run: its row and its result.
use Rattle.std.specs.Prelude.{ℕ, List, eqb}
use Rattle.ast.specs.Words.{up}
use Rattle.producer.specs.Machine.{W, ◌>>=◌, give, when◌then◌else◌, lowest, intern}
use Rattle.producer.specs.Callees.{prepared}
use Rattle.producer.specs.Calls.{callees}
use Rattle.walk.specs.Reader.{c_context, c_universe, c_infer, c_check, c_normalise, c_equal, c_many}
use Rattle.syntax.specs.declared.scan.CallHead.{CallHead}
use Rattle.syntax.specs.Told.{code_number, code_of}
use Rattle.run.specs.declared.call.Head.{Head}
use Rattle.run.specs.Build.{built, scoped}

-- a row with no result, and a result before its row
unfoldable pub row_alone : W ℕ → W (ℕ × ℕ)
row_alone m = m >>= λ row. give (row, 0)

unfoldable pub row_first : W (ℕ × ℕ) → W (ℕ × ℕ)
row_first m = do
  (result, row) ← m
  give (row, result)

-- a result that is a term, as the lowest cell with its quote
unfoldable pub row_quoted : W (ℕ × ℕ) → W (ℕ × ℕ)
row_quoted m = do
  (result, row) ← m
  lowest result λ low. give (row, low)

-- equal: two sides are made, the type is still to come
unfoldable pub with_sides : ℕ → List ℕ → (at d g a b : ℕ) → W (ℕ × ℕ)
with_sides left bytes at d g a b = do
  (ty, _) ← built 33 bytes at
  row_alone ((callees left).equal d g a b ty)

-- check, normalise, equal, or normalise at heads too: the first term is made
unfoldable pub with_term : ℕ → List ℕ → (at code d g t : ℕ) → W (ℕ × ℕ)
with_term left bytes at code d g t = do
  (u, next) ← built 33 bytes at
  when eqb code (code_number c_check) then row_alone ((callees left).check d g t u)
      else
      (when eqb code (code_number c_normalise) then row_quoted ((callees left).normalize d g t u)
      else
      (when eqb code (code_number c_equal) then with_sides left bytes next d g t u
      else row_quoted ((callees left).head_normalize d g t u)))

-- the function of a code, whose terms start at an offset; of a call with many types, the one that is checked stands at another
unfoldable pub by_code : ℕ → List ℕ → (at ty code d g : ℕ) → W (ℕ × ℕ)
by_code left bytes at ty code d g =
    when eqb code (code_number c_context) then row_alone ((callees left).ctx d g)
    else (do
      (t, next) ← built 33 bytes at
      when eqb code (code_number c_universe) then row_first ((callees left).universe d g t)
          else
          (when eqb code (code_number c_infer) then row_quoted ((callees left).infer d g t)
          else
          (when eqb code (code_number c_many) then with_term left bytes ty (code_number c_check) d g t
          else with_term left bytes next code d g t)))

-- the function is entered, then its arguments are made: the context first, whose types start at an offset
unfoldable pub with_scope : ℕ → List ℕ → (at ty code dims size : ℕ) → W (ℕ × ℕ)
with_scope left bytes at ty code dims size = do
  nil ← prepared (callees left) (intern 32 0 0 0)
  (g, terms) ← scoped size bytes at nil
  by_code left bytes terms ty code dims g

unfoldable pub with_context : ℕ → List ℕ → (at ty : ℕ) → Head → W (ℕ × ℕ)
with_context left bytes at ty head = with_scope left bytes at ty head.code head.dims head.size

-- the call at an offset, which has this head, whose first byte may be no code; the whole limit is left
unfoldable pub called : List ℕ → (at ty : ℕ) → Head → W (ℕ × ℕ)
called bytes at ty head = λ w. with_context w.state.limit bytes (up (up (up at))) ty head w

-- the bytes of a head that was read
abbrev pub head_bytes : CallHead → Head
head_bytes head = record { code = code_number (code_of head.code); dims = head.dims; size = head.size }
