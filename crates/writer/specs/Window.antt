-- What it is to write a text through a window: the bytes before it are skipped, then the buffer is filled, and the rest is counted.
-- It is counted no further than is asked, so a text may be as long as it likes. Assumes nothing.
use Rattle.std.specs.Prelude.{ℕ, ◌+◌, ◌-◌, min, ◌≡◌, Bool, true, false, ◌&&◌, List, [], ◌∷◌, ◌++◌, ltb, leb, eqb, length, take, drop, set}
use Rattle.std.specs.Borrow.{MutBor}
use Rattle.writer.specs.Text.{Text}
use Rattle.writer.specs.declared.Writer.{Writer}
use Rattle.writer.specs.declared.Output.{Output}

-- A writer: how many bytes are still to be skipped, how many of the buffer are filled, how many did not fit, and up to which number
-- those are counted. An output is a writer with the buffer.
abbrev pub writer : ℕ → ℕ → ℕ → ℕ → Writer
writer skip filled left most = record { skip = skip; filled = filled; left = left; most = most }

-- An output that has written nothing, for the window of the buffer that starts at `from`.
abbrev pub start : ℕ → ℕ → MutBor (List ℕ) → Output
start from most buf = record { writer = writer from 0 0 most; buf = buf }

-- One byte: skipped where bytes are to be skipped; else stored where the buffer has space; else counted.
unfoldable pub put : ℕ → Output → Output
put b o =
    elim (eqb o.writer.skip 0) [
      | true ↦ elim (ltb o.writer.filled (length o.buf.now)) [
        | true ↦ record { writer = record o.writer { filled = o.writer.filled + 1 }; buf = record o.buf { now = set o.buf.now o.writer.filled b } }
        | false ↦ elim (ltb o.writer.left o.writer.most) [
          | true ↦ record o { writer = record o.writer { left = o.writer.left + 1 } }
          | false ↦ o
        ]
      ]
      | false ↦ record o { writer = record o.writer { skip = o.writer.skip - 1 } }
    ]

-- Nothing is to be skipped, the buffer is full, and all that is to be counted is counted.
unfoldable pub ended_in : Writer → List ℕ → Bool
ended_in w buf = eqb w.skip 0 && (leb (length buf) w.filled && leb w.most w.left)

unfoldable pub ended : Output → Bool
ended o = ended_in o.writer o.buf.now

-- A text, byte by byte.
unfoldable pub written : Text → Output → Output
written [] o = o
written (b ∷ t) o = written t (put b o)

-- The part of a text from `from` on, as far as the buffer goes: so many bytes, so many left after them (counted up to `most`), and what
-- the buffer then holds.
pub record Shown (t : Text) (from most : ℕ) (buf : List ℕ) (shown left : ℕ) (after : List ℕ) : Type 0 where
  pub counted : shown ≡ min (length buf) (length t - from)
  pub rest : left ≡ min most (length t - from - length buf)
  pub held : after ≡ take (length buf) (drop from t) ++ drop shown buf
