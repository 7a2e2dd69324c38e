-- What is sent becomes cells, over the bytes of the run: parts first, the left one first. A term is the number of its cell.
use Rattle.std.specs.Prelude.{ℕ, zero, suc, List, eqb, get_or, Option, Some, None}
use Rattle.walk.specs.Refusal as Refusal
use Rattle.ast.specs.Words.{ifb, up}
use Rattle.run.specs.declared.build.Follows.{Follows}
use Rattle.run.specs.declared.build.Follows.TheVariants.{Nothing, Number, One, Two, Three}
use Rattle.producer.specs.Machine.{W, ◌>>=◌, give, stop, when◌then◌else◌, intern}

abbrev pub byte_at : List ℕ → ℕ → ℕ
byte_at bytes i = get_or bytes i 0

-- what follows a kind's byte: 1 nothing, 2 a number, 3 one part, 4 two parts, 5 three parts; 0 for no kind
unfoldable pub parts_of : ℕ → ℕ
-- written by tools/written.py: what follows a kind
parts_of k = ifb (eqb k 1) 2 (ifb (eqb k 2) 2 (ifb (eqb k 3) 1 (ifb (eqb k 4) 1 (ifb (eqb k 5) 4 (ifb (eqb k 6) 4 (ifb (eqb k 7) 4 (ifb (eqb k 8) 5 (ifb (eqb k 9) 4 (ifb (eqb k 10) 4 (ifb (eqb k 11) 4 (ifb (eqb k 12) 5 (ifb (eqb k 13) 3 (ifb (eqb k 14) 3 (ifb (eqb k 16) 1 (ifb (eqb k 17) 1 (ifb (eqb k 18) 2 (ifb (eqb k 19) 3 (ifb (eqb k 20) 4 (ifb (eqb k 21) 4 0)))))))))))))))))))

-- end of what follows a kind

-- the numbers of the program's answers to that
abbrev pub number_of : Follows → ℕ
number_of Nothing = 1
number_of Number = 2
number_of One = 3
number_of Two = 4
number_of Three = 5

unfoldable pub follows_number : Option Follows → ℕ
follows_number None = 0
follows_number (Some f) = number_of f

-- a cell with the offset past its bytes
unfoldable pub made : ℕ → W ℕ → W (ℕ × ℕ)
made next make = make >>= λ cell. give (cell, next)

abbrev pub Builder : Type 0
Builder = ℕ → W (ℕ × ℕ)

unfoldable pub built_one : Builder → (at kind : ℕ) → W (ℕ × ℕ)
built_one B at kind = do
  (a, next) ← B at
  made next (intern kind a 0 0)

unfoldable pub built_two : Builder → (at kind : ℕ) → W (ℕ × ℕ)
built_two B at kind = do
  (a, next₁) ← B at
  (b, next₂) ← B next₁
  made next₂ (intern kind a b 0)

unfoldable pub built_three : Builder → (at kind : ℕ) → W (ℕ × ℕ)
built_three B at kind = do
  (a, next₁) ← B at
  (b, next₂) ← B next₁
  (c, next₃) ← B next₂
  made next₃ (intern kind a b c)

-- the term or interval at an offset, over what builds its parts; a byte that is no kind stops with 3
unfoldable pub built_body : List ℕ → Builder → Builder
built_body bytes B at =
    when eqb (parts_of (byte_at bytes at)) 1 then made (up at) (intern (byte_at bytes at) 0 0 0)
    else
    (when eqb (parts_of (byte_at bytes at)) 2 then made (up (up at)) (intern (byte_at bytes at) (byte_at bytes (up at)) 0 0)
    else
    (when eqb (parts_of (byte_at bytes at)) 3 then built_one B (up at) (byte_at bytes at)
    else
    (when eqb (parts_of (byte_at bytes at)) 4 then built_two B (up at) (byte_at bytes at)
    else
    (when eqb (parts_of (byte_at bytes at)) 5 then built_three B (up at) (byte_at bytes at)
    else stop Refusal.unread))))

-- with `left` levels of depth allowed
unfoldable pub built : ℕ → List ℕ → Builder
built zero bytes at = stop Refusal.unread
built (suc left) bytes at = built_body bytes (built left bytes) at

-- a context g with `left` more types, which start at an offset; the limits let terms nest 33 deep
unfoldable pub scoped_body : List ℕ → (ℕ → ℕ → W (ℕ × ℕ)) → (at g : ℕ) → W (ℕ × ℕ)
scoped_body bytes S at g = do
  (a, next) ← built 33 bytes at
  h ← intern 33 a g 0
  S next h

unfoldable pub scoped : ℕ → List ℕ → (at g : ℕ) → W (ℕ × ℕ)
scoped zero bytes at g = give (g, at)
scoped (suc left) bytes at g = scoped_body bytes (scoped left bytes) at g
