-- The machine over words, and its steps: what a method of `State` is proved equal to. A term is the number of its cell.
-- A row: 24 words as docs/FORMAT.md has them; the number of its call is left 0 here, the next is the judgment's kind, the last four are
-- the index's. Assumes nothing.
use Rattle.std.specs.Prelude.{ℕ, ◌+◌, ◌*◌, ◌-◌, ◌%◌, ◌/◌, Bool, true, false, List, [], ◌∷◌, get_or, ltb, eqb, Some, None}
use Rattle.std.proofs.Math.Option.{Option, none, some}
use Rattle.std.proofs.lemmas.List.Edits.{sets}
use Rattle.walk.specs.Refusal as Refusal
use Rattle.ast.specs.Words.{ifb, up, greater_of, all_eq}
use Rattle.ast.specs.Cells.{Found, cell_of, quote_of, same_quote_of, shape_of}
use Rattle.ast.specs.Index.{last_on, linked, mixed, hash_4}
use Rattle.ast.specs.Nodes.{Recalled, find_node, lowest_of, link_cell, recall_of}
use Rattle.ast.specs.declared.cells.Cell.{Cell}
use Rattle.ast.specs.declared.cells.Shape.{Shape}
use Rattle.ast.specs.declared.cells.Shape.TheVariants.{Universe, Pi, Lam, Path, Plam, Sigma, Pair, Other}
use Rattle.producer.specs.declared.State.{State}
use Rattle.producer.specs.declared.rows.Refs.{Refs}
use Rattle.producer.specs.declared.transforms.Op.{Op}

-- the words of both slices, and the counts
pub record Machine : Type 0 where
  pub rows : List ℕ
  pub cells : List ℕ
  pub state : State

abbrev pub machine : List ℕ → List ℕ → State → Machine
machine R C s = record { rows = R; cells = C; state = s }

-- no rows, cells or memory, with a nesting limit and room for so many rows and cells
abbrev pub new_state : (limit rowroom cellroom : ℕ) → State
new_state limit rowroom cellroom = record { rows = 0; cells = 0; conversions = 0; deepest = 0; limit = limit; rowroom = rowroom; cellroom = cellroom }

-- deepest starts from 0 in each call
abbrev pub fresh : State → State
fresh s = record { rows = s.rows; cells = s.cells; conversions = s.conversions; deepest = 0; limit = s.limit; rowroom = s.rowroom; cellroom = s.cellroom }

-- what a step ends in
pub data Result (A : Type 0) : Type 0 where
  is : A → Machine → Result A
  not : ℕ → Machine → Result A

abbrev pub W : Type 0 → Type 0
W A = Machine → Result A

unfoldable pub next : {A B : Type 0} → Result A → (A → W B) → Result B
next (is a w) f = f a w
next (not n w) f = not n w

infixl 20 ◌>>=◌
unfoldable pub ◌>>=◌ : {A B : Type 0} → W A → (A → W B) → W B
◌>>=◌ m f = λ w. next (m w) f

unfoldable pub give : {A : Type 0} → A → W A
give a = λ w. is a w

unfoldable pub stop : {A : Type 0} → ℕ → W A
stop n = λ w. not n w

infix 10 when◌then◌else◌
unfoldable pub when◌then◌else◌ : {A : Type 0} → Bool → W A → W A → W A
when◌then◌else◌ true x y = x
when◌then◌else◌ false x y = y

-- something with a row, or none
unfoldable pub on_maybe : {A B : Type 0} → Option (B × ℕ) → (B → ℕ → W A) → W A → W A
on_maybe (some p) f z = f p.0 p.1
on_maybe none f z = z

-- a step of `reduce`: the term, its type, and the row of the equation
pub record Reduction : Type 0 where
  pub term : ℕ
  pub type : ℕ
  pub row : ℕ

-- what `infer` finds for a term: its type, and the rows and the rule by which it has it
pub record Finding : Type 0 where
  pub type : ℕ
  pub refs : Refs
  pub rule : ℕ

-- cells

-- the kind and the parts of a cell, with the lowest cell of its quote
unfoldable pub open_cell : {A : Type 0} → ℕ → (Cell → W A) → W A
open_cell i f = λ w. f (cell_of w.cells i) w

-- the lowest cell with the quote of a cell
unfoldable pub lowest : {A : Type 0} → ℕ → (ℕ → W A) → W A
lowest i f = λ w. f (quote_of w.cells i) w

-- two cells with one quote
unfoldable pub same_quote : {A : Type 0} → ℕ → ℕ → W A → W A → W A
same_quote i j x y = λ w. (when same_quote_of w.cells i j then x else y) w

-- a cell of one kind

-- written by tools/written.py: shapes
unfoldable pub on_universe : {A : Type 0} → Shape → (ℕ → W A) → W A → W A
on_universe (Universe n) f z = f n
on_universe (Pi a b) f z = z
on_universe (Lam a b) f z = z
on_universe (Path a b c) f z = z
on_universe (Plam a b) f z = z
on_universe (Sigma a b) f z = z
on_universe (Pair a b c) f z = z
on_universe Other f z = z

unfoldable pub on_pi : {A : Type 0} → Shape → (ℕ → ℕ → W A) → W A → W A
on_pi (Universe n) f z = z
on_pi (Pi a b) f z = f a b
on_pi (Lam a b) f z = z
on_pi (Path a b c) f z = z
on_pi (Plam a b) f z = z
on_pi (Sigma a b) f z = z
on_pi (Pair a b c) f z = z
on_pi Other f z = z

unfoldable pub on_lam : {A : Type 0} → Shape → (ℕ → ℕ → W A) → W A → W A
on_lam (Universe n) f z = z
on_lam (Pi a b) f z = z
on_lam (Lam a b) f z = f a b
on_lam (Path a b c) f z = z
on_lam (Plam a b) f z = z
on_lam (Sigma a b) f z = z
on_lam (Pair a b c) f z = z
on_lam Other f z = z

unfoldable pub on_path : {A : Type 0} → Shape → (ℕ → ℕ → ℕ → W A) → W A → W A
on_path (Universe n) f z = z
on_path (Pi a b) f z = z
on_path (Lam a b) f z = z
on_path (Path a b c) f z = f a b c
on_path (Plam a b) f z = z
on_path (Sigma a b) f z = z
on_path (Pair a b c) f z = z
on_path Other f z = z

unfoldable pub on_plam : {A : Type 0} → Shape → (ℕ → ℕ → W A) → W A → W A
on_plam (Universe n) f z = z
on_plam (Pi a b) f z = z
on_plam (Lam a b) f z = z
on_plam (Path a b c) f z = z
on_plam (Plam a b) f z = f a b
on_plam (Sigma a b) f z = z
on_plam (Pair a b c) f z = z
on_plam Other f z = z

unfoldable pub on_sigma : {A : Type 0} → Shape → (ℕ → ℕ → W A) → W A → W A
on_sigma (Universe n) f z = z
on_sigma (Pi a b) f z = z
on_sigma (Lam a b) f z = z
on_sigma (Path a b c) f z = z
on_sigma (Plam a b) f z = z
on_sigma (Sigma a b) f z = f a b
on_sigma (Pair a b c) f z = z
on_sigma Other f z = z

unfoldable pub on_pair : {A : Type 0} → Shape → (ℕ → ℕ → ℕ → W A) → W A → W A
on_pair (Universe n) f z = z
on_pair (Pi a b) f z = z
on_pair (Lam a b) f z = z
on_pair (Path a b c) f z = z
on_pair (Plam a b) f z = z
on_pair (Sigma a b) f z = z
on_pair (Pair a b c) f z = f a b c
on_pair Other f z = z

unfoldable pub at_universe : {A : Type 0} → ℕ → (ℕ → W A) → W A → W A
at_universe i f z = λ w. on_universe (shape_of w.cells i) f z w

unfoldable pub at_pi : {A : Type 0} → ℕ → (ℕ → ℕ → W A) → W A → W A
at_pi i f z = λ w. on_pi (shape_of w.cells i) f z w

unfoldable pub at_lam : {A : Type 0} → ℕ → (ℕ → ℕ → W A) → W A → W A
at_lam i f z = λ w. on_lam (shape_of w.cells i) f z w

unfoldable pub at_path : {A : Type 0} → ℕ → (ℕ → ℕ → ℕ → W A) → W A → W A
at_path i f z = λ w. on_path (shape_of w.cells i) f z w

unfoldable pub at_plam : {A : Type 0} → ℕ → (ℕ → ℕ → W A) → W A → W A
at_plam i f z = λ w. on_plam (shape_of w.cells i) f z w

unfoldable pub at_sigma : {A : Type 0} → ℕ → (ℕ → ℕ → W A) → W A → W A
at_sigma i f z = λ w. on_sigma (shape_of w.cells i) f z w

unfoldable pub at_pair : {A : Type 0} → ℕ → (ℕ → ℕ → ℕ → W A) → W A → W A
at_pair i f z = λ w. on_pair (shape_of w.cells i) f z w

-- end of shapes

abbrev pub one_more_cell : State → State
one_more_cell s = record { rows = s.rows; cells = s.cells + 1; conversions = s.conversions; deepest = s.deepest; limit = s.limit; rowroom = s.rowroom; cellroom = s.cellroom }

-- the cell that comes is linked, then stored
unfoldable pub add_cell : List ℕ → Machine → Machine
add_cell ws w = machine w.rows (sets (link_cell w.cells w.state.cells (get_or ws 0 0) (get_or ws 1 0) (get_or ws 2 0) (get_or ws 3 0)) (w.state.cells * 8) ws) (one_more_cell w.state)

unfoldable pub new_cell : (k a b c : ℕ) → W ℕ
new_cell k a b c = λ w.
    ifb (ltb w.state.cells w.state.cellroom)
    (is w.state.cells (add_cell (k ∷ a ∷ b ∷ c ∷ lowest_of w.cells w.state.cells k a b c ∷ 0 ∷ 0 ∷ 0 ∷ []) w))
    (not Refusal.cells w)

-- what is found, or else what follows
unfoldable pub known_or : Found → W ℕ → W ℕ
known_or (Some n) m = give n
known_or None m = m

-- the cell with a kind and parts
unfoldable pub intern : (k a b c : ℕ) → W ℕ
intern k a b c = λ w. known_or (find_node w.cells w.state.cells k a b c) (new_cell k a b c) w

-- written by tools/written.py: cells of each kind
abbrev pub make_universe : ℕ → W ℕ
make_universe n = intern 1 n 0 0

abbrev pub make_var : ℕ → W ℕ
make_var n = intern 2 n 0 0

abbrev pub make_nat : W ℕ
make_nat = intern 3 0 0 0

abbrev pub make_zero : W ℕ
make_zero = intern 4 0 0 0

abbrev pub make_pi : ℕ → ℕ → W ℕ
make_pi a b = intern 5 a b 0

abbrev pub make_lam : ℕ → ℕ → W ℕ
make_lam a b = intern 6 a b 0

abbrev pub make_app : ℕ → ℕ → W ℕ
make_app a b = intern 7 a b 0

abbrev pub make_path : ℕ → ℕ → ℕ → W ℕ
make_path a b c = intern 8 a b c

abbrev pub make_plam : ℕ → ℕ → W ℕ
make_plam a b = intern 9 a b 0

abbrev pub make_papp : ℕ → ℕ → W ℕ
make_papp a b = intern 10 a b 0

abbrev pub make_sigma : ℕ → ℕ → W ℕ
make_sigma a b = intern 11 a b 0

abbrev pub make_pair : ℕ → ℕ → ℕ → W ℕ
make_pair a b c = intern 12 a b c

abbrev pub make_fst : ℕ → W ℕ
make_fst a = intern 13 a 0 0

abbrev pub make_snd : ℕ → W ℕ
make_snd a = intern 14 a 0 0

abbrev pub make_i0 : W ℕ
make_i0 = intern 16 0 0 0

abbrev pub make_i1 : W ℕ
make_i1 = intern 17 0 0 0

abbrev pub make_dim : ℕ → W ℕ
make_dim n = intern 18 n 0 0

abbrev pub make_neg : ℕ → W ℕ
make_neg a = intern 19 a 0 0

abbrev pub make_meet : ℕ → ℕ → W ℕ
make_meet a b = intern 20 a b 0

abbrev pub make_join : ℕ → ℕ → W ℕ
make_join a b = intern 21 a b 0

abbrev pub make_nil : W ℕ
make_nil = intern 32 0 0 0

abbrev pub make_cons : ℕ → ℕ → W ℕ
make_cons a b = intern 33 a b 0

-- end of cells of each kind

-- rows

-- the rows that a row cites

unfoldable pub no_refs : Refs
no_refs = record { count = 0; rows = 0 ∷ 0 ∷ 0 ∷ 0 ∷ 0 ∷ 0 ∷ 0 ∷ 0 ∷ 0 ∷ 0 ∷ [] }

-- the row in a place
abbrev pub cited : Refs → ℕ → ℕ
cited l n = get_or l.rows n 0

unfoldable pub cons_refs : ℕ → Refs → Refs
cons_refs x l = record { count = up l.count; rows = x ∷ cited l 0 ∷ cited l 1 ∷ cited l 2 ∷ cited l 3 ∷ cited l 4 ∷ cited l 5 ∷ cited l 6 ∷ cited l 7 ∷ cited l 8 ∷ [] }

unfoldable pub refs_of : List ℕ → Refs
refs_of [] = no_refs
refs_of (x ∷ l) = cons_refs x (refs_of l)

-- the first row of the one, where it has any, before the other
unfoldable pub join_refs : Refs → Refs → Refs
join_refs k l = ifb (eqb k.count 0) l (cons_refs (cited k 0) l)

unfoldable pub refs_1 : ℕ → Refs
refs_1 x = cons_refs x no_refs

unfoldable pub refs_2 : (x y : ℕ) → Refs
refs_2 x y = cons_refs x (refs_1 y)

unfoldable pub refs_3 : (x y z : ℕ) → Refs
refs_3 x y z = cons_refs x (refs_2 y z)

unfoldable pub refs_4 : (x y z u : ℕ) → Refs
refs_4 x y z u = cons_refs x (refs_3 y z u)

unfoldable pub refs_5 : (x y z u v : ℕ) → Refs
refs_5 x y z u v = cons_refs x (refs_4 y z u v)

unfoldable pub refs_6 : (x₀ x₁ x₂ x₃ x₄ x₅ : ℕ) → Refs
refs_6 x₀ x₁ x₂ x₃ x₄ x₅ = cons_refs x₀ (refs_5 x₁ x₂ x₃ x₄ x₅)

unfoldable pub refs_7 : (x₀ x₁ x₂ x₃ x₄ x₅ x₆ : ℕ) → Refs
refs_7 x₀ x₁ x₂ x₃ x₄ x₅ x₆ = cons_refs x₀ (refs_6 x₁ x₂ x₃ x₄ x₅ x₆)

unfoldable pub refs_10 : (x₀ x₁ x₂ x₃ x₄ x₅ x₆ x₇ x₈ x₉ : ℕ) → Refs
refs_10 x₀ x₁ x₂ x₃ x₄ x₅ x₆ x₇ x₈ x₉ = cons_refs x₀ (cons_refs x₁ (cons_refs x₂ (refs_7 x₃ x₄ x₅ x₆ x₇ x₈ x₉)))

abbrev pub row_block : ℕ → Refs → (kind count a b c d e : ℕ) → List ℕ
row_block rule l kind count a b c d e = rule ∷ l.count ∷ cited l 0 ∷ cited l 1 ∷ cited l 2 ∷ cited l 3 ∷ cited l 4 ∷ cited l 5 ∷ cited l 6 ∷ cited l 7 ∷ cited l 8 ∷ cited l 9 ∷ count ∷ a ∷ b ∷ c ∷ d ∷ e ∷ 0 ∷ kind ∷ 0 ∷ 0 ∷ 0 ∷ 0 ∷ []

abbrev pub row_word : ℕ → ℕ → List ℕ → ℕ
row_word i k R = get_or R (i * 24 + k) 0

-- the same kind and arguments
unfoldable pub same_row : List ℕ → (kind a b c d e i : ℕ) → Bool
same_row R kind a b c d e i = ifb (all_eq (row_word i 19 R) (row_word i 13 R) (row_word i 14 R) (row_word i 15 R) kind a b c) (ifb (eqb (row_word i 16 R) d) (eqb (row_word i 17 R) e) false) false

abbrev pub one_more_row : State → State
one_more_row s = record { rows = s.rows + 1; cells = s.cells; conversions = s.conversions; deepest = s.deepest; limit = s.limit; rowroom = s.rowroom; cellroom = s.cellroom }

-- the index of the rows: four children of a row stand in its last words, and it lies on the path of its judgment's hash
unfoldable pub row_slot : (i h : ℕ) → ℕ
row_slot i h = i * 24 + 20 + h % 4

unfoldable pub quarter : ℕ → ℕ
quarter h = h / 4

unfoldable pub row_hash : (kind a b c d e : ℕ) → ℕ
row_hash kind a b c d e = mixed (mixed (hash_4 kind a b c) d) e

-- the last row with the kind and the arguments
unfoldable pub find_row : List ℕ → (n kind a b c d e : ℕ) → Found
find_row R n kind a b c d e = last_on row_slot quarter R n (same_row R kind a b c d e) 0 (row_hash kind a b c d e)

unfoldable pub link_row : List ℕ → (n kind a b c d e : ℕ) → List ℕ
link_row R n kind a b c d e = linked row_slot quarter R n (row_hash kind a b c d e)

-- the row that comes is linked, then stored
unfoldable pub add_row : List ℕ → Machine → Machine
add_row ws w = machine (sets (link_row w.rows w.state.rows (get_or ws 19 0) (get_or ws 13 0) (get_or ws 14 0) (get_or ws 15 0) (get_or ws 16 0) (get_or ws 17 0)) (w.state.rows * 24) ws) w.cells (one_more_row w.state)

unfoldable pub new_row : List ℕ → W ℕ
new_row ws = λ w. ifb (ltb w.state.rows w.state.rowroom) (is w.state.rows (add_row ws w)) (not Refusal.rows w)

-- a known judgment answers its row: the last with it
unfoldable pub known_row : (kind a b c d e : ℕ) → W ℕ → W ℕ
known_row kind a b c d e m = λ w. known_or (find_row w.rows w.state.rows kind a b c d e) m w

unfoldable pub emit : ℕ → Refs → (kind count a b c d e : ℕ) → W ℕ
emit rule l kind count a b c d e = known_row kind a b c d e (new_row (row_block rule l kind count a b c d e))

unfoldable pub emit_has : ℕ → Refs → (d g t ty : ℕ) → W ℕ
emit_has rule l d g t ty = lowest g λ g'. lowest t λ t'. lowest ty λ y'. emit rule l 13 4 d g' t' y' 0

unfoldable pub emit_eq : ℕ → Refs → (d g a b ty : ℕ) → W ℕ
emit_eq rule l d g a b ty = lowest g λ g'. lowest a λ a'. lowest b λ b'. lowest ty λ y'. emit rule l 14 5 d g' a' b' y'

-- memory

unfoldable pub recalled_or : Recalled → W (ℕ × ℕ) → W (ℕ × ℕ)
recalled_or (Some known) m = give known
recalled_or None m = m

unfoldable pub recall_or : (d g t : ℕ) → W (ℕ × ℕ) → W (ℕ × ℕ)
recall_or d g t m = λ w. recalled_or (recall_of w.cells w.state.cells d g t) m w

-- the type and the row of a remembered inference are written over
unfoldable pub replace : (n type row : ℕ) → Machine → Machine
replace n type row w = machine w.rows (sets w.cells (n * 8 + 4) (type ∷ row ∷ [])) w.state

unfoldable pub remembered_or : Found → (type row : ℕ) → W (Unit {0}) → W (Unit {0})
remembered_or (Some n) type row m = λ w. is tt (replace n type row w)
remembered_or None type row m = m

unfoldable pub new_memory : List ℕ → W (Unit {0})
new_memory ws = λ w. ifb (ltb w.state.cells w.state.cellroom) (is tt (add_cell ws w)) (not Refusal.cells w)

unfoldable pub remember : (d g t type row : ℕ) → W (Unit {0})
remember d g t type row = λ w. remembered_or (find_node w.cells w.state.cells 40 d g t) type row (new_memory (40 ∷ d ∷ g ∷ t ∷ type ∷ row ∷ 0 ∷ 0 ∷ [])) w

-- conversions

unfoldable pub conversions_of : ℕ → State → State
conversions_of n s = record { rows = s.rows; cells = s.cells; conversions = n; deepest = s.deepest; limit = s.limit; rowroom = s.rowroom; cellroom = s.cellroom }

abbrev pub with_conversions : ℕ → Machine → Machine
with_conversions n w = machine w.rows w.cells (conversions_of n w.state)

unfoldable pub ended : {A : Type 0} → Result A → Result A
ended (is a w) = is a (with_conversions (w.state.conversions - 1) w)
ended (not n w) = not n (with_conversions (w.state.conversions - 1) w)

unfoldable pub converting : {A : Type 0} → W A → W A
converting m = λ w. ifb (ltb w.state.conversions 32) (ended (m (with_conversions (w.state.conversions + 1) w))) (not Refusal.conversions w)

-- entries

unfoldable pub deeper_of : State → ℕ → State
deeper_of s left = record { rows = s.rows; cells = s.cells; conversions = s.conversions; deepest = greater_of s.deepest (s.limit - left); limit = s.limit; rowroom = s.rowroom; cellroom = s.cellroom }

-- a function is entered with `left` further ones allowed below it
unfoldable pub enter : {A : Type 0} → ℕ → W A → W A
enter left m = λ w. m (machine w.rows w.cells (deeper_of w.state left))

unfoldable pub note : ℕ → W (Unit {0})
note left = λ w. is tt (machine w.rows w.cells (deeper_of w.state left))
