-- The run over words, computed on calls of docs/FORMAT.md: answers, counts, and the table read back.
use Rattle.std.specs.Prelude.{ℕ, ◌≡◌, refl, List, [], ◌∷◌, replicate}
use Rattle.std.proofs.Math.Option.{Option, some}
use Rattle.producer.specs.Machine.{Machine}
use Rattle.walk.specs.Syntax.{Term, Universe, Var, Nat, Zero, Pi, Lam, nat, zero, nil}
use Rattle.walk.specs.Judgment.{ctx, has}
use Rattle.walk.specs.Rule as R
use Rattle.walk.specs.State.{Row}
use Rattle.walk.specs.Reader.{c_infer, c_check, c_normalise, Call}
use Rattle.link.specs.Asked.{Said, ask_all, start}
use Rattle.link.specs.Table.{table_at}
use Rattle.link.specs.Opened.{opened}

-- with a limit of 100, room for 16 rows and 32 cells, in slices of sevens
abbrev asked : List Call → List Said × Machine
asked calls = ask_all calls (start 100 (replicate 384 7) (replicate 256 7))

abbrev left : List Said × Machine → List Said × ℕ × ℕ
left (said, w) = (said, w.state.rows, w.state.cells)

abbrev table : List Said × Machine → Option (List Row)
table (said, w) = table_at w.state.rows w.state.cells w.rows w.cells

abbrev infer : List Term → Term → Call
infer types t = record { code = c_infer; dims = 0; types = types; terms = t ∷ [] }

abbrev normalise : Term → Term → Call
normalise t ty = record { code = c_normalise; dims = 0; types = []; terms = t ∷ ty ∷ [] }

abbrev check : Term → Term → Call
check t ty = record { code = c_check; dims = 0; types = []; terms = t ∷ ty ∷ [] }

abbrev said : ℕ → ℕ → ℕ → ℕ → Said
said number row result deepest = record { number = number; row = row; result = result; deepest = deepest }

-- check zero at nat, twice: row 1 of 2, deepest 3 and then 2
zero_answers : left (asked (check Zero Nat ∷ check Zero Nat ∷ [])) ≡ (said 0 1 0 3 ∷ said 0 1 0 2 ∷ [], 2, 4)
unfolding opened
zero_answers = refl

zero_table : table (asked (check Zero Nat ∷ [])) ≡ some (record { rule = R.type_zero; refs = 0 ∷ []; judgment = has 0 nil zero nat } ∷ record { rule = R.ctx_nil; refs = []; judgment = ctx 0 nil } ∷ [])
unfolding opened R.kind_of
zero_table = refl

-- infer v 0 in context nat: row 5 of 6, deepest 5
var_answers : left (asked (infer (Nat ∷ []) (Var 0) ∷ [])) ≡ (said 0 5 1 5 ∷ [], 6, 7)
unfolding opened
var_answers = refl

-- infer lam(nat, v 0): row 7 of 8, deepest 5
lam_answers : left (asked (infer [] (Lam Nat (Var 0)) ∷ [])) ≡ (said 0 7 9 5 ∷ [], 8, 11)
unfolding opened
lam_answers = refl

-- normalise lam(nat, zero) at (pi nat nat), then lam(u 0, zero), which has the same quote, at (pi (u 0) nat): both results are cell 3
two_lams_answers : left (asked (normalise (Lam Nat Zero) (Pi Nat Nat) ∷ normalise (Lam (Universe 0) Zero) (Pi (Universe 0) Nat) ∷ [])) ≡ (said 0 6 3 7 ∷ said 0 12 3 7 ∷ [], 13, 19)
unfolding opened
two_lams_answers = refl

-- infer v 0 in no context: 8, one row
none_answers : left (asked (infer [] (Var 0) ∷ [])) ≡ (said 8 4294967295 0 2 ∷ [], 1, 2)
unfolding opened
none_answers = refl
