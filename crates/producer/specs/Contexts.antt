-- Contexts: the dimension shift, and a variable's type. Assumes nothing.
use Rattle.std.specs.Prelude.{ℕ, ◌-◌, eqb}
use Rattle.producer.specs.declared.rows.Refs.{Refs}
use Rattle.producer.specs.declared.transforms.Op.TheVariants.{Shift, DShift}
use Rattle.walk.specs.Rule as R
use Rattle.walk.specs.Refusal as Refusal
use Rattle.producer.specs.Machine.{W, ◌>>=◌, give, stop, when◌then◌else◌, open_cell, lowest, make_cons, emit, no_refs, refs_1, refs_2}
use Rattle.producer.specs.Callees.{Callees}

-- the row of a context or of a type, once that is there
unfoldable pub context_row : (out rule : ℕ) → Refs → (kind p n : ℕ) → W (ℕ × ℕ)
context_row out rule l kind p n = lowest out λ q. emit rule l kind 3 p n q 0 0 >>= λ row. give (out, row)

unfoldable pub dshiftctx_body : Callees → ℕ → W (ℕ × ℕ)
dshiftctx_body c i =
    open_cell i λ w.
    when eqb w.kind 32 then context_row i R.dshiftctx_nil no_refs 1 w.quote 0
    else (do
      (g', tail) ← c.dshiftctx w.b
      (a', head) ← c.transform w.a (DShift 0)
      out ← make_cons a' g'
      context_row out R.dshiftctx_cons (refs_2 tail head) 1 w.quote 0)

unfoldable pub lookup_body : Callees → (i n : ℕ) → W (ℕ × ℕ)
lookup_body c i n =
    open_cell i λ w.
    when eqb w.kind 32 then stop Refusal.unbound
    else
    (when eqb n 0
    then (do
      (ty, x) ← c.transform w.a (Shift 0)
      context_row ty R.lookup_z (refs_1 x) 2 w.quote n)
    else (do
      (ty, x) ← c.lookup w.b (n - 1)
      (ty', y) ← c.transform ty (Shift 0)
      context_row ty' R.lookup_s (refs_2 x y) 2 w.quote n))
