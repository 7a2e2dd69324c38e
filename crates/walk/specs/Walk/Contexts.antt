-- ctx, dshiftctx, lookup: producer.rs, `ctx`, `dshiftctx` and `lookup`.
use Rattle.std.specs.Prelude.{ℕ, suc, [], ◌∷◌}
use Rattle.walk.specs.Syntax.{Term, Context, Nil, Cons, quote, quotes}
use Rattle.walk.specs.Judgment.{ctx, dshiftctx, lookup}
use Rattle.walk.specs.Rule as R
use Rattle.walk.specs.Refusal as Refusal
use Rattle.walk.specs.State.{M, looking, ◌>>=◌, pure, refuse, from◌get◌or◌, row_of, of_term, of_context, count_all, emit}
use Rattle.walk.specs.Walk.Reference.{Shift, DShift, Callees}

unfoldable pub dshiftctx_body : Callees → Context → M (Context × ℕ)
dshiftctx_body c Nil = do
  row ← emit R.dshiftctx_nil [] (dshiftctx (quotes Nil) 0 (quotes Nil))
  pure (Nil, row)
dshiftctx_body c (Cons a g) = do
  (g', tail) ← c.dshiftctx g
  (a', head) ← c.transform a (DShift 0)
  _ ← count_all (of_context (Cons a' g'))
  row ← emit R.dshiftctx_cons (tail ∷ head ∷ []) (dshiftctx (quotes (Cons a g)) 0 (quotes (Cons a' g')))
  pure (Cons a' g', row)

unfoldable pub new_ctx : Callees → ℕ → Context → M ℕ
new_ctx c d Nil = emit R.ctx_nil [] (ctx d (quotes Nil))
new_ctx c d (Cons a g) = do
  tail ← c.ctx d g
  (_, head) ← c.universe d g a
  emit R.ctx_cons (tail ∷ head ∷ []) (ctx d (quotes (Cons a g)))

-- a known context answers its row
unfoldable pub ctx_body : Callees → ℕ → Context → M ℕ
ctx_body c d g = looking λ s. from row_of (ctx d (quotes g)) s.rows get pure or new_ctx c d g

unfoldable pub lookup_body : Callees → Context → ℕ → M (Term × ℕ)
lookup_body c Nil n = refuse Refusal.unbound
lookup_body c (Cons a g) ℕ.zero = do
  (ty, x) ← c.transform a (Shift 0)
  _ ← count_all (of_term ty)
  row ← emit R.lookup_z (x ∷ []) (lookup (quotes (Cons a g)) 0 (quote ty))
  pure (ty, row)
lookup_body c (Cons a g) (ℕ.suc n) = do
  (ty, x) ← c.lookup g n
  (ty', y) ← c.transform ty (Shift 0)
  _ ← count_all (of_term ty')
  row ← emit R.lookup_s (x ∷ y ∷ []) (lookup (quotes (Cons a g)) (suc n) (quote ty'))
  pure (ty', row)
