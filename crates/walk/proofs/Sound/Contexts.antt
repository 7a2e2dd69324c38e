-- The rows of ctx, dshiftctx and lookup state what they should.
use Rattle.std.specs.Prelude.{ℕ, suc, List}
use Rattle.std.proofs.Common.{lit<}
use Rattle.walk.specs.Syntax.{quote, quotes, Context, Nil, Cons}
use Rattle.walk.specs.Judgment.{ctx, dshiftctx, lookup}
use Rattle.walk.specs.Rules.{by_ctx_nil, by_ctx_cons, by_dshiftctx_nil, by_dshiftctx_cons, by_lookup_z, by_lookup_s}
use Rattle.walk.specs.State.{of_term, of_context, Row}
use Rattle.walk.specs.Walk.{Shift, DShift, Callees, dshiftctx_body, new_ctx, ctx_body, lookup_body}
use Rattle.walk.specs.Demand.{At, none_cited, ◌also◌}
use Rattle.walk.specs.Sound.Logic.{lift, bind, refusing, giving, emitted, knowing, counting, Keeps}
use Rattle.walk.specs.Sound.Says.{Sound}

module _ (c : Callees) (S : Sound c) where
  pub dshiftctx_sound : {rs : List Row} (g : Context) → Keeps rs (dshiftctx_body c g) (λ o. At o.1 (dshiftctx (quotes g) 0 (quotes o.0)))
  unfolding dshiftctx_body
  dshiftctx_sound Nil = bind (emitted none_cited by_dshiftctx_nil) λ row _ _ h. giving (Nil, row) λ _ e. lift e h
  dshiftctx_sound (Cons a g) =
      bind (S.dshiftctx g) λ o₁ _ _ h₁. bind (S.transform a (DShift 0)) λ o₂ _ e₂ h₂. bind (counting (of_context (Cons o₂.0 o₁.0))) λ _ _ e₃ _.
      bind (emitted (lift e₃ (lift e₂ h₁) also lift e₃ h₂ also none_cited) by_dshiftctx_cons) λ row _ _ h. giving (Cons o₂.0 o₁.0, row) λ _ e. lift e h

  new_ctx_sound : {rs : List Row} (d : ℕ) (g : Context) → Keeps rs (new_ctx c d g) (λ x. At x (ctx d (quotes g)))
  unfolding new_ctx
  new_ctx_sound d Nil = emitted none_cited by_ctx_nil
  new_ctx_sound d (Cons a g) = bind (S.ctx d g) λ _ _ _ h₁. bind (S.universe d g a) λ _ _ e₂ h₂. emitted (lift e₂ h₁ also h₂ also none_cited) by_ctx_cons

  pub ctx_sound : {rs : List Row} (d : ℕ) (g : Context) → Keeps rs (ctx_body c d g) (λ x. At x (ctx d (quotes g)))
  unfolding ctx_body
  ctx_sound d g = knowing (ctx d (quotes g)) (new_ctx_sound d g)

  pub lookup_sound : {rs : List Row} (g : Context) (n : ℕ) → Keeps rs (lookup_body c g n) (λ o. At o.1 (lookup (quotes g) n (quote o.0)))
  unfolding lookup_body
  lookup_sound Nil n = refusing (lit< tt)
  lookup_sound (Cons a g) ℕ.zero =
      bind (S.transform a (Shift 0)) λ o₁ _ _ h₁. bind (counting (of_term o₁.0)) λ _ _ e₂ _.
      bind (emitted (lift e₂ h₁ also none_cited) by_lookup_z) λ row _ _ h. giving (o₁.0, row) λ _ e. lift e h
  lookup_sound (Cons a g) (ℕ.suc n) =
      bind (S.lookup g n) λ o₁ _ _ h₁. bind (S.transform o₁.0 (Shift 0)) λ o₂ _ e₂ h₂. bind (counting (of_term o₂.0)) λ _ _ e₃ _.
      bind (emitted (lift e₃ (lift e₂ h₁) also lift e₃ h₂ also none_cited) by_lookup_s) λ row _ _ h. giving (o₂.0, row) λ _ e. lift e h
