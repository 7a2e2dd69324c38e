-- Contexts over words match the walk's: ctx, dshiftctx, lookup.
use Rattle.std.specs.Prelude.{ℕ, suc, List}
use Rattle.std.proofs.Math.Path.{refl}
use Rattle.std.proofs.Math.Dec.{eqb-suc-zero}
use Rattle.producer.specs.Machine.{when◌then◌else◌}
use Rattle.producer.specs.Callees.{Callees}
use Rattle.producer.specs.Contexts as P
use Rattle.producer.specs.Typing as T
use Rattle.walk.specs.Syntax.{Context}
use Rattle.walk.specs.State.{Thing, term, context, M}
use Rattle.walk.specs.Walk.Reference as D
use Rattle.walk.specs.Walk.Contexts as B
use Rattle.link.specs.Lists.{extends_trans}
use Rattle.link.specs.Things.{Cell, cell_lift, low_lift}
use Rattle.link.specs.Tables.{j_ctx, j_dshiftctx, j_lookup}
use Rattle.link.specs.Holds.{Before}
use Rattle.link.specs.Match.{Matches, bind, giving, stopping, lowest_of_cell, the_term, passing, Same, Returns, cite_0, cite_1, cite_2, knowing, emitting}
use Rattle.link.specs.Open.{opening_context}
use Rattle.link.specs.Linked.{Linked, o_shift, o_dshift, row_then, pair_then, less_one, making_cons}

module _ {o : Before} {rd : M (Unit {0})} (c : Callees) (d : D.Callees) (L : Linked o rd c d) where
  pub dshiftctx_matches : {xs : List Thing} {i : ℕ} {g : Context} → Cell i (context g) xs → Matches o xs (P.dshiftctx_body c i) (B.dshiftctx_body d g) (Returns context)
  unfolding P.dshiftctx_body P.context_row B.dshiftctx_body when◌then◌else◌
  dshiftctx_matches h =
      opening_context _ (B.dshiftctx_body d) h
      (λ _ k. lowest_of_cell tt k.cell λ _ q. row_then (emitting (j_dshiftctx k.low q) _ cite_0) λ _ _ e. giving _ _ λ _ f. record { left = cell_lift (extends_trans e f) k.cell; right = refl })
      (λ _ _ _ _ _ k a g.
      pair_then _ _ (L.dshiftctx g) λ _ _ _ _ e₁ g'.
      pair_then _ _ (L.transform (cell_lift e₁ a) o_dshift) λ _ _ _ _ e₂ a'.
      bind (making_cons a' (cell_lift e₂ g')) λ _ _ _ e₃ out.
      lowest_of_cell tt out λ _ q. row_then (emitting (j_dshiftctx (low_lift (extends_trans e₁ (extends_trans e₂ e₃)) k.low) q) _ cite_2) λ _ _ e₄.
      giving _ _ λ _ f. record { left = cell_lift (extends_trans e₄ f) out; right = refl })

  pub ctx_matches : {xs : List Thing} {i : ℕ} {g : Context} (n : ℕ) → Cell i (context g) xs → Matches o xs (T.ctx_body c n i) (B.ctx_body d n g) Same
  unfolding T.ctx_body T.ctx_by T.ctx_cons B.ctx_body B.new_ctx when◌then◌else◌
  ctx_matches n h =
      opening_context _ (B.ctx_body d n) h
      (λ _ k. knowing (j_ctx k.low) (emitting (j_ctx k.low) _ cite_0))
      (λ _ _ _ _ _ k a g. knowing (j_ctx k.low) (row_then (L.ctx n g) λ _ _ e₁.
      pair_then _ _ (L.universe n (cell_lift e₁ g) (cell_lift e₁ a)) λ _ _ _ _ e₂ _.
      emitting (j_ctx (low_lift (extends_trans e₁ e₂) k.low)) _ cite_2))

  pub lookup_matches : {xs : List Thing} {i : ℕ} {g : Context} → Cell i (context g) xs → (n : ℕ) → Matches o xs (P.lookup_body c i n) (B.lookup_body d g n) (Returns term)
  unfolding P.lookup_body P.context_row B.lookup_body when◌then◌else◌
  lookup_matches h ℕ.zero =
      opening_context _ (λ g. B.lookup_body d g 0) h
      (λ _ k. stopping _)
      (λ _ _ _ _ _ k a g.
      pair_then _ _ (L.transform a o_shift) λ _ _ _ _ e₁ ty.
      passing (the_term ty) (lowest_of_cell tt ty λ _ p. row_then (emitting (j_lookup (low_lift e₁ k.low) p) _ cite_1) λ _ _ e₂. giving _ _ λ _ f. record { left = cell_lift (extends_trans e₂ f) ty; right = refl }))
  lookup_matches h (ℕ.suc n) =
      opening_context _ (λ g. B.lookup_body d g (suc n)) h
      (λ _ k. stopping _)
      (λ _ _ _ _ _ k a g. rw (eqb-suc-zero n, less_one n) (pair_then _ _ (L.lookup g n) λ _ _ _ _ e₁ ty.
      pair_then _ _ (L.transform ty o_shift) λ _ _ _ _ e₂ ty'.
      passing (the_term ty') (lowest_of_cell tt ty' λ _ p. row_then (emitting (j_lookup (low_lift (extends_trans e₁ e₂) k.low) p) _ cite_2) λ _ _ e₃. giving _ _ λ _ f. record { left = cell_lift (extends_trans e₃ f) ty'; right = refl })))
