-- Equality: root reductions, normal forms, equal terms. Assumes nothing.
use Rattle.std.specs.Prelude.{ℕ, zero, suc, Bool, true, false, eqb}
use Rattle.std.proofs.Math.Option.{Option, none, some}
use Rattle.producer.specs.declared.endpoints.End.{End}
use Rattle.producer.specs.declared.transforms.Op.TheVariants.{Subst, DSubst}
use Rattle.walk.specs.Rule as R
use Rattle.walk.specs.Refusal as Refusal
use Rattle.producer.specs.Machine.{W, Reduction, ◌>>=◌, give, stop, when◌then◌else◌, on_maybe, open_cell, same_quote, at_universe, at_pi, at_lam, at_path, at_plam, at_sigma, at_pair, make_fst, make_cons, emit_eq, refs_1, refs_2, refs_3, refs_5, refs_6}
use Rattle.producer.specs.Callees.{Callees, for_call}
use Rattle.producer.specs.Endpoints.{by_end}
use Rattle.producer.specs.Typing.{as_path, as_sigma}

unfoldable pub beta_row : Callees → (d g t body r b x y z arg : ℕ) → W (Option Reduction)
beta_row c d g t body r b x y z arg = do
  (out, x₄) ← c.transform body (Subst 0 r)
  (ty, x₅) ← c.transform b (Subst 0 r)
  row ← emit_eq R.eq_beta (refs_6 x y z arg x₄ x₅) d g t out ty
  give (some (record { term = out; type = ty; row = row }))

unfoldable pub beta : Callees → (d g t a body r : ℕ) → W (Option Reduction)
beta c d g t a body r = do
  (_, x) ← c.universe d g a
  (b, y) ← for_call c (make_cons a g) λ h. c.infer d h body
  (_, z) ← for_call c (make_cons a g) λ h. c.universe d h b
  arg ← c.check d g r a
  beta_row c d g t body r b x y z arg

-- t goes to out, of a type that its parts have given: an end of a path, the second part of a pair
unfoldable pub at_end : Callees → (d g t out ty x y rule : ℕ) → W (Option Reduction)
at_end c d g t out ty x y rule = do
  typed ← c.check d g out ty
  row ← emit_eq rule (refs_3 x y typed) d g t out ty
  give (some (record { term = out; type = ty; row = row }))

unfoldable pub pbeta : Callees → (d g t r body ty x y : ℕ) → W (Option Reduction)
pbeta c d g t r body ty x y = do
  dim ← c.interval d r
  (out, sub) ← c.transform body (DSubst 0 r)
  typed ← c.check d g out ty
  row ← emit_eq R.eq_pbeta (refs_5 x dim y sub typed) d g t out ty
  give (some (record { term = out; type = ty; row = row }))

-- a path that is no plam, at a literal end alone
unfoldable pub at_ends : Callees → (d g t r b e ty x y : ℕ) → W (Option Reduction)
at_ends c d g t r b e ty x y =
    open_cell r λ w.
    when eqb w.kind 16 then at_end c d g t b ty x y R.eq_p0
    else (when eqb w.kind 17 then at_end c d g t e ty x y R.eq_p1 else give none)

unfoldable pub along : Callees → (d g t p r : ℕ) → W (Option Reduction)
along c d g t p r = do
  (a, b, e, x) ← as_path c d g p
  (ty, y) ← c.transform a (DSubst 0 r)
  at_plam p (λ _ body. pbeta c d g t r body ty x y) (at_ends c d g t r b e ty x y)

-- what the interval of a papp works out to, where that is asked for: not of a plam, nor where an end is written
unfoldable pub long_end : Callees → (p r : ℕ) → W (Option (End × ℕ))
long_end c p r =
    at_plam p (λ _ _. give none)
    (open_cell r λ w.
    when eqb w.kind 16 then give none
    else (when eqb w.kind 17 then give none else c.endpoint r))

unfoldable pub val_rule : End → ℕ
val_rule e = by_end e R.eq_p0_val R.eq_p1_val

-- the interval works out to the end e, by the row w
unfoldable pub at_val : Callees → (d g t p r : ℕ) → End → ℕ → W (Option Reduction)
at_val c d g t p r e w = do
  (a, b, f, x) ← as_path c d g p
  y ← c.interval d r
  (ty, z) ← c.transform a (DSubst 0 r)
  typed ← c.check d g (by_end e b f) ty
  row ← emit_eq (val_rule e) (refs_5 w x y z typed) d g t (by_end e b f) ty
  give (some (record { term = by_end e b f; type = ty; row = row }))

unfoldable pub reduce_papp : Callees → (d g t p r : ℕ) → W (Option Reduction)
reduce_papp c d g t p r = do
  end ← long_end c p r
  on_maybe end (λ e w. at_val c d g t p r e w) (along c d g t p r)

-- the projections of the pair p
unfoldable pub fst_beta : Callees → (d g t p a : ℕ) → W (Option Reduction)
fst_beta c d g t p a = do
  (ta, _, x) ← as_sigma c d g p
  typed ← c.check d g a ta
  row ← emit_eq R.eq_fst_beta (refs_2 x typed) d g t a ta
  give (some (record { term = a; type = ta; row = row }))

unfoldable pub snd_beta : Callees → (d g t p b : ℕ) → W (Option Reduction)
snd_beta c d g t p b = do
  (_, tb, x) ← as_sigma c d g p
  (ty, y) ← for_call c (make_fst p) λ f. c.transform tb (Subst 0 f)
  at_end c d g t b ty x y R.eq_snd_beta

unfoldable pub reduce_body : Callees → (d g t : ℕ) → W (Option Reduction)
reduce_body c d g t =
    open_cell t λ w.
    when eqb w.kind 7 then at_lam w.a (λ x body. beta c d g t x body w.b) (give none)
    else
    (when eqb w.kind 10 then reduce_papp c d g t w.a w.b
    else
    (when eqb w.kind 13 then at_pair w.a (λ _ a _. fst_beta c d g t w.a a) (give none)
    else (when eqb w.kind 14 then at_pair w.a (λ _ _ b. snd_beta c d g t w.a b) (give none) else give none)))

unfoldable pub on_step : {A : Type 0} → Option Reduction → (Reduction → W A) → W A → W A
on_step (some s) f z = f s
on_step none f z = z

-- the step of a walk: at the root alone, or at heads too
abbrev pub step_by : Callees → Bool → (d g t : ℕ) → W (Option Reduction)
step_by c true d g t = c.head_step d g t
step_by c false d g t = c.reduce d g t

-- one step, at the type wanted: the term reached and the row of its equation
unfoldable pub round : Callees → Bool → (d g t ty current evidence : ℕ) → W (Option (ℕ × ℕ))
round c heads d g t ty current evidence = do
  next ← step_by c heads d g current
  on_step next
      (λ step.
      same_quote step.type ty
      (do
        _ ← c.check d g step.term ty
        row ← emit_eq R.eq_trans (refs_2 evidence step.row) d g t step.term ty
        give (some (step.term, row)))
      (stop Refusal.step_type))
      (give none)

-- at most `left` steps: one more is refused
unfoldable pub rounds : ℕ → Callees → Bool → (d g t ty current evidence : ℕ) → W (ℕ × ℕ)
rounds zero c heads d g t ty current evidence = do
  next ← step_by c heads d g current
  on_step next (λ step. stop Refusal.reductions) (give (current, evidence))
rounds (suc left) c heads d g t ty current evidence = do
  next ← round c heads d g t ty current evidence
  on_maybe next (λ term row. rounds left c heads d g t ty term row) (give (current, evidence))

unfoldable pub normal_by : Callees → Bool → (d g t ty : ℕ) → W (ℕ × ℕ)
normal_by c heads d g t ty = do
  typed ← c.check d g t ty
  evidence ← emit_eq R.eq_refl (refs_1 typed) d g t t ty
  rounds 32 c heads d g t ty t evidence

unfoldable pub normalize_body : Callees → (d g t ty : ℕ) → W (ℕ × ℕ)
normalize_body c d g t ty = normal_by c false d g t ty

-- two terms with different quotes
unfoldable pub equal_normal : Callees → (d g a b ty : ℕ) → W ℕ
equal_normal c d g a b ty = do
  (left, l) ← c.normalize d g a ty
  (right, r) ← c.normalize d g b ty
  same_quote left right
      (do
        reverse ← emit_eq R.eq_sym (refs_1 r) d g right b ty
        emit_eq R.eq_trans (refs_2 l reverse) d g a b ty)
      (stop Refusal.quotes)

unfoldable pub equal_body : Callees → (d g a b ty : ℕ) → W ℕ
equal_body c d g a b ty = do
  typed ← c.check d g a ty
  _ ← c.check d g b ty
  same_quote a b (emit_eq R.eq_refl (refs_1 typed) d g a b ty) (equal_normal c d g a b ty)
