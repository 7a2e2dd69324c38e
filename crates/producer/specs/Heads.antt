-- Reducing at the head: the step, and the walk by it. Assumes nothing.
use Rattle.std.specs.Prelude.{ℕ, true, eqb}
use Rattle.std.proofs.Math.Option.{Option, none, some}
use Rattle.producer.specs.declared.transforms.Op.TheVariants.{Subst, DSubst}
use Rattle.walk.specs.Rule as R
use Rattle.walk.specs.Refusal as Refusal
use Rattle.producer.specs.Machine.{W, Reduction, ◌>>=◌, give, stop, when◌then◌else◌, on_maybe, open_cell, same_quote, at_universe, at_pi, at_lam, at_path, at_plam, at_sigma, at_pair, make_app, make_papp, emit_eq, refs_5}
use Rattle.producer.specs.Callees.{Callees, prepared}
use Rattle.producer.specs.Typing.{headed}
use Rattle.producer.specs.Equality.{on_step, normal_by}

-- the head of an app or a papp, of the type ty: what it goes to, and the row of its equation
unfoldable pub head_goes : Callees → (d g f ty : ℕ) → W (Option (ℕ × ℕ))
head_goes c d g f ty = do
  next ← c.head_step d g f
  on_step next (λ step. same_quote step.type ty (give (some (step.term, step.row))) (stop Refusal.step_type)) (give none)

-- t goes to out, which is t but for its head; t has the type ty by the row x
unfoldable pub congruent : Callees → (d g t out ty head other sub x rule : ℕ) → W (Option Reduction)
congruent c d g t out ty head other sub x rule = do
  y ← c.check d g out ty
  row ← emit_eq rule (refs_5 head other sub x y) d g t out ty
  give (some (record { term = out; type = ty; row = row }))

-- the function f, at the pi type with these parts, goes to f'
unfoldable pub app_at : Callees → (d g t f' a domain codomain head : ℕ) → W (Option Reduction)
app_at c d g t f' a domain codomain head = do
  arg ← c.check d g a domain
  (ty, sub) ← c.transform codomain (Subst 0 a)
  x ← c.check d g t ty
  out ← prepared c (make_app f' a)
  congruent c d g t out ty head arg sub x R.eq_app_cong

-- the pi type of f, and its parts
unfoldable pub pi_of : Callees → (d g f : ℕ) → W (ℕ × ℕ × ℕ)
pi_of c d g f = do
  (ty, _) ← headed c 5 d g f
  at_pi ty (λ a b. give (ty, a, b)) (stop Refusal.no_function)

unfoldable pub app_cong : Callees → (d g t f a : ℕ) → W (Option Reduction)
app_cong c d g t f a = do
  (pi, domain, codomain) ← pi_of c d g f
  next ← head_goes c d g f pi
  on_maybe next (λ f' head. app_at c d g t f' a domain codomain head) (give none)

-- the path p, at the path type with this family, goes to p'
unfoldable pub papp_at : Callees → (d g t p' r family head : ℕ) → W (Option Reduction)
papp_at c d g t p' r family head = do
  dim ← c.interval d r
  (ty, sub) ← c.transform family (DSubst 0 r)
  x ← c.check d g t ty
  out ← prepared c (make_papp p' r)
  congruent c d g t out ty head dim sub x R.eq_papp_cong

-- the path type of p, and its family
unfoldable pub path_of : Callees → (d g p : ℕ) → W (ℕ × ℕ)
path_of c d g p = do
  (ty, _) ← headed c 8 d g p
  at_path ty (λ a _ _. give (ty, a)) (stop Refusal.no_path)

unfoldable pub papp_cong : Callees → (d g t p r : ℕ) → W (Option Reduction)
papp_cong c d g t p r = do
  (path, family) ← path_of c d g p
  next ← head_goes c d g p path
  on_maybe next (λ p' head. papp_at c d g t p' r family head) (give none)

-- a step at the head, which an app and a papp alone have
unfoldable pub at_head : Callees → (d g t : ℕ) → W (Option Reduction)
at_head c d g t =
    open_cell t λ w.
    when eqb w.kind 7 then app_cong c d g t w.a w.b
    else (when eqb w.kind 10 then papp_cong c d g t w.a w.b else give none)

unfoldable pub head_step_body : Callees → (d g t : ℕ) → W (Option Reduction)
head_step_body c d g t = do
  next ← c.reduce d g t
  on_step next (λ step. give (some step)) (at_head c d g t)

unfoldable pub head_normalize_body : Callees → (d g t ty : ℕ) → W (ℕ × ℕ)
head_normalize_body c d g t ty = normal_by c true d g t ty
