-- normalize, equal, reduce: producer.rs, `normalize`, `equal` and `reduce`; pairs: sigma.rs; head_normalize, head_step: congruence.rs, of an app
-- and of a papp, with no face.
use Rattle.std.specs.Prelude.{ℕ, List, [], ◌∷◌, ◌++◌}
use Rattle.std.proofs.Math.Option.{Option, none, some}
use Rattle.walk.specs.Syntax.{Interval, I0, I1, Dim, Neg, Meet, Join, Term, Universe, Var, Nat, Zero, Pi, Lam, App, Path, PathLam, PathApp, Sigma, Pair, Fst, Snd, Context, Cons, quote, quotes, quote?}
use Rattle.walk.specs.Judgment.{Judgment, eq}
use Rattle.walk.specs.Rule as R
use Rattle.walk.specs.Refusal as Refusal
use Rattle.walk.specs.State.{M, ◌>>=◌, pure, refuse, choose◌then◌else◌, from◌get◌or◌, emit}
use Rattle.walk.specs.Walk.Reference.{Subst, DSubst, End, E0, E1, Step, Callees}
use Rattle.walk.specs.Walk.Typing.{lam_parts, plam_parts, pair_parts, as_pi, as_path, as_sigma}

abbrev pub equation : ℕ → Context → Term → Term → Term → Judgment
equation d g a b ty = eq d (quotes g) (quote a) (quote b) (quote ty)

unfoldable pub beta : Callees → ℕ → Context → Term → Term → Term → M (Option Step)
beta c d g a body r = do
  (_, x) ← c.universe d g a
  (b, y) ← c.infer d (Cons a g) body
  (_, z) ← c.universe d (Cons a g) b
  arg ← c.check d g r a
  (out, x₄) ← c.transform body (Subst 0 r)
  (ty, x₅) ← c.transform b (Subst 0 r)
  row ← emit R.eq_beta (x ∷ y ∷ z ∷ arg ∷ x₄ ∷ x₅ ∷ []) (equation d g (App (Lam a body) r) out ty)
  pure (some (record { term = out; type = ty; row = row }))

-- t goes to out, of a type that t's parts have given by the rows refs: an end of a path, the second part of a pair
unfoldable pub at_end : Callees → ℕ → Context → Term → Term → Term → List ℕ → ℕ → M (Option Step)
at_end c d g t out ty refs rule = do
  typed ← c.check d g out ty
  row ← emit rule (refs ++ typed ∷ []) (equation d g t out ty)
  pure (some (record { term = out; type = ty; row = row }))

unfoldable pub pbeta : Callees → ℕ → Context → Term → Interval → Term → Term → ℕ → ℕ → M (Option Step)
pbeta c d g p r body ty x y = do
  dim ← c.interval d r
  (out, sub) ← c.transform body (DSubst 0 r)
  typed ← c.check d g out ty
  row ← emit R.eq_pbeta (x ∷ dim ∷ y ∷ sub ∷ typed ∷ []) (equation d g (PathApp p r) out ty)
  pure (some (record { term = out; type = ty; row = row }))

-- a path that is no plam, at a literal end alone
unfoldable pub ends : Callees → ℕ → Context → Term → Interval → Term → Term → Term → ℕ → ℕ → M (Option Step)
ends c d g p I0 b e ty x y = at_end c d g (PathApp p I0) b ty (x ∷ y ∷ []) R.eq_p0
ends c d g p I1 b e ty x y = at_end c d g (PathApp p I1) e ty (x ∷ y ∷ []) R.eq_p1
ends c d g p (Dim n) b e ty x y = pure none
ends c d g p (Neg r) b e ty x y = pure none
ends c d g p (Meet r q) b e ty x y = pure none
ends c d g p (Join r q) b e ty x y = pure none

unfoldable pub along : Callees → ℕ → Context → Term → Interval → M (Option Step)
along c d g p r = do
  (path, x) ← as_path c d g p
  (ty, y) ← c.transform path.0 (DSubst 0 r)
  from plam_parts p get (λ ab. pbeta c d g p r ab.1 ty x y) or ends c d g p r path.1 path.2 ty x y

-- which end is written, if one is
abbrev pub written : Interval → Option End
written I0 = some E0
written I1 = some E1
written (Dim n) = none
written (Neg r) = none
written (Meet r q) = none
written (Join r q) = none

-- what the interval of a papp works out to, where that is asked for: of a plam it is not, nor where an end is written
unfoldable pub long_end : Callees → Term → Interval → M (Option (End × ℕ))
long_end c p r = from plam_parts p get (λ _. pure none) or (from written r get (λ _. pure none) or c.endpoint r)

-- the side of a path's type at an end, and the rule by which a papp goes there
abbrev pub side : End → Term × Term × Term → Term
side E0 path = path.1
side E1 path = path.2

abbrev pub val_rule : End → ℕ
val_rule E0 = R.eq_p0_val
val_rule E1 = R.eq_p1_val

-- the interval works out to e, by the row w
unfoldable pub at_val : Callees → ℕ → Context → Term → Interval → End → ℕ → M (Option Step)
at_val c d g p r e w = do
  (path, x) ← as_path c d g p
  y ← c.interval d r
  (ty, z) ← c.transform path.0 (DSubst 0 r)
  at_end c d g (PathApp p r) (side e path) ty (w ∷ x ∷ y ∷ z ∷ []) (val_rule e)

-- the projections of the pair p, whose parts are a and b
unfoldable pub fst_beta : Callees → ℕ → Context → Term → Term → M (Option Step)
fst_beta c d g p a = do
  (sigma, x) ← as_sigma c d g p
  typed ← c.check d g a sigma.0
  row ← emit R.eq_fst_beta (x ∷ typed ∷ []) (equation d g (Fst p) a sigma.0)
  pure (some (record { term = a; type = sigma.0; row = row }))

unfoldable pub snd_beta : Callees → ℕ → Context → Term → Term → M (Option Step)
snd_beta c d g p b = do
  (sigma, x) ← as_sigma c d g p
  (ty, y) ← c.transform sigma.1 (Subst 0 (Fst p))
  at_end c d g (Snd p) b ty (x ∷ y ∷ []) R.eq_snd_beta

unfoldable pub reduce_body : Callees → ℕ → Context → Term → M (Option Step)
reduce_body c d g (Universe l) = pure none
reduce_body c d g (Var n) = pure none
reduce_body c d g Nat = pure none
reduce_body c d g Zero = pure none
reduce_body c d g (Pi a b) = pure none
reduce_body c d g (Lam a b) = pure none
reduce_body c d g (App f r) = from lam_parts f get (λ ab. beta c d g ab.0 ab.1 r) or pure none
reduce_body c d g (Path a b e) = pure none
reduce_body c d g (PathLam a b) = pure none
reduce_body c d g (PathApp p r) = do
  end ← long_end c p r
  from end get (λ of. at_val c d g p r of.0 of.1) or along c d g p r
reduce_body c d g (Sigma a b) = pure none
reduce_body c d g (Pair ty a b) = pure none
reduce_body c d g (Fst p) = from pair_parts p get (λ of. fst_beta c d g p of.1) or pure none
reduce_body c d g (Snd p) = from pair_parts p get (λ of. snd_beta c d g p of.2) or pure none

-- the head of an app or a papp, of the type ty: what it goes to, with the row that says so; refused at once where that has another type
unfoldable pub head_goes : Callees → ℕ → Context → Term → Term → M (Option (Term × ℕ))
head_goes c d g f ty = do
  next ← c.head_step d g f
  from next
      get (λ step.
      choose quote? (quote step.type) (quote ty)
      then pure (some (step.term, step.row))
      else refuse Refusal.step_type)
      or pure none

-- t goes to out, which is t but for its head, by the rows refs; both have the type ty
unfoldable pub congruent : Callees → ℕ → Context → Term → Term → Term → List ℕ → ℕ → M (Option Step)
congruent c d g t out ty refs rule = do
  left ← c.check d g t ty
  right ← c.check d g out ty
  row ← emit rule (refs ++ left ∷ right ∷ []) (equation d g t out ty)
  pure (some (record { term = out; type = ty; row = row }))

unfoldable pub app_cong : Callees → ℕ → Context → Term → Term → M (Option Step)
app_cong c d g f a = do
  (pi, _) ← as_pi c d g f
  next ← head_goes c d g f (Pi pi.0 pi.1)
  from next
      get (λ head. do
        arg ← c.check d g a pi.0
        (ty, sub) ← c.transform pi.1 (Subst 0 a)
        congruent c d g (App f a) (App head.0 a) ty (head.1 ∷ arg ∷ sub ∷ []) R.eq_app_cong)
      or pure none

unfoldable pub papp_cong : Callees → ℕ → Context → Term → Interval → M (Option Step)
papp_cong c d g p r = do
  (path, _) ← as_path c d g p
  next ← head_goes c d g p (Path path.0 path.1 path.2)
  from next
      get (λ head. do
        dim ← c.interval d r
        (ty, sub) ← c.transform path.0 (DSubst 0 r)
        congruent c d g (PathApp p r) (PathApp head.0 r) ty (head.1 ∷ dim ∷ sub ∷ []) R.eq_papp_cong)
      or pure none

-- a step at the head: of an app and a papp alone, which have one
unfoldable pub at_head : Callees → ℕ → Context → Term → M (Option Step)
at_head c d g (Universe l) = pure none
at_head c d g (Var n) = pure none
at_head c d g Nat = pure none
at_head c d g Zero = pure none
at_head c d g (Pi a b) = pure none
at_head c d g (Lam a b) = pure none
at_head c d g (App f a) = app_cong c d g f a
at_head c d g (Path a b e) = pure none
at_head c d g (PathLam a b) = pure none
at_head c d g (PathApp p r) = papp_cong c d g p r
at_head c d g (Sigma a b) = pure none
at_head c d g (Pair ty a b) = pure none
at_head c d g (Fst p) = pure none
at_head c d g (Snd p) = pure none

-- at the root, and where that gives nothing at the head
unfoldable pub head_step_body : Callees → ℕ → Context → Term → M (Option Step)
head_step_body c d g t = do
  next ← c.reduce d g t
  from next get (λ step. pure (some step)) or at_head c d g t

-- steps while these go, at most `left`
unfoldable pub rounds : ℕ → Callees → (Term → M (Option Step)) → ℕ → Context → Term → Term → Term → ℕ → M (Term × ℕ)
rounds ℕ.zero c step d g t ty current evidence = do
  next ← step current
  from next get (λ found. refuse Refusal.reductions) or pure (current, evidence)
rounds (ℕ.suc left) c step d g t ty current evidence = do
  next ← step current
  from next
      get (λ found.
      choose quote? (quote found.type) (quote ty)
      then (do
        _ ← c.check d g found.term ty
        evidence' ← emit R.eq_trans (evidence ∷ found.row ∷ []) (equation d g t found.term ty)
        rounds left c step d g t ty found.term evidence')
      else refuse Refusal.step_type)
      or pure (current, evidence)

unfoldable pub normal_by : Callees → (Term → M (Option Step)) → ℕ → Context → Term → Term → M (Term × ℕ)
normal_by c step d g t ty = do
  typed ← c.check d g t ty
  evidence ← emit R.eq_refl (typed ∷ []) (equation d g t t ty)
  rounds 32 c step d g t ty t evidence

unfoldable pub normalize_body : Callees → ℕ → Context → Term → Term → M (Term × ℕ)
normalize_body c d g t ty = normal_by c (c.reduce d g) d g t ty

unfoldable pub head_normalize_body : Callees → ℕ → Context → Term → Term → M (Term × ℕ)
head_normalize_body c d g t ty = normal_by c (c.head_step d g) d g t ty

unfoldable pub equal_body : Callees → ℕ → Context → Term → Term → Term → M ℕ
equal_body c d g a b ty = do
  typed ← c.check d g a ty
  _ ← c.check d g b ty
  choose quote? (quote a) (quote b)
      then emit R.eq_refl (typed ∷ []) (equation d g a b ty)
      else do
        (left, l) ← c.normalize d g a ty
        (right, r) ← c.normalize d g b ty
        choose quote? (quote left) (quote right)
            then (do
              reverse ← emit R.eq_sym (r ∷ []) (equation d g right b ty)
              emit R.eq_trans (l ∷ reverse ∷ []) (equation d g a b ty))
            else refuse Refusal.quotes
