-- The number that bounds a reader's depth does not matter once it is enough: where a reader gives a value whose size fits, what is
-- left of depth 32 gives the same.
use Rattle.std.specs.Prelude.{ℕ, zero, suc, ◌+◌, ◌≤◌, ◌≡◌, refl, List, Bool, true, false, ◌||◌, ltb, leb}
use Rattle.std.proofs.Common.{arith, ltb-false}
use Rattle.walk.specs.Syntax.{Interval, I0, I1, Dim, Neg, Meet, Join, Term, Universe, Var, Nat, Zero, Pi, Lam, App, Path, PathLam, PathApp, Sigma, Pair, Fst, Snd}
use Rattle.walk.specs.Reader.{got, Reader, read_on, ◌>>=◌, ok, byte, one_of, k_u, k_v, k_nat, k_zero, k_pi, k_lam, k_app, k_path, k_plam, k_papp, k_sigma, k_pair, k_fst, k_snd, k_0, k_1, k_dim, k_neg, k_meet, k_join, kinds, ikinds, read_interval, read_term}
use Rattle.walk.specs.Limits.{Sized, fits, size_over, index_over, size_on, node, size_interval, size_term}
use Rattle.syntax.specs.Calls.{twice, size_first}

-- At most so many nodes stand above one another.
abbrev pub IHeight : ℕ → Interval → Type 0
IHeight zero a = ⊥
-- written by tools/written.py: height of an interval
IHeight (suc g) I0 = Unit {0}
IHeight (suc g) I1 = Unit {0}
IHeight (suc g) (Dim n) = Unit {0}
IHeight (suc g) (Neg a) = IHeight g a
IHeight (suc g) (Meet a b) = IHeight g a × IHeight g b
IHeight (suc g) (Join a b) = IHeight g a × IHeight g b

-- end of height of an interval

abbrev pub Height : ℕ → Term → Type 0
Height zero t = ⊥
-- written by tools/written.py: height of a term
Height (suc g) (Universe n) = Unit {0}
Height (suc g) (Var n) = Unit {0}
Height (suc g) Nat = Unit {0}
Height (suc g) Zero = Unit {0}
Height (suc g) (Pi a b) = Height g a × Height g b
Height (suc g) (Lam a b) = Height g a × Height g b
Height (suc g) (App a b) = Height g a × Height g b
Height (suc g) (Path a b c) = Height g a × Height g b × Height g c
Height (suc g) (PathLam a b) = Height g a × Height g b
Height (suc g) (PathApp a b) = Height g a × IHeight g b
Height (suc g) (Sigma a b) = Height g a × Height g b
Height (suc g) (Pair a b c) = Height g a × Height g b × Height g c
Height (suc g) (Fst a) = Height g a
Height (suc g) (Snd a) = Height g a

-- end of height of a term

-- what a reader gives

record Makes {A : Type 0} (R : A → Type 0) (m : Reader A) : Type 0 where
  pub on : (bs : List ℕ) (at : ℕ) {a : A} {rest : List ℕ} {end : ℕ} → m bs at ≡ got a rest end → R a

makes_then : {A B : Type 0} {R : A → Type 0} {S : B → Type 0} {m : Reader A} {k : A → Reader B} → Makes R m → ((a : A) → R a → Makes S (k a)) → Makes S (m >>= k)
unfolding ◌>>=◌
makes_then {A} {B} {R} {S} {m} {k} M K = record { on = λ bs at e. let w = twice (m bs at) k e in (K w.first (M.on bs at w.one)).on w.between w.middle w.two }

makes_ok : {A : Type 0} {R : A → Type 0} (a : A) → R a → Makes R (ok a)
unfolding ok
makes_ok {A} {R} a p = record { on = λ bs at {a = b} e. let q : a ≡ b = cc in rw q at p }

makes_any : {A : Type 0} {m : Reader A} → Makes (λ a. Unit {0}) m
makes_any = record { on = λ bs at e. tt }

-- A value that one reader gives, and that meets R, the other gives too.
record Keeps {A : Type 0} (R : A → Type 0) (m m' : Reader A) : Type 0 where
  pub on : (bs : List ℕ) (at : ℕ) {a : A} {rest : List ℕ} {end : ℕ} → m bs at ≡ got a rest end → R a → m' bs at ≡ got a rest end

keeps_then : {A B : Type 0} {R : A → Type 0} {S : B → Type 0} {m m' : Reader A} {k k' : A → Reader B} → Keeps R m m' → ((a : A) → Makes (λ b. S b → R a) (k a)) → ((a : A) → Keeps S (k a) (k' a)) → Keeps S (m >>= k) (m' >>= k')
unfolding ◌>>=◌ read_on
keeps_then {A} {B} {R} {S} {m} {m'} {k} {k'} M holds K = record { on = go }
  where
    go : (bs : List ℕ) (at : ℕ) {b : B} {rest : List ℕ} {end : ℕ} → read_on (m bs at) k ≡ got b rest end → S b → read_on (m' bs at) k' ≡ got b rest end
    go bs at e s =
        let w = twice (m bs at) k e in
        rw (M.on bs at w.one ((holds w.first).on w.between w.middle w.two s)) ((K w.first).on w.between w.middle w.two s)

keeps_on : {A B : Type 0} {S : B → Type 0} (m : Reader A) {k k' : A → Reader B} → ((a : A) → Keeps S (k a) (k' a)) → Keeps S (m >>= k) (m >>= k')
keeps_on m K = keeps_then {R = λ a. Unit {0}} (record { on = λ bs at e r. e }) (λ a. record { on = λ bs at e s. tt }) K

keeps_ok : {A : Type 0} {S : A → Type 0} (a : A) → Keeps S (ok a) (ok a)
keeps_ok a = record { on = λ bs at e s. e }

-- the last part, and the one before
last : {A B : Type 0} {R : A → Type 0} {S : B → Type 0} {m m' : Reader A} (mk : A → B) → Keeps R m m' → ((a : A) → S (mk a) → R a) → Keeps S (m >>= λ a. ok (mk a)) (m' >>= λ a. ok (mk a))
last mk M p = keeps_then M (λ a. makes_ok _ (p a)) (λ a. keeps_ok _)

keeps_interval : (f g : ℕ) → Keeps (IHeight g) (read_interval f) (read_interval g)
unfolding read_interval
keeps_interval f zero = record { on = λ bs at e h. absurd h }
keeps_interval zero (suc g) = record { on = λ bs at e h. absurd (let z : ◌≡◌ {A = ℕ} 0 1 = cc in omega arith) }
keeps_interval (suc f) (suc g) =
    let part : Keeps (IHeight g) (read_interval f) (read_interval g) = keeps_interval f g in
    keeps_on (one_of ikinds) (elim [
      -- written by tools/written.py: kinds of an interval
      | k_0 ↦ keeps_ok _
      | k_1 ↦ keeps_ok _
      | k_dim ↦ keeps_on byte (λ n. keeps_ok _)
      | k_neg ↦ last Neg part (λ a h. h)
      | k_meet ↦ keeps_then part (λ a. makes_then makes_any (λ b u. makes_ok _ (λ h. h.0))) (λ a. last (Meet a) part (λ b h. h.1))
      | k_join ↦ keeps_then part (λ a. makes_then makes_any (λ b u. makes_ok _ (λ h. h.0))) (λ a. last (Join a) part (λ b h. h.1))
      -- end of kinds of an interval
    ])

keeps_term : (f g : ℕ) → Keeps (Height g) (read_term f) (read_term g)
unfolding read_term
keeps_term f zero = record { on = λ bs at e h. absurd h }
keeps_term zero (suc g) = record { on = λ bs at e h. absurd (let z : ◌≡◌ {A = ℕ} 0 1 = cc in omega arith) }
keeps_term (suc f) (suc g) =
    let part : Keeps (Height g) (read_term f) (read_term g) = keeps_term f g in
    keeps_on (one_of kinds) (elim [
      -- written by tools/written.py: kinds of a term
      | k_u ↦ keeps_on byte (λ n. keeps_ok _)
      | k_v ↦ keeps_on byte (λ n. keeps_ok _)
      | k_nat ↦ keeps_ok _
      | k_zero ↦ keeps_ok _
      | k_pi ↦ keeps_then part (λ a. makes_then makes_any (λ b u. makes_ok _ (λ h. h.0))) (λ a. last (Pi a) part (λ b h. h.1))
      | k_lam ↦ keeps_then part (λ a. makes_then makes_any (λ b u. makes_ok _ (λ h. h.0))) (λ a. last (Lam a) part (λ b h. h.1))
      | k_app ↦ keeps_then part (λ a. makes_then makes_any (λ b u. makes_ok _ (λ h. h.0))) (λ a. last (App a) part (λ b h. h.1))
      | k_path ↦ keeps_then part (λ a. makes_then makes_any (λ b u. makes_then makes_any (λ c u. makes_ok _ (λ h. h.0)))) (λ a. keeps_then part (λ b. makes_then makes_any (λ c u. makes_ok _ (λ h. h.1))) (λ b. last (Path a b) part (λ c h. h.2)))
      | k_plam ↦ keeps_then part (λ a. makes_then makes_any (λ b u. makes_ok _ (λ h. h.0))) (λ a. last (PathLam a) part (λ b h. h.1))
      | k_papp ↦ keeps_then part (λ a. makes_then makes_any (λ b u. makes_ok _ (λ h. h.0))) (λ a. last (PathApp a) (keeps_interval f g) (λ b h. h.1))
      | k_sigma ↦ keeps_then part (λ a. makes_then makes_any (λ b u. makes_ok _ (λ h. h.0))) (λ a. last (Sigma a) part (λ b h. h.1))
      | k_pair ↦ keeps_then part (λ a. makes_then makes_any (λ b u. makes_then makes_any (λ c u. makes_ok _ (λ h. h.0)))) (λ a. keeps_then part (λ b. makes_then makes_any (λ c u. makes_ok _ (λ h. h.1))) (λ b. last (Pair a b) part (λ c h. h.2)))
      | k_fst ↦ last Fst part (λ a h. h)
      | k_snd ↦ last Snd part (λ a h. h)
      -- end of kinds of a term
    ])

-- heights

-- A node that fits is no deeper than 32.
pub node_depth : (depth nodes index : ℕ) {n : ℕ} → node depth nodes index ≡ fits n → depth ≤ 32
unfolding node
node_depth depth nodes index {n} e = go (ltb 32 depth) refl e
  where
    go : (t : Bool) → ltb 32 depth ≡ t → elim (t || leb 10000 nodes) as (λ x. Sized) [ true ↦ size_over | false ↦ elim (ltb 32 index) as (λ x. Sized) [ true ↦ index_over | false ↦ fits (nodes + 1) ] ] ≡ fits n → depth ≤ 32
    go true q e = absurd (let z : ◌≡◌ {A = ℕ} 0 1 = cc in omega arith)
    go false q e = ltb-false 32 depth q

-- the parts of a node that fits
one_part : (depth nodes : ℕ) (f : ℕ → Sized) {n : ℕ} → size_on (node depth nodes 0) f ≡ fits n → (depth ≤ 32) × ((k : ℕ) × (f k ≡ fits n))
one_part depth nodes f e = let w = size_first (node depth nodes 0) f e in (node_depth depth nodes 0 w.1, (w.0, w.2))

depth_interval : (a : Interval) (depth nodes : ℕ) {n : ℕ} → size_interval a depth nodes ≡ fits n → depth ≤ 32
unfolding size_interval
-- written by tools/written.py: depth of an interval
depth_interval I0 depth nodes e = node_depth depth nodes 0 e
depth_interval I1 depth nodes e = node_depth depth nodes 0 e
depth_interval (Dim n) depth nodes e = node_depth depth nodes n e
depth_interval (Neg a) depth nodes e = (one_part depth nodes _ e).0
depth_interval (Meet a b) depth nodes e = (one_part depth nodes _ e).0
depth_interval (Join a b) depth nodes e = (one_part depth nodes _ e).0

-- end of depth of an interval

fits_interval : (a : Interval) (g depth nodes : ℕ) {n : ℕ} → size_interval a depth nodes ≡ fits n → 33 ≤ g + depth → IHeight g a
unfolding size_interval
fits_interval a zero depth nodes e l = omega (arith, depth_interval a depth nodes e)
-- written by tools/written.py: an interval that fits
fits_interval I0 (suc g) depth nodes e l = tt
fits_interval I1 (suc g) depth nodes e l = tt
fits_interval (Dim n) (suc g) depth nodes e l = tt
fits_interval (Neg a) (suc g) depth nodes e l = fits_interval a g (depth + 1) _ (one_part depth nodes _ e).1.1 (omega arith)
fits_interval (Meet a b) (suc g) depth nodes e l =
    let w = (one_part depth nodes _ e).1 in
    let v = size_first (size_interval a (depth + 1) w.0) (size_interval b (depth + 1)) w.1 in
    (fits_interval a g (depth + 1) _ v.1 (omega arith), fits_interval b g (depth + 1) _ v.2 (omega arith))
fits_interval (Join a b) (suc g) depth nodes e l =
    let w = (one_part depth nodes _ e).1 in
    let v = size_first (size_interval a (depth + 1) w.0) (size_interval b (depth + 1)) w.1 in
    (fits_interval a g (depth + 1) _ v.1 (omega arith), fits_interval b g (depth + 1) _ v.2 (omega arith))

-- end of an interval that fits

depth_term : (t : Term) (depth nodes : ℕ) {n : ℕ} → size_term t depth nodes ≡ fits n → depth ≤ 32
unfolding size_term
-- written by tools/written.py: depth of a term
depth_term (Universe n) depth nodes e = node_depth depth nodes n e
depth_term (Var n) depth nodes e = node_depth depth nodes n e
depth_term Nat depth nodes e = node_depth depth nodes 0 e
depth_term Zero depth nodes e = node_depth depth nodes 0 e
depth_term (Pi a b) depth nodes e = (one_part depth nodes _ e).0
depth_term (Lam a b) depth nodes e = (one_part depth nodes _ e).0
depth_term (App a b) depth nodes e = (one_part depth nodes _ e).0
depth_term (Path a b c) depth nodes e = (one_part depth nodes _ e).0
depth_term (PathLam a b) depth nodes e = (one_part depth nodes _ e).0
depth_term (PathApp a b) depth nodes e = (one_part depth nodes _ e).0
depth_term (Sigma a b) depth nodes e = (one_part depth nodes _ e).0
depth_term (Pair a b c) depth nodes e = (one_part depth nodes _ e).0
depth_term (Fst a) depth nodes e = (one_part depth nodes _ e).0
depth_term (Snd a) depth nodes e = (one_part depth nodes _ e).0

-- end of depth of a term

fits_term : (t : Term) (g depth nodes : ℕ) {n : ℕ} → size_term t depth nodes ≡ fits n → 33 ≤ g + depth → Height g t
unfolding size_term
fits_term t zero depth nodes e l = omega (arith, depth_term t depth nodes e)
-- written by tools/written.py: a term that fits
fits_term (Universe n) (suc g) depth nodes e l = tt
fits_term (Var n) (suc g) depth nodes e l = tt
fits_term Nat (suc g) depth nodes e l = tt
fits_term Zero (suc g) depth nodes e l = tt
fits_term (Pi a b) (suc g) depth nodes e l =
    let w = (one_part depth nodes _ e).1 in
    let v = size_first (size_term a (depth + 1) w.0) (size_term b (depth + 1)) w.1 in
    (fits_term a g (depth + 1) _ v.1 (omega arith), fits_term b g (depth + 1) _ v.2 (omega arith))
fits_term (Lam a b) (suc g) depth nodes e l =
    let w = (one_part depth nodes _ e).1 in
    let v = size_first (size_term a (depth + 1) w.0) (size_term b (depth + 1)) w.1 in
    (fits_term a g (depth + 1) _ v.1 (omega arith), fits_term b g (depth + 1) _ v.2 (omega arith))
fits_term (App a b) (suc g) depth nodes e l =
    let w = (one_part depth nodes _ e).1 in
    let v = size_first (size_term a (depth + 1) w.0) (size_term b (depth + 1)) w.1 in
    (fits_term a g (depth + 1) _ v.1 (omega arith), fits_term b g (depth + 1) _ v.2 (omega arith))
fits_term (Path a b c) (suc g) depth nodes e l =
    let w = (one_part depth nodes _ e).1 in
    let v = size_first (size_term a (depth + 1) w.0) (λ n. size_on (size_term b (depth + 1) n) (size_term c (depth + 1))) w.1 in
    let u = size_first (size_term b (depth + 1) v.0) (size_term c (depth + 1)) v.2 in
    (fits_term a g (depth + 1) _ v.1 (omega arith), fits_term b g (depth + 1) _ u.1 (omega arith), fits_term c g (depth + 1) _ u.2 (omega arith))
fits_term (PathLam a b) (suc g) depth nodes e l =
    let w = (one_part depth nodes _ e).1 in
    let v = size_first (size_term a (depth + 1) w.0) (size_term b (depth + 1)) w.1 in
    (fits_term a g (depth + 1) _ v.1 (omega arith), fits_term b g (depth + 1) _ v.2 (omega arith))
fits_term (PathApp a b) (suc g) depth nodes e l =
    let w = (one_part depth nodes _ e).1 in
    let v = size_first (size_term a (depth + 1) w.0) (size_interval b (depth + 1)) w.1 in
    (fits_term a g (depth + 1) _ v.1 (omega arith), fits_interval b g (depth + 1) _ v.2 (omega arith))
fits_term (Sigma a b) (suc g) depth nodes e l =
    let w = (one_part depth nodes _ e).1 in
    let v = size_first (size_term a (depth + 1) w.0) (size_term b (depth + 1)) w.1 in
    (fits_term a g (depth + 1) _ v.1 (omega arith), fits_term b g (depth + 1) _ v.2 (omega arith))
fits_term (Pair a b c) (suc g) depth nodes e l =
    let w = (one_part depth nodes _ e).1 in
    let v = size_first (size_term a (depth + 1) w.0) (λ n. size_on (size_term b (depth + 1) n) (size_term c (depth + 1))) w.1 in
    let u = size_first (size_term b (depth + 1) v.0) (size_term c (depth + 1)) v.2 in
    (fits_term a g (depth + 1) _ v.1 (omega arith), fits_term b g (depth + 1) _ u.1 (omega arith), fits_term c g (depth + 1) _ u.2 (omega arith))
fits_term (Fst a) (suc g) depth nodes e l = fits_term a g (depth + 1) _ (one_part depth nodes _ e).1.1 (omega arith)
fits_term (Snd a) (suc g) depth nodes e l = fits_term a g (depth + 1) _ (one_part depth nodes _ e).1.1 (omega arith)

-- end of a term that fits

-- the laws

pub fit_term : (f g depth nodes : ℕ) → 33 ≤ g + depth → (bs : List ℕ) (at : ℕ) {t : Term} {rest : List ℕ} {end n : ℕ} → size_term t depth nodes ≡ fits n → read_term f bs at ≡ got t rest end → read_term g bs at ≡ got t rest end
fit_term f g depth nodes l bs at {t} s e = (keeps_term f g).on bs at e (fits_term t g depth nodes s l)
