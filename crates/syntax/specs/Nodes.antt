-- A node that was read, taken apart by offsets: its kind, its number, its parts one after the other.
use Rattle.std.specs.Prelude.{ℕ, suc, ◌+◌, ◌≤◌, ◌<◌, ◌≡◌, refl, List, length, get_or, drop}
use Rattle.std.proofs.Common.{sym, ap, ◌∙◌, arith, add-one, drop_of_length-le, drop-cons}
use Rattle.std.proofs.Math.Path.{fun_ext}
use Rattle.std.proofs.Math.Option.{Option, none, some}
use Rattle.std.proofs.Math.Decide.{dec_lt}
use Rattle.walk.specs.Syntax.{Interval, I0, I1, Dim, Neg, Meet, Join, Term, Universe, Var, Nat, Zero, Pi, Lam, App, Path, PathLam, PathApp, Sigma, Pair, Fst, Snd}
use Rattle.walk.specs.Reader.{got, bad, Reader, read_on, ◌>>=◌, ok, byte, meant, one_of, Kind, k_u, k_v, k_nat, k_zero, k_pi, k_lam, k_app, k_path, k_plam, k_papp, k_sigma, k_pair, k_fst, k_snd, IKind, k_0, k_1, k_dim, k_neg, k_meet, k_join, kinds, ikinds, read_interval, read_term}
use Rattle.syntax.specs.Ends.{Stops, Goes, ends}
use Rattle.syntax.specs.Calls.{twice}

-- What follows the byte of a kind.
unfoldable pub interval_of : ℕ → IKind → Reader Interval
-- written by tools/written.py: reader of an interval
interval_of f k_0 = ok I0
interval_of f k_1 = ok I1
interval_of f k_dim = byte >>= λ n. ok (Dim n)
interval_of f k_neg = read_interval f >>= λ a. ok (Neg a)
interval_of f k_meet = read_interval f >>= λ a. read_interval f >>= λ b. ok (Meet a b)
interval_of f k_join = read_interval f >>= λ a. read_interval f >>= λ b. ok (Join a b)

-- end of reader of an interval

unfoldable pub term_of : ℕ → Kind → Reader Term
-- written by tools/written.py: reader of a term
term_of f k_u = byte >>= λ n. ok (Universe n)
term_of f k_v = byte >>= λ n. ok (Var n)
term_of f k_nat = ok Nat
term_of f k_zero = ok Zero
term_of f k_pi = read_term f >>= λ a. read_term f >>= λ b. ok (Pi a b)
term_of f k_lam = read_term f >>= λ a. read_term f >>= λ b. ok (Lam a b)
term_of f k_app = read_term f >>= λ a. read_term f >>= λ b. ok (App a b)
term_of f k_path = read_term f >>= λ a. read_term f >>= λ b. read_term f >>= λ c. ok (Path a b c)
term_of f k_plam = read_term f >>= λ a. read_term f >>= λ b. ok (PathLam a b)
term_of f k_papp = read_term f >>= λ a. read_interval f >>= λ b. ok (PathApp a b)
term_of f k_sigma = read_term f >>= λ a. read_term f >>= λ b. ok (Sigma a b)
term_of f k_pair = read_term f >>= λ a. read_term f >>= λ b. read_term f >>= λ c. ok (Pair a b c)
term_of f k_fst = read_term f >>= λ a. ok (Fst a)
term_of f k_snd = read_term f >>= λ a. ok (Snd a)

-- end of reader of a term

pub record NodeAt {A K : Type 0} (table : List (Option K)) (m : K → Reader A) (bytes : List ℕ) (at : ℕ) (a : A) (rest : List ℕ) (end : ℕ) : Type 0 where
  pub inside : at < length bytes
  pub kind : K
  pub here : get_or table (get_or bytes at 0) none ≡ some kind
  pub follows : m kind (drop (at + 1) bytes) (at + 1) ≡ got a rest end

a_node : {A K : Type 0} (table : List (Option K)) (m : K → Reader A) (bytes : List ℕ) (at : ℕ) {a : A} {rest : List ℕ} {end : ℕ} → read_on (one_of table (drop at bytes) at) m ≡ got a rest end → NodeAt table m bytes at a rest end
unfolding read_on one_of meant
a_node {A} {K} table m bytes at {a} {rest} {end} e = go (dec_lt at (length bytes))
  where
    look : at < length bytes → (o : Option K) → get_or table (get_or bytes at 0) none ≡ o → read_on (meant o (drop (suc at) bytes) at) m ≡ got a rest end → NodeAt table m bytes at a rest end
    look l none q e = absurd (let z : ◌≡◌ {A = ℕ} 0 1 = cc in omega arith)
    look l (some k) q e = record { inside = l; kind = k; here = q; follows = rw (add-one at) (rw (add-one at) at e) }

    go : Dec (at < length bytes) → NodeAt table m bytes at a rest end
    go (yes l) = look l (get_or table (get_or bytes at 0) none) refl (rw (drop-cons bytes at 0 l) at e)
    go (no l) = absurd (let q : bad at ≡ got a rest end = rw (drop_of_length-le bytes {i = at} (omega arith)) at e in let z : ◌≡◌ {A = ℕ} 0 1 = cc in omega arith)

interval_read : (f : ℕ) (bs : List ℕ) (at : ℕ) → read_interval (suc f) bs at ≡ read_on (one_of ikinds bs at) (interval_of f)
unfolding read_interval ◌>>=◌ interval_of
interval_read f bs at = ap (read_on (one_of ikinds bs at)) (fun_ext (λ k. elim k [
  -- written by tools/written.py: kinds of an interval
  | k_0 ↦ refl
  | k_1 ↦ refl
  | k_dim ↦ refl
  | k_neg ↦ refl
  | k_meet ↦ refl
  | k_join ↦ refl
  -- end of kinds of an interval
]))

pub interval_node : (f : ℕ) (bytes : List ℕ) (at : ℕ) {a : Interval} {rest : List ℕ} {end : ℕ} → read_interval (suc f) (drop at bytes) at ≡ got a rest end → NodeAt ikinds (interval_of f) bytes at a rest end
interval_node f bytes at e = a_node ikinds (interval_of f) bytes at (sym (interval_read f (drop at bytes) at) ∙ e)

term_read : (f : ℕ) (bs : List ℕ) (at : ℕ) → read_term (suc f) bs at ≡ read_on (one_of kinds bs at) (term_of f)
unfolding read_term ◌>>=◌ term_of
term_read f bs at = ap (read_on (one_of kinds bs at)) (fun_ext (λ k. elim k [
  -- written by tools/written.py: kinds of a term
  | k_u ↦ refl
  | k_v ↦ refl
  | k_nat ↦ refl
  | k_zero ↦ refl
  | k_pi ↦ refl
  | k_lam ↦ refl
  | k_app ↦ refl
  | k_path ↦ refl
  | k_plam ↦ refl
  | k_papp ↦ refl
  | k_sigma ↦ refl
  | k_pair ↦ refl
  | k_fst ↦ refl
  | k_snd ↦ refl
  -- end of kinds of a term
]))

pub term_node : (f : ℕ) (bytes : List ℕ) (at : ℕ) {t : Term} {rest : List ℕ} {end : ℕ} → read_term (suc f) (drop at bytes) at ≡ got t rest end → NodeAt kinds (term_of f) bytes at t rest end
term_node f bytes at e = a_node kinds (term_of f) bytes at (sym (term_read f (drop at bytes) at) ∙ e)

-- A part, and what follows it.
pub record PartAt {A B : Type 0} (m : Reader A) (k : A → Reader B) (bytes : List ℕ) (at : ℕ) (b : B) (rest : List ℕ) (end : ℕ) : Type 0 where
  pub first : A
  pub middle : ℕ
  pub far : at ≤ middle
  pub inside : at ≤ length bytes → middle ≤ length bytes
  pub one : m (drop at bytes) at ≡ got first (drop middle bytes) middle
  pub two : k first (drop middle bytes) middle ≡ got b rest end

pub a_part : {A B : Type 0} {n : ℕ} {m : Reader A} (k : A → Reader B) → Goes n m → (bytes : List ℕ) (at : ℕ) {b : B} {rest : List ℕ} {end : ℕ} → (m >>= k) (drop at bytes) at ≡ got b rest end → PartAt m k bytes at b rest end
unfolding ◌>>=◌
a_part {A} {B} {n} {m} k G bytes at e =
    let w = twice (m (drop at bytes) at) k e in
    let stops : Stops bytes at n w.between w.middle = ends G bytes at w.one in
    record { first = w.first; middle = w.middle; far = omega (arith, stops.far); inside = stops.inside; one = rw (← stops.left) w.one; two = rw (← stops.left) w.two }

pub record ByteAt (bytes : List ℕ) (at n : ℕ) (rest : List ℕ) (end : ℕ) : Type 0 where
  pub inside : at < length bytes
  pub is : n ≡ get_or bytes at 0
  pub left : rest ≡ drop (at + 1) bytes
  pub stop : end ≡ at + 1

pub a_byte : (bytes : List ℕ) (at : ℕ) {n : ℕ} {rest : List ℕ} {end : ℕ} → byte (drop at bytes) at ≡ got n rest end → ByteAt bytes at n rest end
unfolding byte
a_byte bytes at {n} {rest} {end} e = go (dec_lt at (length bytes))
  where
    go : Dec (at < length bytes) → ByteAt bytes at n rest end
    go (yes l) =
        let q : got (get_or bytes at 0) (drop (suc at) bytes) (at + 1) ≡ got n rest end = rw (drop-cons bytes at 0 l) at e in
        let a : n ≡ get_or bytes at 0 = cc in
        let b : rest ≡ drop (suc at) bytes = cc in
        let c : end ≡ at + 1 = cc in
        record { inside = l; is = a; left = rw (add-one at) b; stop = c }
    go (no l) = absurd (let q : bad at ≡ got n rest end = rw (drop_of_length-le bytes {i = at} (omega arith)) at e in let z : ◌≡◌ {A = ℕ} 0 1 = cc in omega arith)

-- Nothing more is read.
pub is_ok : {A : Type 0} (a : A) (bs : List ℕ) (at : ℕ) {b : A} {rest : List ℕ} {end : ℕ} → ok a bs at ≡ got b rest end → (b ≡ a) × (rest ≡ bs) × (end ≡ at)
unfolding ok
is_ok a bs at e = (cc, cc, cc)
