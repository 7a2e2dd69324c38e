-- A reader that starts at an offset of a run's bytes ends at an offset of them, and so is the place of its fault.
use Rattle.std.specs.Prelude.{ℕ, ◌+◌, ◌*◌, ◌≤◌, ◌≡◌, refl, List, [], ◌∷◌, Bool, true, false, ◌&&◌, leb, length, get_or, drop}
use Rattle.std.proofs.Common.{sym, ap, ◌∙◌, arith, length-drop, drop-drop}
use Rattle.std.proofs.Math.Option.{Option, none, some}
use Rattle.walk.specs.Reader.{Read, got, bad, Reader, read_on, ◌>>=◌, ok, byte, meant, one_of, k_u, k_v, k_nat, k_zero, k_pi, k_lam, k_app, k_path, k_plam, k_papp, k_sigma, k_pair, k_fst, k_snd, k_0, k_1, k_dim, k_neg, k_meet, k_join, kinds, ikinds, codes, terms_of, lists_types, read_interval, read_term, read_terms, read_head, Call, read_call, Sent, all_calls, read_drafts, read_sent, read_calls, read_limit, read_run}

-- The rest starts at the end, which lies at least n bytes on and inside the run.
pub record Stops (bytes : List ℕ) (start n : ℕ) (rest : List ℕ) (end : ℕ) : Type 0 where
  pub left : rest ≡ drop end bytes
  pub far : start + n ≤ end
  pub inside : start ≤ length bytes → end ≤ length bytes

abbrev pub Ends : {A : Type 0} → List ℕ → ℕ → ℕ → Read A → Type 0
Ends bytes start n (got a rest end) = Stops bytes start n rest end
Ends bytes start n (bad place) = start ≤ length bytes → place ≤ length bytes

pub record Goes {A : Type 0} (n : ℕ) (m : Reader A) : Type 0 where
  pub on : (bytes : List ℕ) (at : ℕ) → Ends bytes at n (m (drop at bytes) at)

pub ends : {A : Type 0} {n : ℕ} {m : Reader A} → Goes n m → (bytes : List ℕ) (at : ℕ) {a : A} {rest : List ℕ} {end : ℕ} → m (drop at bytes) at ≡ got a rest end → Stops bytes at n rest end
ends {A} {n} {m} G bytes at e = rw e at (G.on bytes at)

pub faults : {A : Type 0} {n : ℕ} {m : Reader A} → Goes n m → (bytes : List ℕ) (at : ℕ) {place : ℕ} → m (drop at bytes) at ≡ bad place → at ≤ length bytes → place ≤ length bytes
faults {A} {n} {m} G bytes at e = rw e at (G.on bytes at)

goes_then : {A B : Type 0} {n k : ℕ} {m : Reader A} {f : A → Reader B} → Goes n m → ((a : A) → Goes k (f a)) → Goes (n + k) (m >>= f)
unfolding ◌>>=◌ read_on
goes_then {A} {B} {n} {k} {m} {f} M K = record { on = λ bytes at. first bytes at (m (drop at bytes) at) (M.on bytes at) }
  where
    second : (bytes : List ℕ) (at at' : ℕ) (rest : List ℕ) → Stops bytes at n rest at' → (r : Read B) → Ends bytes at' k r → Ends bytes at (n + k) r
    second bytes at at' rest e (got b rest' end) e' = record { left = e'.left; far = omega arith; inside = λ h. e'.inside (e.inside h) }
    second bytes at at' rest e (bad place) e' = λ h. e' (e.inside h)

    first : (bytes : List ℕ) (at : ℕ) (r : Read A) → Ends bytes at n r → Ends bytes at (n + k) (read_on r f)
    first bytes at (got a rest at') e = second bytes at at' rest e (f a rest at') (rw e.left ((K a).on bytes at'))
    first bytes at (bad place) e = e

goes_less : {A : Type 0} {n k : ℕ} {m : Reader A} → k ≤ n → Goes n m → Goes k m
goes_less {A} {n} {k} {m} h M = record { on = λ bytes at. go bytes at (m (drop at bytes) at) (M.on bytes at) }
  where
    go : (bytes : List ℕ) (at : ℕ) (r : Read A) → Ends bytes at n r → Ends bytes at k r
    go bytes at (got a rest end) e = record { left = e.left; far = omega arith; inside = e.inside }
    go bytes at (bad place) e = e

goes_ok : {A : Type 0} (a : A) → Goes 0 (ok a)
unfolding ok
goes_ok a = record { on = λ bytes at. record { left = refl; far = omega arith; inside = λ h. h } }

past_one : (bytes : List ℕ) (at b : ℕ) (bs : List ℕ) → drop at bytes ≡ b ∷ bs → Stops bytes at 1 bs (at + 1)
past_one bytes at b bs e = record { left = ap (drop 1) (sym e) ∙ drop-drop 1 at bytes; far = omega arith; inside = λ h. omega (arith, length-drop at bytes, ap length e) }

pub goes_byte : Goes 1 byte
unfolding byte
goes_byte = record { on = λ bytes at. go bytes at (drop at bytes) refl }
  where
    go : (bytes : List ℕ) (at : ℕ) (bs : List ℕ) → drop at bytes ≡ bs → Ends bytes at 1 (byte bs at)
    go bytes at [] e = λ h. h
    go bytes at (b ∷ bs) e = past_one bytes at b bs e

goes_one : {K : Type 0} (table : List (Option K)) → Goes 1 (one_of table)
unfolding one_of meant
goes_one {K} table = record { on = λ bytes at. go bytes at (drop at bytes) refl }
  where
    look : (bytes : List ℕ) (at b : ℕ) (bs : List ℕ) → drop at bytes ≡ b ∷ bs → (o : Option K) → Ends bytes at 1 (meant o bs at)
    look bytes at b bs e none = λ h. h
    look bytes at b bs e (some k) = past_one bytes at b bs e

    go : (bytes : List ℕ) (at : ℕ) (bs : List ℕ) → drop at bytes ≡ bs → Ends bytes at 1 (one_of table bs at)
    go bytes at [] e = λ h. h
    go bytes at (b ∷ bs) e = look bytes at b bs e (get_or table b none)

-- a part, and what follows
goes_part : {A B : Type 0} {m : Reader A} {f : A → Reader B} → Goes 1 m → ((a : A) → Goes 0 (f a)) → Goes 0 (m >>= f)
goes_part M K = goes_less (omega arith) (goes_then M K)

goes_nothing : {A : Type 0} {n : ℕ} → Goes {A = A} n (λ bs at. bad at)
goes_nothing = record { on = λ bytes at. λ h. h }

pub goes_interval : (f : ℕ) → Goes 1 (read_interval f)
unfolding read_interval
goes_interval ℕ.zero = goes_nothing
goes_interval (ℕ.suc f) = goes_then {k = 0} (goes_one ikinds) (elim [
  -- written by tools/written.py: kinds of an interval
  | k_0 ↦ goes_ok _
  | k_1 ↦ goes_ok _
  | k_dim ↦ goes_part goes_byte (λ n. goes_ok _)
  | k_neg ↦ goes_part (goes_interval f) (λ a. goes_ok _)
  | k_meet ↦ goes_part (goes_interval f) (λ a. goes_part (goes_interval f) (λ b. goes_ok _))
  | k_join ↦ goes_part (goes_interval f) (λ a. goes_part (goes_interval f) (λ b. goes_ok _))
  -- end of kinds of an interval
])

pub goes_term : (f : ℕ) → Goes 1 (read_term f)
unfolding read_term
goes_term ℕ.zero = goes_nothing
goes_term (ℕ.suc f) = goes_then {k = 0} (goes_one kinds) (elim [
  -- written by tools/written.py: kinds of a term
  | k_u ↦ goes_part goes_byte (λ n. goes_ok _)
  | k_v ↦ goes_part goes_byte (λ n. goes_ok _)
  | k_nat ↦ goes_ok _
  | k_zero ↦ goes_ok _
  | k_pi ↦ goes_part (goes_term f) (λ a. goes_part (goes_term f) (λ b. goes_ok _))
  | k_lam ↦ goes_part (goes_term f) (λ a. goes_part (goes_term f) (λ b. goes_ok _))
  | k_app ↦ goes_part (goes_term f) (λ a. goes_part (goes_term f) (λ b. goes_ok _))
  | k_path ↦ goes_part (goes_term f) (λ a. goes_part (goes_term f) (λ b. goes_part (goes_term f) (λ c. goes_ok _)))
  | k_plam ↦ goes_part (goes_term f) (λ a. goes_part (goes_term f) (λ b. goes_ok _))
  | k_papp ↦ goes_part (goes_term f) (λ a. goes_part (goes_interval f) (λ b. goes_ok _))
  | k_sigma ↦ goes_part (goes_term f) (λ a. goes_part (goes_term f) (λ b. goes_ok _))
  | k_pair ↦ goes_part (goes_term f) (λ a. goes_part (goes_term f) (λ b. goes_part (goes_term f) (λ c. goes_ok _)))
  | k_fst ↦ goes_part (goes_term f) (λ a. goes_ok _)
  | k_snd ↦ goes_part (goes_term f) (λ a. goes_ok _)
  -- end of kinds of a term
])

pub goes_terms : (f n : ℕ) → Goes 0 (read_terms f n)
unfolding read_terms
goes_terms f ℕ.zero = goes_ok []
goes_terms f (ℕ.suc n) = goes_part (goes_term f) (λ t. goes_then (goes_terms f n) (λ ts. goes_ok _))

pub goes_head : Goes 3 read_head
unfolding read_head
goes_head = goes_then (goes_one codes) (λ c. goes_then goes_byte (λ d. goes_then goes_byte (λ n. goes_ok _)))

pub goes_call : (f : ℕ) → Goes 3 (read_call f)
unfolding read_call
goes_call f = goes_then goes_head (λ h. goes_then (goes_terms f h.size) (λ types. goes_then (goes_terms f (terms_of h.code)) (λ terms. goes_ok _)))

goes_drafts : (f : ℕ) (b : Bool) → Goes 0 (read_drafts f b)
unfolding read_drafts
goes_drafts f true = goes_part goes_byte (λ n. goes_terms f n)
goes_drafts f false = goes_ok []

pub goes_sent : (f : ℕ) → Goes 3 (read_sent f)
unfolding read_sent
goes_sent f = goes_then (goes_call f) (λ call. goes_then (goes_drafts f (lists_types call.code)) (λ drafts. goes_ok _))

goes_calls : (f m : ℕ) → Goes 0 (read_calls f m)
unfolding read_calls ◌>>=◌ ok
goes_calls f ℕ.zero = record { on = λ bytes at. go bytes at (drop at bytes) refl }
  where
    go : (bytes : List ℕ) (at : ℕ) (bs : List ℕ) → drop at bytes ≡ bs → Ends bytes at 0 (read_calls f ℕ.zero bs at)
    go bytes at [] e = record { left = sym e; far = omega arith; inside = λ h. h }
    go bytes at (b ∷ bs) e = λ h. h
goes_calls f (ℕ.suc m) = record { on = λ bytes at. go bytes at (drop at bytes) refl ((goes_less (omega arith) (goes_then (goes_sent f) (λ sent. goes_then (goes_calls f m) (λ others. goes_ok (sent ∷ others))))).on bytes at) }
  where
    go : (bytes : List ℕ) (at : ℕ) (bs : List ℕ) → drop at bytes ≡ bs → Ends {A = List Sent} bytes at 0 ((read_sent f >>= λ sent. read_calls f m >>= λ others. ok (sent ∷ others)) (drop at bytes) at) → Ends bytes at 0 (read_calls f (ℕ.suc m) bs at)
    go bytes at [] e h = record { left = sym e; far = omega arith; inside = λ h. h }
    go bytes at (b ∷ bs) e h = rw e at h

goes_limit : Goes 2 read_limit
unfolding read_limit
goes_limit = record { on = λ bytes at. go bytes at (drop at bytes) refl }
  where
    within : (bytes : List ℕ) (at a b : ℕ) (bs : List ℕ) → drop at bytes ≡ a ∷ b ∷ bs → (t : Bool) → Ends {A = ℕ} bytes at 2 (elim t as (λ x. Read ℕ) [ true ↦ got (a + 256 * b) bs (at + 2) | false ↦ bad at ])
    within bytes at a b bs e true = record { left = ap (drop 2) (sym e) ∙ drop-drop 2 at bytes; far = omega arith; inside = λ h. omega (arith, length-drop at bytes, ap length e) }
    within bytes at a b bs e false = λ h. h

    go : (bytes : List ℕ) (at : ℕ) (bs : List ℕ) → drop at bytes ≡ bs → Ends bytes at 2 (read_limit bs at)
    go bytes at [] e = λ h. h
    go bytes at (a ∷ []) e = λ h. omega (arith, length-drop at bytes, ap length e)
    go bytes at (a ∷ b ∷ bs) e = within bytes at a b bs e (leb 1 (a + 256 * b) && leb (a + 256 * b) 4096)

-- The place of refusal 3 lies in the run or at its end.
pub run_fault : (bytes : List ℕ) {place : ℕ} → read_run bytes ≡ bad place → place ≤ length bytes
unfolding read_run
run_fault bytes e = faults {A = ℕ × List Call} (goes_then goes_limit (λ limit. goes_then (goes_calls (length bytes) (length bytes)) (λ sents. goes_ok (limit, all_calls sents)))) bytes 0 e (omega arith)
