-- The scan over a stack of parts finds the end, or the fault, that the reader of a term finds.
use Prim.Native.Nat.{ℕ, suc, ◌+◌, ◌≤◌}
use mathlib.Core.Path.{◌≡◌, refl, ◌∙◌}
use mathlib.Core.List.{List, [], ◌∷◌, ◌++◌, append_assoc}
use mathlib.Core.Option.{Option, none, some}
use native.Mathlib.Omega.{arith}
use lib.ListN.{length, get_or}
use Rattle.walk.specs.Syntax.{Term}
use Rattle.walk.specs.Reader.{Read, got, bad, Reader, read_on, ◌>>=◌, ok, byte, meant, one_of, k_u, k_v, k_nat, k_zero, k_pi, k_lam, k_app, k_path, k_plam, k_papp, k_sigma, k_pair, k_fst, k_snd, k_0, k_1, k_dim, k_neg, k_meet, k_join, kinds, ikinds, read_interval, read_term}
use Rattle.syntax.specs.Parts.{Part, index, term, interval, parts, iparts, of_kind, after}
use Rattle.syntax.specs.Told.{next_of}
use Rattle.syntax.specs.declared.scan.Unread.{Unread}
use Rattle.std.specs.Prelude.{Result, Ok, Err}
use Rattle.syntax.specs.declared.scan.Unread.TheVariants.{Bad}

unfoldable pub opened : Option (List Part) → ℕ → (List Part → Result ℕ Unread) → Result ℕ Unread
opened none at f = Err (Bad at)
opened (some new) at f = f new

-- Reads all the parts, the first of them first.
unfoldable pub over : List ℕ → List Part → ℕ → Result ℕ Unread
over [] [] at = Ok at
over [] (p ∷ ps) at = Err (Bad at)
over (b ∷ bs) [] at = Ok at
over (b ∷ bs) (p ∷ ps) at = opened (after p b) at (λ new. over bs (new ++ ps) (at + 1))

unfoldable then_over : {A : Type 0} → Read A → List Part → Result ℕ Unread
then_over (got a bs at) ps = over bs ps at
then_over (bad place) ps = Err (Bad place)

abbrev Within : {A : Type 0} → ℕ → Read A → Type 0
Within n (got a bs at) = length bs ≤ n
Within n (bad place) = Unit {0}

-- On these bytes the scan of the parts ps, whatever is to follow, goes as this answer of a reader says.
record Agree {A : Type 0} (ps : List Part) (r : Read A) (bs : List ℕ) (at : ℕ) : Type 0 where
  pub same : (st : List Part) → over bs (ps ++ st) at ≡ then_over r st
  pub within : Within (length bs) r

record Reads {A : Type 0} (f : ℕ) (ps : List Part) (m : Reader A) : Type 0 where
  pub on : (bs : List ℕ) (at : ℕ) → length bs ≤ f → Agree ps (m bs at) bs at

within_trans : {A : Type 0} (r : Read A) (n m : ℕ) → Within n r → n ≤ m → Within m r
within_trans (got a bs at) n m h l = omega arith
within_trans (bad place) n m h l = tt

then : {A B : Type 0} {f : ℕ} {ps qs : List Part} {m : Reader A} {k : A → Reader B} → Reads f ps m → ((a : A) → Reads f qs (k a)) → Reads f (ps ++ qs) (m >>= k)
unfolding ◌>>=◌ read_on then_over
then {A} {B} {f} {ps} {qs} {m} {k} M K = record { on = λ bs at h. go bs at h (m bs at) (M.on bs at h).same (M.on bs at h).within }
  where
    go : (bs : List ℕ) (at : ℕ) → length bs ≤ f → (r : Read A) → ((st : List Part) → over bs (ps ++ st) at ≡ then_over r st) → Within (length bs) r → Agree (ps ++ qs) (read_on r k) bs at
    go bs at h (got a bs' at') e l =
        let K' : Agree qs (k a bs' at') bs' at' = (K a).on bs' at' (omega arith) in
        record { same = λ st. rw append_assoc (e (qs ++ st) ∙ K'.same st); within = within_trans (k a bs' at') (length bs') (length bs) K'.within l }
    go bs at h (bad place) e l = record { same = λ st. rw append_assoc (e (qs ++ st)); within = tt }

done : {A : Type 0} {f : ℕ} (a : A) → Reads f [] (ok a)
unfolding ok then_over
done a = record { on = λ bs at h. record { same = λ st. refl; within = omega arith } }

an_index : {f : ℕ} → Reads f (index ∷ []) byte
unfolding byte then_over over after opened
an_index {f} = record { on = go }
  where
    go : (bs : List ℕ) (at : ℕ) → length bs ≤ f → Agree (index ∷ []) (byte bs at) bs at
    go [] at h = record { same = λ st. refl; within = tt }
    go (b ∷ bs) at h = record { same = λ st. refl; within = omega arith }

-- A node: its byte is looked up in a table, and its parts follow.
node : {A K : Type 0} {f : ℕ} (table : List (Option K)) (parts_of : K → List Part) (p : Part) → ((b : ℕ) → after p b ≡ of_kind parts_of (get_or table b none)) → {m : K → Reader A} → ((k : K) → Reads f (parts_of k) (m k)) → Reads (suc f) (p ∷ []) (one_of table >>= m)
unfolding ◌>>=◌ read_on one_of meant of_kind over opened then_over
node {A} {K} {f} table parts_of p tells {m} each = record { on = go }
  where
    at_byte : (b : ℕ) (bs : List ℕ) (at : ℕ) → length bs ≤ f → (o : Option K) → after p b ≡ of_kind parts_of o → Agree (p ∷ []) (read_on (meant o bs at) m) (b ∷ bs) at
    at_byte b bs at h none e = record { same = λ st. rw e; within = tt }
    at_byte b bs at h (some k) e =
        let E : Agree (parts_of k) (m k bs (at + 1)) bs (at + 1) = (each k).on bs (at + 1) h in
        record { same = λ st. rw e (E.same st); within = within_trans (m k bs (at + 1)) (length bs) (suc (length bs)) E.within (omega arith) }

    go : (bs : List ℕ) (at : ℕ) → length bs ≤ suc f → Agree (p ∷ []) ((one_of table >>= m) bs at) bs at
    go [] at h = record { same = λ st. refl; within = tt }
    go (b ∷ bs) at h = at_byte b bs at (omega arith) (get_or table b none) (tells b)

nothing : {A : Type 0} (p : Part) → Reads {A = A} 0 (p ∷ []) (λ bs at. bad at)
unfolding over then_over
nothing {A} p = record { on = go }
  where
    go : (bs : List ℕ) (at : ℕ) → length bs ≤ 0 → Agree {A = A} (p ∷ []) (bad at) bs at
    go [] at h = record { same = λ st. refl; within = tt }
    go (b ∷ bs) at h = absurd (omega arith)

an_interval : (f : ℕ) → Reads f (interval ∷ []) (read_interval f)
unfolding read_interval after
an_interval ℕ.zero = nothing interval
an_interval (ℕ.suc f) = node ikinds iparts interval (λ b. refl) (elim [
  -- written by tools/written.py: kinds of an interval
  | k_0 ↦ done _
  | k_1 ↦ done _
  | k_dim ↦ then an_index (λ n. done _)
  | k_neg ↦ then (an_interval f) (λ a. done _)
  | k_meet ↦ then (an_interval f) (λ a. then (an_interval f) (λ b. done _))
  | k_join ↦ then (an_interval f) (λ a. then (an_interval f) (λ b. done _))
  -- end of kinds of an interval
])

a_term : (f : ℕ) → Reads f (term ∷ []) (read_term f)
unfolding read_term after
a_term ℕ.zero = nothing term
a_term (ℕ.suc f) = node kinds parts term (λ b. refl) (elim [
  -- written by tools/written.py: kinds of a term
  | k_u ↦ then an_index (λ n. done _)
  | k_v ↦ then an_index (λ n. done _)
  | k_nat ↦ done _
  | k_zero ↦ done _
  | k_pi ↦ then (a_term f) (λ a. then (a_term f) (λ b. done _))
  | k_lam ↦ then (a_term f) (λ a. then (a_term f) (λ b. done _))
  | k_app ↦ then (a_term f) (λ a. then (a_term f) (λ b. done _))
  | k_path ↦ then (a_term f) (λ a. then (a_term f) (λ b. then (a_term f) (λ c. done _)))
  | k_plam ↦ then (a_term f) (λ a. then (a_term f) (λ b. done _))
  | k_papp ↦ then (a_term f) (λ a. then (an_interval f) (λ b. done _))
  | k_sigma ↦ then (a_term f) (λ a. then (a_term f) (λ b. done _))
  | k_pair ↦ then (a_term f) (λ a. then (a_term f) (λ b. then (a_term f) (λ c. done _)))
  | k_fst ↦ then (a_term f) (λ a. done _)
  | k_snd ↦ then (a_term f) (λ a. done _)
  -- end of kinds of a term
])

pub over_term : (f : ℕ) (bs : List ℕ) (at : ℕ) → length bs ≤ f → over bs (term ∷ []) at ≡ next_of (read_term f bs at)
unfolding next_of then_over over
over_term f bs at h = ((a_term f).on bs at h).same [] ∙ go (read_term f bs at)
  where
    go : (r : Read Term) → then_over r [] ≡ next_of r
    go (got t [] at') = refl
    go (got t (b ∷ bs') at') = refl
    go (bad place) = refl
