-- The pass over a term's limits, over a stack of parts and their depths, finds the size of the term that is read.
use Prim.Native.Nat.{ℕ, ◌+◌, ◌≤◌}
use mathlib.Core.Path.{◌≡◌, refl, sym, ap, ◌∙◌, fun_ext}
use mathlib.Core.List.{List, [], ◌∷◌, ◌++◌, append_assoc}
use mathlib.Core.Option.{Option, none, some}
use mathlib.Core.Bool.{Bool, true, false, ◌||◌}
use native.Mathlib.Omega.{arith}
use lib.Dec.{ltb, leb}
use lib.ListN.{length, get_or, drop, length-drop}
use Rattle.syntax.specs.Told.{term_at, next_of}
use Rattle.ast.specs.declared.refusals.Refusal.{Refusal}
use Rattle.ast.specs.declared.refusals.Refusal.TheVariants as refusal
use Rattle.walk.specs.Syntax.{I0, I1, Dim, Neg, Meet, Join, Term, Universe, Var, Nat, Zero, Pi, Lam, App, Path, PathLam, PathApp, Sigma, Pair, Fst, Snd}
use Rattle.walk.specs.Reader.{Read, got, bad, Reader, read_on, ◌>>=◌, ok, byte, meant, one_of, k_u, k_v, k_nat, k_zero, k_pi, k_lam, k_app, k_path, k_plam, k_papp, k_sigma, k_pair, k_fst, k_snd, k_0, k_1, k_dim, k_neg, k_meet, k_join, kinds, ikinds, read_term, read_interval}
use Rattle.walk.specs.Limits.{Sized, fits, scope_over, size_over, index_over, size_on, node, size_interval, size_term}
use Rattle.syntax.specs.Parts.{Part, index, term, interval, parts, iparts, of_kind, after, Count, reached, counted, Faults, Counts}
use Rattle.syntax.specs.declared.scan.Unread.{Unread}
use Rattle.std.specs.Prelude.{map, Result, Ok, Err}
use Rattle.syntax.specs.declared.scan.Unread.TheVariants.{Bad as NoNext}
use Rattle.syntax.specs.declared.limits.Uncounted.TheVariants.{Refused, Bad}
use Rattle.syntax.proofs.Over.{opened, over, over_term}

pub data Deep : Type 0 where
  deep : Part → ℕ → Deep

abbrev pub all_at : ℕ → List Part → List Deep
all_at depth ps = map (λ p. deep p depth) ps

unfoldable pub unless : Bool → Refusal → Count → Count
unless true why c = Err (Refused why)
unless false why c = c

unfoldable pub allowed : Option (List Part) → ℕ → (List Part → Count) → Count
allowed none at f = Err (Bad at)
allowed (some new) at f = f new

unfoldable pub enter : Part → ℕ → ℕ → ℕ → ℕ → (List Deep → ℕ → Count) → Count
enter index depth b nodes at f = unless (ltb 32 b) refusal.Index (f [] nodes)
enter term depth b nodes at f = unless (ltb 32 depth || leb 10000 nodes) refusal.Size (allowed (after term b) at (λ new. f (all_at (depth + 1) new) (nodes + 1)))
enter interval depth b nodes at f = unless (ltb 32 depth || leb 10000 nodes) refusal.Size (allowed (after interval b) at (λ new. f (all_at (depth + 1) new) (nodes + 1)))

unfoldable pub measure : List ℕ → List Deep → ℕ → ℕ → Count
measure [] [] nodes at = reached nodes at
measure [] (d ∷ ds) nodes at = Err (Bad at)
measure (b ∷ bs) [] nodes at = reached nodes at
measure (b ∷ bs) (deep p depth ∷ ds) nodes at = enter p depth b nodes at (λ new n. measure bs (new ++ ds) n (at + 1))

-- Go on where the size fits.
unfoldable on_fit : Sized → (ℕ → Count) → Count
on_fit (fits n) f = f n
on_fit scope_over f = Err (Refused refusal.Scope)
on_fit size_over f = Err (Refused refusal.Size)
on_fit index_over f = Err (Refused refusal.Index)

on_fit_on : (s : Sized) (f : ℕ → Sized) (g : ℕ → Count) → on_fit (size_on s f) g ≡ on_fit s (λ n. on_fit (f n) g)
unfolding on_fit size_on
on_fit_on (fits n) f g = refl
on_fit_on scope_over f g = refl
on_fit_on size_over f g = refl
on_fit_on index_over f g = refl

-- With a size so far, the measure of these parts and the size of what is read give the same.
abbrev Gives : {A : Type 0} → (ℕ → Sized) → List Deep → (A → ℕ → Sized) → List ℕ → ℕ → Read A → Type 0
Gives before ds size bs at (got a bs' at') = (st : List Deep) (n : ℕ) → on_fit (before n) (λ m. measure bs (ds ++ st) m at) ≡ on_fit (size a n) (λ m. measure bs' st m at')
Gives before ds size bs at (bad place) = Unit {0}

record Sizes {A : Type 0} (before : ℕ → Sized) (ds : List Deep) (size : A → ℕ → Sized) (m : Reader A) : Type 0 where
  pub on : (bs : List ℕ) (at : ℕ) → Gives before ds size bs at (m bs at)

then : {A B : Type 0} {before : ℕ → Sized} {ds es : List Deep} {mid : A → ℕ → Sized} {size : B → ℕ → Sized} {m : Reader A} {k : A → Reader B} → Sizes before ds mid m → ((a : A) → Sizes (mid a) es size (k a)) → Sizes before (ds ++ es) size (m >>= k)
unfolding ◌>>=◌ read_on
then {A} {B} {before} {ds} {es} {mid} {size} {m} {k} M K = record { on = λ bs at. first bs at (m bs at) (M.on bs at) }
  where
    second : (bs : List ℕ) (at : ℕ) (a : A) (bs' : List ℕ) (at' : ℕ) → Gives before ds mid bs at (got a bs' at') → (r : Read B) → Gives (mid a) es size bs' at' r → Gives before (ds ++ es) size bs at r
    second bs at a bs' at' e (got b bs'' at'') e' = λ st n. rw append_assoc (e (es ++ st) n ∙ e' st n)
    second bs at a bs' at' e (bad place) e' = tt

    first : (bs : List ℕ) (at : ℕ) (r : Read A) → Gives before ds mid bs at r → Gives before (ds ++ es) size bs at (read_on r k)
    first bs at (got a bs' at') e = second bs at a bs' at' e (k a bs' at') ((K a).on bs' at')
    first bs at (bad place) e = tt

done : {A : Type 0} {before : ℕ → Sized} {size : A → ℕ → Sized} (a : A) → ((n : ℕ) → before n ≡ size a n) → Sizes before [] size (ok a)
unfolding ok
done a e = record { on = λ bs at st n. ap (λ (s : Sized). on_fit s (λ m. measure bs st m at)) (e n) }

-- What has a size by itself has it after another.
after_size : {A : Type 0} {ds : List Deep} {size : A → ℕ → Sized} {m : Reader A} (before : ℕ → Sized) → Sizes fits ds size m → Sizes before ds (λ a n. size_on (before n) (size a)) m
unfolding on_fit
after_size {A} {ds} {size} {m} before M = record { on = λ bs at. go bs at (m bs at) (M.on bs at) }
  where
    go : (bs : List ℕ) (at : ℕ) (r : Read A) → Gives fits ds size bs at r → Gives before ds (λ a n. size_on (before n) (size a)) bs at r
    go bs at (got a bs' at') e = λ st n. ap (on_fit (before n)) (fun_ext (λ m. e st m)) ∙ sym (on_fit_on (before n) (size a) (λ m. measure bs' st m at'))
    go bs at (bad place) e = tt

size_on_on : (s : Sized) (f g : ℕ → Sized) → size_on (size_on s f) g ≡ size_on s (λ n. size_on (f n) g)
unfolding size_on
size_on_on (fits n) f g = refl
size_on_on scope_over f g = refl
size_on_on size_over f g = refl
size_on_on index_over f g = refl

three : (s : Sized) (f g h : ℕ → Sized) → size_on (size_on (size_on s f) g) h ≡ size_on s (λ n. size_on (f n) (λ m. size_on (g m) h))
three s f g h = size_on_on (size_on s f) g h ∙ size_on_on s f (λ m. size_on (g m) h)

-- A node's own limits; those of its index are found a byte later.
abbrev own : ℕ → ℕ → Sized
own depth n = node depth n 0

unfoldable indexed : ℕ → ℕ → Sized
indexed l n = elim (ltb 32 l) [ true ↦ index_over | false ↦ fits n ]

node_index : (depth n l : ℕ) → size_on (own depth n) (indexed l) ≡ node depth n l
unfolding node size_on indexed
node_index depth n l = go (ltb 32 depth || leb 10000 n)
  where
    go : (t : Bool) → size_on (elim t as (λ x. Sized) [ true ↦ size_over | false ↦ fits (n + 1) ]) (indexed l) ≡ elim t as (λ x. Sized) [ true ↦ size_over | false ↦ elim (ltb 32 l) as (λ x. Sized) [ true ↦ index_over | false ↦ fits (n + 1) ] ]
    go true = refl
    go false = refl

sizes_index : (depth : ℕ) → Sizes fits (deep index depth ∷ []) indexed byte
unfolding byte measure enter unless on_fit indexed
sizes_index depth = record { on = go }
  where
    test : (t : Bool) (n : ℕ) (g : ℕ → Count) → unless t refusal.Index (g n) ≡ on_fit (elim t as (λ x. Sized) [ true ↦ index_over | false ↦ fits n ]) g
    test true n g = refl
    test false n g = refl

    go : (bs : List ℕ) (at : ℕ) → Gives fits (deep index depth ∷ []) indexed bs at (byte bs at)
    go [] at = tt
    go (b ∷ bs) at = λ st n. test (ltb 32 b) n (λ m. measure bs st m (at + 1))

-- A node: its byte is looked up in a table, and its parts follow.
sizes_node : {A K : Type 0} {size : A → ℕ → Sized} (table : List (Option K)) (parts_of : K → List Part) (p : Part) (depth : ℕ) → ((b n at : ℕ) (g : List Deep → ℕ → Count) → enter p depth b n at g ≡ unless (ltb 32 depth || leb 10000 n) refusal.Size (allowed (of_kind parts_of (get_or table b none)) at (λ new. g (all_at (depth + 1) new) (n + 1)))) → {m : K → Reader A} → ((k : K) → Sizes (own depth) (all_at (depth + 1) (parts_of k)) size (m k)) → Sizes fits (deep p depth ∷ []) size (one_of table >>= m)
unfolding ◌>>=◌ read_on one_of meant of_kind allowed on_fit measure
sizes_node {A} {K} {size} table parts_of p depth tells {m} each = record { on = go }
  where
    enters : (n : ℕ) (g : ℕ → Count) → unless (ltb 32 depth || leb 10000 n) refusal.Size (g (n + 1)) ≡ on_fit (own depth n) g
    enters n g = unfold node in test (ltb 32 depth || leb 10000 n)
      where
        test : (t : Bool) → unless t refusal.Size (g (n + 1)) ≡ on_fit (elim t as (λ x. Sized) [ true ↦ size_over | false ↦ fits (n + 1) ]) g
        test true = unfold unless on_fit in refl
        test false = unfold unless on_fit in refl

    with_kind : (b : ℕ) (bs : List ℕ) (at : ℕ) (k : K) → ((n : ℕ) (g : List Deep → ℕ → Count) → enter p depth b n at g ≡ unless (ltb 32 depth || leb 10000 n) refusal.Size (g (all_at (depth + 1) (parts_of k)) (n + 1))) → (r : Read A) → Gives (own depth) (all_at (depth + 1) (parts_of k)) size bs (at + 1) r → Gives fits (deep p depth ∷ []) size (b ∷ bs) at r
    with_kind b bs at k e (got a bs' at') E = λ st n. e n (λ new n'. measure bs (new ++ st) n' (at + 1)) ∙ enters n (λ n'. measure bs (all_at (depth + 1) (parts_of k) ++ st) n' (at + 1)) ∙ E st n
    with_kind b bs at k e (bad place) E = tt

    at_byte : (b : ℕ) (bs : List ℕ) (at : ℕ) (o : Option K) → ((n : ℕ) (g : List Deep → ℕ → Count) → enter p depth b n at g ≡ unless (ltb 32 depth || leb 10000 n) refusal.Size (allowed (of_kind parts_of o) at (λ new. g (all_at (depth + 1) new) (n + 1)))) → Gives fits (deep p depth ∷ []) size (b ∷ bs) at (read_on (meant o bs at) m)
    at_byte b bs at none e = tt
    at_byte b bs at (some k) e = with_kind b bs at k e (m k bs (at + 1)) ((each k).on bs (at + 1))

    go : (bs : List ℕ) (at : ℕ) → Gives fits (deep p depth ∷ []) size bs at ((one_of table >>= m) bs at)
    go [] at = tt
    go (b ∷ bs) at = at_byte b bs at (get_or table b none) (λ n g. tells b n at g)

nothing : {A : Type 0} {before : ℕ → Sized} {ds : List Deep} {size : A → ℕ → Sized} → Sizes {A = A} before ds size (λ bs at. bad at)
nothing = record { on = λ bs at. tt }

sizes_interval : (f depth : ℕ) → Sizes fits (deep interval depth ∷ []) (λ a. size_interval a depth) (read_interval f)
unfolding read_interval enter after size_interval
sizes_interval ℕ.zero depth = nothing
sizes_interval (ℕ.suc f) depth =
    let number : Sizes (own depth) (deep index (depth + 1) ∷ []) (λ l n. size_on (own depth n) (indexed l)) byte = after_size (own depth) (sizes_index (depth + 1)) in
    let part : (before : ℕ → Sized) → Sizes before (deep interval (depth + 1) ∷ []) (λ a n. size_on (before n) (size_interval a (depth + 1))) (read_interval f) = λ before. after_size before (sizes_interval f (depth + 1)) in
    sizes_node ikinds iparts interval depth (λ b n at g. refl) (elim [
      -- written by tools/written.py: kinds of an interval
      | k_0 ↦ done I0 (λ n. refl)
      | k_1 ↦ done I1 (λ n. refl)
      | k_dim ↦ then number (λ l. done (Dim l) (λ n. node_index depth n l))
      | k_neg ↦ then (part (own depth)) (λ a. done (Neg a) (λ n. refl))
      | k_meet ↦ then (part (own depth)) (λ a. then (part _) (λ b. done (Meet a b) (λ n. size_on_on (own depth n) _ _)))
      | k_join ↦ then (part (own depth)) (λ a. then (part _) (λ b. done (Join a b) (λ n. size_on_on (own depth n) _ _)))
      -- end of kinds of an interval
    ])

sizes_term : (f depth : ℕ) → Sizes fits (deep term depth ∷ []) (λ t. size_term t depth) (read_term f)
unfolding read_term enter after size_term
sizes_term ℕ.zero depth = nothing
sizes_term (ℕ.suc f) depth =
    let number : Sizes (own depth) (deep index (depth + 1) ∷ []) (λ l n. size_on (own depth n) (indexed l)) byte = after_size (own depth) (sizes_index (depth + 1)) in
    let part : (before : ℕ → Sized) → Sizes before (deep term (depth + 1) ∷ []) (λ a n. size_on (before n) (size_term a (depth + 1))) (read_term f) = λ before. after_size before (sizes_term f (depth + 1)) in
    sizes_node kinds parts term depth (λ b n at g. refl) (elim [
      -- written by tools/written.py: kinds of a term
      | k_u ↦ then number (λ l. done (Universe l) (λ n. node_index depth n l))
      | k_v ↦ then number (λ l. done (Var l) (λ n. node_index depth n l))
      | k_nat ↦ done Nat (λ n. refl)
      | k_zero ↦ done Zero (λ n. refl)
      | k_pi ↦ then (part (own depth)) (λ a. then (part _) (λ b. done (Pi a b) (λ n. size_on_on (own depth n) _ _)))
      | k_lam ↦ then (part (own depth)) (λ a. then (part _) (λ b. done (Lam a b) (λ n. size_on_on (own depth n) _ _)))
      | k_app ↦ then (part (own depth)) (λ a. then (part _) (λ b. done (App a b) (λ n. size_on_on (own depth n) _ _)))
      | k_path ↦ then (part (own depth)) (λ a. then (part _) (λ b. then (part _) (λ c. done (Path a b c) (λ n. three (own depth n) _ _ _))))
      | k_plam ↦ then (part (own depth)) (λ a. then (part _) (λ b. done (PathLam a b) (λ n. size_on_on (own depth n) _ _)))
      | k_papp ↦ then (part (own depth)) (λ a. then (after_size _ (sizes_interval f (depth + 1))) (λ b. done (PathApp a b) (λ n. size_on_on (own depth n) _ _)))
      | k_sigma ↦ then (part (own depth)) (λ a. then (part _) (λ b. done (Sigma a b) (λ n. size_on_on (own depth n) _ _)))
      | k_pair ↦ then (part (own depth)) (λ a. then (part _) (λ b. then (part _) (λ c. done (Pair a b c) (λ n. three (own depth n) _ _ _))))
      | k_fst ↦ then (part (own depth)) (λ a. done (Fst a) (λ n. refl))
      | k_snd ↦ then (part (own depth)) (λ a. done (Snd a) (λ n. refl))
      -- end of kinds of a term
    ])

-- Until it is refused, the pass goes as the scan does.
abbrev Scans : Count → Result ℕ Unread → Type 0
Scans (Ok c) x = x ≡ Ok c.next
Scans (Err (Refused why)) x = Unit {0}
Scans (Err (Bad place)) x = x ≡ Err (NoNext place)

abbrev undeep : List Deep → List Part
undeep [] = []
undeep (deep p depth ∷ ds) = p ∷ undeep ds

undeep_new : (depth : ℕ) (new : List Part) (ds : List Deep) → undeep (all_at depth new ++ ds) ≡ new ++ undeep ds
undeep_new depth [] ds = refl
undeep_new depth (p ∷ ps) ds = ap (λ (l : List Part). p ∷ l) (undeep_new depth ps ds)

scans : (bs : List ℕ) (ds : List Deep) (n at : ℕ) → Scans (measure bs ds n at) (over bs (undeep ds) at)
unfolding measure over enter after
scans [] [] n at = refl
scans [] (deep p depth ∷ ds) n at = refl
scans (b ∷ bs) [] n at = refl
scans (b ∷ bs) (deep p depth ∷ ds) n at = enters p (λ new m. scans bs new m (at + 1))
  where
    unlesss : (t : Bool) (why : Refusal) (c : Count) (x : Result ℕ Unread) → Scans c x → Scans (unless t why c) x
    unlesss true why c x h = unfold unless in tt
    unlesss false why c x h = unfold unless in h

    node_on : (o : Option (List Part)) → ((new : List Deep) (m : ℕ) → Scans (measure bs new m (at + 1)) (over bs (undeep new) (at + 1))) → Scans (allowed o at (λ new. measure bs (all_at (depth + 1) new ++ ds) (n + 1) (at + 1))) (opened o at (λ new. over bs (new ++ undeep ds) (at + 1)))
    node_on none ih = unfold allowed opened in refl
    node_on (some new) ih = unfold allowed opened in rw (undeep_new (depth + 1) new ds) at (ih (all_at (depth + 1) new ++ ds) (n + 1))

    enters : (p : Part) → ((new : List Deep) (m : ℕ) → Scans (measure bs new m (at + 1)) (over bs (undeep new) (at + 1))) → Scans (enter p depth b n at (λ new m. measure bs (new ++ ds) m (at + 1))) (opened (after p b) at (λ new. over bs (new ++ undeep ds) (at + 1)))
    enters index ih = unfold opened in unlesss (ltb 32 b) refusal.Index _ _ (ih ds n)
    enters term ih = unlesss (ltb 32 depth || leb 10000 n) refusal.Size _ _ (node_on (after term b) ih)
    enters interval ih = unlesss (ltb 32 depth || leb 10000 n) refusal.Size _ _ (node_on (after interval b) ih)

faults : (c : Count) (x : Result ℕ Unread) (place : ℕ) → Scans c x → x ≡ Err (NoNext place) → Faults place c
faults (Ok n) x place s e = let z : ◌≡◌ {A = ℕ} 0 1 = cc in omega arith
faults (Err (Refused why)) x place s e = tt
faults (Err (Bad at)) x place s e = cc

pub measure_term : (f n : ℕ) (bs : List ℕ) (at : ℕ) → length bs ≤ f → Counts (λ t. size_term t 0 n) (read_term f bs at) (measure bs (deep term 0 ∷ []) n at)
unfolding on_fit
measure_term f n bs at h = go (read_term f bs at) refl ((sizes_term f 0).on bs at)
  where
    last : (s : Sized) (bs' : List ℕ) (at' : ℕ) → on_fit s (λ m. measure bs' [] m at') ≡ counted s at'
    last (fits m) [] at' = unfold measure counted in refl
    last (fits m) (b ∷ bs') at' = unfold measure counted in refl
    last scope_over bs' at' = unfold counted in refl
    last size_over bs' at' = unfold counted in refl
    last index_over bs' at' = unfold counted in refl

    go : (r : Read Term) → read_term f bs at ≡ r → Gives fits (deep term 0 ∷ []) (λ t. size_term t 0) bs at r → Counts (λ t. size_term t 0 n) r (measure bs (deep term 0 ∷ []) n at)
    go (got t bs' at') q e = e [] n ∙ last (size_term t 0 n) bs' at'
    go (bad place) q e = faults (measure bs (deep term 0 ∷ []) n at) (over bs (term ∷ []) at) place (scans bs (deep term 0 ∷ []) n at) (over_term f bs at h ∙ (unfold next_of in ap next_of q))

pub tells_term : (bytes : List ℕ) (n from : ℕ) {r : Count} → measure (drop from bytes) (deep term 0 ∷ []) n from ≡ r → Counts (λ t. size_term t 0 n) (term_at bytes from) r
tells_term bytes n from e = rw (← e) (measure_term (length bytes) n (drop from bytes) from (simp length-drop (omega arith)))
