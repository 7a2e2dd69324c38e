-- The loop over the terms of a call, with their sizes.
use Prim.Native.Nat.{ℕ, zero, suc, ◌+◌, ◌-◌, ◌≤◌, ◌<◌}
use mathlib.Core.Path.{◌≡◌, refl, ap, ◌∙◌}
use mathlib.Core.List.{List, ◌∷◌, ◌++◌}
use mathlib.Core.Bool.{Bool, true, false, ◌||◌}
use native.Mathlib.Omega.{arith}
use borrow.Author.Tests.{lt-ltb, le-ltb}
use lib.Dec.{ltb}
use lib.ListN.{length, drop}
use Rattle.ast.specs.declared.refusals.Refusal.{Refusal}
use Rattle.ast.specs.declared.refusals.Refusal.TheVariants as refusal
use Rattle.walk.specs.Syntax.{Term}
use Rattle.walk.specs.Reader.{Read, got, bad, read_on, ◌>>=◌, ok, terms_of, Head, Call, read_terms, read_head, read_call}
use Rattle.walk.specs.Limits.{Sized, fits, scope_over, size_over, index_over, size_on, size_term, size_terms, size_call}
use Rattle.syntax.specs.Told.{term_at, terms_at, call_at, unread_at, next_of, head_in, head_of, HeadAt, many_terms, fits_to, sized, size_of}
use Rattle.syntax.specs.Ends.{ends, goes_term}
use Rattle.syntax.specs.Heads.{tells_bad}
use Rattle.syntax.specs.Calls.{are_terms, call_is, call_head as head_here}
use Rattle.syntax.specs.Parts.{Count, reached, counted, Faults, Counts}
use Rattle.syntax.specs.declared.scan.CallHead.{CallHead}
use Rattle.std.specs.Prelude.{Ok, Err}
use Rattle.syntax.specs.declared.scan.Fault.{Fault}
use Rattle.syntax.specs.declared.scan.Unread.{Unread}
use Rattle.syntax.specs.declared.scan.Unread.TheVariants.{Bad as Faulty}
use Rattle.syntax.specs.declared.limits.Counted.{Counted}
use Rattle.syntax.specs.declared.limits.Uncounted.{Uncounted}
use Rattle.syntax.specs.declared.limits.Uncounted.TheVariants.{Refused, Bad}
use Rattle.syntax.specs.declared.limits.Unfit.TheVariants.{Refused as Over, Unread as NotRead}
use Rattle.syntax.proofs.Terms.{call_of, terms_after, T, call_here, terms_here}

-- The answer tells the size.
pub nodes_tell : (s : Sized) (n p end : ℕ) → reached n p ≡ counted s end → (s ≡ fits n) × (p ≡ end)
unfolding counted
nodes_tell (fits m) n p end e =
    let same : ◌≡◌ {A = Counted} (record { nodes = n; next = p }) (record { nodes = m; next = end }) = cc in
    (rw (ap (λ (c : Counted). c.nodes) same), ap (λ (c : Counted). c.next) same)
nodes_tell scope_over n p end e = absurd (let z : ◌≡◌ {A = ℕ} 0 1 = cc in omega arith)
nodes_tell size_over n p end e = absurd (let z : ◌≡◌ {A = ℕ} 0 1 = cc in omega arith)
nodes_tell index_over n p end e = absurd (let z : ◌≡◌ {A = ℕ} 0 1 = cc in omega arith)

-- one turn, after so many
pub terms_on : (bytes : List ℕ) (k i nodes at : ℕ) (counted : Counted) (r : Count) → i < k → Counts (λ t. size_term t 0 nodes) (term_at bytes at) (Ok counted) → Counts (λ ts. size_terms ts counted.nodes) (terms_at (k - (i + 1)) bytes counted.next) r → Counts (λ ts. size_terms ts nodes) (terms_at (k - i) bytes at) r
unfolding read_terms ◌>>=◌ read_on ok
terms_on bytes k i nodes at counted r h c d =
    let left : k - i ≡ suc (k - (i + 1)) = omega arith in
    rw left (first (term_at bytes at) refl c)
  where
    rest : (t : Term) → size_term t 0 nodes ≡ fits counted.nodes → (x : Read (List Term)) → Counts (λ ts. size_terms ts counted.nodes) x r → Counts (λ ts. size_terms ts nodes) (read_on x (λ ts. ok (t ∷ ts))) r
    rest t e (got ts bs end) d = d ∙ (unfold size_terms size_on in rw e)
    rest t e (bad place) d = d

    second : (t : Term) → size_term t 0 nodes ≡ fits counted.nodes → (bs : List ℕ) → bs ≡ drop counted.next bytes → Counts (λ ts. size_terms ts nodes) (read_on (read_terms (length bytes) (k - (i + 1)) bs counted.next) (λ ts. ok (t ∷ ts))) r
    second t e bs l = rw l (rest t e (read_terms (length bytes) (k - (i + 1)) (drop counted.next bytes) counted.next) d)

    first : (x : Read Term) → term_at bytes at ≡ x → Counts (λ t. size_term t 0 nodes) x (Ok counted) → Counts (λ ts. size_terms ts nodes) (read_on x (λ t. read_terms (length bytes) (k - (i + 1)) >>= λ ts. ok (t ∷ ts))) r
    first (got t bs end) e c =
        let q : (size_term t 0 nodes ≡ fits counted.nodes) × (counted.next ≡ end) = nodes_tell (size_term t 0 nodes) counted.nodes counted.next end c in
        rw (← q.1) (second t q.0 bs (rw q.1 (ends (goes_term (length bytes)) bytes at e).left))
    first (bad place) e c = absurd c

pub terms_stop : (bytes : List ℕ) (k nodes at : ℕ) (u : Uncounted) → 0 < k → Counts (λ t. size_term t 0 nodes) (term_at bytes at) (Err u) → Counts (λ ts. size_terms ts nodes) (terms_at k bytes at) (Err u)
unfolding read_terms ◌>>=◌ read_on ok
terms_stop bytes zero nodes at u h c = absurd (let z : ⊥ = omega arith in z)
terms_stop bytes (suc k) nodes at u h c = first (term_at bytes at) c
  where
    over : (s : Sized) (end end' : ℕ) (f : ℕ → Sized) → Err u ≡ counted s end → Err u ≡ counted (size_on s f) end'
    over (fits n) end end' f e = absurd (unfold counted in let z : ◌≡◌ {A = ℕ} 0 1 = cc in omega arith)
    over scope_over end end' f e = unfold counted size_on in e
    over size_over end end' f e = unfold counted size_on in e
    over index_over end end' f e = unfold counted size_on in e

    unread : (s : Sized) (end place : ℕ) → Err u ≡ counted s end → Faults place (Err u)
    unread (fits n) end place e = absurd (unfold counted in let z : ◌≡◌ {A = ℕ} 0 1 = cc in omega arith)
    unread scope_over end place e = unfold counted in let q : u ≡ Refused refusal.Scope = cc in rw q tt
    unread size_over end place e = unfold counted in let q : u ≡ Refused refusal.Size = cc in rw q tt
    unread index_over end place e = unfold counted in let q : u ≡ Refused refusal.Index = cc in rw q tt

    rest : (t : Term) (end : ℕ) → Err u ≡ counted (size_term t 0 nodes) end → (x : Read (List Term)) → Counts (λ ts. size_terms ts nodes) (read_on x (λ ts. ok (t ∷ ts))) (Err u)
    rest t end e (got ts bs end') = unfold size_terms in over (size_term t 0 nodes) end end' (size_terms ts) e
    rest t end e (bad place) = unread (size_term t 0 nodes) end place e

    first : (x : Read Term) → Counts (λ t. size_term t 0 nodes) x (Err u) → Counts (λ ts. size_terms ts nodes) (read_on x (λ t. read_terms (length bytes) k >>= λ ts. ok (t ∷ ts))) (Err u)
    first (got t bs end) c = rest t end c (read_terms (length bytes) k bs end)
    first (bad place) c = c

pub terms_done : (bytes : List ℕ) (k nodes at : ℕ) → k ≤ 0 → Counts (λ ts. size_terms ts nodes) (terms_at k bytes at) (reached nodes at)
unfolding read_terms ok size_terms counted
terms_done bytes zero nodes at h = refl
terms_done bytes (suc k) nodes at h = absurd (let z : ⊥ = omega arith in z)

-- the call: its head's limits, then those of its terms

size_call_is : (call : Call) (t : Bool) → (ltb 33 call.dims || ltb 33 (length call.types)) ≡ t → size_call call ≡ elim t as (λ x. Sized) [ true ↦ scope_over | false ↦ size_terms (call.types ++ call.terms) 0 ]
unfolding size_call
size_call_is call t e = ap (λ (t : Bool). elim t as (λ x. Sized) [ true ↦ scope_over | false ↦ size_terms (call.types ++ call.terms) 0 ]) e

abbrev made : Head → List Term → List Term → Call
made head types terms = record { code = head.code; dims = head.dims; types = types; terms = terms }

module _ (bytes : List ℕ) (at : ℕ) (head : Head) where
  pub call_over : (ltb 33 head.dims || ltb 33 head.size) ≡ true → Counts size_call (call_of (length bytes) head (drop at bytes) at) (Err (Refused refusal.Scope))
  unfolding ◌>>=◌ read_on ok
  call_over t = first (terms_at head.size bytes at) refl
    where
      second : (types : List Term) → length types ≡ head.size → (x : Read (List Term)) → Counts size_call (read_on x (λ terms. ok (made head types terms))) (Err (Refused refusal.Scope))
      second types l (got terms rest end) = rw (size_call_is (made head types terms) true (rw l t)) (unfold counted in refl)
      second types l (bad place) = tt

      first : (x : Read (List Term)) → terms_at head.size bytes at ≡ x → Counts size_call (read_on x (λ types. read_terms (length bytes) (terms_of head.code) >>= λ terms. ok (made head types terms))) (Err (Refused refusal.Scope))
      first (got types rest middle) e = second types (are_terms bytes head.size at e).many (read_terms (length bytes) (terms_of head.code) rest middle)
      first (bad place) e = tt

  pub call_counts : (r : Count) → (ltb 33 head.dims || ltb 33 head.size) ≡ false → Counts (λ ts. size_terms ts 0) (terms_after (length bytes) head (drop at bytes) at) r → Counts size_call (call_of (length bytes) head (drop at bytes) at) r
  unfolding ◌>>=◌ read_on ok
  call_counts r t c = first (terms_at head.size bytes at) refl c
    where
      second : (types : List Term) → length types ≡ head.size → (x : Read (List Term)) → Counts (λ ts. size_terms ts 0) (read_on x (λ us. ok (types ++ us))) r → Counts size_call (read_on x (λ terms. ok (made head types terms))) r
      second types l (got terms rest end) d = rw (size_call_is (made head types terms) false (rw l t)) d
      second types l (bad place) d = d

      first : (x : Read (List Term)) → terms_at head.size bytes at ≡ x → Counts (λ ts. size_terms ts 0) (read_on x (λ ts. read_terms (length bytes) (terms_of head.code) >>= λ us. ok (ts ++ us))) r → Counts size_call (read_on x (λ types. read_terms (length bytes) (terms_of head.code) >>= λ terms. ok (made head types terms))) r
      first (got types rest middle) e d = second types (are_terms bytes head.size at e).many (read_terms (length bytes) (terms_of head.code) rest middle) d
      first (bad place) e d = d

module _ (bytes : List ℕ) (from : ℕ) (told : CallHead) (e : HeadAt bytes from told) where
  abbrev head : Head
  head = (T bytes from told e).head

  dims_is : told.dims ≡ head.dims
  dims_is = ap (λ (h : CallHead). h.dims) (T bytes from told e).is

  size_is : told.size ≡ head.size
  size_is = ap (λ (h : CallHead). h.size) (T bytes from told e).is

  pub dims_over : 33 < told.dims → Counts size_call (call_at bytes from) (Err (Refused refusal.Scope))
  dims_over h =
      let l : 33 < head.dims = omega (arith, dims_is) in
      rw (call_here bytes from told e) (call_over bytes (from + 3) head (rw (lt-ltb 33 head.dims l)))

  pub size_over_33 : told.dims ≤ 33 → 33 < told.size → Counts size_call (call_at bytes from) (Err (Refused refusal.Scope))
  size_over_33 k h =
      let m : head.dims ≤ 33 = omega (arith, dims_is) in
      let l : 33 < head.size = omega (arith, size_is) in
      rw (call_here bytes from told e) (call_over bytes (from + 3) head (rw (le-ltb 33 head.dims m, lt-ltb 33 head.size l)))

  pub within : (r : Count) → told.dims ≤ 33 → told.size ≤ 33 → Counts (λ ts. size_terms ts 0) (terms_at (many_terms told) bytes (from + 3)) r → Counts size_call (call_at bytes from) r
  within r k h c =
      let m : head.dims ≤ 33 = omega (arith, dims_is) in
      let l : head.size ≤ 33 = omega (arith, size_is) in
      rw (call_here bytes from told e) (call_counts bytes (from + 3) head r (rw (le-ltb 33 head.dims m, le-ltb 33 head.size l)) (rw (terms_here bytes from told e) at c))

  -- what `size_headed` tells
  pub size_fits : (n end : ℕ) → Counts size_call (call_at bytes from) (reached n end) → fits_to told n end ≡ size_of (call_at bytes from)
  unfolding size_of sized
  size_fits n end c = go (call_at bytes from) refl c
    where
      fit : (call : Call) (next : ℕ) → (size_call call ≡ fits n) × (end ≡ next) → told ≡ head_in call.code call.dims (length call.types) → fits_to told n end ≡ sized (size_call call) call next
      fit call next q same = rw (q.0, q.1, same)

      go : (r : Read Call) → call_at bytes from ≡ r → Counts size_call r (reached n end) → fits_to told n end ≡ size_of r
      go (got call rest next) q c =
          let same : Ok told ≡ Ok (head_in call.code call.dims (length call.types)) = e ∙ head_here bytes from (call_is bytes from q) in
          fit call next (nodes_tell (size_call call) n end next c) cc
      go (bad place) q c = absurd c

pub size_bad : (r : Read Call) (p : ℕ) → Counts size_call r (Err (Bad p)) → Err (NotRead (Faulty p)) ≡ size_of r
unfolding size_of counted
size_bad (got call rest next) p c = absurd (go (size_call call) c)
  where
    go : (s : Sized) → Err (Bad p) ≡ counted s next → ⊥
    go (fits n) e = let z : ◌≡◌ {A = ℕ} 0 1 = cc in omega arith
    go scope_over e = let z : ◌≡◌ {A = ℕ} 0 1 = cc in omega arith
    go size_over e = let z : ◌≡◌ {A = ℕ} 0 1 = cc in omega arith
    go index_over e = let z : ◌≡◌ {A = ℕ} 0 1 = cc in omega arith
size_bad (bad place) p c = rw c

-- The end of a refused call.
module _ (r : Read Call) (why : Refusal) (c : Counts size_call r (Err (Refused why))) where
  pub size_refused : (end : ℕ) → Ok end ≡ next_of r → Err (Over why end) ≡ size_of r
  unfolding next_of size_of
  size_refused end e = go r c e
    where
      told_as : (s : Sized) (call : Call) (end : ℕ) → Err (Refused why) ≡ counted s end → Err (Over why end) ≡ sized s call end
      told_as (fits n) call end q = absurd (unfold counted in let z : ◌≡◌ {A = ℕ} 0 1 = cc in omega arith)
      told_as scope_over call end q = unfold counted sized in let k : why ≡ refusal.Scope = cc in rw k
      told_as size_over call end q = unfold counted sized in let k : why ≡ refusal.Size = cc in rw k
      told_as index_over call end q = unfold counted sized in let k : why ≡ refusal.Index = cc in rw k

      go : (r : Read Call) → Counts size_call r (Err (Refused why)) → Ok end ≡ next_of r → Err (Over why end) ≡ size_of r
      go (got call rest end') c e = let q : end ≡ end' = cc in rw q (told_as (size_call call) call end' c)
      go (bad place) c e = absurd (let z : ◌≡◌ {A = ℕ} 0 1 = cc in omega arith)

  pub size_unread : (u : Unread) → Err u ≡ next_of r → Err (NotRead u) ≡ size_of r
  unfolding next_of size_of
  size_unread u e = go r e
    where
      go : (r : Read Call) → Err u ≡ next_of r → Err (NotRead u) ≡ size_of r
      go (got call rest end) e = absurd (let z : ◌≡◌ {A = ℕ} 0 1 = cc in omega arith)
      go (bad place) e = let q : u ≡ Faulty place = cc in rw q

pub size_none : (bytes : List ℕ) (from : ℕ) (fault : Fault) → Err fault ≡ head_of (read_head (drop from bytes) from) → Err (NotRead (unread_at fault)) ≡ size_of (call_at bytes from)
unfolding size_of read_call ◌>>=◌ read_on
size_none bytes from fault e = rw (tells_bad fault (read_head (drop from bytes) from) e)
