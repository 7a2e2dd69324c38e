-- The loop over the terms of a call, and the call's head before it.
use Prim.Native.Nat.{ℕ, zero, suc, ◌+◌, ◌-◌, ◌≤◌, ◌<◌}
use mathlib.Core.Path.{◌≡◌, refl, sym, ap, ◌∙◌}
use mathlib.Core.List.{List, ◌∷◌, ◌++◌}
use mathlib.Core.Bool.{Bool, true, false}
use native.Mathlib.Omega.{arith}
use native.Mathlib.Nat.{zero-add, suc-add}
use lib.ListN.{length, drop}
use Rattle.walk.specs.Syntax.{Term}
use Rattle.walk.specs.Reader.{Read, got, bad, read_on, ◌>>=◌, ok, Code, terms_of, Head, Call, read_term, read_terms, read_head, read_call}
use Rattle.syntax.specs.Told.{term_at, terms_at, call_at, unread_at, next_of, next_in, head_of, HeadAt, many_terms}
use Rattle.syntax.specs.Heads.{Headed, headed, Tells, tells, tells_bad, code_again}
use Rattle.syntax.specs.declared.scan.CallHead.{CallHead}
use Rattle.syntax.specs.declared.scan.Fault.{Fault}
use Rattle.syntax.specs.Ends.{ends, goes_term}
use Rattle.std.specs.Prelude.{Ok, Err}
use Rattle.syntax.specs.declared.scan.Unread.{Unread}

-- What an end tells of what was read.
pub past : {A : Type 0} (t : Bool) (r : Read A) (p : ℕ) → Ok p ≡ next_in t r → (a : A) × (rest : List ℕ) × (r ≡ got a rest p)
unfolding next_in next_of
past true r p e = absurd (let z : ◌≡◌ {A = ℕ} 0 1 = cc in omega arith)
past false (got a rest at) p e = let q : p ≡ at = cc in rw q (a, rest, refl)
past false (bad place) p e = absurd (let z : ◌≡◌ {A = ℕ} 0 1 = cc in omega arith)

pub past_term : (t : Bool) (bytes : List ℕ) (at p : ℕ) → Ok p ≡ next_in t (term_at bytes at) → (a : Term) × (term_at bytes at ≡ got a (drop p bytes) p)
past_term t bytes at p e = go (past t (term_at bytes at) p e)
  where
    go : (a : Term) × (rest : List ℕ) × (term_at bytes at ≡ got a rest p) → (a : Term) × (term_at bytes at ≡ got a (drop p bytes) p)
    go q = (q.0, q.2 ∙ ap (λ (l : List ℕ). got q.0 l p) (ends (goes_term (length bytes)) bytes at q.2).left)

next_map : {A B : Type 0} (g : A → B) (r : Read A) → next_of (read_on r (λ a. ok (g a))) ≡ next_of r
unfolding next_of read_on ok
next_map g (got a rest at) = refl
next_map g (bad place) = refl

-- one turn, after so many
pub terms_on : (bytes : List ℕ) (n i at p : ℕ) → i < n → Ok p ≡ next_of (term_at bytes at) → next_of (terms_at (n - i) bytes at) ≡ next_of (terms_at (n - (i + 1)) bytes p)
unfolding read_terms ◌>>=◌ read_on next_in
terms_on bytes n i at p h e =
    let left : n - i ≡ suc (n - (i + 1)) = omega arith in
    rw (left, (past_term false bytes at p e).1) (next_map _ (read_terms (length bytes) (n - (i + 1)) (drop p bytes) p))

pub terms_stop : (bytes : List ℕ) (n at : ℕ) (u : Unread) → 0 < n → Err u ≡ next_of (term_at bytes at) → Err u ≡ next_of (terms_at n bytes at)
unfolding read_terms ◌>>=◌
terms_stop bytes zero at u h e = absurd (let z : ⊥ = omega arith in z)
terms_stop bytes (suc n) at u h e = go (term_at bytes at) e
  where
    go : (x : Read Term) → Err u ≡ next_of x → Err u ≡ next_of (read_on x (λ a. read_terms (length bytes) n >>= λ as'. ok (a ∷ as')))
    go (got a rest p) e = absurd (unfold next_of in let z : ◌≡◌ {A = ℕ} 0 1 = cc in omega arith)
    go (bad place) e = unfold next_of read_on in e

pub terms_done : (bytes : List ℕ) (n at : ℕ) → n ≤ 0 → next_of (terms_at n bytes at) ≡ Ok at
unfolding read_terms ok next_of
terms_done bytes zero at h = refl
terms_done bytes (suc n) at h = absurd (let z : ⊥ = omega arith in z)

-- so many terms, and so many more
pub read_add : (f n m : ℕ) (bs : List ℕ) (at : ℕ) → read_terms f (n + m) bs at ≡ read_on (read_terms f n bs at) (λ ts. read_terms f m >>= λ us. ok (ts ++ us))
unfolding read_terms ◌>>=◌ read_on ok
read_add f zero m bs at = rw zero-add (all (read_terms f m bs at))
  where
    all : (r : Read (List Term)) → r ≡ read_on r (λ us. ok us)
    all (got us bs' at') = refl
    all (bad place) = refl
read_add f (suc n) m bs at = rw suc-add (go (read_term f bs at) (λ bs' at'. read_add f n m bs' at'))
  where
    last : (t : Term) (ts : List Term) (r : Read (List Term)) → read_on (read_on r (λ us. ok (ts ++ us))) (λ us. ok (t ∷ us)) ≡ read_on r (λ us. ok (t ∷ ts ++ us))
    last t ts (got us bs' at') = refl
    last t ts (bad place) = refl

    again : (t : Term) (r : Read (List Term)) → read_on (read_on r (λ ts. read_terms f m >>= λ us. ok (ts ++ us))) (λ us. ok (t ∷ us)) ≡ read_on (read_on r (λ ts. ok (t ∷ ts))) (λ ts. read_terms f m >>= λ us. ok (ts ++ us))
    again t (got ts bs' at') = last t ts (read_terms f m bs' at')
    again t (bad place) = refl

    go : (r : Read Term) → ((bs' : List ℕ) (at' : ℕ) → read_terms f (n + m) bs' at' ≡ read_on (read_terms f n bs' at') (λ ts. read_terms f m >>= λ us. ok (ts ++ us))) → read_on r (λ t. read_terms f (n + m) >>= λ us. ok (t ∷ us)) ≡ read_on (read_on r (λ t. read_terms f n >>= λ ts. ok (t ∷ ts))) (λ ts. read_terms f m >>= λ us. ok (ts ++ us))
    go (got t bs' at') ih = rw (ih bs' at') (again t (read_terms f n bs' at'))
    go (bad place) ih = refl

-- A call with this head, and all its terms as one list.
abbrev pub call_of : ℕ → Head → List ℕ → ℕ → Read Call
call_of f head bs at = read_on (read_terms f head.size bs at) (λ types. read_terms f (terms_of head.code) >>= λ terms. ok (record { code = head.code; dims = head.dims; types = types; terms = terms }))

abbrev pub terms_after : ℕ → Head → List ℕ → ℕ → Read (List Term)
terms_after f head bs at = read_on (read_terms f head.size bs at) (λ ts. read_terms f (terms_of head.code) >>= λ us. ok (ts ++ us))

next_same : (f : ℕ) (head : Head) (bs : List ℕ) (at : ℕ) → next_of (call_of f head bs at) ≡ next_of (terms_after f head bs at)
unfolding ◌>>=◌ read_on
next_same f head bs at = go (read_terms f head.size bs at)
  where
    go : (r : Read (List Term)) → next_of {A = Call} (read_on r (λ types. read_terms f (terms_of head.code) >>= λ terms. ok (record { code = head.code; dims = head.dims; types = types; terms = terms }))) ≡ next_of (read_on r (λ ts. read_terms f (terms_of head.code) >>= λ us. ok (ts ++ us)))
    go (got types rest at') = next_map _ (read_terms f (terms_of head.code) rest at') ∙ sym (next_map _ (read_terms f (terms_of head.code) rest at'))
    go (bad place) = unfold next_of in refl

pub call_no_head : (bytes : List ℕ) (from : ℕ) (fault : Fault) → Err fault ≡ head_of (read_head (drop from bytes) from) → next_of (call_at bytes from) ≡ Err (unread_at fault)
unfolding read_call ◌>>=◌ read_on next_of
call_no_head bytes from fault e = rw (tells_bad fault (read_head (drop from bytes) from) e)

call_head : (bytes : List ℕ) (from at : ℕ) {head : Head} {rest : List ℕ} {end : ℕ} → read_head (drop from bytes) from ≡ got head rest end → rest ≡ drop at bytes → end ≡ at → call_at bytes from ≡ call_of (length bytes) head (drop at bytes) at
unfolding read_call ◌>>=◌ read_on
call_head bytes from at e l s = rw (e, l, s)

-- A call whose head is read goes as its terms do.
module _ (bytes : List ℕ) (from : ℕ) (told : CallHead) (e : HeadAt bytes from told) where
  abbrev pub T : Tells told (read_head (drop from bytes) from)
  T = tells told (read_head (drop from bytes) from) e

  abbrev H : Headed bytes from T.head T.rest T.end
  H = headed bytes from T.reads

  count : many_terms told ≡ T.head.size + terms_of T.head.code
  count = ap many_terms T.is ∙ ap (λ (c : Code). T.head.size + terms_of c) (code_again T.head.code)

  pub inside : from + 3 ≤ length bytes
  inside = H.inside

  pub call_here : call_at bytes from ≡ call_of (length bytes) T.head (drop (from + 3) bytes) (from + 3)
  call_here = call_head bytes from (from + 3) T.reads H.left H.stop

  pub terms_here : terms_at (many_terms told) bytes (from + 3) ≡ terms_after (length bytes) T.head (drop (from + 3) bytes) (from + 3)
  terms_here = ap (λ (k : ℕ). terms_at k bytes (from + 3)) count ∙ read_add (length bytes) T.head.size (terms_of T.head.code) (drop (from + 3) bytes) (from + 3)

  pub call_on : next_of (call_at bytes from) ≡ next_of (terms_at (many_terms told) bytes (from + 3))
  call_on = ap next_of call_here ∙ next_same (length bytes) T.head (drop (from + 3) bytes) (from + 3) ∙ sym (ap next_of terms_here)
