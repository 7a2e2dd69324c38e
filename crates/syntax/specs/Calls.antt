-- What is sent in a run that is read, and the terms of a call, one after the other by their offsets.
use Prim.Native.Nat.{ℕ, zero, suc, ◌+◌, ◌*◌, ◌≤◌, ◌<◌}
use Rattle.std.proofs.Math.Path.{◌≡◌, sym}
use Rattle.std.specs.Prelude.{refl, Bool, true, false, ◌&&◌, ◌||◌, ltb, leb, get_or, drop, Ok, Err}
use Rattle.std.proofs.Common.{subst, ap, ◌∙◌, leb-true, ltb-false, le-leb, drop_of_length-le, drop-cons}
use Rattle.std.proofs.Math.Numerals.{add-one}
use Rattle.std.proofs.lemmas.Bool.{lt-leb}
use mathlib.Core.List.{List, [], ◌∷◌, ◌++◌}
use Rattle.std.proofs.Math.Option.{none, some}
use Rattle.std.proofs.Math.Decide.{dec_lt}
use native.Mathlib.Omega.{arith}
use Rattle.std.proofs.Math.ListN.{length}
use Rattle.walk.specs.Syntax.{Term}
use Rattle.walk.specs.Reader.{Read, got, bad, read_on, ◌>>=◌, ok, byte, codes, terms_of, lists_types, Head, Call, Sent, checks_of, calls_of, all_calls, read_terms, read_head, read_call, read_drafts, read_sent, read_calls, read_limit, read_run}
use Rattle.walk.specs.Limits.{Sized, fits, scope_over, size_over, index_over, size_on, size_term, size_terms, size_call}
use Rattle.syntax.specs.declared.scan.Unread.TheVariants.{Bad}
use Rattle.syntax.specs.Told.{term_at, terms_at, call_at, head_in, head_of}
use Rattle.syntax.specs.Sent.{sent_at, counted_by, counted_as, types_told, types_by, coded_by, sent_told, sent_of}
use Rattle.syntax.specs.Ends.{Stops, ends, goes_term, goes_call, goes_sent}
use Rattle.syntax.specs.Heads.{head_is, Headed, headed}

-- What a value that was read took is read by the first reader, and then by what follows.
pub record Twice {A B : Type 0} (r : Read A) (k : A → List ℕ → ℕ → Read B) (b : B) (rest : List ℕ) (end : ℕ) : Type 0 where
  pub first : A
  pub between : List ℕ
  pub middle : ℕ
  pub one : r ≡ got first between middle
  pub two : k first between middle ≡ got b rest end

pub twice : {A B : Type 0} (r : Read A) (k : A → List ℕ → ℕ → Read B) {b : B} {rest : List ℕ} {end : ℕ} → read_on r k ≡ got b rest end → Twice r k b rest end
unfolding read_on
twice (got a bs at) k e = record { first = a; between = bs; middle = at; one = refl; two = e }
twice (bad place) k e = absurd (let z : ◌≡◌ {A = ℕ} 0 1 = cc in omega arith)

-- terms

-- From one offset to another stand these terms.
pub data TermsAt (bytes : List ℕ) : ℕ → List Term → ℕ → Type 0 where
  no_terms : {at : ℕ} → TermsAt bytes at [] at
  next_term : {at middle end : ℕ} {t : Term} {ts : List Term} → at < middle → (at ≤ length bytes → middle ≤ length bytes) → term_at bytes at ≡ got t (drop middle bytes) middle → TermsAt bytes middle ts end → TermsAt bytes at (t ∷ ts) end

pub record AreTerms (bytes : List ℕ) (n at : ℕ) (ts : List Term) (rest : List ℕ) (end : ℕ) : Type 0 where
  pub all : TermsAt bytes at ts end
  pub many : length ts ≡ n
  pub left : rest ≡ drop end bytes

pub are_terms : (bytes : List ℕ) (n at : ℕ) {ts : List Term} {rest : List ℕ} {end : ℕ} → terms_at n bytes at ≡ got ts rest end → AreTerms bytes n at ts rest end
unfolding read_terms ◌>>=◌ ok
are_terms bytes zero at {ts} {rest} {end} e =
    let a : [] ≡ ts = cc in
    let b : drop at bytes ≡ rest = cc in
    let c : at ≡ end = cc in
    rw (← a, ← c) (record { all = no_terms; many = refl; left = sym b })
are_terms bytes (suc n) at {ts} {rest} {end} e =
    at_first (twice (term_at bytes at) (λ t. read_terms (length bytes) n >>= λ us. ok (t ∷ us)) e) (λ middle us left stop q. are_terms bytes n middle q)
  where
    at_rest : (t : Term) (middle : ℕ) → at + 1 ≤ middle → (at ≤ length bytes → middle ≤ length bytes) → term_at bytes at ≡ got t (drop middle bytes) middle → Twice (terms_at n bytes middle) (λ us. ok (t ∷ us)) ts rest end → ((us : List Term) (left : List ℕ) (stop : ℕ) → terms_at n bytes middle ≡ got us left stop → AreTerms bytes n middle us left stop) → AreTerms bytes (suc n) at ts rest end
    at_rest t middle far inside q w ih =
        let r : AreTerms bytes n middle w.first w.between w.middle = ih w.first w.between w.middle w.one in
        let s : got (t ∷ w.first) w.between w.middle ≡ got ts rest end = w.two in
        let before : at < middle = omega arith in
        let a : t ∷ w.first ≡ ts = cc in
        let b : w.between ≡ rest = cc in
        let c : w.middle ≡ end = cc in
        rw (← a, ← b, ← c) (record { all = next_term before inside q r.all; many = ap suc r.many; left = r.left })

    at_first : Twice (term_at bytes at) (λ t. read_terms (length bytes) n >>= λ us. ok (t ∷ us)) ts rest end → ((middle : ℕ) (us : List Term) (left : List ℕ) (stop : ℕ) → terms_at n bytes middle ≡ got us left stop → AreTerms bytes n middle us left stop) → AreTerms bytes (suc n) at ts rest end
    at_first w ih =
        let stops : Stops bytes at 1 w.between w.middle = ends (goes_term (length bytes)) bytes at w.one in
        at_rest w.first w.middle stops.far stops.inside (rw (← stops.left) w.one)
        (twice (terms_at n bytes w.middle) (λ us. ok (w.first ∷ us)) (rw (← stops.left) w.two))
        (ih w.middle)

pub terms_far : {bytes : List ℕ} {at end : ℕ} {ts : List Term} → TermsAt bytes at ts end → at + length ts ≤ end
terms_far no_terms = omega arith
terms_far (next_term {middle = middle} l inside e rest) = let k = terms_far rest in omega arith

pub terms_inside : {bytes : List ℕ} {at end : ℕ} {ts : List Term} → TermsAt bytes at ts end → at ≤ length bytes → end ≤ length bytes
terms_inside no_terms h = h
terms_inside (next_term l inside e rest) h = terms_inside rest (inside h)

pub true_false : {A : Type 0} → true ≡ false → A
true_false e = absurd (let z : ◌≡◌ {A = ℕ} 0 1 = cc in omega arith)

-- a call

-- A call's head, then its types, then its terms.
pub record CallAt (bytes : List ℕ) (at : ℕ) (call : Call) (next : ℕ) : Type 0 where
  pub far : at + 3 ≤ next
  pub inside : next ≤ length bytes
  pub reads : call_at bytes at ≡ got call (drop next bytes) next
  pub code : get_or codes (get_or bytes at 0) none ≡ some call.code
  pub dims : call.dims ≡ get_or bytes (at + 1) 0
  pub size : length call.types ≡ get_or bytes (at + 2) 0
  pub middle : ℕ
  pub types : TermsAt bytes (at + 3) call.types middle
  pub terms : TermsAt bytes middle call.terms next
  pub many : length call.terms ≡ terms_of call.code

abbrev made : Head → List Term → List Term → Call
made head types terms = record { code = head.code; dims = head.dims; types = types; terms = terms }

pub call_is : (bytes : List ℕ) (at : ℕ) {call : Call} {rest : List ℕ} {next : ℕ} → call_at bytes at ≡ got call rest next → CallAt bytes at call next
unfolding read_call ◌>>=◌ ok
call_is bytes at {call} {rest} {next} e = at_head (twice (read_head (drop at bytes) at) _ e)
  where
    whole : (head : Head) → Headed bytes at head (drop (at + 3) bytes) (at + 3) → (types terms : List Term) (middle stop : ℕ) → AreTerms bytes head.size (at + 3) types (drop middle bytes) middle → AreTerms bytes (terms_of head.code) middle terms (drop stop bytes) stop → got (made head types terms) (drop stop bytes) stop ≡ got call rest next → CallAt bytes at call next
    whole head H types terms middle stop A B q =
        let same : made head types terms ≡ call = cc in
        let end : stop ≡ next = cc in
        let left : rest ≡ drop stop bytes = cc in
        let stops : Stops bytes at 3 rest next = ends (goes_call (length bytes)) bytes at e in
        rw (← same, ← end)
        (record {
          far = rw end stops.far;
          inside = rw end (stops.inside (omega (arith, H.inside)));
          reads = e ∙ rw (left, same, end);
          code = H.code;
          dims = H.dims;
          size = A.many ∙ H.size;
          middle = middle;
          types = A.all;
          terms = B.all;
          many = B.many;
        })

    at_terms : (head : Head) → Headed bytes at head (drop (at + 3) bytes) (at + 3) → (types : List Term) (middle : ℕ) → AreTerms bytes head.size (at + 3) types (drop middle bytes) middle → Twice (terms_at (terms_of head.code) bytes middle) (λ terms. ok (made head types terms)) call rest next → CallAt bytes at call next
    at_terms head H types middle A w =
        let B : AreTerms bytes (terms_of head.code) middle w.first w.between w.middle = are_terms bytes (terms_of head.code) middle w.one in
        whole head H types w.first middle w.middle A (rw (← B.left) B) (rw (← B.left) w.two)

    at_types : (head : Head) → Headed bytes at head (drop (at + 3) bytes) (at + 3) → Twice (terms_at head.size bytes (at + 3)) (λ types. read_terms (length bytes) (terms_of head.code) >>= λ terms. ok (made head types terms)) call rest next → CallAt bytes at call next
    at_types head H w =
        let A : AreTerms bytes head.size (at + 3) w.first w.between w.middle = are_terms bytes head.size (at + 3) w.one in
        at_terms head H w.first w.middle (rw (← A.left) A) (twice _ (λ terms. ok (made head w.first terms)) (rw (← A.left) w.two))

    at_head : Twice (read_head (drop at bytes) at) (λ head. read_terms (length bytes) head.size >>= λ types. read_terms (length bytes) (terms_of head.code) >>= λ terms. ok (made head types terms)) call rest next → CallAt bytes at call next
    at_head w =
        let H : Headed bytes at w.first w.between w.middle = headed bytes at w.one in
        at_types w.first (rw (← H.left, ← H.stop) H) (twice _ (λ types. read_terms (length bytes) (terms_of w.first.code) >>= λ terms. ok (made w.first types terms)) (rw (← H.left, ← H.stop) w.two))

-- What is read of a call's head.
pub call_head : (bytes : List ℕ) (at : ℕ) {call : Call} {next : ℕ} → CallAt bytes at call next → head_of (read_head (drop at bytes) at) ≡ Ok (head_in call.code call.dims (length call.types))
unfolding head_of
call_head bytes at {call} {next} C =
    let two : at + 1 + 1 ≡ at + 2 = omega arith in
    rw (head_is bytes at call.code C.code (omega (arith, C.far, C.inside)), two, C.dims, C.size)

-- what is sent with one code

-- A call, and then its types, of which only a call of code 6 has any.
pub record SentAt (bytes : List ℕ) (at : ℕ) (sent : Sent) (next : ℕ) : Type 0 where
  pub reads : sent_at bytes at ≡ got sent (drop next bytes) next
  pub middle : ℕ
  pub call : CallAt bytes at sent.call middle
  pub none : lists_types sent.call.code ≡ false → sent.drafts ≡ []
  pub alone : lists_types sent.call.code ≡ false → middle ≡ next
  pub first : ℕ
  pub begins : first ≤ length bytes
  pub drafts : TermsAt bytes first sent.drafts next
  pub inside : next ≤ length bytes
  pub far : at + 3 + length sent.drafts ≤ next
  pub tells : sent_of bytes at ≡ Ok (counted_as next first (length sent.drafts))

-- What is read, or its fault, is told.
abbrev pub SentCase : List ℕ → ℕ → Read Sent → Type 0
SentCase bytes at (got sent rest next) = SentAt bytes at sent next
SentCase bytes at (bad place) = sent_of bytes at ≡ Err (Bad place)

abbrev with_drafts : Call → List Term → Sent
with_drafts call drafts = record { call = call; drafts = drafts }

-- the types of a call with many
module _ (bytes : List ℕ) (at : ℕ) (call : Call) (middle : ℕ) (C : CallAt bytes at call middle) where
  -- what is told, where the call was read
  call_told : sent_of bytes at ≡ coded_by (lists_types call.code) bytes middle
  unfolding sent_told
  call_told = rw C.reads

  no_drafts : lists_types call.code ≡ false → sent_at bytes at ≡ got (with_drafts call []) (drop middle bytes) middle → SentAt bytes at (with_drafts call []) middle
  unfolding coded_by counted_by
  no_drafts e r = record {
    reads = r;
    middle = middle;
    call = C;
    none = λ _. refl;
    alone = λ _. refl;
    first = middle;
    begins = C.inside;
    drafts = no_terms;
    inside = C.inside;
    far = omega (arith, C.far);
    tells = call_told ∙ rw e;
  }

  some_drafts : lists_types call.code ≡ true → middle < length bytes → (drafts : List Term) (next : ℕ) → sent_at bytes at ≡ got (with_drafts call drafts) (drop next bytes) next → terms_at (get_or bytes middle 0) bytes (middle + 1) ≡ got drafts (drop next bytes) next → SentAt bytes at (with_drafts call drafts) next
  unfolding coded_by types_by types_told
  some_drafts e l drafts next r q =
      let A = are_terms bytes (get_or bytes middle 0) (middle + 1) q in
      let far = terms_far A.all in
      record {
        reads = r;
        middle = middle;
        call = C;
        none = λ z. absurd (true_false (sym e ∙ z));
        alone = λ z. absurd (true_false (sym e ∙ z));
        first = middle + 1;
        begins = omega arith;
        drafts = A.all;
        inside = terms_inside A.all (omega arith);
        far = omega (arith, C.far);
        tells = call_told ∙ rw (e, lt-leb (length bytes) middle l, q, A.many);
      }

  -- the types are read, or their fault
  types_case : lists_types call.code ≡ true → middle < length bytes → (r : Read (List Term)) → terms_at (get_or bytes middle 0) bytes (middle + 1) ≡ r → sent_at bytes at ≡ read_on r (λ drafts. ok (with_drafts call drafts)) → SentCase bytes at (read_on r (λ drafts. ok (with_drafts call drafts)))
  unfolding read_on ok coded_by types_by types_told
  types_case e l (got drafts rest next) q r =
      let A = are_terms bytes (get_or bytes middle 0) (middle + 1) q in
      some_drafts e l drafts next (r ∙ ap (λ (bs : List ℕ). got (with_drafts call drafts) bs next) A.left) (q ∙ ap (λ (bs : List ℕ). got drafts bs next) A.left)
  types_case e l (bad place) q r = call_told ∙ rw (e, lt-leb (length bytes) middle l, q)

  some_count : middle < length bytes → (read_drafts (length bytes) true >>= λ drafts. ok (with_drafts call drafts)) (drop middle bytes) middle ≡ read_on (terms_at (get_or bytes middle 0) bytes (middle + 1)) (λ drafts. ok (with_drafts call drafts))
  unfolding read_drafts ◌>>=◌ read_on byte
  some_count l = rw (drop-cons bytes middle 0 l, add-one middle)

  no_count : length bytes ≤ middle → (read_drafts (length bytes) true >>= λ drafts. ok (with_drafts call drafts)) (drop middle bytes) middle ≡ bad middle
  unfolding read_drafts ◌>>=◌ read_on byte
  no_count l = rw (drop_of_length-le bytes l)

  count_case : lists_types call.code ≡ true → Dec (middle < length bytes) → sent_at bytes at ≡ (read_drafts (length bytes) true >>= λ drafts. ok (with_drafts call drafts)) (drop middle bytes) middle → SentCase bytes at ((read_drafts (length bytes) true >>= λ drafts. ok (with_drafts call drafts)) (drop middle bytes) middle)
  unfolding coded_by types_by
  count_case e (yes l) r = subst (SentCase bytes at) (sym (some_count l)) (types_case e l (terms_at (get_or bytes middle 0) bytes (middle + 1)) refl (r ∙ some_count l))
  count_case e (no l) r =
      let far : length bytes ≤ middle = omega arith in
      subst (SentCase bytes at) (sym (no_count far)) (call_told ∙ rw (e, le-leb (length bytes) middle far))

  drafts_case : (b : Bool) → lists_types call.code ≡ b → sent_at bytes at ≡ (read_drafts (length bytes) b >>= λ drafts. ok (with_drafts call drafts)) (drop middle bytes) middle → SentCase bytes at ((read_drafts (length bytes) b >>= λ drafts. ok (with_drafts call drafts)) (drop middle bytes) middle)
  drafts_case true e r = count_case e (dec_lt middle (length bytes)) r
  drafts_case false e r = unfold read_drafts ◌>>=◌ read_on ok in no_drafts e (unfold read_drafts ◌>>=◌ read_on ok in r)

sent_read : (bytes : List ℕ) (at : ℕ) (call : Call) (middle : ℕ) → call_at bytes at ≡ got call (drop middle bytes) middle → sent_at bytes at ≡ (read_drafts (length bytes) (lists_types call.code) >>= λ drafts. ok (with_drafts call drafts)) (drop middle bytes) middle
unfolding read_sent ◌>>=◌ read_on
sent_read bytes at call middle e = rw e

sent_unread : (bytes : List ℕ) (at place : ℕ) → call_at bytes at ≡ bad place → sent_at bytes at ≡ bad place
unfolding read_sent ◌>>=◌ read_on
sent_unread bytes at place e = rw e

unread_told : (bytes : List ℕ) (at place : ℕ) → call_at bytes at ≡ bad place → sent_of bytes at ≡ Err (Bad place)
unfolding sent_told
unread_told bytes at place e = rw e

pub sent_case : (bytes : List ℕ) (at : ℕ) → SentCase bytes at (sent_at bytes at)
sent_case bytes at = go (call_at bytes at) refl
  where
    go : (r : Read Call) → call_at bytes at ≡ r → SentCase bytes at (sent_at bytes at)
    go (got call rest middle) e =
        let C = call_is bytes at e in
        let q = sent_read bytes at call middle C.reads in
        subst (SentCase bytes at) (sym q) (drafts_case bytes at call middle C (lists_types call.code) refl q)
    go (bad place) e = subst (SentCase bytes at) (sym (sent_unread bytes at place e)) (unread_told bytes at place e)

-- They are no more than the bytes that they take.
pub many_checks : (call : Call) (drafts : List Term) → length (checks_of call drafts) ≡ length drafts
unfolding checks_of
many_checks call [] = refl
many_checks call (ty ∷ tys) = ap suc (many_checks call tys)

pub few_calls : (bytes : List ℕ) (at : ℕ) (sent : Sent) (next : ℕ) → SentAt bytes at sent next → at + length (calls_of sent) ≤ next
unfolding calls_of
few_calls bytes at sent next S = go (leb 1 (length sent.drafts) && leb (length sent.drafts) 16)
  where
    go : (b : Bool) → at + length {A = Call} (elim b as (λ _. List Call) [ true ↦ checks_of sent.call sent.drafts | false ↦ sent.call ∷ [] ]) ≤ next
    go true = omega (arith, S.far, many_checks sent.call sent.drafts)
    go false = omega (arith, S.far)

pub sent_is : (bytes : List ℕ) (at : ℕ) {sent : Sent} {rest : List ℕ} {next : ℕ} → sent_at bytes at ≡ got sent rest next → SentAt bytes at sent next
sent_is bytes at e = subst (SentCase bytes at) e (sent_case bytes at)

-- a run

-- From this offset on these are sent, up to the end.
pub data CallsAt (bytes : List ℕ) : ℕ → List Sent → Type 0 where
  no_more : {at : ℕ} → length bytes ≤ at → CallsAt bytes at []
  next_call : {at next : ℕ} {sent : Sent} {others : List Sent} → SentAt bytes at sent next → CallsAt bytes next others → CallsAt bytes at (sent ∷ others)

pub record FirstCall (bytes : List ℕ) (at : ℕ) (sents : List Sent) : Type 0 where
  pub sent : Sent
  pub others : List Sent
  pub next : ℕ
  pub is : sents ≡ sent ∷ others
  pub here : SentAt bytes at sent next
  pub more : CallsAt bytes next others

pub first_call : {bytes : List ℕ} {at : ℕ} {sents : List Sent} → CallsAt bytes at sents → at < length bytes → FirstCall bytes at sents
first_call (no_more l) h = absurd (let z : ⊥ = omega arith in z)
first_call (next_call c more) h = record { sent = _; others = _; next = _; is = refl; here = c; more = more }

pub last_call : {bytes : List ℕ} {at : ℕ} {sents : List Sent} → CallsAt bytes at sents → length bytes ≤ at → sents ≡ []
last_call (no_more l) h = refl
last_call (next_call c more) h = absurd (let z : ⊥ = omega (arith, c.far, c.inside) in z)

pub read_more : (f m : ℕ) (bytes : List ℕ) (at : ℕ) → at < length bytes → read_calls f (suc m) (drop at bytes) at ≡ read_on (read_sent f (drop at bytes) at) (λ sent bs' at'. read_on (read_calls f m bs' at') (λ others bs'' at''. got (sent ∷ others) bs'' at''))
unfolding read_calls
read_more f m bytes at l = rw (drop-cons bytes at 0 l)

pub read_none : (f m : ℕ) (bytes : List ℕ) (at : ℕ) → length bytes ≤ at → read_calls f m (drop at bytes) at ≡ got [] [] at
unfolding read_calls
read_none f zero bytes at l = rw (drop_of_length-le bytes l)
read_none f (suc m) bytes at l = rw (drop_of_length-le bytes l)

pub calls_are : (m : ℕ) (bytes : List ℕ) (at : ℕ) {sents : List Sent} {rest : List ℕ} {end : ℕ} → read_calls (length bytes) m (drop at bytes) at ≡ got sents rest end → CallsAt bytes at sents
calls_are zero bytes at {sents} {rest} {end} e = go (dec_lt at (length bytes))
  where
    go : Dec (at < length bytes) → CallsAt bytes at sents
    go (yes l) = absurd (let q : bad at ≡ got sents rest end = unfold read_calls in rw (drop-cons bytes at 0 l) at e in let z : ◌≡◌ {A = ℕ} 0 1 = cc in omega arith)
    go (no l) =
        let far : length bytes ≤ at = omega arith in
        let q : got [] [] at ≡ got sents rest end = sym (read_none (length bytes) zero bytes at far) ∙ e in
        let a : [] ≡ sents = cc in
        rw (← a) (no_more far)
calls_are (suc m) bytes at {sents} {rest} {end} e = go (dec_lt at (length bytes)) (λ next sents' rest' end' q. calls_are m bytes next q)
  where
    tail : Sent → List ℕ → ℕ → Read (List Sent)
    tail sent bs at' = read_on (read_calls (length bytes) m bs at') (λ sents' bs'' at''. got (sent ∷ sents') bs'' at'')

    go : Dec (at < length bytes) → ((next : ℕ) (sents' : List Sent) (rest' : List ℕ) (end' : ℕ) → read_calls (length bytes) m (drop next bytes) next ≡ got sents' rest' end' → CallsAt bytes next sents') → CallsAt bytes at sents
    go (yes l) ih =
        let w : Twice (sent_at bytes at) tail sents rest end = twice (sent_at bytes at) tail (sym (read_more (length bytes) m bytes at l) ∙ e) in
        let C : SentAt bytes at w.first w.middle = sent_is bytes at w.one in
        let left : w.between ≡ drop w.middle bytes = (ends (goes_sent (length bytes)) bytes at w.one).left in
        let v : Twice (read_calls (length bytes) m (drop w.middle bytes) w.middle) (λ sents' bs'' at''. got (w.first ∷ sents') bs'' at'') sents rest end = twice _ _ (rw left at w.two) in
        let q : got (w.first ∷ v.first) v.between v.middle ≡ got sents rest end = v.two in
        let a : w.first ∷ v.first ≡ sents = cc in
        rw (← a) (next_call C (ih w.middle v.first v.between v.middle v.one))
    go (no l) ih =
        let far : length bytes ≤ at = omega arith in
        let q : got [] [] at ≡ got sents rest end = sym (read_none (length bytes) (suc m) bytes at far) ∙ e in
        let a : [] ≡ sents = cc in
        rw (← a) (no_more far)

-- The nesting limit takes two bytes.
pub record Limited (bytes : List ℕ) (limit : ℕ) (rest : List ℕ) (end : ℕ) : Type 0 where
  pub inside : 2 ≤ length bytes
  pub is : limit ≡ get_or bytes 0 0 + 256 * get_or bytes 1 0
  pub low : 1 ≤ limit
  pub high : limit ≤ 4096
  pub left : rest ≡ drop 2 bytes
  pub stop : end ≡ 2

both : (a b : Bool) → (a && b) ≡ true → (a ≡ true) × (b ≡ true)
both true b e = (refl, e)
both false b e = absurd (let z : ◌≡◌ {A = ℕ} 0 1 = cc in omega arith)

pub limited : (bytes : List ℕ) {limit : ℕ} {rest : List ℕ} {end : ℕ} → read_limit bytes 0 ≡ got limit rest end → Limited bytes limit rest end
unfolding read_limit
limited [] e = absurd (let z : ◌≡◌ {A = ℕ} 0 1 = cc in omega arith)
limited (a ∷ []) e = absurd (let z : ◌≡◌ {A = ℕ} 0 1 = cc in omega arith)
limited (a ∷ b ∷ bs) {limit} {rest} {end} e = go (leb 1 (a + 256 * b) && leb (a + 256 * b) 4096) refl e
  where
    go : (t : Bool) → (leb 1 (a + 256 * b) && leb (a + 256 * b) 4096) ≡ t → elim t as (λ x. Read ℕ) [ true ↦ got (a + 256 * b) bs 2 | false ↦ bad 0 ] ≡ got limit rest end → Limited (a ∷ b ∷ bs) limit rest end
    go true t e =
        let l : limit ≡ a + 256 * b = cc in
        let r : rest ≡ bs = cc in
        let s : end ≡ 2 = cc in
        let h = both (leb 1 (a + 256 * b)) (leb (a + 256 * b) 4096) t in
        record { inside = omega arith; is = l; low = omega (arith, leb-true 1 (a + 256 * b) h.0); high = omega (arith, leb-true (a + 256 * b) 4096 h.1); left = r; stop = s }
    go false t e = absurd (let z : ◌≡◌ {A = ℕ} 0 1 = cc in omega arith)

pub record RunIs (bytes : List ℕ) (limit : ℕ) (calls : List Call) : Type 0 where
  pub header : Limited bytes limit (drop 2 bytes) 2
  pub sents : List Sent
  pub all : CallsAt bytes 2 sents
  pub are : calls ≡ all_calls sents

-- A run that is read: its header, and what is sent from offset 2 on, whose calls are the run's.
pub run_is : (bytes : List ℕ) {limit : ℕ} {calls : List Call} {rest : List ℕ} {end : ℕ} → read_run bytes ≡ got (limit, calls) rest end → RunIs bytes limit calls
unfolding read_run ◌>>=◌ ok
run_is bytes {limit} {calls} {rest} {end} e = at_limit (twice (read_limit bytes 0) _ e)
  where
    whole : (limit' : ℕ) → Limited bytes limit' (drop 2 bytes) 2 → Twice {B = ℕ × List Call} (read_calls (length bytes) (length bytes) (drop 2 bytes) 2) (λ sents. ok (limit', all_calls sents)) (limit, calls) rest end → RunIs bytes limit calls
    whole limit' L v =
        let q : ◌≡◌ {A = Read (ℕ × List Call)} (got (limit', all_calls v.first) v.between v.middle) (got (limit, calls) rest end) = v.two in
        let p : ◌≡◌ {A = ℕ × List Call} (limit', all_calls v.first) (limit, calls) = cc in
        let a : limit' ≡ limit = ap (λ (x : ℕ × List Call). x.0) p in
        let b : all_calls v.first ≡ calls = ap (λ (x : ℕ × List Call). x.1) p in
        rw (← a) (record { header = L; sents = v.first; all = calls_are (length bytes) bytes 2 v.one; are = sym b })

    at_limit : Twice {B = ℕ × List Call} (read_limit bytes 0) (λ limit'. read_calls (length bytes) (length bytes) >>= λ sents. ok (limit', all_calls sents)) (limit, calls) rest end → RunIs bytes limit calls
    at_limit w =
        let L : Limited bytes w.first w.between w.middle = limited bytes w.one in
        whole w.first (rw (← L.left, ← L.stop) L) (twice _ (λ sents. ok (w.first, all_calls sents)) (rw (← L.left, ← L.stop) w.two))

-- sizes

-- A size that fits is the size of the first, and of what follows.
pub size_first : (s : Sized) (f : ℕ → Sized) {n : ℕ} → size_on s f ≡ fits n → (k : ℕ) × (s ≡ fits k) × (f k ≡ fits n)
unfolding size_on
size_first (fits k) f e = (k, refl, e)
size_first scope_over f e = absurd (let z : ◌≡◌ {A = ℕ} 0 1 = cc in omega arith)
size_first size_over f e = absurd (let z : ◌≡◌ {A = ℕ} 0 1 = cc in omega arith)
size_first index_over f e = absurd (let z : ◌≡◌ {A = ℕ} 0 1 = cc in omega arith)

pub size_terms_first : (t : Term) (ts : List Term) (n : ℕ) {m : ℕ} → size_terms (t ∷ ts) n ≡ fits m → (k : ℕ) × (size_term t 0 n ≡ fits k) × (size_terms ts k ≡ fits m)
unfolding size_terms
size_terms_first t ts n e = size_first (size_term t 0 n) (size_terms ts) e

pub size_terms_append : (ts us : List Term) (n : ℕ) → size_terms (ts ++ us) n ≡ size_on (size_terms ts n) (size_terms us)
unfolding size_terms size_on
size_terms_append [] us n = refl
size_terms_append (t ∷ ts) us n = go (size_term t 0 n) (λ m. size_terms_append ts us m)
  where
    go : (s : Sized) → ((m : ℕ) → size_terms (ts ++ us) m ≡ size_on (size_terms ts m) (size_terms us)) → size_on s (size_terms (ts ++ us)) ≡ size_on (size_on s (size_terms ts)) (size_terms us)
    go (fits m) ih = ih m
    go scope_over ih = refl
    go size_over ih = refl
    go index_over ih = refl

pub record CallFits (call : Call) (n : ℕ) : Type 0 where
  pub dims : call.dims ≤ 33
  pub size : length call.types ≤ 33
  pub middle : ℕ
  pub types : size_terms call.types 0 ≡ fits middle
  pub terms : size_terms call.terms middle ≡ fits n

pub call_fits : (call : Call) {n : ℕ} → size_call call ≡ fits n → CallFits call n
unfolding size_call
call_fits call {n} e = go (ltb 33 call.dims) refl (ltb 33 (length call.types)) refl e
  where
    within : (m : ℕ) → ltb 33 m ≡ false → m ≤ 33
    within m e = ltb-false 33 m e

    size : Bool → Sized
    size t = elim t as (λ x. Sized) [ true ↦ scope_over | false ↦ size_terms (call.types ++ call.terms) 0 ]

    go : (a : Bool) → ltb 33 call.dims ≡ a → (b : Bool) → ltb 33 (length call.types) ≡ b → size (a || b) ≡ fits n → CallFits call n
    go true p b q e = absurd (let z : ◌≡◌ {A = ℕ} 0 1 = cc in omega arith)
    go false p true q e = absurd (let z : ◌≡◌ {A = ℕ} 0 1 = cc in omega arith)
    go false p false q e =
        let w = size_first (size_terms call.types 0) (size_terms call.terms) (sym (size_terms_append call.types call.terms 0) ∙ e) in
        record { dims = within call.dims p; size = within (length call.types) q; middle = w.0; types = w.1; terms = w.2 }
