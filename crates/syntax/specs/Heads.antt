-- A call's head: its first three bytes.
use Prim.Native.Nat.{ℕ, zero, suc, ◌+◌, ◌≤◌, ◌<◌}
use Rattle.std.specs.Prelude.{◌≡◌, refl, List, true, eqb, length, get_or, drop, Ok, Err}
use Rattle.std.proofs.Common.{sym, ap, ◌∙◌, arith}
use Rattle.std.proofs.Math.Option.{Option, none, some}
use Rattle.std.proofs.Math.Numerals.{add-one}
use Rattle.std.proofs.Math.Decide.{dec_lt}
use Rattle.std.proofs.Math.ListN.{drop_of_length-le, get_or-eq_default}
use Rattle.std.proofs.Math.Seq.{drop-cons}
use Rattle.walk.specs.Reader.{Read, got, bad, read_on, ◌>>=◌, ok, byte, meant, one_of, Code, c_context, c_universe, c_infer, c_check, c_normalise, c_equal, c_many, c_headwise, codes, terms_of, lists_types, Head, read_head}
use Rattle.syntax.specs.Told.{code_number, highest_code, fault_at, code_told, code_of, head_in, head_of, terms_in}
use Rattle.syntax.specs.Ends.{Stops, ends, goes_head}
use Rattle.syntax.specs.declared.scan.Fault.{Fault}
use Rattle.syntax.specs.declared.scan.CallHead.{CallHead}

pub record IsCode (b : ℕ) : Type 0 where
  pub code : Code
  pub here : get_or codes b none ≡ some code
  pub number : code_number code ≡ b

pub is_code : (b : ℕ) → b ≤ highest_code → IsCode b
-- written by tools/written.py: codes by number
is_code zero h = record { code = _; here = refl; number = refl }
is_code (suc zero) h = record { code = _; here = refl; number = refl }
is_code (suc (suc zero)) h = record { code = _; here = refl; number = refl }
is_code (suc (suc (suc zero))) h = record { code = _; here = refl; number = refl }
is_code (suc (suc (suc (suc zero)))) h = record { code = _; here = refl; number = refl }
is_code (suc (suc (suc (suc (suc zero))))) h = record { code = _; here = refl; number = refl }
is_code (suc (suc (suc (suc (suc (suc zero)))))) h = record { code = _; here = refl; number = refl }
is_code (suc (suc (suc (suc (suc (suc (suc zero))))))) h = record { code = _; here = refl; number = refl }
is_code (suc (suc (suc (suc (suc (suc (suc (suc n)))))))) h = absurd (let z : ⊥ = omega arith in z)

-- end of codes by number

module _ (bytes : List ℕ) (from : ℕ) where
  pub head_none : length bytes ≤ from → read_head (drop from bytes) from ≡ bad from
  unfolding read_head ◌>>=◌ read_on one_of
  head_none h = rw (drop_of_length-le bytes h)

  pub head_no_code : from < length bytes → highest_code < get_or bytes from 0 → read_head (drop from bytes) from ≡ bad from
  unfolding read_head ◌>>=◌ read_on one_of meant
  head_no_code h k = rw (drop-cons bytes from 0 h, get_or-eq_default codes none k)

  pub head_not_code : from < length bytes → get_or codes (get_or bytes from 0) none ≡ none → read_head (drop from bytes) from ≡ bad from
  unfolding read_head ◌>>=◌ read_on one_of meant
  head_not_code h e = rw (drop-cons bytes from 0 h, e)

  module _ (c : Code) (e : get_or codes (get_or bytes from 0) none ≡ some c) where
    pub head_no_dims : from < length bytes → length bytes ≤ from + 1 → read_head (drop from bytes) from ≡ bad (from + 1)
    unfolding read_head ◌>>=◌ read_on one_of meant byte
    head_no_dims h l = rw (drop-cons bytes from 0 h, e, drop_of_length-le bytes {i = suc from} (omega arith))

    pub head_no_size : from + 1 < length bytes → length bytes ≤ from + 1 + 1 → read_head (drop from bytes) from ≡ bad (from + 1 + 1)
    unfolding read_head ◌>>=◌ read_on one_of meant byte
    head_no_size h l = rw (drop-cons bytes from 0 (omega arith), e, drop-cons bytes (suc from) 0 (omega arith), drop_of_length-le bytes {i = suc (suc from)} (omega arith))

    pub head_is : from + 1 + 1 < length bytes → read_head (drop from bytes) from ≡ got (record { code = c; dims = get_or bytes (from + 1) 0; size = get_or bytes (from + 1 + 1) 0 }) (drop (from + 1 + 1 + 1) bytes) (from + 1 + 1 + 1)
    unfolding read_head ◌>>=◌ read_on one_of meant byte ok
    head_is h = rw (drop-cons bytes from 0 (omega arith), e, drop-cons bytes (suc from) 0 (omega arith), drop-cons bytes (suc (suc from)) 0 (omega arith), add-one (from + 1 + 1), add-one (from + 1), add-one from)

-- What a head that was read says of the bytes.
pub record Headed (bytes : List ℕ) (from : ℕ) (head : Head) (rest : List ℕ) (end : ℕ) : Type 0 where
  pub inside : from + 3 ≤ length bytes
  pub code : get_or codes (get_or bytes from 0) none ≡ some head.code
  pub dims : head.dims ≡ get_or bytes (from + 1) 0
  pub size : head.size ≡ get_or bytes (from + 2) 0
  pub left : rest ≡ drop (from + 3) bytes
  pub stop : end ≡ from + 3

pub headed : (bytes : List ℕ) (from : ℕ) {head : Head} {rest : List ℕ} {end : ℕ} → read_head (drop from bytes) from ≡ got head rest end → Headed bytes from head rest end
headed bytes from {head} {rest} {end} e = at_start (dec_lt from (length bytes))
  where
    same : from + 1 + 1 < length bytes → (c : IsCode (get_or bytes from 0)) → Headed bytes from head rest end
    same h c =
        let q : got (record { code = c.code; dims = get_or bytes (from + 1) 0; size = get_or bytes (from + 1 + 1) 0 }) (drop (from + 1 + 1 + 1) bytes) (from + 1 + 1 + 1) ≡ got head rest end = sym (head_is bytes from c.code c.here h) ∙ e in
        let same_head : record { code = c.code; dims = get_or bytes (from + 1) 0; size = get_or bytes (from + 1 + 1) 0 } ≡ head = cc in
        let same_rest : drop (from + 1 + 1 + 1) bytes ≡ rest = cc in
        let same_end : from + 1 + 1 + 1 ≡ end = cc in
        let two : from + 1 + 1 ≡ from + 2 = omega arith in
        let three : from + 1 + 1 + 1 ≡ from + 3 = omega arith in
        record {
          inside = omega arith;
          code = c.here ∙ ap (λ (x : Head). some x.code) same_head;
          dims = sym (ap (λ (x : Head). x.dims) same_head);
          size = sym (ap (λ (x : Head). x.size) same_head) ∙ ap (λ (n : ℕ). get_or bytes n 0) two;
          left = sym same_rest ∙ ap (λ (n : ℕ). drop n bytes) three;
          stop = sym same_end ∙ three;
        }

    at_code : from < length bytes → Dec (highest_code < get_or bytes from 0) → Headed bytes from head rest end
    at_code h (yes k) = absurd (let q : bad from ≡ got head rest end = sym (head_no_code bytes from h k) ∙ e in let z : ◌≡◌ {A = ℕ} 0 1 = cc in omega arith)
    at_code h (no k) =
        let stops : Stops bytes from 3 rest end = ends goes_head bytes from e in
        let inside : end ≤ length bytes = stops.inside (omega arith) in
        same (omega arith) (is_code (get_or bytes from 0) (omega arith))

    at_start : Dec (from < length bytes) → Headed bytes from head rest end
    at_start (yes h) = at_code h (dec_lt highest_code (get_or bytes from 0))
    at_start (no h) = absurd (let q : bad from ≡ got head rest end = sym (head_none bytes from (omega arith)) ∙ e in let z : ◌≡◌ {A = ℕ} 0 1 = cc in omega arith)

-- What `read_head` tells of the head.
pub record Tells (told : CallHead) (r : Read Head) : Type 0 where
  pub head : Head
  pub rest : List ℕ
  pub end : ℕ
  pub reads : r ≡ got head rest end
  pub is : told ≡ head_in head.code head.dims head.size

pub tells : (told : CallHead) (r : Read Head) → Ok told ≡ head_of r → Tells told r
unfolding head_of
tells told (got head rest end) e = record { head = head; rest = rest; end = end; reads = refl; is = cc }
tells told (bad place) e = absurd (let z : ◌≡◌ {A = ℕ} 0 1 = cc in omega arith)

pub tells_bad : (fault : Fault) (r : Read Head) → Err fault ≡ head_of r → r ≡ bad fault.place
unfolding head_of
tells_bad fault (got head rest end) e = absurd (let z : ◌≡◌ {A = ℕ} 0 1 = cc in omega arith)
tells_bad fault (bad p) e = let q : fault ≡ fault_at p = cc in rw q

pub terms_in_code : (c : Code) → terms_in (get_or codes (code_number c) none) ≡ terms_of c
unfolding terms_in
-- written by tools/written.py: terms by code
terms_in_code c_context = refl
terms_in_code c_universe = refl
terms_in_code c_infer = refl
terms_in_code c_check = refl
terms_in_code c_normalise = refl
terms_in_code c_equal = refl
terms_in_code c_many = refl
terms_in_code c_headwise = refl

-- end of terms by code

-- What the program tells of a code is that code.
pub code_again : (c : Code) → code_of (code_told c) ≡ c
-- written by tools/written.py: codes again
code_again c_context = refl
code_again c_universe = refl
code_again c_infer = refl
code_again c_check = refl
code_again c_normalise = refl
code_again c_equal = refl
code_again c_many = refl
code_again c_headwise = refl

-- end of codes again

-- The code with many types after it: its byte is no other's.
pub many_number : (c : Code) → eqb (code_number c) (code_number c_many) ≡ lists_types c
-- written by tools/written.py: many by number
many_number c_context = refl
many_number c_universe = refl
many_number c_infer = refl
many_number c_check = refl
many_number c_normalise = refl
many_number c_equal = refl
many_number c_many = refl
many_number c_headwise = refl

-- end of many by number

pub is_many : (c : Code) → lists_types c ≡ true → c ≡ c_many
-- written by tools/written.py: many by code
is_many c_context e = absurd (let z : ◌≡◌ {A = ℕ} 0 1 = cc in omega arith)
is_many c_universe e = absurd (let z : ◌≡◌ {A = ℕ} 0 1 = cc in omega arith)
is_many c_infer e = absurd (let z : ◌≡◌ {A = ℕ} 0 1 = cc in omega arith)
is_many c_check e = absurd (let z : ◌≡◌ {A = ℕ} 0 1 = cc in omega arith)
is_many c_normalise e = absurd (let z : ◌≡◌ {A = ℕ} 0 1 = cc in omega arith)
is_many c_equal e = absurd (let z : ◌≡◌ {A = ℕ} 0 1 = cc in omega arith)
is_many c_many e = refl
is_many c_headwise e = absurd (let z : ◌≡◌ {A = ℕ} 0 1 = cc in omega arith)

-- end of many by code

pub few_terms : (c : Option Code) → terms_in c ≤ 3
unfolding terms_in
few_terms none = omega arith
-- written by tools/written.py: few terms
few_terms (some c_context) = omega arith
few_terms (some c_universe) = omega arith
few_terms (some c_infer) = omega arith
few_terms (some c_check) = omega arith
few_terms (some c_normalise) = omega arith
few_terms (some c_equal) = omega arith
few_terms (some c_many) = omega arith
few_terms (some c_headwise) = omega arith

-- end of few terms
