-- A byte of the run, and the code that it is.
use Rattle.std.proofs.Common.{◌≡◌, refl, sym, ◌∙◌, ap, ℕ, ◌+◌, ◌≤◌, ◌<◌, arith, List, length, get_or, drop, Ok, Err, Some, None, Option as Maybe, drop-cons, drop_of_length-le}
use Rattle.std.proofs.Math.Option.{Option, none, some}
use Rattle.std.proofs.Math.Decide.{dec_lt}
use Rattle.walk.specs.Reader.{byte, Code, codes, terms_of, read_head}
use Rattle.syntax.specs.declared.scan.Fault.{Fault}
use Rattle.syntax.specs.declared.calls.Code.{Code as CallCode}
use Rattle.syntax.specs.Told.{fault_at, value_of, code_told, code_of, code_in, head_in, head_of, terms_in}
use Rattle.syntax.specs.Heads.{code_again, head_is}
use Rattle.syntax.specs.declared.scan.CallHead.{CallHead}

pub byte_here : (bytes : List ℕ) (at : ℕ) → at < length bytes → value_of (byte (drop at bytes) at) ≡ Ok (get_or bytes at 0)
unfolding byte value_of
byte_here bytes at h = rw (drop-cons bytes at 0 h)

pub no_byte : (bytes : List ℕ) (at : ℕ) → length bytes ≤ at → value_of (byte (drop at bytes) at) ≡ Err (fault_at at)
unfolding byte value_of
no_byte bytes at h = rw (drop_of_length-le bytes {i = at} h)

-- A byte that was found lies in the run.
pub found : (bytes : List ℕ) (at b : ℕ) → Ok b ≡ value_of (byte (drop at bytes) at) → (at < length bytes) × (b ≡ get_or bytes at 0)
found bytes at b e = go (dec_lt at (length bytes))
  where
    go : Dec (at < length bytes) → (at < length bytes) × (b ≡ get_or bytes at 0)
    go (yes h) = (h, let q : Ok b ≡ Ok (get_or bytes at 0) = e ∙ byte_here bytes at h in cc)
    go (no h) = absurd (let q : Ok b ≡ Err (fault_at at) = e ∙ no_byte bytes at (omega arith) in let z : ◌≡◌ {A = ℕ} 0 1 = cc in omega arith)

-- One that was not lies past it.
pub missed : (bytes : List ℕ) (at : ℕ) (fault : Fault) → Err fault ≡ value_of (byte (drop at bytes) at) → (length bytes ≤ at) × (fault ≡ fault_at at)
missed bytes at fault e = go (dec_lt at (length bytes))
  where
    go : Dec (at < length bytes) → (length bytes ≤ at) × (fault ≡ fault_at at)
    go (yes h) = absurd (let q : Err fault ≡ Ok (get_or bytes at 0) = e ∙ byte_here bytes at h in let z : ◌≡◌ {A = ℕ} 0 1 = cc in omega arith)
    go (no h) = (omega arith, let q : Err fault ≡ Err (fault_at at) = e ∙ no_byte bytes at (omega arith) in cc)

-- What the program tells of a code.
pub code_found : (o : Option Code) (code : CallCode) → Some code ≡ code_in o → (c : Code) × (o ≡ some c) × (code ≡ code_told c)
unfolding code_in
code_found none code e = absurd (let z : ◌≡◌ {A = ℕ} 0 1 = cc in omega arith)
code_found (some c) code e = (c, refl, cc)

pub no_code_found : (o : Option Code) → None ≡ code_in o → o ≡ none
unfolding code_in
no_code_found none e = refl
no_code_found (some c) e = absurd (let z : ◌≡◌ {A = ℕ} 0 1 = cc in omega arith)

pub no_code : (o : Option Code) (r : Maybe CallCode) → ((code : CallCode) → r ≡ Some code → ⊥) → r ≡ code_in o → o ≡ none
unfolding code_in
no_code none r never e = refl
no_code (some c) r never e = absurd (never _ e)

-- The code of a call whose first byte is one.
pub record CodeHere (bytes : List ℕ) (from : ℕ) (code : CallCode) : Type 0 where
  pub inside : from < length bytes
  pub means : Code
  pub here : get_or codes (get_or bytes from 0) none ≡ some means
  pub told : code ≡ code_told means

pub code_here : (bytes : List ℕ) (from b : ℕ) (code : CallCode) → Ok b ≡ value_of (byte (drop from bytes) from) → Some code ≡ code_in (get_or codes b none) → CodeHere bytes from code
code_here bytes from b code e q =
    let f : (from < length bytes) × (b ≡ get_or bytes from 0) = found bytes from b e in
    let at_byte : Some code ≡ code_in (get_or codes (get_or bytes from 0) none) = q ∙ ap (λ (n : ℕ). code_in (get_or codes n none)) f.1 in
    let k : (c : Code) × (get_or codes (get_or bytes from 0) none ≡ some c) × (code ≡ code_told c) = code_found (get_or codes (get_or bytes from 0) none) code at_byte in
    record { inside = f.0; means = k.0; here = k.1; told = k.2 }

pub no_code_here : (bytes : List ℕ) (from b : ℕ) (r : Maybe CallCode) → Ok b ≡ value_of (byte (drop from bytes) from) → ((code : CallCode) → r ≡ Some code → ⊥) → r ≡ code_in (get_or codes b none) → (from < length bytes) × (get_or codes (get_or bytes from 0) none ≡ none)
no_code_here bytes from b r e never q =
    let f : (from < length bytes) × (b ≡ get_or bytes from 0) = found bytes from b e in
    (f.0, ap (λ (n : ℕ). get_or codes n none) (sym f.1) ∙ no_code (get_or codes b none) r never q)

pub terms_told : (o : Option Code) (code : CallCode) → Some code ≡ code_in o → terms_of (code_of code) ≡ terms_in o
unfolding terms_in
terms_told o code e =
    let k : (c : Code) × (o ≡ some c) × (code ≡ code_told c) = code_found o code e in
    ap (λ (x : CallCode). terms_of (code_of x)) k.2 ∙ ap terms_of (code_again k.0) ∙ sym (ap terms_in k.1)

-- The head of a call whose three bytes were found.
pub head_here : (bytes : List ℕ) (from : ℕ) (head : CallHead) → CodeHere bytes from head.code → (from + 2 < length bytes) × (head.size ≡ get_or bytes (from + 2) 0) → head.dims ≡ get_or bytes (from + 1) 0 → Ok head ≡ head_of (read_head (drop from bytes) from)
unfolding head_of
head_here bytes from head k z d =
    let two : from + 1 + 1 ≡ from + 2 = omega arith in
    let same : head ≡ head_in k.means (get_or bytes (from + 1) 0) (get_or bytes (from + 2) 0) = made k.told d z.1 in
    rw (same, head_is bytes from k.means k.here (omega (arith, z.0)), two)
  where
    made : {c : CallCode} {dims size : ℕ} → head.code ≡ c → head.dims ≡ dims → head.size ≡ size → head ≡ record { code = c; dims = dims; size = size }
    made a b c = rw (← a, ← b, ← c) refl
