-- What is sent with one code: a call, and its types where it has many.
use Rattle.std.proofs.Common.{◌≡◌, refl, sym, ◌∙◌, ap, ℕ, ◌+◌, ◌≤◌, arith, Bool, true, false, ◌&&◌, leb, List, length, drop, Ok, Err, le-leb}
use Rattle.std.proofs.lemmas.Bool.{lt-leb}
use Rattle.walk.specs.Syntax.{Term}
use Rattle.walk.specs.Reader.{Read, got, bad, byte, lists_types, Call, read_head}
use Rattle.syntax.specs.Told.{terms_at, call_at, HeadAt, fault_at, unread_at, next_of, value_of, code_of, head_in, head_of}
use Rattle.syntax.specs.Sent.{one_call, many_checks, counted_by, types_told, types_by, types_of, coded_by, sent_told, sent_of}
use Rattle.syntax.specs.Heads.{code_again}
use Rattle.syntax.specs.Calls.{CallAt, call_is, call_head}
use Rattle.syntax.specs.declared.scan.Fault.{Fault}
use Rattle.syntax.specs.declared.scan.Unread.{Unread}
use Rattle.syntax.specs.declared.scan.Unread.TheVariants.{Bad}
use Rattle.syntax.specs.declared.scan.CallHead.{CallHead}
use Rattle.syntax.proofs.Bytes.{found, missed}
use Rattle.syntax.proofs.Terms.{call_no_head}

-- the types

pub no_types : (bytes : List ℕ) (at : ℕ) (fault : Fault) → Err fault ≡ value_of (byte (drop at bytes) at) → types_of bytes at ≡ Err (unread_at fault)
unfolding types_by
no_types bytes at fault e = let m = missed bytes at fault e in rw (le-leb (length bytes) at m.0, m.1)

pub types_on : (bytes : List ℕ) (at n : ℕ) → Ok n ≡ value_of (byte (drop at bytes) at) → types_of bytes at ≡ types_told (at + 1) n (terms_at n bytes (at + 1))
unfolding types_by
types_on bytes at n e = let f = found bytes at n e in rw (lt-leb (length bytes) at f.0, f.1)

pub types_unread : (first n : ℕ) (r : Read (List Term)) (u : Unread) → Err u ≡ next_of r → types_told first n r ≡ Err u
unfolding types_told next_of
types_unread first n (got types rest next) u e = absurd (let z : ◌≡◌ {A = ℕ} 0 1 = cc in omega arith)
types_unread first n (bad place) u e = let q : u ≡ Bad place = cc in rw q

-- as many as are checked, or not
pub types_right : (first n next : ℕ) (r : Read (List Term)) → Ok next ≡ next_of r → (b : Bool) → b ≡ true → b ≡ (leb 1 n && leb n 16) → types_told first n r ≡ Ok (many_checks next first n)
unfolding types_told next_of counted_by
types_right first n next (got types rest end) e b t q = let same : next ≡ end = cc in rw (← q, t, same)
types_right first n next (bad place) e b t q = absurd (let z : ◌≡◌ {A = ℕ} 0 1 = cc in omega arith)

pub types_wrong : (first n next : ℕ) (r : Read (List Term)) → Ok next ≡ next_of r → (b : Bool) → b ≡ false → b ≡ (leb 1 n && leb n 16) → types_told first n r ≡ Ok (one_call next)
unfolding types_told next_of counted_by
types_wrong first n next (got types rest end) e b t q = let same : next ≡ end = cc in rw (← q, t, same)
types_wrong first n next (bad place) e b t q = absurd (let z : ◌≡◌ {A = ℕ} 0 1 = cc in omega arith)

-- What is told of a count that was found: why its types were not read; so many checks; or one call.
pub types_stop : (bytes : List ℕ) (at n : ℕ) (u : Unread) → Ok n ≡ value_of (byte (drop at bytes) at) → Err u ≡ next_of (terms_at n bytes (at + 1)) → types_of bytes at ≡ Err u
types_stop bytes at n u e q = types_on bytes at n e ∙ types_unread (at + 1) n (terms_at n bytes (at + 1)) u q

pub types_many : (bytes : List ℕ) (at n next : ℕ) (b : Bool) → Ok n ≡ value_of (byte (drop at bytes) at) → Ok next ≡ next_of (terms_at n bytes (at + 1)) → b ≡ true → b ≡ (leb 1 n && leb n 16) → types_of bytes at ≡ Ok (many_checks next (at + 1) n)
types_many bytes at n next b e q t k = types_on bytes at n e ∙ types_right (at + 1) n next (terms_at n bytes (at + 1)) q b t k

pub types_one : (bytes : List ℕ) (at n next : ℕ) (b : Bool) → Ok n ≡ value_of (byte (drop at bytes) at) → Ok next ≡ next_of (terms_at n bytes (at + 1)) → b ≡ false → b ≡ (leb 1 n && leb n 16) → types_of bytes at ≡ Ok (one_call next)
types_one bytes at n next b e q t k = types_on bytes at n e ∙ types_wrong (at + 1) n next (terms_at n bytes (at + 1)) q b t k

-- the call before them

pub sent_unread : (bytes : List ℕ) (at : ℕ) (u : Unread) → Err u ≡ next_of (call_at bytes at) → sent_of bytes at ≡ Err u
unfolding next_of sent_told
sent_unread bytes at u e = go (call_at bytes at) e
  where
    go : (r : Read Call) → Err u ≡ next_of r → sent_told bytes r ≡ Err u
    go (got call rest next) e = absurd (let z : ◌≡◌ {A = ℕ} 0 1 = cc in omega arith)
    go (bad place) e = let q : u ≡ Bad place = cc in rw q

same_code : (bytes : List ℕ) (at : ℕ) (head : CallHead) (call : Call) (next : ℕ) → HeadAt bytes at head → CallAt bytes at call next → code_of head.code ≡ call.code
same_code bytes at head call next h C =
    let k : Ok head ≡ Ok (head_in call.code call.dims (length call.types)) = h ∙ call_head bytes at C in
    let same : head ≡ head_in call.code call.dims (length call.types) = cc in
    ap (λ (x : CallHead). code_of x.code) same ∙ code_again call.code

sent_on : (bytes : List ℕ) (at : ℕ) (head : CallHead) (next : ℕ) → HeadAt bytes at head → Ok next ≡ next_of (call_at bytes at) → (b : Bool) → b ≡ lists_types (code_of head.code) → sent_of bytes at ≡ coded_by b bytes next
unfolding next_of sent_told
sent_on bytes at head next h e b q = go (call_at bytes at) refl e
  where
    go : (r : Read Call) → call_at bytes at ≡ r → Ok next ≡ next_of r → sent_told bytes r ≡ coded_by b bytes next
    go (got call rest end) r e =
        let code : code_of head.code ≡ call.code = same_code bytes at head call end h (call_is bytes at r) in
        let there : next ≡ end = cc in
        let many : b ≡ lists_types call.code = q ∙ ap lists_types code in
        rw (many, there)
    go (bad place) r e = absurd (let z : ◌≡◌ {A = ℕ} 0 1 = cc in omega arith)

pub no_head : (bytes : List ℕ) (at : ℕ) (fault : Fault) → Err fault ≡ head_of (read_head (drop at bytes) at) → sent_of bytes at ≡ Err (unread_at fault)
no_head bytes at fault e = sent_unread bytes at (unread_at fault) (sym (call_no_head bytes at fault e))

pub with_types : (bytes : List ℕ) (at : ℕ) (head : CallHead) (next : ℕ) (b : Bool) → HeadAt bytes at head → Ok next ≡ next_of (call_at bytes at) → b ≡ true → b ≡ lists_types (code_of head.code) → sent_of bytes at ≡ types_of bytes next
with_types bytes at head next b h e t q = sent_on bytes at head next h e b q ∙ (unfold coded_by in rw t)

pub no_more : (bytes : List ℕ) (at : ℕ) (head : CallHead) (next : ℕ) (b : Bool) → HeadAt bytes at head → Ok next ≡ next_of (call_at bytes at) → b ≡ false → b ≡ lists_types (code_of head.code) → sent_of bytes at ≡ Ok (one_call next)
no_more bytes at head next b h e t q = sent_on bytes at head next h e b q ∙ (unfold coded_by in rw t)
