-- The loop over a run's calls.
use Prim.Native.Nat.{ℕ, zero, suc, ◌+◌, ◌*◌, ◌≤◌, ◌<◌}
use mathlib.Core.Path.{◌≡◌, refl, sym, ap, ◌∙◌}
use mathlib.Core.List.{List, [], ◌∷◌, ◌++◌}
use mathlib.Core.Bool.{Bool, true, false, ◌&&◌}
use native.Mathlib.Omega.{arith}
use native.Mathlib.Nat.{zero-add, add-zero}
use lib.ListN.{length, length-append, drop}
use Rattle.walk.specs.Reader.{Read, got, bad, read_on, ◌>>=◌, ok, Call, Sent, checks_of, calls_of, all_calls, read_calls, read_limit, read_run}
use Rattle.syntax.specs.Told.{call_at, fault_at, unread_at, next_in, value_of, limit_of, calls_read, refused_unread, counted, told}
use Rattle.syntax.specs.Ends.{Stops, ends, goes_call}
use Rattle.syntax.specs.Sent.{sent_at, calls_sent, counted_by, counted_as, sent_in}
use Rattle.syntax.specs.Calls.{SentAt, SentCase, sent_case, many_checks, read_more, read_none, Limited, limited}
use Rattle.std.specs.Prelude.{leb, Ok, Err, Some, None}
use Rattle.syntax.specs.declared.scan.Fault.{Fault}
use Rattle.syntax.specs.declared.scan.Unread.{Unread}
use Rattle.syntax.specs.declared.scan.Unread.TheVariants.{Bad}
use Rattle.syntax.specs.declared.sent.Sent.{Sent as Sending}
use Rattle.syntax.specs.declared.sent.Checks.{Checks}
use Rattle.syntax.specs.declared.lent.TheConstants.{STACK}
use Rattle.syntax.proofs.Terms.{past}

pub past_call : (t : Bool) (bytes : List ℕ) (at p : ℕ) → Ok p ≡ next_in t (call_at bytes at) → (call : Call) × (call_at bytes at ≡ got call (drop p bytes) p) × (at + 3 ≤ p)
past_call t bytes at p e = go (past t (call_at bytes at) p e)
  where
    go : (call : Call) × (rest : List ℕ) × (call_at bytes at ≡ got call rest p) → (call : Call) × (call_at bytes at ≡ got call (drop p bytes) p) × (at + 3 ≤ p)
    go q =
        let stops : Stops bytes at 3 q.1 p = ends (goes_call (length bytes)) bytes at q.2 in
        (q.0, q.2 ∙ ap (λ (l : List ℕ). got q.0 l p) stops.left, stops.far)

-- What is told of what was sent: one call, or so many checks.
pub record Passed (bytes : List ℕ) (at : ℕ) (told : Sending) : Type 0 where
  pub sent : Sent
  pub here : SentAt bytes at sent told.next
  pub many : length (calls_of sent) ≡ calls_sent told
  pub far : at + 3 ≤ told.next
  pub few : at + calls_sent told ≤ told.next
  pub alone : told.checks ≡ None → calls_of sent ≡ sent.call ∷ []
  pub checks : (c : Checks) → told.checks ≡ Some c → (calls_of sent ≡ checks_of sent.call sent.drafts) × (length sent.drafts ≡ c.count)

-- The two ways to count types.
abbrev calls_by : Bool → Sent → List Call
calls_by b sent = elim b as (λ _. List Call) [ true ↦ checks_of sent.call sent.drafts | false ↦ sent.call ∷ [] ]

passed_by : (bytes : List ℕ) (at : ℕ) (sent : Sent) (next : ℕ) (S : SentAt bytes at sent next) (b : Bool) → (leb 1 (length sent.drafts) && leb (length sent.drafts) 16) ≡ b → Passed bytes at (counted_by b next S.first (length sent.drafts))
unfolding counted_by calls_sent
passed_by bytes at sent next S true q =
    let all : calls_of sent ≡ checks_of sent.call sent.drafts = unfold calls_of in ap (λ (b : Bool). calls_by b sent) q in
    record {
      sent = sent;
      here = S;
      many = ap length all ∙ many_checks sent.call sent.drafts;
      far = omega (arith, S.far);
      few = omega (arith, S.far);
      alone = λ e. absurd (let z : ◌≡◌ {A = ℕ} 0 1 = cc in omega arith);
      checks = λ c e. (all, let same : record { first = S.first; count = length sent.drafts } ≡ c = cc in ap (λ (x : Checks). x.count) same);
    }
passed_by bytes at sent next S false q =
    let one : calls_of sent ≡ sent.call ∷ [] = unfold calls_of in ap (λ (b : Bool). calls_by b sent) q in
    record {
      sent = sent;
      here = S;
      many = ap length one;
      far = omega (arith, S.far);
      few = omega (arith, S.far);
      alone = λ e. one;
      checks = λ c e. absurd (let z : ◌≡◌ {A = ℕ} 0 1 = cc in omega arith);
    }

pub passed : (t : Bool) (bytes : List ℕ) (at : ℕ) (told : Sending) → Ok told ≡ sent_in t bytes at → Passed bytes at told
unfolding sent_in
passed true bytes at told e = absurd (let z : ◌≡◌ {A = ℕ} 0 1 = cc in omega arith)
passed false bytes at told e = go (sent_at bytes at) (sent_case bytes at)
  where
    go : (r : Read Sent) → SentCase bytes at r → Passed bytes at told
    go (got sent rest next) S =
        let k = e ∙ S.tells in
        let same : told ≡ counted_as next S.first (length sent.drafts) = cc in
        rw same (passed_by bytes at sent next S (leb 1 (length sent.drafts) && leb (length sent.drafts) 16) refl)
    go (bad place) S = absurd (let k = e ∙ S in let z : ◌≡◌ {A = ℕ} 0 1 = cc in omega arith)

pub passed_far : (t : Bool) (bytes : List ℕ) (at : ℕ) (told : Sending) → Ok told ≡ sent_in t bytes at → at + 3 ≤ told.next
passed_far t bytes at told e = (passed t bytes at told e).far

-- What is not told was not read: the stack has room.
pub not_sent : (t : Bool) (bytes : List ℕ) (at : ℕ) (u : Unread) → t ≡ false → Err u ≡ sent_in t bytes at → (p : ℕ) × (u ≡ Bad p) × (sent_at bytes at ≡ bad p)
unfolding sent_in
not_sent true bytes at u f e = absurd (let z : ◌≡◌ {A = ℕ} 0 1 = cc in omega arith)
not_sent false bytes at u f e = go (sent_at bytes at) refl (sent_case bytes at)
  where
    go : (r : Read Sent) → sent_at bytes at ≡ r → SentCase bytes at r → (p : ℕ) × (u ≡ Bad p) × (sent_at bytes at ≡ bad p)
    go (got sent rest next) q S = absurd (let k = e ∙ S.tells in let z : ◌≡◌ {A = ℕ} 0 1 = cc in omega arith)
    go (bad place) q S = (place, let k = e ∙ S in cc, q)

more : (limit n k : ℕ) (sent : Sent) → length (calls_of sent) ≡ k → (r : Read (List Sent)) → counted limit n (read_on r (λ others bs at. got (sent ∷ others) bs at)) ≡ counted limit (n + k) r
unfolding counted read_on all_calls
more limit n k sent e (got others bs at) =
    let l : length (calls_of sent ++ all_calls others) ≡ length (calls_of sent) + length (all_calls others) = length-append (calls_of sent) (all_calls others) in
    let s : n + length (calls_of sent ++ all_calls others) ≡ n + k + length (all_calls others) = omega arith in
    ap (calls_read limit) s
more limit n k sent e (bad place) = refl

-- One turn; m bounds how many calls are left.
pub calls_on : (bytes : List ℕ) (limit m n at : ℕ) (told : Sending) → at < length bytes → length bytes ≤ at + m → Passed bytes at told → (m' : ℕ) × (length bytes ≤ told.next + m') × (counted limit n (read_calls (length bytes) m (drop at bytes) at) ≡ counted limit (n + calls_sent told) (read_calls (length bytes) m' (drop told.next bytes) told.next))
unfolding read_on
calls_on bytes limit zero n at told h l q = absurd (let z : ⊥ = omega arith in z)
calls_on bytes limit (suc m) n at told h l q = (m, omega (arith, q.far), rw (read_more (length bytes) m bytes at h, q.here.reads) (more limit n (calls_sent told) q.sent q.many (read_calls (length bytes) m (drop told.next bytes) told.next)))

bad_here : (bytes : List ℕ) (limit m n at p : ℕ) → at < length bytes → length bytes ≤ at + m → sent_at bytes at ≡ bad p → counted limit n (read_calls (length bytes) m (drop at bytes) at) ≡ Err (refused_unread (Bad p))
unfolding read_on counted
bad_here bytes limit zero n at p h l e = absurd (let z : ⊥ = omega arith in z)
bad_here bytes limit (suc m) n at p h l e = rw (read_more (length bytes) m bytes at h, e)

pub calls_bad : (t : Bool) (bytes : List ℕ) (limit m n at : ℕ) (u : Unread) → at < length bytes → length bytes ≤ at + m → t ≡ false → Err u ≡ sent_in t bytes at → counted limit n (read_calls (length bytes) m (drop at bytes) at) ≡ Err (refused_unread u)
calls_bad t bytes limit m n at u h l f e = let q = not_sent t bytes at u f e in bad_here bytes limit m n at q.0 h l q.2 ∙ ap (λ (v : Unread). Err (refused_unread v)) (sym q.1)

pub calls_done : (bytes : List ℕ) (limit m n at : ℕ) → length bytes ≤ at → counted limit n (read_calls (length bytes) m (drop at bytes) at) ≡ calls_read limit n
unfolding counted all_calls
calls_done bytes limit m n at h = rw (read_none (length bytes) m bytes at h, add-zero n)

pub room : (n w : ℕ) → n ≤ 65536 → w ≡ STACK → 2 * n + 1 ≤ w
room n w h e = omega arith

-- the header, then the calls
pub run_bad : (bytes : List ℕ) (fault : Fault) → Err fault ≡ limit_of (read_limit bytes 0) → told (read_run bytes) ≡ Err (refused_unread (unread_at fault))
unfolding read_run ◌>>=◌
run_bad bytes fault e = go (read_limit bytes 0) e
  where
    go : (r : Read ℕ) → Err fault ≡ limit_of r → told (read_on r (λ limit. read_calls (length bytes) (length bytes) >>= λ sents. ok (limit, all_calls sents))) ≡ Err (refused_unread (unread_at fault))
    go (got limit bs at) e = absurd (unfold value_of in let z : ◌≡◌ {A = ℕ} 0 1 = cc in omega arith)
    go (bad place) e = unfold value_of read_on told in let q : fault ≡ fault_at place = cc in rw q

pub run_on : (bytes : List ℕ) (limit : ℕ) → Ok limit ≡ limit_of (read_limit bytes 0) → told (read_run bytes) ≡ counted limit 0 (read_calls (length bytes) (length bytes) (drop 2 bytes) 2)
unfolding read_run ◌>>=◌
run_on bytes limit e = go (read_limit bytes 0) refl e
  where
    last : (r : Read (List Sent)) → told (read_on r (λ sents. ok (limit, all_calls sents))) ≡ counted limit 0 r
    last (got sents bs at) = unfold told counted read_on ok in rw zero-add
    last (bad place) = unfold told counted read_on in refl

    go : (r : Read ℕ) → read_limit bytes 0 ≡ r → Ok limit ≡ limit_of r → told (read_on r (λ limit. read_calls (length bytes) (length bytes) >>= λ sents. ok (limit, all_calls sents))) ≡ counted limit 0 (read_calls (length bytes) (length bytes) (drop 2 bytes) 2)
    go (got limit' bs at) r e =
        let L : Limited bytes limit' bs at = limited bytes r in
        unfold value_of read_on in let q : limit' ≡ limit = cc in rw (q, L.left, L.stop) (last (read_calls (length bytes) (length bytes) (drop 2 bytes) 2))
    go (bad place) r e = absurd (unfold value_of in let z : ◌≡◌ {A = ℕ} 0 1 = cc in omega arith)
