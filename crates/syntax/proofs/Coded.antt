-- The loop that stores the codes of a run's calls.
use Rattle.std.proofs.Common.{ℕ, suc, ◌+◌, ◌-◌, ◌≤◌, ◌<◌, ◌≡◌, refl, sym, ap, ◌∙◌, List, [], ◌∷◌, ◌++◌, Bool, true, false, arith, ltb, ltb-false, length, get_or, drop, set, replicate, Result, Ok, Err, Some, None}
use Rattle.std.proofs.lemmas.List.{length-replicate}
use native.Mathlib.Nat.{add-zero, add-suc, suc-add}
use native.Mathlib.Numerals.{add-one, sub-one}
use lib.Seq.{sets}
use Rattle.walk.specs.Syntax.{Term}
use Rattle.walk.specs.Reader.{Read, got, bad, c_check, Call, Sent, checks_of, calls_of, all_calls, read_run}
use Rattle.syntax.specs.Told.{code_number, told, unless_long, scanned}
use Rattle.syntax.specs.Sent.{calls_sent, sent_in}
use Rattle.syntax.specs.Kinds.{code_is}
use Rattle.syntax.specs.Calls.{CallsAt, FirstCall, first_call, last_call, many_checks, run_is}
use Rattle.syntax.specs.Codes.{codes_of, codes_in, unless_over, call_codes, Readable}
use Rattle.syntax.specs.declared.scan.Unread.{Unread}
use Rattle.syntax.specs.declared.sent.Sent.{Sent as Sending}
use Rattle.syntax.specs.declared.sent.Checks.{Checks}
use Rattle.syntax.specs.declared.scan.Scanned.{Scanned}
use Rattle.syntax.specs.declared.scan.RefusedRun.{RefusedRun}
use Rattle.syntax.proofs.Runs.{Passed, passed}

-- What is left of the codes to store, from call i at an offset on: those of the calls that are sent there.
pub record Left (bytes whole codes : List ℕ) (at i : ℕ) : Type 0 where
  pub sents : List Sent
  pub there : CallsAt bytes at sents
  pub same : whole ≡ sets codes i (codes_of (all_calls sents))

codes_append : (calls others : List Call) → codes_of (calls ++ others) ≡ codes_of calls ++ codes_of others
codes_append [] others = refl
codes_append (call ∷ calls) others = ap (λ (l : List ℕ). code_number call.code ∷ l) (codes_append calls others)

codes_first : (sent : Sent) (others : List Sent) → codes_of (all_calls (sent ∷ others)) ≡ codes_of (calls_of sent) ++ codes_of (all_calls others)
unfolding all_calls
codes_first sent others = codes_append (calls_of sent) (all_calls others)

sets_append : (l : List ℕ) (i : ℕ) (ms ns : List ℕ) → sets l i (ms ++ ns) ≡ sets (sets l i ms) (i + length ms) ns
sets_append l i [] ns = ap (λ (k : ℕ). sets l k ns) (sym (add-zero i))
sets_append l i (m ∷ ms) ns = sets_append (set l i m) (suc i) ms ns ∙ ap (λ (k : ℕ). sets (sets (set l i m) (suc i) ms) k ns) (suc-add i (length ms) ∙ sym (add-suc i (length ms)))

-- One turn: the codes of the calls that are sent at the offset are stored, and the offset past them is found.
turn : (bytes whole codes : List ℕ) (at i : ℕ) (told : Sending) (new : List ℕ) → Left bytes whole codes at i → at < length bytes → (q : Passed bytes at told) → codes_of (calls_of q.sent) ≡ new → length new ≡ calls_sent told → Left bytes whole (sets codes i new) told.next (i + calls_sent told)
turn bytes whole codes at i told new l h q c n = go (first_call l.there h)
  where
    go : FirstCall bytes at l.sents → Left bytes whole (sets codes i new) told.next (i + calls_sent told)
    go f =
        let both : got f.sent (drop f.next bytes) f.next ≡ got q.sent (drop told.next bytes) told.next = sym f.here.reads ∙ q.here.reads in
        let here : f.next ≡ told.next = cc in
        let same : f.sent ≡ q.sent = cc in
        let first : codes_of (all_calls l.sents) ≡ new ++ codes_of (all_calls f.others) = ap (λ (s : List Sent). codes_of (all_calls s)) f.is ∙ codes_first f.sent f.others ∙ ap (λ (s : Sent). codes_of (calls_of s) ++ codes_of (all_calls f.others)) same ∙ ap (λ (m : List ℕ). m ++ codes_of (all_calls f.others)) c in
        record { sents = f.others; there = rw (← here) f.more; same = l.same ∙ ap (sets codes i) first ∙ sets_append codes i new (codes_of (all_calls f.others)) ∙ ap (λ (m : ℕ). sets (sets codes i new) (i + m) (codes_of (all_calls f.others))) n }

-- By what is told of them: one call with the code that stands there, or so many checks.
codes_checks : (call : Call) (drafts : List Term) → codes_of (checks_of call drafts) ≡ replicate (length drafts) (code_number c_check)
unfolding checks_of
codes_checks call [] = refl
codes_checks call (ty ∷ tys) = ap (λ (l : List ℕ). code_number c_check ∷ l) (codes_checks call tys)

pub turn_one : (t : Bool) (bytes whole codes : List ℕ) (at i : ℕ) (told : Sending) → Left bytes whole codes at i → at < length bytes → Ok told ≡ sent_in t bytes at → told.checks ≡ None → Left bytes whole (set codes i (get_or bytes at 0)) told.next (i + calls_sent told)
turn_one t bytes whole codes at i told l h e k =
    let q = passed t bytes at told e in
    let one : calls_of q.sent ≡ q.sent.call ∷ [] = q.alone k in
    turn bytes whole codes at i told (get_or bytes at 0 ∷ []) l h q (ap codes_of one ∙ ap (λ (n : ℕ). n ∷ []) (sym (code_is (get_or bytes at 0) q.sent.call.code q.here.call.code))) (sym (ap length one) ∙ q.many)

pub turn_many : (t : Bool) (bytes whole codes : List ℕ) (at i : ℕ) (told : Sending) (c : Checks) → Left bytes whole codes at i → at < length bytes → Ok told ≡ sent_in t bytes at → told.checks ≡ Some c → Left bytes whole (sets codes i (replicate c.count (code_number c_check))) told.next (i + calls_sent told)
turn_many t bytes whole codes at i told c l h e k =
    let q = passed t bytes at told e in
    let w = q.checks c k in
    let new : codes_of (calls_of q.sent) ≡ replicate c.count (code_number c_check) = ap codes_of w.0 ∙ codes_checks q.sent.call q.sent.drafts ∙ ap (λ (n : ℕ). replicate n (code_number c_check)) w.1 in
    turn bytes whole codes at i told (replicate c.count (code_number c_check)) l h q new (length-replicate c.count (code_number c_check) ∙ sym w.1 ∙ sym (many_checks q.sent.call q.sent.drafts) ∙ sym (ap length w.0) ∙ q.many)

-- No turn is refused.
pub no_fault : (t : Bool) (bytes whole codes : List ℕ) (at i : ℕ) → Left bytes whole codes at i → at < length bytes → t ≡ false → (r : Result Sending Unread) → ((p : Sending) → r ≡ Ok p → ⊥) → r ≡ sent_in t bytes at → ⊥
unfolding sent_in
no_fault true bytes whole codes at i l h f r never e = let z : ◌≡◌ {A = ℕ} 0 1 = cc in omega arith
no_fault false bytes whole codes at i l h f r never e = never _ (e ∙ (first_call l.there h).here.tells)

-- Past the last there is none.
pub all_stored : (bytes whole codes : List ℕ) (at i : ℕ) → Left bytes whole codes at i → length bytes ≤ at → codes ≡ whole
unfolding all_calls
all_stored bytes whole codes at i l h =
    let none_left : codes_of (all_calls l.sents) ≡ [] = ap (λ (s : List Sent). codes_of (all_calls s)) (last_call l.there h) in
    sym (l.same ∙ ap (sets codes i) none_left)

-- So many checks are so many calls.
pub many_sent : (told : Sending) (c : Checks) → told.checks ≡ Some c → calls_sent told ≡ c.count
unfolding calls_sent
many_sent told c e = rw e

-- A code more of those that are alike, and none.
check_on : (codes : List ℕ) (i left code : ℕ) → 0 < left → sets codes i (replicate left code) ≡ sets (set codes i code) (i + 1) (replicate (left - 1) code)
check_on codes i ℕ.zero code h = absurd (let z : ⊥ = omega arith in z)
check_on codes i (ℕ.suc n) code h = rw (add-one i, sub-one (suc n))

pub check_turn : (codes : List ℕ) (from i count code : ℕ) → i < count → sets codes (from + i) (replicate (count - i) code) ≡ sets (set codes (from + i) code) (from + (i + 1)) (replicate (count - (i + 1)) code)
check_turn codes from i count code h =
    let a : from + i + 1 ≡ from + (i + 1) = omega arith in
    let b : count - i - 1 ≡ count - (i + 1) = omega arith in
    check_on codes (from + i) (count - i) code (omega arith) ∙ rw (a, b)

pub no_check : (codes : List ℕ) (i left code : ℕ) → left ≤ 0 → sets codes i (replicate left code) ≡ codes
no_check codes i ℕ.zero code h = refl
no_check codes i (ℕ.suc n) code h = absurd (let z : ⊥ = omega arith in z)

-- What a scan that found calls says of the run, and what one that was refused says.
pub readable : (bytes : List ℕ) (found : Scanned) → Ok found ≡ scanned bytes → Readable bytes
readable bytes found e = long (ltb 65536 (length bytes)) refl e
  where
    read : (few : length bytes ≤ 65536) (r : Read (ℕ × List Call)) → read_run bytes ≡ r → ltb 65536 (length bytes) ≡ false → Ok found ≡ told r → Readable bytes
    read few (got (limit', calls) rest at) q f e =
        let R = run_is bytes q in
        let are : call_codes bytes ≡ codes_of calls = unfold unless_over codes_in in rw (f, q) in
        record { few = few; sents = R.sents; all = R.all; are = are ∙ ap codes_of R.are }
    read few (bad place) q f e = absurd (unfold told in let z : ◌≡◌ {A = ℕ} 0 1 = cc in omega arith)

    long : (t : Bool) → ltb 65536 (length bytes) ≡ t → Ok found ≡ unless_long t (told (read_run bytes)) → Readable bytes
    long true q e = absurd (unfold unless_long in let z : ◌≡◌ {A = ℕ} 0 1 = cc in omega arith)
    long false q e = read (ltb-false 65536 (length bytes) q) (read_run bytes) refl q (unfold unless_long in e)

pub unreadable : (bytes : List ℕ) (refused : RefusedRun) → Err refused ≡ scanned bytes → call_codes bytes ≡ []
unfolding unless_over
unreadable bytes refusal e = long (ltb 65536 (length bytes)) e
  where
    read : (r : Read (ℕ × List Call)) → Err refusal ≡ told r → codes_in r ≡ []
    read (got (limit, calls) rest at) e = absurd (unfold told in let z : ◌≡◌ {A = ℕ} 0 1 = cc in omega arith)
    read (bad place') e = unfold codes_in in refl

    long : (t : Bool) → Err refusal ≡ unless_long t (told (read_run bytes)) → unless_over t (codes_in (read_run bytes)) ≡ []
    long true e = refl
    long false e = read (read_run bytes) (unfold unless_long in e)
