-- A run that is read has a nesting limit of 1 to 4,096, and each of its calls the terms of its code.
use Rattle.std.specs.Prelude.{ℕ, suc, ◌+◌, ◌*◌, ◌≤◌, ◌≡◌, refl, List, [], ◌∷◌, ◌++◌, Bool, true, false, ◌&&◌, leb, length}
use Rattle.std.proofs.Common.{sym, subst, ap, ◌∙◌, arith, leb→le}
use Rattle.walk.specs.Syntax.{Term}
use Rattle.walk.specs.Reader.{Read, got, bad, Reader, read_on, ◌>>=◌, ok, Code, c_context, c_universe, c_infer, c_check, c_normalise, c_equal, c_many, c_headwise, terms_of, lists_types, byte, read_term, read_terms, read_head, Call, read_call, Sent, read_drafts, read_sent, checks_of, calls_of, all_calls, read_calls, read_limit, read_run}

-- whatever m reads, Q holds of it
pub record Reads {A : Type 0} (m : Reader A) (Q : A → Type 0) : Type 0 where
  pub holds : (bs : List ℕ) (at : ℕ) (a : A) (rest : List ℕ) (end : ℕ) → m bs at ≡ got a rest end → Q a

anything : {A : Type 0} (m : Reader A) → Reads m (λ _. Unit {0})
anything m = record { holds = λ _ _ _ _ _ _. tt }

then : {A B : Type 0} {P : A → Type 0} {Q : B → Type 0} {m : Reader A} {f : A → Reader B} → Reads m P → ((a : A) → P a → Reads (f a) Q) → Reads (m >>= f) Q
unfolding ◌>>=◌ read_on
then {A} {B} {P} {Q} {m} {f} h k = record { holds = λ bs at. go bs at (m bs at) refl }
  where
    go : (bs : List ℕ) (at : ℕ) (r : Read A) → m bs at ≡ r → (b : B) (rest : List ℕ) (end : ℕ) → read_on r f ≡ got b rest end → Q b
    go bs at (got a bs' at') q b rest end e = (k a (h.holds bs at a bs' at' q)).holds bs' at' b rest end e
    go bs at (bad place) q b rest end e = let z : ◌≡◌ {A = ℕ} 0 1 = cc in absurd (omega arith)

giving : {A : Type 0} {Q : A → Type 0} (a : A) → Q a → Reads (ok a) Q
unfolding ok
giving {Q = Q} a q = record { holds = λ bs at b rest end e. let p : a ≡ b = cc in subst Q p q }

terms_full : (f n : ℕ) → Reads (read_terms f n) (λ ts. length ts ≡ n)
unfolding read_terms
terms_full f ℕ.zero = giving {Q = λ ts. length ts ≡ 0} [] refl
terms_full f (ℕ.suc n) = then (anything (read_term f)) λ t _. then (terms_full f n) λ ts e. giving {Q = λ ts. length ts ≡ suc n} (t ∷ ts) (ap suc e)

-- a call with the terms of its code
abbrev pub Full : Call → Type 0
Full call = length call.terms ≡ terms_of call.code

call_full : (f : ℕ) → Reads (read_call f) Full
unfolding read_call
call_full f = then (anything read_head) λ head _. then (anything (read_terms f head.size)) λ types _. then (terms_full f (terms_of head.code)) λ terms e. giving {Q = Full} _ e

-- what is sent with one code: a call with no types after it, or one with many
pub data Well : Sent → Type 0 where
  well_one : {call : Call} → Full call → lists_types call.code ≡ false → Well (record { call = call; drafts = [] })
  well_many : {call : Call} {drafts : List Term} → Full call → call.code ≡ c_many → Well (record { call = call; drafts = drafts })

only_many : (code : Code) → lists_types code ≡ true → code ≡ c_many
only_many c_context e = let z : ◌≡◌ {A = ℕ} 0 1 = cc in absurd (omega arith)
only_many c_universe e = let z : ◌≡◌ {A = ℕ} 0 1 = cc in absurd (omega arith)
only_many c_infer e = let z : ◌≡◌ {A = ℕ} 0 1 = cc in absurd (omega arith)
only_many c_check e = let z : ◌≡◌ {A = ℕ} 0 1 = cc in absurd (omega arith)
only_many c_normalise e = let z : ◌≡◌ {A = ℕ} 0 1 = cc in absurd (omega arith)
only_many c_equal e = let z : ◌≡◌ {A = ℕ} 0 1 = cc in absurd (omega arith)
only_many c_many e = refl
only_many c_headwise e = let z : ◌≡◌ {A = ℕ} 0 1 = cc in absurd (omega arith)

abbrev with_drafts : Call → List Term → Sent
with_drafts call drafts = record { call = call; drafts = drafts }

drafts_well : (f : ℕ) (call : Call) → Full call → (b : Bool) → lists_types call.code ≡ b → Reads (read_drafts f b >>= λ drafts. ok (with_drafts call drafts)) Well
unfolding read_drafts
drafts_well f call h true e = then (anything (byte >>= λ n. read_terms f n)) λ drafts _. giving {Q = Well} _ (well_many h (only_many call.code e))
drafts_well f call h false e = then (giving {Q = λ drafts. drafts ≡ []} [] refl) λ drafts q. giving {Q = Well} _ (subst (λ ds. Well (with_drafts call ds)) (sym q) (well_one h e))

sent_well : (f : ℕ) → Reads (read_sent f) Well
unfolding read_sent
sent_well f = then (call_full f) λ call h. drafts_well f call h (lists_types call.code) refl

pub data AllWell : List Sent → Type 0 where
  none_well : AllWell []
  well_on : {sent : Sent} {others : List Sent} → Well sent → AllWell others → AllWell (sent ∷ others)

pub calls_well : (f m : ℕ) → Reads (read_calls f m) AllWell
unfolding read_calls read_on
calls_well f ℕ.zero = record { holds = go }
  where
    go : (bs : List ℕ) (at : ℕ) (sents : List Sent) (rest : List ℕ) (end : ℕ) → read_calls f 0 bs at ≡ got sents rest end → AllWell sents
    go [] at sents rest end e = let p : [] ≡ sents = cc in subst AllWell p none_well
    go (b ∷ bs) at sents rest end e = let z : ◌≡◌ {A = ℕ} 0 1 = cc in absurd (omega arith)
calls_well f (ℕ.suc m) = record { holds = go (calls_well f m) }
  where
    on : Reads (read_calls f m) AllWell → (sent : Sent) → Well sent → (r : Read (List Sent)) (bs : List ℕ) (at : ℕ) → read_calls f m bs at ≡ r → (sents : List Sent) (rest : List ℕ) (end : ℕ) → read_on r (λ others bs at. got (sent ∷ others) bs at) ≡ got sents rest end → AllWell sents
    on ih sent h (bad place) bs at q sents rest end e = let z : ◌≡◌ {A = ℕ} 0 1 = cc in absurd (omega arith)
    on ih sent h (got others bs' at') bs at q sents rest end e = let p : (sent ∷ others) ≡ sents = cc in subst AllWell p (well_on {sent = sent} h (ih.holds bs at others bs' at' q))

    first : Reads (read_calls f m) AllWell → (bs : List ℕ) (at : ℕ) (r : Read Sent) → read_sent f bs at ≡ r → (sents : List Sent) (rest : List ℕ) (end : ℕ) → read_on r (λ sent bs' at'. read_on (read_calls f m bs' at') (λ others bs at. got (sent ∷ others) bs at)) ≡ got sents rest end → AllWell sents
    first ih bs at (bad place) q sents rest end e = let z : ◌≡◌ {A = ℕ} 0 1 = cc in absurd (omega arith)
    first ih bs at (got sent bs' at') q sents rest end e = on ih sent ((sent_well f).holds bs at sent bs' at' q) (read_calls f m bs' at') bs' at' refl sents rest end e

    go : Reads (read_calls f m) AllWell → (bs : List ℕ) (at : ℕ) (sents : List Sent) (rest : List ℕ) (end : ℕ) → read_calls f (suc m) bs at ≡ got sents rest end → AllWell sents
    go ih [] at sents rest end e = let p : [] ≡ sents = cc in subst AllWell p none_well
    go ih (b ∷ bs) at sents rest end e = first ih (b ∷ bs) at (read_sent f (b ∷ bs) at) refl sents rest end e

-- the calls, written out
pub data AllFull : List Call → Type 0 where
  none_full : AllFull []
  full_on : {call : Call} {calls : List Call} → Full call → AllFull calls → AllFull (call ∷ calls)

full_append : {calls others : List Call} → AllFull calls → AllFull others → AllFull (calls ++ others)
full_append none_full k = k
full_append (full_on h hs) k = full_on h (full_append hs k)

pub one_more : (ts : List Term) (t : Term) → length (ts ++ t ∷ []) ≡ suc (length ts)
one_more [] t = refl
one_more (u ∷ ts) t = ap suc (one_more ts t)

checks_full : (call : Call) (drafts : List Term) → length call.terms ≡ 1 → AllFull (checks_of call drafts)
unfolding checks_of
checks_full call [] l = none_full
checks_full call (ty ∷ tys) l = full_on (one_more call.terms ty ∙ ap suc l) (checks_full call tys l)

written_full : (call : Call) (drafts : List Term) (b : Bool) → Full call → length call.terms ≡ 1 → AllFull (elim b as (λ _. List Call) [ true ↦ checks_of call drafts | false ↦ call ∷ [] ])
written_full call drafts true h l = checks_full call drafts l
written_full call drafts false h l = full_on h none_full

sent_full : (sent : Sent) → Well sent → AllFull (calls_of sent)
unfolding calls_of
sent_full _ (well_one h e) = full_on h none_full
sent_full _ (well_many {call = call} {drafts = drafts} h e) = written_full call drafts (leb 1 (length drafts) && leb (length drafts) 16) h (h ∙ ap terms_of e)

all_full : {sents : List Sent} → AllWell sents → AllFull (all_calls sents)
unfolding all_calls
all_full none_well = none_full
all_full (well_on {sent = sent} h hs) = full_append (sent_full sent h) (all_full hs)

-- the limit
record InRange (limit : ℕ) : Type 0 where
  least : 1 ≤ limit
  most : limit ≤ 4096

both_true : (a b : Bool) → (a && b) ≡ true → (a ≡ true) × (b ≡ true)
both_true true b e = (refl, e)
both_true false b e = let z : ◌≡◌ {A = ℕ} 0 1 = cc in absurd (omega arith)

limit_read : Reads read_limit InRange
unfolding read_limit
limit_read = record { holds = go }
  where
    in_range : (a b : ℕ) (bs : List ℕ) (at : ℕ) (t : Bool) → (leb 1 (a + 256 * b) && leb (a + 256 * b) 4096) ≡ t → (limit : ℕ) (rest : List ℕ) (end : ℕ) → elim t as (λ _. Read ℕ) [ true ↦ got (a + 256 * b) bs (at + 2) | false ↦ bad at ] ≡ got limit rest end → InRange limit
    in_range a b bs at false q limit rest end e = let z : ◌≡◌ {A = ℕ} 0 1 = cc in absurd (omega arith)
    in_range a b bs at true q limit rest end e =
        let p : a + 256 * b ≡ limit = cc in
        let t = both_true (leb 1 (a + 256 * b)) (leb (a + 256 * b) 4096) q in
        subst InRange p (record { least = leb→le 1 (a + 256 * b) (rw t.0 tt); most = leb→le (a + 256 * b) 4096 (rw t.1 tt) })

    go : (bs : List ℕ) (at limit : ℕ) (rest : List ℕ) (end : ℕ) → read_limit bs at ≡ got limit rest end → InRange limit
    go [] at limit rest end e = let z : ◌≡◌ {A = ℕ} 0 1 = cc in absurd (omega arith)
    go (a ∷ []) at limit rest end e = let z : ◌≡◌ {A = ℕ} 0 1 = cc in absurd (omega arith)
    go (a ∷ b ∷ bs) at limit rest end e = in_range a b bs at (leb 1 (a + 256 * b) && leb (a + 256 * b) 4096) refl limit rest end e

-- what is read
pub record WasRead (limit : ℕ) (calls : List Call) : Type 0 where
  pub least : 1 ≤ limit
  pub most : limit ≤ 4096
  pub full : AllFull calls

pub run_read_so : (bytes : List ℕ) (limit : ℕ) (calls : List Call) (rest : List ℕ) (end : ℕ) → read_run bytes ≡ got (limit, calls) rest end → WasRead limit calls
unfolding read_run
run_read_so bytes limit calls rest end e = so.holds bytes 0 (limit, calls) rest end e
  where
    so : Reads {A = ℕ × List Call} (read_limit >>= λ limit. read_calls (length bytes) (length bytes) >>= λ sents. ok (limit, all_calls sents)) (λ lc. WasRead lc.0 lc.1)
    so = then limit_read λ limit h. then (calls_well (length bytes) (length bytes)) λ sents w. giving {Q = λ lc. WasRead lc.0 lc.1} (limit, all_calls sents) (record { least = h.least; most = h.most; full = all_full w })
