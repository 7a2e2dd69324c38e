-- The run written out (`walk`, Written) is the same run: `same_run`. What is written is read back, and the checks that stand for a call
-- with many types are its calls. A call with a wrong count of types is one call, refused with 23, and leaves all as it was: `wrong_count`.
use Rattle.std.proofs.Common.{ℕ, suc, ◌+◌, ◌*◌, ◌≤◌, ◌<◌, ◌≡◌, refl, sym, subst, ap, ◌∙◌, List, [], ◌∷◌, ◌++◌, Bool, true, false, ◌&&◌, ◌||◌, arith, le-ltb, ltb, leb, length, get_or}
use Rattle.std.proofs.Math.Option.{Option, none, some}
use Rattle.walk.specs.Refusal as Refusal
use Rattle.walk.specs.Syntax.{Interval, I0, I1, Dim, Neg, Meet, Join, Term, Universe, Var, Nat, Zero, Pi, Lam, App, Path, PathLam, PathApp, Sigma, Pair, Fst, Snd}
use Rattle.walk.specs.State.{State}
use Rattle.walk.specs.Reader.{Read, got, bad, Reader, read_on, ◌>>=◌, ok, byte, meant, one_of, k_u, k_v, k_nat, k_zero, k_pi, k_lam, k_app, k_path, k_plam, k_papp, k_sigma, k_pair, k_fst, k_snd, k_0, k_1, k_dim, k_neg, k_meet, k_join, kinds, ikinds, Code, c_context, c_universe, c_infer, c_check, c_normalise, c_equal, c_many, c_headwise, codes, terms_of, lists_types, read_interval, read_term, read_terms, Head, read_head, Call, read_call, Sent, read_drafts, read_sent, check_of, checks_of, calls_of, all_calls, read_calls, read_limit, read_run}
use Rattle.walk.specs.Run.{Answer, Ran, refusal, play_counted, play, refused_run, run_read, run}
use Rattle.walk.specs.Written.{write_interval, write_term, write_terms, code_byte, write_call, write_checks, write_drafts, write_by, write_all, written_by, written_out}
use Rattle.order.specs.Reading.{Full, Well, well_one, well_many, AllWell, none_well, well_on, calls_well, one_more}

-- These bytes are read as a, and leave the rest.
record Back {A : Type 0} (m : Reader A) (a : A) (bytes rest : List ℕ) : Type 0 where
  back : (at : ℕ) → (end : ℕ) × (m bytes at ≡ got a rest end)

on : {A B : Type 0} {m : Reader A} (f : A → Reader B) {a : A} {b : B} {bytes middle rest : List ℕ} → Back m a bytes middle → Back (f a) b middle rest → Back (m >>= f) b bytes rest
unfolding ◌>>=◌ read_on
on f h k = record { back = λ at. let (e, q) = h.back at in let (e', q') = k.back e in (e', rw q q') }

back_ok : {A : Type 0} (a : A) (bs : List ℕ) → Back (ok a) a bs bs
unfolding ok
back_ok a bs = record { back = λ at. (at, refl) }

back_byte : (n : ℕ) (bs : List ℕ) → Back byte n (n ∷ bs) bs
unfolding byte
back_byte n bs = record { back = λ at. (at + 1, refl) }

back_kind : {K : Type 0} (table : List (Option K)) (b : ℕ) (k : K) (bs : List ℕ) → get_or table b none ≡ some k → Back (one_of table) k (b ∷ bs) bs
unfolding one_of meant
back_kind table b k bs e = record { back = λ at. (at + 1, rw e) }

-- What is written is longer than what follows it.

interval_longer : (r : Interval) (bs : List ℕ) → length bs < length (write_interval r bs)
unfolding write_interval
interval_longer I0 bs = omega arith
interval_longer I1 bs = omega arith
interval_longer (Dim n) bs = omega arith
interval_longer (Neg a) bs = let x = interval_longer a bs in omega arith
interval_longer (Meet a b) bs = let x = interval_longer a (write_interval b bs) in let y = interval_longer b bs in omega arith
interval_longer (Join a b) bs = let x = interval_longer a (write_interval b bs) in let y = interval_longer b bs in omega arith

term_longer : (t : Term) (bs : List ℕ) → length bs < length (write_term t bs)
unfolding write_term
term_longer (Universe n) bs = omega arith
term_longer (Var n) bs = omega arith
term_longer Nat bs = omega arith
term_longer Zero bs = omega arith
term_longer (Pi a b) bs = let x = term_longer a (write_term b bs) in let y = term_longer b bs in omega arith
term_longer (Lam a b) bs = let x = term_longer a (write_term b bs) in let y = term_longer b bs in omega arith
term_longer (App a b) bs = let x = term_longer a (write_term b bs) in let y = term_longer b bs in omega arith
term_longer (Path a b c) bs = let x = term_longer a (write_term b (write_term c bs)) in let y = term_longer b (write_term c bs) in let z = term_longer c bs in omega arith
term_longer (PathLam a b) bs = let x = term_longer a (write_term b bs) in let y = term_longer b bs in omega arith
term_longer (PathApp a b) bs = let x = term_longer a (write_interval b bs) in let y = interval_longer b bs in omega arith
term_longer (Sigma a b) bs = let x = term_longer a (write_term b bs) in let y = term_longer b bs in omega arith
term_longer (Pair a b c) bs = let x = term_longer a (write_term b (write_term c bs)) in let y = term_longer b (write_term c bs) in let z = term_longer c bs in omega arith
term_longer (Fst a) bs = let x = term_longer a bs in omega arith
term_longer (Snd a) bs = let x = term_longer a bs in omega arith

terms_longer : (ts : List Term) (bs : List ℕ) → length bs ≤ length (write_terms ts bs)
unfolding write_terms
terms_longer [] bs = omega arith
terms_longer (t ∷ ts) bs = let x = term_longer t (write_terms ts bs) in let y = terms_longer ts bs in omega arith

-- The bound on the depth is enough where it is as many as the bytes that are taken. Each part of what is written fits too.

interval_back : (r : Interval) (f : ℕ) (bs : List ℕ) → length (write_interval r bs) ≤ length bs + f → Back (read_interval f) r (write_interval r bs) bs
unfolding read_interval write_interval
interval_back r ℕ.zero bs l = absurd (let x = interval_longer r bs in omega arith)
interval_back I0 (ℕ.suc f) bs l = on _ (back_kind ikinds 16 k_0 bs refl) (back_ok I0 bs)
interval_back I1 (ℕ.suc f) bs l = on _ (back_kind ikinds 17 k_1 bs refl) (back_ok I1 bs)
interval_back (Dim n) (ℕ.suc f) bs l = on _ (back_kind ikinds 18 k_dim _ refl) (on _ (back_byte n bs) (back_ok (Dim n) bs))
interval_back (Neg a) (ℕ.suc f) bs l = on _ (back_kind ikinds 19 k_neg _ refl) (on _ (interval_back a f bs (omega arith)) (back_ok (Neg a) bs))
interval_back (Meet a b) (ℕ.suc f) bs l =
    let x = interval_longer a (write_interval b bs) in
    let y = interval_longer b bs in
    on _ (back_kind ikinds 20 k_meet _ refl) (on _ (interval_back a f (write_interval b bs) (omega arith)) (on _ (interval_back b f bs (omega arith)) (back_ok (Meet a b) bs)))
interval_back (Join a b) (ℕ.suc f) bs l =
    let x = interval_longer a (write_interval b bs) in
    let y = interval_longer b bs in
    on _ (back_kind ikinds 21 k_join _ refl) (on _ (interval_back a f (write_interval b bs) (omega arith)) (on _ (interval_back b f bs (omega arith)) (back_ok (Join a b) bs)))

term_back : (t : Term) (f : ℕ) (bs : List ℕ) → length (write_term t bs) ≤ length bs + f → Back (read_term f) t (write_term t bs) bs
unfolding read_term write_term
term_back t ℕ.zero bs l = absurd (let x = term_longer t bs in omega arith)
term_back (Universe n) (ℕ.suc f) bs l =
    on _ (back_kind kinds 1 k_u _ refl) (on _ (back_byte n bs) (back_ok (Universe n) bs))
term_back (Var n) (ℕ.suc f) bs l =
    on _ (back_kind kinds 2 k_v _ refl) (on _ (back_byte n bs) (back_ok (Var n) bs))
term_back Nat (ℕ.suc f) bs l =
    on _ (back_kind kinds 3 k_nat _ refl) (back_ok Nat bs)
term_back Zero (ℕ.suc f) bs l =
    on _ (back_kind kinds 4 k_zero _ refl) (back_ok Zero bs)
term_back (Pi a b) (ℕ.suc f) bs l =
    let x = term_longer a (write_term b bs) in
    let y = term_longer b bs in
    on _ (back_kind kinds 5 k_pi _ refl) (on _ (term_back a f (write_term b bs) (omega arith)) (on _ (term_back b f bs (omega arith)) (back_ok (Pi a b) bs)))
term_back (Lam a b) (ℕ.suc f) bs l =
    let x = term_longer a (write_term b bs) in
    let y = term_longer b bs in
    on _ (back_kind kinds 6 k_lam _ refl) (on _ (term_back a f (write_term b bs) (omega arith)) (on _ (term_back b f bs (omega arith)) (back_ok (Lam a b) bs)))
term_back (App a b) (ℕ.suc f) bs l =
    let x = term_longer a (write_term b bs) in
    let y = term_longer b bs in
    on _ (back_kind kinds 7 k_app _ refl) (on _ (term_back a f (write_term b bs) (omega arith)) (on _ (term_back b f bs (omega arith)) (back_ok (App a b) bs)))
term_back (Path a b c) (ℕ.suc f) bs l =
    let x = term_longer a (write_term b (write_term c bs)) in
    let y = term_longer b (write_term c bs) in
    let z = term_longer c bs in
    on _ (back_kind kinds 8 k_path _ refl) (on _ (term_back a f (write_term b (write_term c bs)) (omega arith)) (on _ (term_back b f (write_term c bs) (omega arith)) (on _ (term_back c f bs (omega arith)) (back_ok (Path a b c) bs))))
term_back (PathLam a b) (ℕ.suc f) bs l =
    let x = term_longer a (write_term b bs) in
    let y = term_longer b bs in
    on _ (back_kind kinds 9 k_plam _ refl) (on _ (term_back a f (write_term b bs) (omega arith)) (on _ (term_back b f bs (omega arith)) (back_ok (PathLam a b) bs)))
term_back (PathApp a b) (ℕ.suc f) bs l =
    let x = term_longer a (write_interval b bs) in
    let y = interval_longer b bs in
    on _ (back_kind kinds 10 k_papp _ refl) (on _ (term_back a f (write_interval b bs) (omega arith)) (on _ (interval_back b f bs (omega arith)) (back_ok (PathApp a b) bs)))
term_back (Sigma a b) (ℕ.suc f) bs l =
    let x = term_longer a (write_term b bs) in
    let y = term_longer b bs in
    on _ (back_kind kinds 11 k_sigma _ refl) (on _ (term_back a f (write_term b bs) (omega arith)) (on _ (term_back b f bs (omega arith)) (back_ok (Sigma a b) bs)))
term_back (Pair a b c) (ℕ.suc f) bs l =
    let x = term_longer a (write_term b (write_term c bs)) in
    let y = term_longer b (write_term c bs) in
    let z = term_longer c bs in
    on _ (back_kind kinds 12 k_pair _ refl) (on _ (term_back a f (write_term b (write_term c bs)) (omega arith)) (on _ (term_back b f (write_term c bs) (omega arith)) (on _ (term_back c f bs (omega arith)) (back_ok (Pair a b c) bs))))
term_back (Fst a) (ℕ.suc f) bs l =
    let x = term_longer a bs in
    on _ (back_kind kinds 13 k_fst _ refl) (on _ (term_back a f bs (omega arith)) (back_ok (Fst a) bs))
term_back (Snd a) (ℕ.suc f) bs l =
    let x = term_longer a bs in
    on _ (back_kind kinds 14 k_snd _ refl) (on _ (term_back a f bs (omega arith)) (back_ok (Snd a) bs))

terms_back : (ts : List Term) (f : ℕ) (bs : List ℕ) → length (write_terms ts bs) ≤ length bs + f → Back (read_terms f (length ts)) ts (write_terms ts bs) bs
unfolding read_terms write_terms
terms_back [] f bs l = back_ok [] bs
terms_back (t ∷ ts) f bs l =
    let x = term_longer t (write_terms ts bs) in
    let y = terms_longer ts bs in
    on _ (term_back t f (write_terms ts bs) (omega arith)) (on _ (terms_back ts f bs (omega arith)) (back_ok (t ∷ ts) bs))

-- calls

code_back : (c : Code) → get_or codes (code_byte c) none ≡ some c
code_back c_context = refl
code_back c_universe = refl
code_back c_infer = refl
code_back c_check = refl
code_back c_normalise = refl
code_back c_equal = refl
code_back c_many = refl
code_back c_headwise = refl

call_back : (call : Call) (f : ℕ) (bs : List ℕ) → Full call → length (write_call call bs) ≤ length bs + f → Back (read_call f) call (write_call call bs) bs
unfolding read_call read_head write_call
call_back call f bs full l =
    let x = terms_longer call.types (write_terms call.terms bs) in
    let y = terms_longer call.terms bs in
    on _ (on _ (back_kind codes (code_byte call.code) call.code _ (code_back call.code)) (on _ (back_byte call.dims _) (on _ (back_byte (length call.types) _) (back_ok _ _)))) (on _ (terms_back call.types f (write_terms call.terms bs) (omega arith)) (on _ (subst (λ (n : ℕ). Back (read_terms f n) call.terms (write_terms call.terms bs) bs) full (terms_back call.terms f bs (omega arith))) (back_ok call bs)))

call_longer : (call : Call) (bs : List ℕ) → length bs < length (write_call call bs)
unfolding write_call
call_longer call bs = let x = terms_longer call.types (write_terms call.terms bs) in let y = terms_longer call.terms bs in omega arith

drafts_longer : (b : Bool) (drafts : List Term) (bs : List ℕ) → length bs ≤ length (write_drafts b drafts bs)
unfolding write_drafts
drafts_longer true drafts bs = let x = terms_longer drafts bs in omega arith
drafts_longer false drafts bs = omega arith

drafts_back : (b : Bool) (drafts : List Term) (f : ℕ) (bs : List ℕ) → (b ≡ false → drafts ≡ []) → length (write_drafts b drafts bs) ≤ length bs + f → Back (read_drafts f b) drafts (write_drafts b drafts bs) bs
unfolding read_drafts write_drafts
drafts_back true drafts f bs h l = on _ (back_byte (length drafts) _) (terms_back drafts f bs (omega arith))
drafts_back false drafts f bs h l = subst (λ (ds : List Term). Back (ok []) ds bs bs) (sym (h refl)) (back_ok [] bs)

well_full : {sent : Sent} → Well sent → Full sent.call
well_full (well_one h e) = h
well_full (well_many h e) = h

well_none : {sent : Sent} → Well sent → lists_types sent.call.code ≡ false → sent.drafts ≡ []
well_none (well_one h e) q = refl
well_none (well_many h e) q = absurd (let p : true ≡ false = sym (ap lists_types e) ∙ q in let z : ◌≡◌ {A = ℕ} 0 1 = cc in omega arith)

-- as it was sent
sent_back : (sent : Sent) → Well sent → (f : ℕ) (bs : List ℕ) → length (write_by false sent bs) ≤ length bs + f → Back (read_sent f) sent (write_by false sent bs) bs
unfolding read_sent write_by
sent_back sent w f bs l =
    let x = call_longer sent.call (write_drafts (lists_types sent.call.code) sent.drafts bs) in
    let y = drafts_longer (lists_types sent.call.code) sent.drafts bs in
    on _ (call_back sent.call f (write_drafts (lists_types sent.call.code) sent.drafts bs) (well_full w) (omega arith)) (on _ (drafts_back (lists_types sent.call.code) sent.drafts f bs (well_none w) (omega arith)) (back_ok sent bs))

-- a check
abbrev check_sent : Call → Term → Sent
check_sent call ty = record { call = check_of call ty; drafts = [] }

abbrev write_check : Call → Term → List ℕ → List ℕ
write_check call ty bs = code_byte c_check ∷ call.dims ∷ length call.types ∷ write_terms call.types (write_terms call.terms (write_term ty bs))

last_written : (ts : List Term) (ty : Term) (bs : List ℕ) → write_terms (ts ++ ty ∷ []) bs ≡ write_terms ts (write_term ty bs)
unfolding write_terms
last_written [] ty bs = refl
last_written (t ∷ ts) ty bs = ap (write_term t) (last_written ts ty bs)

check_written : (call : Call) (ty : Term) (bs : List ℕ) → write_by false (check_sent call ty) bs ≡ write_check call ty bs
unfolding write_by write_call write_drafts
check_written call ty bs = ap (λ (l : List ℕ). code_byte c_check ∷ call.dims ∷ length call.types ∷ write_terms call.types l) (last_written call.terms ty bs)

check_back : (call : Call) (ty : Term) → length call.terms ≡ 1 → (f : ℕ) (bs : List ℕ) → length (write_check call ty bs) ≤ length bs + f → Back (read_sent f) (check_sent call ty) (write_check call ty bs) bs
check_back call ty n f bs l = subst (λ (ws : List ℕ). length ws ≤ length bs + f → Back (read_sent f) (check_sent call ty) ws bs) (check_written call ty bs) (sent_back (check_sent call ty) (well_one (one_more call.terms ty ∙ ap suc n) refl) f bs) l

check_longer : (call : Call) (ty : Term) (bs : List ℕ) → length bs < length (write_check call ty bs)
check_longer call ty bs = let x = terms_longer call.types (write_terms call.terms (write_term ty bs)) in let y = terms_longer call.terms (write_term ty bs) in let z = term_longer ty bs in omega arith

-- a run

-- These bytes are read to their end, as these calls.
record RunsBack (f m : ℕ) (bytes : List ℕ) (calls : List Call) : Type 0 where
  sents : ℕ → List Sent
  end : ℕ → ℕ
  reads : (at : ℕ) → read_calls f m bytes at ≡ got (sents at) [] (end at)
  are : (at : ℕ) → all_calls (sents at) ≡ calls

none_back : (f m : ℕ) → RunsBack f m [] []
unfolding read_calls all_calls
none_back f ℕ.zero = record { sents = λ at. []; end = λ at. at; reads = λ at. refl; are = λ at. refl }
none_back f (ℕ.suc m) = record { sents = λ at. []; end = λ at. at; reads = λ at. refl; are = λ at. refl }

one_back : (f m : ℕ) (sent : Sent) (bytes rest : List ℕ) (calls : List Call) → Back (read_sent f) sent bytes rest → length rest < length bytes → length bytes ≤ m → ((m : ℕ) → length rest ≤ m → RunsBack f m rest calls) → RunsBack f m bytes (calls_of sent ++ calls)
one_back f m sent [] rest calls b l k h = absurd (omega arith)
one_back f ℕ.zero sent (x ∷ bytes) rest calls b l k h = absurd (omega arith)
one_back f (ℕ.suc m) sent (x ∷ bytes) rest calls b l k h =
    let r = h m (omega arith) in
    record {
      sents = λ at. sent ∷ r.sents ((b.back at).0);
      end = λ at. r.end ((b.back at).0);
      reads = λ at. unfold read_calls read_on in rw ((b.back at).1, r.reads ((b.back at).0));
      are = λ at. unfold all_calls in ap (λ (c : List Call). calls_of sent ++ c) (r.are ((b.back at).0));
    }

checks_back : (f : ℕ) (call : Call) (drafts : List Term) → length call.terms ≡ 1 → (rest : List ℕ) (calls : List Call) → ((m : ℕ) → length rest ≤ m → RunsBack f m rest calls) → (m : ℕ) → length (write_checks call drafts rest) ≤ f → length (write_checks call drafts rest) ≤ m → RunsBack f m (write_checks call drafts rest) (checks_of call drafts ++ calls)
unfolding write_checks checks_of calls_of
checks_back f call [] n rest calls h m l k = h m k
checks_back f call (ty ∷ tys) n rest calls h m l k =
    let x = check_longer call ty (write_checks call tys rest) in
    one_back f m (check_sent call ty) (write_check call ty (write_checks call tys rest)) (write_checks call tys rest) (checks_of call tys ++ calls) (check_back call ty n f (write_checks call tys rest) (omega arith)) x k (λ m j. checks_back f call tys n rest calls h m (omega arith) j)

checks_longer : (call : Call) (drafts : List Term) (rest : List ℕ) → length rest ≤ length (write_checks call drafts rest)
unfolding write_checks
checks_longer call [] rest = omega arith
checks_longer call (ty ∷ tys) rest = let k = checks_longer call tys rest in let x = check_longer call ty (write_checks call tys rest) in omega arith

by_longer : (b : Bool) (sent : Sent) (rest : List ℕ) → length rest ≤ length (write_by b sent rest)
unfolding write_by
by_longer true sent rest = checks_longer sent.call sent.drafts rest
by_longer false sent rest =
    let x = call_longer sent.call (write_drafts (lists_types sent.call.code) sent.drafts rest) in
    let y = drafts_longer (lists_types sent.call.code) sent.drafts rest in
    omega arith

right_calls : (sent : Sent) → (leb 1 (length sent.drafts) && leb (length sent.drafts) 16) ≡ true → calls_of sent ≡ checks_of sent.call sent.drafts
unfolding calls_of
right_calls sent q = ap (λ (b : Bool). elim b as (λ _. List Call) [ true ↦ checks_of sent.call sent.drafts | false ↦ sent.call ∷ [] ]) q

-- what is sent with one code, before a run that is read back
one_term : (sent : Sent) → Well sent → (leb 1 (length sent.drafts) && leb (length sent.drafts) 16) ≡ true → length sent.call.terms ≡ 1
one_term _ (well_one full e) q = absurd (let z : ◌≡◌ {A = ℕ} 0 1 = cc in omega arith)
one_term _ (well_many full e) q = full ∙ ap terms_of e

by_back : (f : ℕ) (b : Bool) (sent : Sent) → Well sent → (leb 1 (length sent.drafts) && leb (length sent.drafts) 16) ≡ b → (rest : List ℕ) (calls : List Call) → ((m : ℕ) → length rest ≤ m → RunsBack f m rest calls) → (m : ℕ) → length (write_by b sent rest) ≤ f → length (write_by b sent rest) ≤ m → RunsBack f m (write_by b sent rest) (calls_of sent ++ calls)
unfolding write_by
by_back f true sent w q rest calls h m l k = subst (λ (c : List Call). RunsBack f m (write_checks sent.call sent.drafts rest) (c ++ calls)) (sym (right_calls sent q)) (checks_back f sent.call sent.drafts (one_term sent w q) rest calls h m l k)
by_back f false sent w q rest calls h m l k =
    let x = call_longer sent.call (write_drafts (lists_types sent.call.code) sent.drafts rest) in
    let y = drafts_longer (lists_types sent.call.code) sent.drafts rest in
    one_back f m sent (write_by false sent rest) rest calls (sent_back sent w f rest (omega arith)) (omega arith) k h

all_back : (f : ℕ) {sents : List Sent} → AllWell sents → length (write_all sents) ≤ f → (m : ℕ) → length (write_all sents) ≤ m → RunsBack f m (write_all sents) (all_calls sents)
unfolding write_all all_calls
all_back f none_well l m k = none_back f m
all_back f (well_on {sent = sent} {others = others} w ws) l m k =
    let x = by_longer (leb 1 (length sent.drafts) && leb (length sent.drafts) 16) sent (write_all others) in
    by_back f (leb 1 (length sent.drafts) && leb (length sent.drafts) 16) sent w refl (write_all others) (all_calls others) (λ m j. all_back f ws (omega arith) m j) m l k

-- the theorem

abbrev limit_by : ℕ → ℕ → List ℕ → Bool → Read ℕ
limit_by a b bs t = elim t as (λ _. Read ℕ) [ true ↦ got (a + 256 * b) bs 2 | false ↦ bad 0 ]

limit_is : (a b : ℕ) (bs : List ℕ) (t : Bool) → (leb 1 (a + 256 * b) && leb (a + 256 * b) 4096) ≡ t → read_limit (a ∷ b ∷ bs) 0 ≡ limit_by a b bs t
unfolding read_limit
limit_is a b bs t e = ap (limit_by a b bs) e

read_after : (bytes : List ℕ) (limit : ℕ) (rest : List ℕ) (at : ℕ) → read_limit bytes 0 ≡ got limit rest at → read_run bytes ≡ read_on (read_calls (length bytes) (length bytes) rest at) (λ sents. ok (limit, all_calls sents))
unfolding read_run ◌>>=◌ read_on
read_after bytes limit rest at e = rw e

out_after : (bytes : List ℕ) (limit : ℕ) (rest : List ℕ) (at : ℕ) → read_limit bytes 0 ≡ got limit rest at → written_out bytes ≡ written_by bytes (read_calls (length bytes) (length bytes) rest at)
unfolding written_out ◌>>=◌ read_on
out_after bytes limit rest at e = rw e

out_bad : (bytes : List ℕ) (place : ℕ) → read_limit bytes 0 ≡ bad place → written_out bytes ≡ bytes
unfolding written_out ◌>>=◌ read_on written_by
out_bad bytes place e = rw e

-- the limit and the calls, whatever is left of the bytes
pub data SameRun : Read (ℕ × List Call) → Read (ℕ × List Call) → Type 0 where
  the_same : {r : Read (ℕ × List Call)} → SameRun r r
  same_calls : {limit : ℕ} {calls : List Call} {rest rest' : List ℕ} {end end' : ℕ} → SameRun (got (limit, calls) rest end) (got (limit, calls) rest' end')

left_alone : (bytes : List ℕ) → written_out bytes ≡ bytes → SameRun (read_run (written_out bytes)) (read_run bytes)
left_alone bytes e = rw e the_same

out_read : (a b : ℕ) (bs : List ℕ) → (leb 1 (a + 256 * b) && leb (a + 256 * b) 4096) ≡ true → (sents : List Sent) (rest : List ℕ) (end : ℕ) → read_calls (length (a ∷ b ∷ bs)) (length (a ∷ b ∷ bs)) bs 2 ≡ got sents rest end → SameRun (read_run (a ∷ b ∷ write_all sents)) (read_run (a ∷ b ∷ bs))
out_read a b bs t sents rest end q =
    let w = (calls_well (length (a ∷ b ∷ bs)) (length (a ∷ b ∷ bs))).holds bs 2 sents rest end q in
    let r = all_back (length (a ∷ b ∷ write_all sents)) w (omega arith) (length (a ∷ b ∷ write_all sents)) (omega arith) in
    let old : read_run (a ∷ b ∷ bs) ≡ got (a + 256 * b, all_calls sents) rest end = read_after (a ∷ b ∷ bs) (a + 256 * b) bs 2 (limit_is a b bs true t) ∙ onward (a + 256 * b) _ _ q in
    let new : read_run (a ∷ b ∷ write_all sents) ≡ got (a + 256 * b, all_calls (r.sents 2)) [] (r.end 2) = read_after (a ∷ b ∷ write_all sents) (a + 256 * b) (write_all sents) 2 (limit_is a b (write_all sents) true t) ∙ onward (a + 256 * b) _ _ (r.reads 2) in
    rw (old, new, r.are 2) same_calls
  where
    onward : (limit : ℕ) (x : Read (List Sent)) (sents : List Sent) {rest : List ℕ} {end : ℕ} → x ≡ got sents rest end → read_on {B = ℕ × List Call} x (λ sents. ok (limit, all_calls sents)) ≡ got (limit, all_calls sents) rest end
    onward limit x sents e = unfold read_on ok in rw e

pub same_read : (bytes : List ℕ) → SameRun (read_run (written_out bytes)) (read_run bytes)
same_read [] = left_alone [] (out_bad [] 0 (unfold read_limit in refl))
same_read (a ∷ []) = left_alone (a ∷ []) (out_bad (a ∷ []) 1 (unfold read_limit in refl))
same_read (a ∷ b ∷ bs) = at_limit (leb 1 (a + 256 * b) && leb (a + 256 * b) 4096) refl
  where
    at_calls : (leb 1 (a + 256 * b) && leb (a + 256 * b) 4096) ≡ true → (r : Read (List Sent)) → read_calls (length (a ∷ b ∷ bs)) (length (a ∷ b ∷ bs)) bs 2 ≡ r → SameRun (read_run (written_out (a ∷ b ∷ bs))) (read_run (a ∷ b ∷ bs))
    at_calls t (bad place) q = left_alone (a ∷ b ∷ bs) (out_after (a ∷ b ∷ bs) (a + 256 * b) bs 2 (limit_is a b bs true t) ∙ (unfold written_by in rw q))
    at_calls t (got sents rest end) q =
        let out : written_out (a ∷ b ∷ bs) ≡ a ∷ b ∷ write_all sents = out_after (a ∷ b ∷ bs) (a + 256 * b) bs 2 (limit_is a b bs true t) ∙ written (read_calls (length (a ∷ b ∷ bs)) (length (a ∷ b ∷ bs)) bs 2) sents q in
        rw out (out_read a b bs t sents rest end q)
      where
        written : (x : Read (List Sent)) (sents : List Sent) {rest : List ℕ} {end : ℕ} → x ≡ got sents rest end → written_by (a ∷ b ∷ bs) x ≡ a ∷ b ∷ write_all sents
        written x sents e = unfold written_by in rw e

    at_limit : (t : Bool) → (leb 1 (a + 256 * b) && leb (a + 256 * b) 4096) ≡ t → SameRun (read_run (written_out (a ∷ b ∷ bs))) (read_run (a ∷ b ∷ bs))
    at_limit true t = at_calls t (read_calls (length (a ∷ b ∷ bs)) (length (a ∷ b ∷ bs)) bs 2) refl
    at_limit false t = left_alone (a ∷ b ∷ bs) (out_bad (a ∷ b ∷ bs) 0 (limit_is a b bs false t))

-- So both are refused alike, or give the same calls, answers, rows and cells: with refusal 2 left aside, of all bytes (`same_played`); with
-- it, where neither is too long (`same_run`).
module _ (row_words cell_words answer_words : ℕ) where
  played_alike : {r r' : Read (ℕ × List Call)} → SameRun r r' → run_read row_words cell_words answer_words r ≡ run_read row_words cell_words answer_words r'
  unfolding run_read
  played_alike the_same = refl
  played_alike same_calls = refl

  pub same_played : (bytes : List ℕ) → run_read row_words cell_words answer_words (read_run (written_out bytes)) ≡ run_read row_words cell_words answer_words (read_run bytes)
  same_played bytes = played_alike (same_read bytes)

  pub same_run : (bytes : List ℕ) → length bytes ≤ 65536 → length (written_out bytes) ≤ 65536 → run row_words cell_words answer_words (written_out bytes) ≡ run row_words cell_words answer_words bytes
  unfolding run
  same_run bytes l k = go (ltb row_words 24 || ltb cell_words 8) (ltb 65536 (length (written_out bytes))) (ltb 65536 (length bytes)) (le-ltb 65536 _ k) (le-ltb 65536 _ l)
    where
      go : (a b c : Bool) → b ≡ false → c ≡ false → ◌≡◌ {A = Ran} (elim a as (λ _. Ran) [ true ↦ refused_run Refusal.slices 0 | false ↦ elim b as (λ _. Ran) [ true ↦ refused_run Refusal.bytes 0 | false ↦ run_read row_words cell_words answer_words (read_run (written_out bytes)) ] ]) (elim a as (λ _. Ran) [ true ↦ refused_run Refusal.slices 0 | false ↦ elim c as (λ _. Ran) [ true ↦ refused_run Refusal.bytes 0 | false ↦ run_read row_words cell_words answer_words (read_run bytes) ] ])
      go true b c e f = refl
      go false true c e f = absurd (let z : ◌≡◌ {A = ℕ} 0 1 = cc in omega arith)
      go false false true e f = absurd (let z : ◌≡◌ {A = ℕ} 0 1 = cc in omega arith)
      go false false false e f = same_played bytes

-- A wrong count: one call, which is refused with 23 and deepest 0, and leaves the state.
pub wrong_count : (sent : Sent) (s : State) → lists_types sent.call.code ≡ true → (leb 1 (length sent.drafts) && leb (length sent.drafts) 16) ≡ false → (calls_of sent ≡ sent.call ∷ []) × (play sent.call s ≡ (refusal Refusal.count 0, s))
wrong_count sent s e q = (one, refused)
  where
    one : calls_of sent ≡ sent.call ∷ []
    one = unfold calls_of in ap (λ (b : Bool). elim b as (λ _. List Call) [ true ↦ checks_of sent.call sent.drafts | false ↦ sent.call ∷ [] ]) q

    refused : play sent.call s ≡ (refusal Refusal.count 0, s)
    refused = unfold play play_counted in rw e
