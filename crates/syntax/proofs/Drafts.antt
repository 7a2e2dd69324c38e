-- The limits of a check of a call with many types: those of its call, then those of its type.
use Rattle.std.proofs.Common.{◌≡◌, refl, sym, ◌∙◌, ap, ℕ, arith, Bool, true, false, ◌||◌, ltb, List, [], ◌∷◌, ◌++◌, length, Ok, Err}
use Rattle.ast.specs.declared.refusals.Refusal.{Refusal}
use Rattle.ast.specs.declared.refusals.Refusal.TheVariants as refusal
use Rattle.walk.specs.Syntax.{Term}
use Rattle.walk.specs.Reader.{Read, got, bad, Call, check_of}
use Rattle.walk.specs.Limits.{Sized, fits, scope_over, size_over, index_over, size_on, size_term, size_terms, size_call}
use Rattle.syntax.specs.Told.{next_of, head_in, fits_to, sized, size_of, size_draft, sized_as, size_type}
use Rattle.syntax.specs.Calls.{size_terms_append}
use Rattle.syntax.specs.Parts.{reached, counted, Counts}
use Rattle.syntax.proofs.Counts.{nodes_tell}
use Rattle.syntax.specs.declared.scan.CallHead.{CallHead}
use Rattle.syntax.specs.declared.scan.Unread.{Unread}
use Rattle.syntax.specs.declared.scan.Unread.TheVariants.{Bad as Faulty}
use Rattle.syntax.specs.declared.limits.Fitting.{Fitting}
use Rattle.syntax.specs.declared.limits.Uncounted.TheVariants.{Refused, Bad}
use Rattle.syntax.specs.declared.limits.Unfit.TheVariants.{Refused as Over, Unread as NotRead}

-- a type after a call's nodes
module _ (head : CallHead) (nodes : ℕ) where
  pub type_fits : (r : Read Term) (n end : ℕ) → Counts (λ t. size_term t 0 nodes) r (reached n end) → fits_to head n end ≡ size_type head nodes r
  unfolding size_type sized_as
  type_fits (got t rest next) n end c = let q = nodes_tell (size_term t 0 nodes) n end next c in rw (q.0, q.1)
  type_fits (bad place) n end c = absurd c

  pub type_bad : (r : Read Term) (p : ℕ) → Counts (λ t. size_term t 0 nodes) r (Err (Bad p)) → Err (NotRead (Faulty p)) ≡ size_type head nodes r
  unfolding size_type
  type_bad (got t rest next) p c = absurd (go (size_term t 0 nodes) c)
    where
      go : (z : Sized) → Err (Bad p) ≡ counted z next → ⊥
      go (fits m) e = unfold counted in let z : ◌≡◌ {A = ℕ} 0 1 = cc in omega arith
      go scope_over e = unfold counted in let z : ◌≡◌ {A = ℕ} 0 1 = cc in omega arith
      go size_over e = unfold counted in let z : ◌≡◌ {A = ℕ} 0 1 = cc in omega arith
      go index_over e = unfold counted in let z : ◌≡◌ {A = ℕ} 0 1 = cc in omega arith
  type_bad (bad place) p c = rw c

  -- its end, where it is refused
  module _ (r : Read Term) (why : Refusal) (c : Counts (λ t. size_term t 0 nodes) r (Err (Refused why))) where
    pub type_refused : (end : ℕ) → Ok end ≡ next_of r → Err (Over why end) ≡ size_type head nodes r
    unfolding next_of size_type
    type_refused end e = go r c e
      where
        told_as : (z : Sized) (end : ℕ) → Err (Refused why) ≡ counted z end → Err (Over why end) ≡ sized_as z head end
        told_as (fits n) end q = absurd (unfold counted in let z : ◌≡◌ {A = ℕ} 0 1 = cc in omega arith)
        told_as scope_over end q = unfold counted sized_as in let k : why ≡ refusal.Scope = cc in rw k
        told_as size_over end q = unfold counted sized_as in let k : why ≡ refusal.Size = cc in rw k
        told_as index_over end q = unfold counted sized_as in let k : why ≡ refusal.Index = cc in rw k

        go : (r : Read Term) → Counts (λ t. size_term t 0 nodes) r (Err (Refused why)) → Ok end ≡ next_of r → Err (Over why end) ≡ size_type head nodes r
        go (got t rest end') c e = let q : end ≡ end' = cc in rw q (told_as (size_term t 0 nodes) end' c)
        go (bad place) c e = absurd (let z : ◌≡◌ {A = ℕ} 0 1 = cc in omega arith)

    pub type_unread : (u : Unread) → Err u ≡ next_of r → Err (NotRead u) ≡ size_type head nodes r
    unfolding next_of size_type
    type_unread u e = go r e
      where
        go : (r : Read Term) → Err u ≡ next_of r → Err (NotRead u) ≡ size_type head nodes r
        go (got t rest end) e = absurd (let z : ◌≡◌ {A = ℕ} 0 1 = cc in omega arith)
        go (bad place) e = let q : u ≡ Faulty place = cc in rw q

-- a check

over_all : (call : Call) (ty : Term) (b : Bool) → elim b as (λ _. Sized) [ true ↦ scope_over | false ↦ size_terms (call.types ++ (call.terms ++ ty ∷ [])) 0 ] ≡ size_on (elim b as (λ _. Sized) [ true ↦ scope_over | false ↦ size_terms (call.types ++ call.terms) 0 ]) (λ n. size_terms (ty ∷ []) n)
over_all call ty true = unfold size_on in refl
over_all call ty false = ap (λ (ts : List Term). size_terms ts 0) (apart call.types call.terms) ∙ size_terms_append (call.types ++ call.terms) (ty ∷ []) 0
  where
    apart : (ts us : List Term) → ts ++ (us ++ ty ∷ []) ≡ (ts ++ us) ++ ty ∷ []
    apart [] us = refl
    apart (t ∷ ts) us = ap (λ (l : List Term). t ∷ l) (apart ts us)

last_size : (ty : Term) (n : ℕ) → size_terms (ty ∷ []) n ≡ size_term ty 0 n
unfolding size_terms
last_size ty n = go (size_term ty 0 n)
  where
    go : (z : Sized) → size_on z (size_terms []) ≡ z
    go (fits m) = unfold size_on size_terms in refl
    go scope_over = unfold size_on in refl
    go size_over = unfold size_on in refl
    go index_over = unfold size_on in refl

check_size : (call : Call) (ty : Term) → size_call (check_of call ty) ≡ size_on (size_call call) (λ n. size_terms (ty ∷ []) n)
unfolding size_call
check_size call ty = over_all call ty (ltb 33 call.dims || ltb 33 (length call.types))

check_by : (call : Call) (ty : Term) (z : Sized) → size_call call ≡ z → size_call (check_of call ty) ≡ size_on z (λ n. size_terms (ty ∷ []) n)
check_by call ty z e = check_size call ty ∙ ap (λ (z : Sized). size_on z (λ n. size_terms (ty ∷ []) n)) e

check_fits : (call : Call) (ty : Term) (n : ℕ) → size_call call ≡ fits n → size_call (check_of call ty) ≡ size_term ty 0 n
check_fits call ty n e = check_by call ty (fits n) e ∙ (unfold size_on in last_size ty n)

-- A call that fits: its type is counted on.
pub draft_fits : (r : Read Call) (r' : Read Term) (told : Fitting) → Ok told ≡ size_of r → size_type told.head told.nodes r' ≡ size_draft r r'
unfolding size_of size_draft
draft_fits (got call rest at) r' told e = go (size_call call) refl e
  where
    same : (z : Sized) (end : ℕ) → sized_as z (head_in call.code call.dims (length call.types)) end ≡ sized z call end
    same (fits m) end = unfold sized_as sized in refl
    same scope_over end = unfold sized_as sized in refl
    same size_over end = unfold sized_as sized in refl
    same index_over end = unfold sized_as sized in refl

    typed : (n : ℕ) (r' : Read Term) → size_call call ≡ fits n → size_type (head_in call.code call.dims (length call.types)) n r' ≡ size_draft (got call rest at) r'
    typed n (got ty rest' end) z = unfold size_type in rw (check_fits call ty n z) (same (size_term ty 0 n) end)
    typed n (bad place) z = unfold size_type in refl

    go : (z : Sized) → size_call call ≡ z → Ok told ≡ sized z call at → size_type told.head told.nodes r' ≡ size_draft (got call rest at) r'
    go (fits m) z e = unfold sized in let a : told ≡ record { head = head_in call.code call.dims (length call.types); nodes = m; next = at } = cc in rw a (typed m r' z)
    go scope_over z e = absurd (unfold sized in let z : ◌≡◌ {A = ℕ} 0 1 = cc in omega arith)
    go size_over z e = absurd (unfold sized in let z : ◌≡◌ {A = ℕ} 0 1 = cc in omega arith)
    go index_over z e = absurd (unfold sized in let z : ◌≡◌ {A = ℕ} 0 1 = cc in omega arith)
draft_fits (bad place) r' told e = absurd (let z : ◌≡◌ {A = ℕ} 0 1 = cc in omega arith)

over_on : (call : Call) (ty : Term) (at : ℕ) (why : Refusal) (next end : ℕ) (z : Sized) → Err (Over why next) ≡ sized z call at → Err (Over why end) ≡ sized (size_on z (λ n. size_terms (ty ∷ []) n)) call end
unfolding sized size_on
over_on call ty at why next end (fits n) e = absurd (let z : ◌≡◌ {A = ℕ} 0 1 = cc in omega arith)
over_on call ty at why next end scope_over e = let k : why ≡ refusal.Scope = cc in rw k
over_on call ty at why next end size_over e = let k : why ≡ refusal.Size = cc in rw k
over_on call ty at why next end index_over e = let k : why ≡ refusal.Index = cc in rw k

over_again : (call : Call) (ty : Term) (at : ℕ) (why : Refusal) (next end : ℕ) → Err (Over why next) ≡ sized (size_call call) call at → Err (Over why end) ≡ sized (size_call (check_of call ty)) call end
over_again call ty at why next end e = rw (check_size call ty) (over_on call ty at why next end (size_call call) e)

-- One that is refused is refused with each type.
pub draft_refused : (r : Read Call) (r' : Read Term) (why : Refusal) (next end : ℕ) → Err (Over why next) ≡ size_of r → Ok end ≡ next_of r' → Err (Over why end) ≡ size_draft r r'
unfolding next_of size_of size_draft
draft_refused (bad place) r' why next end e q = absurd (let z : ◌≡◌ {A = ℕ} 0 1 = cc in omega arith)
draft_refused (got call rest at) (bad place) why next end e q = absurd (let z : ◌≡◌ {A = ℕ} 0 1 = cc in omega arith)
draft_refused (got call rest at) (got ty rest' end') why next end e q = let a : end ≡ end' = cc in rw a (over_again call ty at why next end' e)

pub draft_untyped : (r : Read Call) (r' : Read Term) (why : Refusal) (next : ℕ) (u : Unread) → Err (Over why next) ≡ size_of r → Err u ≡ next_of r' → Err (NotRead u) ≡ size_draft r r'
unfolding next_of size_of size_draft
draft_untyped (bad place) r' why next u e q = absurd (let z : ◌≡◌ {A = ℕ} 0 1 = cc in omega arith)
draft_untyped (got call rest at) (bad place) why next u e q = let a : u ≡ Faulty place = cc in rw a
draft_untyped (got call rest at) (got ty rest' end) why next u e q = absurd (let z : ◌≡◌ {A = ℕ} 0 1 = cc in omega arith)

-- One that is not read has no check.
pub draft_unread : (r : Read Call) (r' : Read Term) (u : Unread) → Err (NotRead u) ≡ size_of r → Err (NotRead u) ≡ size_draft r r'
unfolding size_of size_draft
draft_unread (got call rest at) r' u e = absurd (go (size_call call) e)
  where
    go : (z : Sized) → Err (NotRead u) ≡ sized z call at → ⊥
    go (fits n) e = unfold sized in let z : ◌≡◌ {A = ℕ} 0 1 = cc in omega arith
    go scope_over e = unfold sized in let z : ◌≡◌ {A = ℕ} 0 1 = cc in omega arith
    go size_over e = unfold sized in let z : ◌≡◌ {A = ℕ} 0 1 = cc in omega arith
    go index_over e = unfold sized in let z : ◌≡◌ {A = ℕ} 0 1 = cc in omega arith
draft_unread (bad place) r' u e = e
