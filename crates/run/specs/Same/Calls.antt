-- A call's bytes: its context and its terms become their cells, and the call over them is `link`'s.
use Rattle.std.specs.Prelude.{ℕ, ◌+◌, ◌≤◌, ◌≡◌, refl, length, drop, List, [], ◌∷◌, ◌++◌, false}
use Rattle.std.proofs.Math.Path.{sym, ap}
use Rattle.std.proofs.Common.{◌∙◌, arith}
use Rattle.ast.specs.Words.{up}
use Rattle.producer.specs.Machine.{W, ◌>>=◌, give, stop, when◌then◌else◌, intern, make_nil, make_cons}
use Rattle.producer.specs.Callees.{Callees, prepared}
use Rattle.producer.specs.Calls.{callees}
use Rattle.walk.specs.Refusal as Refusal
use Rattle.walk.specs.Syntax.{Term, Context, Nil, Cons}
use Rattle.walk.specs.Reader.{Code, c_context, c_universe, c_infer, c_check, c_normalise, c_equal, c_many, c_headwise, terms_of, lists_types, Call, check_of}
use Rattle.walk.specs.Limits.{fits, size_terms, size_call}
use Rattle.walk.specs.Run.{scope_of, nth}
use Rattle.syntax.specs.Told.{code_number, head_in}
use Rattle.syntax.specs.Heads.{code_again}
use Rattle.syntax.specs.Calls.{TermsAt, no_terms, next_term, CallAt, CallFits, call_fits, size_first, size_terms_first, size_terms_append, true_false}
use Rattle.syntax.specs.Fuel.{fit_term}
use Rattle.link.specs.Asked.{build_term, build_context, call_ctx, call_universe, call_infer, call_check, call_normalize, call_head_normalize, call_equal}
use Rattle.run.specs.Build.{made, built, scoped, scoped_body}
use Rattle.run.specs.Call.{row_alone, row_first, row_quoted, with_sides, with_term, by_code, with_scope, with_context, head_bytes}
use Rattle.run.specs.Same.Steps.{then_same, then_then, then_give, give_then, made_then, made_in}
use Rattle.run.specs.Same.Terms.{up_is, built_term}

-- the cells of types that are sent, over a context's cell
unfoldable scope_cells : List Term → ℕ → W ℕ
scope_cells [] g = give g
scope_cells (a ∷ as') g = build_term a >>= λ x. make_cons x g >>= λ h. scope_cells as' h

scope_built : (types : List Term) (g : Context) → build_context (scope_of g types) ≡ (build_context g >>= λ h. scope_cells types h)
unfolding scope_of scope_cells build_context
scope_built [] g = sym (then_give (build_context g))
scope_built (a ∷ as') g = scope_built as' (Cons a g) ∙ then_then (build_context g) (λ h. build_term a >>= λ x. make_cons x h) _ ∙ then_same (build_context g) (λ h. then_then (build_term a) _ _)

-- rows and results, past steps
alone_in : {A : Type 0} (m : W A) (f : A → W ℕ) → row_alone (m >>= f) ≡ (m >>= λ a. row_alone (f a))
unfolding row_alone
alone_in m f = then_then m f _

first_in : (A : Type 0) (m : W A) (f : A → W (ℕ × ℕ)) → row_first (m >>= f) ≡ (m >>= λ a. row_first (f a))
unfolding row_first
first_in A m f = then_then m f _

quoted_in : (A : Type 0) (m : W A) (f : A → W (ℕ × ℕ)) → row_quoted (m >>= f) ≡ (m >>= λ a. row_quoted (f a))
unfolding row_quoted
quoted_in A m f = then_then m f _

-- a call over what is sent: its row and its result; one with many types is never asked so
unfoldable pub by_call : Callees → Code → ℕ → Context → List Term → W (ℕ × ℕ)
by_call c c_context d g ts = row_alone (call_ctx c d g)
by_call c c_universe d g ts = row_first (call_universe c d g (nth ts 0))
by_call c c_infer d g ts = row_quoted (call_infer c d g (nth ts 0))
by_call c c_check d g ts = row_alone (call_check c d g (nth ts 0) (nth ts 1))
by_call c c_normalise d g ts = row_quoted (call_normalize c d g (nth ts 0) (nth ts 1))
by_call c c_equal d g ts = row_alone (call_equal c d g (nth ts 0) (nth ts 1) (nth ts 2))
by_call c c_many d g ts = stop Refusal.count
by_call c c_headwise d g ts = row_quoted (call_head_normalize c d g (nth ts 0) (nth ts 1))

-- From one offset to another stand terms that become their cells.
data Sent (bytes : List ℕ) : ℕ → List Term → ℕ → Type 0 where
  no_sent : {at : ℕ} → Sent bytes at [] at
  next_sent : {at middle end : ℕ} {t : Term} {ts : List Term} → built 33 bytes at ≡ made middle (build_term t) → Sent bytes middle ts end → Sent bytes at (t ∷ ts) end

-- a term that fits has no more than 33 levels
all_sent : (bytes : List ℕ) → length bytes ≤ 65536 → (n : ℕ) {at end m : ℕ} {ts : List Term} → TermsAt bytes at ts end → size_terms ts n ≡ fits m → Sent bytes at ts end
all_sent bytes short n no_terms z = no_sent
all_sent bytes short n {at = at} (next_term {t = t} {ts = ts} far inside e rest) z =
    let (k, a, b) = size_terms_first t ts n z in
    next_sent (built_term bytes short 33 at (fit_term (length bytes) 33 0 n (omega arith) (drop at bytes) at a e)) (all_sent bytes short k rest b)

scoped_is : (bytes : List ℕ) (at : ℕ) (types : List Term) {end : ℕ} → Sent bytes at types end → (g : ℕ) → scoped (length types) bytes at g ≡ made end (scope_cells types g)
unfolding scoped scope_cells scoped_body made
scoped_is bytes at [] no_sent g = sym (give_then g _)
scoped_is bytes at (t ∷ ts) {end} (next_sent {middle = middle} e rest) g = rw e (made_then middle (build_term t) _ ∙ then_same (build_term t) (λ x. then_same (intern 33 x g 0) (λ h. scoped_is bytes middle ts rest h) ∙ sym (made_in end (intern 33 x g 0) _)) ∙ sym (made_in end (build_term t) _))

-- the context first, and then what is asked of it
module _ (c : Callees) (types : List Term) where
  scoping : {B : Type 0} (k : ℕ → W B) → (prepared c make_nil >>= λ nil. scope_cells types nil >>= k) ≡ (c.ready >>= λ _. build_context (scope_of Nil types) >>= k)
  unfolding prepared build_context
  scoping k = then_then c.ready (λ _. make_nil) _ ∙ then_same c.ready (λ _. sym (then_then make_nil (scope_cells types) k) ∙ ap (λ m. m >>= k) (sym (scope_built types Nil)))

  row_asked : (k : ℕ → W (ℕ × ℕ)) (m : ℕ → W ℕ) → ((g : ℕ) → k g ≡ row_alone (m g)) → (prepared c make_nil >>= λ nil. scope_cells types nil >>= k) ≡ row_alone (c.ready >>= λ _. build_context (scope_of Nil types) >>= m)
  row_asked k m h = scoping k ∙ then_same c.ready (λ _. then_same (build_context (scope_of Nil types)) h ∙ sym (alone_in (build_context (scope_of Nil types)) m)) ∙ sym (alone_in c.ready _)

  -- `of` is row_first or row_quoted
  result_asked : (of : W (ℕ × ℕ) → W (ℕ × ℕ)) → ((A : Type 0) (m : W A) (f : A → W (ℕ × ℕ)) → of (m >>= f) ≡ (m >>= λ a. of (f a))) → (k m : ℕ → W (ℕ × ℕ)) → ((g : ℕ) → k g ≡ of (m g)) → (prepared c make_nil >>= λ nil. scope_cells types nil >>= k) ≡ of (c.ready >>= λ _. build_context (scope_of Nil types) >>= m)
  result_asked of past k m h = scoping k ∙ then_same c.ready (λ _. then_same (build_context (scope_of Nil types)) h ∙ sym (past _ (build_context (scope_of Nil types)) m)) ∙ sym (past _ c.ready _)

module _ (bytes : List ℕ) (left d : ℕ) (types : List Term) where
  -- the terms of a call, by its code
  coded : (at ty : ℕ) (code : Code) (ts : List Term) {end : ℕ} → lists_types code ≡ false → length ts ≡ terms_of code → Sent bytes at ts end → (prepared (callees left) make_nil >>= λ nil. scope_cells types nil >>= λ g. by_code left bytes at ty (code_number code) d g) ≡ by_call (callees left) code d (scope_of Nil types) ts
  unfolding by_code with_term with_sides by_call when◌then◌else◌ call_ctx call_universe call_infer call_check call_normalize call_head_normalize call_equal
  coded at ty c_context [] f l no_sent = row_asked (callees left) types _ (λ g. (callees left).ctx d g) (λ g. refl)
  coded at ty c_universe (t ∷ []) f l (next_sent {middle = m₁} e no_sent) = result_asked (callees left) types row_first first_in _ (λ g. build_term t >>= λ x. (callees left).universe d g x) (λ g. rw e (made_then m₁ (build_term t) _ ∙ sym (first_in _ (build_term t) _)))
  coded at ty c_infer (t ∷ []) f l (next_sent {middle = m₁} e no_sent) = result_asked (callees left) types row_quoted quoted_in _ (λ g. build_term t >>= λ x. (callees left).infer d g x) (λ g. rw e (made_then m₁ (build_term t) _ ∙ sym (quoted_in _ (build_term t) _)))
  coded at ty c_check (t ∷ u ∷ []) f l (next_sent {middle = m₁} e (next_sent {middle = m₂} e₂ no_sent)) = row_asked (callees left) types _ (λ g. build_term t >>= λ x. build_term u >>= λ y. (callees left).check d g x y) (λ g. rw e (made_then m₁ (build_term t) _ ∙ then_same (build_term t) (λ x. rw e₂ (made_then m₂ (build_term u) _ ∙ sym (alone_in (build_term u) _))) ∙ sym (alone_in (build_term t) _)))
  coded at ty c_normalise (t ∷ u ∷ []) f l (next_sent {middle = m₁} e (next_sent {middle = m₂} e₂ no_sent)) = result_asked (callees left) types row_quoted quoted_in _ (λ g. build_term t >>= λ x. build_term u >>= λ y. (callees left).normalize d g x y) (λ g. rw e (made_then m₁ (build_term t) _ ∙ then_same (build_term t) (λ x. rw e₂ (made_then m₂ (build_term u) _ ∙ sym (quoted_in _ (build_term u) _))) ∙ sym (quoted_in _ (build_term t) _)))
  coded at ty c_equal (t ∷ u ∷ v ∷ []) f l (next_sent {middle = m₁} e (next_sent {middle = m₂} e₂ (next_sent {middle = m₃} e₃ no_sent))) = row_asked (callees left) types _ (λ g. build_term t >>= λ x. build_term u >>= λ y. build_term v >>= λ q. (callees left).equal d g x y q) (λ g. rw e (made_then m₁ (build_term t) _ ∙ then_same (build_term t) (λ x. rw e₂ (made_then m₂ (build_term u) _ ∙ then_same (build_term u) (λ y. rw e₃ (made_then m₃ (build_term v) _ ∙ sym (alone_in (build_term v) _))) ∙ sym (alone_in (build_term u) _))) ∙ sym (alone_in (build_term t) _)))
  coded at ty c_context (t ∷ ts) f l e = absurd (omega (arith, l))
  coded at ty c_universe [] f l e = absurd (omega (arith, l))
  coded at ty c_universe (t ∷ u ∷ ts) f l e = absurd (omega (arith, l))
  coded at ty c_infer [] f l e = absurd (omega (arith, l))
  coded at ty c_infer (t ∷ u ∷ ts) f l e = absurd (omega (arith, l))
  coded at ty c_check [] f l e = absurd (omega (arith, l))
  coded at ty c_check (t ∷ []) f l e = absurd (omega (arith, l))
  coded at ty c_check (t ∷ u ∷ v ∷ ts) f l e = absurd (omega (arith, l))
  coded at ty c_normalise [] f l e = absurd (omega (arith, l))
  coded at ty c_normalise (t ∷ []) f l e = absurd (omega (arith, l))
  coded at ty c_normalise (t ∷ u ∷ v ∷ ts) f l e = absurd (omega (arith, l))
  coded at ty c_equal [] f l e = absurd (omega (arith, l))
  coded at ty c_equal (t ∷ []) f l e = absurd (omega (arith, l))
  coded at ty c_equal (t ∷ u ∷ []) f l e = absurd (omega (arith, l))
  coded at ty c_equal (t ∷ u ∷ v ∷ x ∷ ts) f l e = absurd (omega (arith, l))
  coded at ty c_many ts f l e = true_false f
  coded at ty c_headwise (t ∷ u ∷ []) f l (next_sent {middle = m₁} e (next_sent {middle = m₂} e₂ no_sent)) = result_asked (callees left) types row_quoted quoted_in _ (λ g. build_term t >>= λ x. build_term u >>= λ y. (callees left).head_normalize d g x y) (λ g. rw e (made_then m₁ (build_term t) _ ∙ then_same (build_term t) (λ x. rw e₂ (made_then m₂ (build_term u) _ ∙ sym (quoted_in _ (build_term u) _))) ∙ sym (quoted_in _ (build_term t) _)))
  coded at ty c_headwise [] f l e = absurd (omega (arith, l))
  coded at ty c_headwise (t ∷ []) f l e = absurd (omega (arith, l))
  coded at ty c_headwise (t ∷ u ∷ v ∷ ts) f l e = absurd (omega (arith, l))

  -- a check, whose type stands elsewhere
  coded_draft : (at ty next end : ℕ) (t u : Term) → built 33 bytes at ≡ made next (build_term t) → built 33 bytes ty ≡ made end (build_term u) → (prepared (callees left) make_nil >>= λ nil. scope_cells types nil >>= λ g. by_code left bytes at ty (code_number c_many) d g) ≡ by_call (callees left) c_check d (scope_of Nil types) (t ∷ u ∷ [])
  unfolding by_code with_term by_call when◌then◌else◌ call_check
  coded_draft at ty next end t u e e₂ = row_asked (callees left) types _ (λ g. build_term t >>= λ x. build_term u >>= λ y. (callees left).check d g x y) (λ g. rw e (made_then next (build_term t) _ ∙ then_same (build_term t) (λ x. rw e₂ (made_then end (build_term u) _ ∙ sym (alone_in (build_term u) _))) ∙ sym (alone_in (build_term t) _)))

-- a call that was read, whose types fit: its context, then the rest
module _ (bytes : List ℕ) (short : length bytes ≤ 65536) (left at ty : ℕ) {call : Call} {next : ℕ} (C : CallAt bytes at call next) where
  scoped_call : {middle : ℕ} → size_terms call.types 0 ≡ fits middle → with_context left bytes (up (up (up at))) ty (head_bytes (head_in call.code call.dims (length call.types))) ≡ (prepared (callees left) make_nil >>= λ nil. scope_cells call.types nil >>= λ g. by_code left bytes C.middle ty (code_number call.code) call.dims g)
  unfolding with_context with_scope
  scoped_call z =
      let u₁ : up at ≡ at + 1 = up_is at (omega (arith, C.far, C.inside)) in
      let u₂ : up (at + 1) ≡ at + 2 = up_is (at + 1) (omega (arith, C.far, C.inside)) ∙ omega arith in
      let u₃ : up (at + 2) ≡ at + 3 = up_is (at + 2) (omega (arith, C.far, C.inside)) ∙ omega arith in
      rw (u₁, u₂, u₃, code_again call.code) (then_same (prepared (callees left) (intern 32 0 0 0)) (λ nil. rw (scoped_is bytes (at + 3) call.types (all_sent bytes short 0 C.types z) nil) (made_then C.middle (scope_cells call.types nil) _)))

  -- by itself, where it fits
  pub called_is : {n : ℕ} → lists_types call.code ≡ false → size_call call ≡ fits n → with_context left bytes (up (up (up at))) ty (head_bytes (head_in call.code call.dims (length call.types))) ≡ by_call (callees left) call.code call.dims (scope_of Nil call.types) call.terms
  called_is {n} f z =
      let F : CallFits call n = call_fits call z in
      scoped_call F.types ∙ coded bytes left call.dims call.types C.middle ty call.code call.terms f C.many (all_sent bytes short F.middle C.terms F.terms)

  -- a check of it, where that fits
  pub draft_is : {u : Term} {end n : ℕ} → call.code ≡ c_many → TermsAt bytes ty (u ∷ []) end → size_call (check_of call u) ≡ fits n → with_context left bytes (up (up (up at))) ty (head_bytes (head_in call.code call.dims (length call.types))) ≡ by_call (callees left) c_check call.dims (scope_of Nil call.types) (call.terms ++ u ∷ [])
  draft_is {u} {end} {n} m U z =
      let F : CallFits (check_of call u) n = call_fits (check_of call u) z in
      let (k, a, b) = size_first (size_terms call.terms F.middle) (size_terms (u ∷ [])) (sym (size_terms_append call.terms (u ∷ []) F.middle) ∙ F.terms) in
      scoped_call F.types ∙ typed call.terms (C.many ∙ ap terms_of m) (all_sent bytes short F.middle C.terms a) (all_sent bytes short k U b)
    where
      typed : (ts : List Term) {end end' : ℕ} → length ts ≡ 1 → Sent bytes C.middle ts end → Sent bytes ty (u ∷ []) end' → (prepared (callees left) make_nil >>= λ nil. scope_cells call.types nil >>= λ g. by_code left bytes C.middle ty (code_number call.code) call.dims g) ≡ by_call (callees left) c_check call.dims (scope_of Nil call.types) (ts ++ u ∷ [])
      typed [] l e e₂ = absurd (omega arith)
      typed (t ∷ []) l (next_sent {middle = m₁} e no_sent) (next_sent {middle = m₂} e₂ no_sent) = rw m (coded_draft bytes left call.dims call.types C.middle ty m₁ m₂ t u e e₂)
      typed (t ∷ v ∷ ts) l e e₂ = absurd (omega arith)
