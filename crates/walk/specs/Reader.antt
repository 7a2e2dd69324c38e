-- The bytes of a run, read: a nesting limit and calls, or the leftmost place of refusal 3.
use Rattle.std.specs.Prelude.{ℕ, suc, ◌+◌, ◌*◌, List, [], ◌∷◌, ◌++◌, Bool, true, false, ◌&&◌, leb, length, get_or, replicate}
use Rattle.std.proofs.Math.Option.{Option, none, some}
use Rattle.walk.specs.Syntax.{Interval, I0, I1, Dim, Neg, Meet, Join, Term, Universe, Var, Nat, Zero, Pi, Lam, App, Path, PathLam, PathApp, Sigma, Pair, Fst, Snd}

-- What a reader gives: a value with the bytes that are left and the offset of the first of them, or the place of the fault.
pub data Read (A : Type 0) : Type 0 where
  got : A → List ℕ → ℕ → Read A
  bad : ℕ → Read A

abbrev pub Reader : Type 0 → Type 0
Reader A = List ℕ → ℕ → Read A

unfoldable pub read_on : {A B : Type 0} → Read A → (A → Reader B) → Read B
read_on (got a bs at) f = f a bs at
read_on (bad place) f = bad place

infixl 20 ◌>>=◌
unfoldable pub ◌>>=◌ : {A B : Type 0} → Reader A → (A → Reader B) → Reader B
◌>>=◌ m f = λ bs at. read_on (m bs at) f

unfoldable pub ok : {A : Type 0} → A → Reader A
ok a = λ bs at. got a bs at

-- Any byte; where the run ends early the place is its length.
unfoldable pub byte : Reader ℕ
byte [] at = bad at
byte (b ∷ bs) at = got b bs (at + 1)

-- A byte that stands for something at its spot, by a table; any other is the fault's place.
unfoldable pub meant : {A : Type 0} → Option A → Reader A
meant none bs at = bad at
meant (some a) bs at = got a bs (at + 1)

unfoldable pub one_of : {A : Type 0} → List (Option A) → Reader A
one_of table [] at = bad at
one_of table (b ∷ bs) at = meant (get_or table b none) bs at

-- Kinds of terms and of intervals, and a table of each: a kind stands at its byte.
-- written by tools/written.py: kinds
pub data Kind : Type 0 where
  k_u k_v k_nat k_zero k_pi k_lam k_app k_path k_plam k_papp k_sigma k_pair k_fst k_snd : Kind
  deriving Discrete as KindDiscrete

pub data IKind : Type 0 where
  k_0 k_1 k_dim k_neg k_meet k_join : IKind

abbrev pub kinds : List (Option Kind)
kinds = none ∷ some k_u ∷ some k_v ∷ some k_nat ∷ some k_zero ∷ some k_pi ∷ some k_lam ∷ some k_app ∷ some k_path ∷ some k_plam ∷ some k_papp ∷ some k_sigma ∷ some k_pair ∷ some k_fst ∷ some k_snd ∷ []

abbrev pub ikinds : List (Option IKind)
ikinds = replicate 16 none ++ some k_0 ∷ some k_1 ∷ some k_dim ∷ some k_neg ∷ some k_meet ∷ some k_join ∷ []

-- end of kinds

-- The codes of calls, with the number of terms that follow each.
-- written by tools/written.py: calls
pub data Code : Type 0 where
  c_context c_universe c_infer c_check c_normalise c_equal c_many c_headwise : Code
  deriving Discrete as CodeDiscrete

abbrev pub codes : List (Option Code)
codes = some c_context ∷ some c_universe ∷ some c_infer ∷ some c_check ∷ some c_normalise ∷ some c_equal ∷ some c_many ∷ some c_headwise ∷ []

abbrev pub terms_of : Code → ℕ
terms_of c_context = 0
terms_of c_universe = 1
terms_of c_infer = 1
terms_of c_check = 2
terms_of c_normalise = 2
terms_of c_equal = 3
terms_of c_many = 1
terms_of c_headwise = 2

-- Whether a count and that many types come after them.
abbrev pub lists_types : Code → Bool
lists_types c_context = false
lists_types c_universe = false
lists_types c_infer = false
lists_types c_check = false
lists_types c_normalise = false
lists_types c_equal = false
lists_types c_many = true
lists_types c_headwise = false

-- end of calls

-- In prefix order. The first argument only bounds the depth, so that the definition ends: a node takes a byte, so as many
-- as there are bytes are enough.
unfoldable pub read_interval : ℕ → Reader Interval
read_interval ℕ.zero = λ bs at. bad at
read_interval (ℕ.suc f) = one_of ikinds >>= λ k. elim k [
  -- written by tools/written.py: reading an interval
  | k_0 ↦ ok I0
  | k_1 ↦ ok I1
  | k_dim ↦ byte >>= λ n. ok (Dim n)
  | k_neg ↦ read_interval f >>= λ a. ok (Neg a)
  | k_meet ↦ read_interval f >>= λ a. read_interval f >>= λ b. ok (Meet a b)
  | k_join ↦ read_interval f >>= λ a. read_interval f >>= λ b. ok (Join a b)
  -- end of reading an interval
]

unfoldable pub read_term : ℕ → Reader Term
read_term ℕ.zero = λ bs at. bad at
read_term (ℕ.suc f) = one_of kinds >>= λ k. elim k [
  -- written by tools/written.py: reading a term
  | k_u ↦ byte >>= λ n. ok (Universe n)
  | k_v ↦ byte >>= λ n. ok (Var n)
  | k_nat ↦ ok Nat
  | k_zero ↦ ok Zero
  | k_pi ↦ read_term f >>= λ a. read_term f >>= λ b. ok (Pi a b)
  | k_lam ↦ read_term f >>= λ a. read_term f >>= λ b. ok (Lam a b)
  | k_app ↦ read_term f >>= λ a. read_term f >>= λ b. ok (App a b)
  | k_path ↦ read_term f >>= λ a. read_term f >>= λ b. read_term f >>= λ c. ok (Path a b c)
  | k_plam ↦ read_term f >>= λ a. read_term f >>= λ b. ok (PathLam a b)
  | k_papp ↦ read_term f >>= λ a. read_interval f >>= λ b. ok (PathApp a b)
  | k_sigma ↦ read_term f >>= λ a. read_term f >>= λ b. ok (Sigma a b)
  | k_pair ↦ read_term f >>= λ a. read_term f >>= λ b. read_term f >>= λ c. ok (Pair a b c)
  | k_fst ↦ read_term f >>= λ a. ok (Fst a)
  | k_snd ↦ read_term f >>= λ a. ok (Snd a)
  -- end of reading a term
]

unfoldable pub read_terms : ℕ → ℕ → Reader (List Term)
read_terms f ℕ.zero = ok []
read_terms f (ℕ.suc n) = read_term f >>= λ t. read_terms f n >>= λ ts. ok (t ∷ ts)

-- A call starts with a code, a dimension count and a context length.
pub record Head : Type 0 where
  pub code : Code
  pub dims : ℕ
  pub size : ℕ

unfoldable pub read_head : Reader Head
read_head = do
  code ← one_of codes
  d ← byte
  n ← byte
  ok (record { code = code; dims = d; size = n })

-- A call; its context's types are the outermost first, and it has `terms_of code` terms.
pub record Call : Type 0 where
  pub code : Code
  pub dims : ℕ
  pub types : List Term
  pub terms : List Term

unfoldable pub read_call : ℕ → Reader Call
read_call f = do
  head ← read_head
  types ← read_terms f head.size
  terms ← read_terms f (terms_of head.code)
  ok (record { code = head.code; dims = head.dims; types = types; terms = terms })

-- What is sent with one code: a call, and the types that code 6 has after it, which are read whatever their count is. Other codes have none.
pub record Sent : Type 0 where
  pub call : Call
  pub drafts : List Term

unfoldable pub read_drafts : ℕ → Bool → Reader (List Term)
read_drafts f true = byte >>= λ n. read_terms f n
read_drafts f false = ok []

unfoldable pub read_sent : ℕ → Reader Sent
read_sent f = do
  call ← read_call f
  drafts ← read_drafts f (lists_types call.code)
  ok (record { call = call; drafts = drafts })

-- A call with many types is a check for each, written out in order.
abbrev pub check_of : Call → Term → Call
check_of call ty = record { code = c_check; dims = call.dims; types = call.types; terms = call.terms ++ ty ∷ [] }

unfoldable pub checks_of : Call → List Term → List Call
checks_of call [] = []
checks_of call (ty ∷ tys) = check_of call ty ∷ checks_of call tys

-- The calls that are sent with one code. One of code 6 that has no type, or more than 16, is one call, of code 6: it is refused (Run).
unfoldable pub calls_of : Sent → List Call
calls_of sent =
    let n = length sent.drafts in
    elim (leb 1 n && leb n 16) [ true ↦ checks_of sent.call sent.drafts | false ↦ sent.call ∷ [] ]

unfoldable pub all_calls : List Sent → List Call
all_calls [] = []
all_calls (sent ∷ others) = calls_of sent ++ all_calls others

-- They follow until the end; the second argument bounds their number, as the first bounds the depth.
unfoldable pub read_calls : ℕ → ℕ → Reader (List Sent)
read_calls f ℕ.zero [] at = got [] [] at
read_calls f ℕ.zero (b ∷ bs) at = bad at
read_calls f (ℕ.suc m) [] at = got [] [] at
read_calls f (ℕ.suc m) (b ∷ bs) at = read_on (read_sent f (b ∷ bs) at) (λ sent bs' at'. read_on (read_calls f m bs' at') (λ others bs'' at''. got (sent ∷ others) bs'' at''))

-- The nesting limit, low byte first, 1 to 4,096; then the calls.
unfoldable pub read_limit : Reader ℕ
read_limit [] at = bad at
read_limit (a ∷ []) at = bad (at + 1)
read_limit (a ∷ b ∷ bs) at =
    let limit = a + 256 * b in
    elim (leb 1 limit && leb limit 4096) [ true ↦ got limit bs (at + 2) | false ↦ bad at ]

-- A run: its limit, and its calls written out.
unfoldable pub read_run : List ℕ → Read (ℕ × List Call)
read_run bytes = (read_limit >>= λ limit. read_calls (length bytes) (length bytes) >>= λ sents. ok (limit, all_calls sents)) bytes 0
