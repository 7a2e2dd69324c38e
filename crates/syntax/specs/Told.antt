-- What each public function answers, by the definitions of `walk`.
use Rattle.std.specs.Prelude.{ℕ, ◌+◌, ◌*◌, ◌≡◌, List, Bool, true, false, ltb, length, drop, Option as Maybe, Some, None, Result, Ok, Err}
use Rattle.std.proofs.Math.Option.{Option, none, some}
use Rattle.ast.specs.declared.refusals.Refusal.{Refusal}
use Rattle.ast.specs.declared.refusals.Refusal.TheVariants as refusal
use Rattle.walk.specs.Syntax.{Term}
use Rattle.walk.specs.Reader.{Read, got, bad, Code, c_context, c_universe, c_infer, c_check, c_normalise, c_equal, c_many, c_headwise, terms_of, Head, Call, check_of, Sent, all_calls, read_term, read_terms, read_head, read_call, read_run}
use Rattle.walk.specs.Limits.{Sized, fits, scope_over, size_over, index_over, size_term, size_call}
use Rattle.syntax.specs.declared.scan.Fault.{Fault}
use Rattle.syntax.specs.declared.scan.Unread.{Unread}
use Rattle.syntax.specs.declared.scan.Unread.TheVariants.{Bad, Short}
use Rattle.syntax.specs.declared.calls.Code.{Code as CallCode}
use Rattle.syntax.specs.declared.calls.Code.TheVariants.{Context, Universe, Infer, Check, Normalise, Equal, Many, Headwise}
use Rattle.syntax.specs.declared.scan.CallHead.{CallHead}
use Rattle.syntax.specs.declared.scan.Scanned.{Scanned}
use Rattle.syntax.specs.declared.scan.RefusedRun.{RefusedRun}
use Rattle.syntax.specs.declared.limits.Fitting.{Fitting}
use Rattle.syntax.specs.declared.limits.Unfit.{Unfit}
use Rattle.syntax.specs.declared.limits.Unfit.TheVariants.{Refused as Over, Unread as NotRead}

-- What stands at an offset of a run; as many as its bytes bound the depth.
abbrev pub term_at : List ℕ → ℕ → Read Term
term_at bytes at = read_term (length bytes) (drop at bytes) at

abbrev pub terms_at : ℕ → List ℕ → ℕ → Read (List Term)
terms_at n bytes at = read_terms (length bytes) n (drop at bytes) at

abbrev pub call_at : List ℕ → ℕ → Read Call
call_at bytes at = read_call (length bytes) (drop at bytes) at

-- The stack that is lent has room where it has two bytes for each byte of the run, and one more.
abbrev pub short : List ℕ → List ℕ → Bool
short stack bytes = ltb (length stack) (2 * length bytes + 1)

-- the offset past what is read, or the place of the fault

abbrev pub fault_at : ℕ → Fault
fault_at place = record { place = place }

-- A fault is why nothing more is read.
abbrev pub unread_at : Fault → Unread
unread_at fault = Bad fault.place

unfoldable pub next_of : {A : Type 0} → Read A → Result ℕ Unread
next_of (got a rest at) = Ok at
next_of (bad place) = Err (Bad place)

unfoldable pub next_in : {A : Type 0} → Bool → Read A → Result ℕ Unread
next_in true r = Err Short
next_in false r = next_of r

-- what is read, or the place of the fault
unfoldable pub value_of : {A : Type 0} → Read A → Result A Fault
value_of (got a rest at) = Ok a
value_of (bad place) = Err (fault_at place)

-- the head of a call

abbrev pub code_number : Code → ℕ
-- written by tools/written.py: numbers of codes
code_number c_context = 0
code_number c_universe = 1
code_number c_infer = 2
code_number c_check = 3
code_number c_normalise = 4
code_number c_equal = 5
code_number c_many = 6
code_number c_headwise = 7

abbrev pub highest_code : ℕ
highest_code = 7

-- end of numbers of codes

-- A code as the program tells it, and what the program's stands for.
abbrev pub code_told : Code → CallCode
-- written by tools/written.py: codes told
code_told c_context = Context
code_told c_universe = Universe
code_told c_infer = Infer
code_told c_check = Check
code_told c_normalise = Normalise
code_told c_equal = Equal
code_told c_many = Many
code_told c_headwise = Headwise

-- end of codes told

abbrev pub code_of : CallCode → Code
-- written by tools/written.py: codes of the program
code_of Context = c_context
code_of Universe = c_universe
code_of Infer = c_infer
code_of Check = c_check
code_of Normalise = c_normalise
code_of Equal = c_equal
code_of Many = c_many
code_of Headwise = c_headwise

-- end of codes of the program

unfoldable pub code_in : Option Code → Maybe CallCode
code_in none = None
code_in (some code) = Some (code_told code)

abbrev pub head_in : Code → ℕ → ℕ → CallHead
head_in code dims size = record { code = code_told code; dims = dims; size = size }

unfoldable pub head_of : Read Head → Result CallHead Fault
head_of (got head rest at) = Ok (head_in head.code head.dims head.size)
head_of (bad place) = Err (fault_at place)

-- This is the head of the call at an offset.
abbrev pub HeadAt : List ℕ → ℕ → CallHead → Type 0
HeadAt bytes at head = Ok head ≡ head_of (read_head (drop at bytes) at)

unfoldable pub terms_in : Option Code → ℕ
terms_in none = 0
terms_in (some code) = terms_of code

-- How many terms follow a head, the types of its context among them.
abbrev pub many_terms : CallHead → ℕ
many_terms head = head.size + terms_of (code_of head.code)

-- the whole run: refusals 2 and 3, or its nesting limit and the number of its calls

abbrev pub limit_of : Read ℕ → Result ℕ Fault
limit_of = value_of

abbrev pub calls_read : ℕ → ℕ → Result Scanned RefusedRun
calls_read limit calls = Ok (record { limit = limit; calls = calls })

abbrev pub refused_at : Refusal → ℕ → RefusedRun
refused_at why place = record { refusal = why; place = place }

-- A run that cannot be read is refused; one that is too long for the stack is too long.
abbrev pub refused_unread : Unread → RefusedRun
refused_unread (Bad place) = refused_at refusal.Unread place
refused_unread Short = refused_at refusal.Bytes 0

-- The calls that are read, after so many.
unfoldable pub counted : ℕ → ℕ → Read (List Sent) → Result Scanned RefusedRun
counted limit n (got sents rest at) = calls_read limit (n + length (all_calls sents))
counted limit n (bad place) = Err (refused_at refusal.Unread place)

unfoldable pub told : Read (ℕ × List Call) → Result Scanned RefusedRun
told (got (limit, calls) rest at) = calls_read limit (length calls)
told (bad place) = Err (refused_at refusal.Unread place)

unfoldable pub unless_long : Bool → Result Scanned RefusedRun → Result Scanned RefusedRun
unless_long true s = Err (refused_at refusal.Bytes 0)
unless_long false s = s

abbrev pub scanned : List ℕ → Result Scanned RefusedRun
scanned bytes = unless_long (ltb 65536 (length bytes)) (told (read_run bytes))

-- the limits of a call: refusals 5 to 7, or its head and its nodes; with the offset past it

abbrev pub fits_to : CallHead → ℕ → ℕ → Result Fitting Unfit
fits_to head nodes next = Ok (record { head = head; nodes = nodes; next = next })

unfoldable pub sized : Sized → Call → ℕ → Result Fitting Unfit
sized (fits nodes) call next = fits_to (head_in call.code call.dims (length call.types)) nodes next
sized scope_over call next = Err (Over refusal.Scope next)
sized size_over call next = Err (Over refusal.Size next)
sized index_over call next = Err (Over refusal.Index next)

unfoldable pub size_of : Read Call → Result Fitting Unfit
size_of (got call rest next) = sized (size_call call) call next
size_of (bad place) = Err (NotRead (Bad place))

unfoldable pub size_in : Bool → Read Call → Result Fitting Unfit
size_in true r = Err (NotRead Short)
size_in false r = size_of r

-- Of a call that has its term alone, the check of that at a type that stands elsewhere: the same, with the offset past the type.

unfoldable pub size_draft : Read Call → Read Term → Result Fitting Unfit
size_draft (got call rest next) (got ty rest' end) = sized (size_call (check_of call ty)) call end
size_draft (got call rest next) (bad place) = Err (NotRead (Bad place))
size_draft (bad place) r = Err (NotRead (Bad place))

unfoldable pub size_draft_in : Bool → Read Call → Read Term → Result Fitting Unfit
size_draft_in true c r = Err (NotRead Short)
size_draft_in false c r = size_draft c r

-- Such a type, after so many nodes of a call with this head.
unfoldable pub sized_as : Sized → CallHead → ℕ → Result Fitting Unfit
sized_as (fits nodes) head next = fits_to head nodes next
sized_as scope_over head next = Err (Over refusal.Scope next)
sized_as size_over head next = Err (Over refusal.Size next)
sized_as index_over head next = Err (Over refusal.Index next)

unfoldable pub size_type : CallHead → ℕ → Read Term → Result Fitting Unfit
size_type head before (got ty rest end) = sized_as (size_term ty 0 before) head end
size_type head before (bad place) = Err (NotRead (Bad place))
