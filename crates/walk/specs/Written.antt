-- The run written out, from bytes to bytes: each call with many types as that many checks, in order; all else as it was sent, and so
-- a call whose count of types is wrong. That both runs are the same is `same_run` of the crate `order`, Written.
use Rattle.std.specs.Prelude.{ℕ, List, [], ◌∷◌, Bool, true, false, ◌&&◌, leb, length, get_or}
use Rattle.walk.specs.Syntax.{Interval, I0, I1, Dim, Neg, Meet, Join, Term, Universe, Var, Nat, Zero, Pi, Lam, App, Path, PathLam, PathApp, Sigma, Pair, Fst, Snd}
use Rattle.walk.specs.Reader.{Read, got, bad, ◌>>=◌, Code, c_context, c_universe, c_infer, c_check, c_normalise, c_equal, c_many, c_headwise, lists_types, Call, Sent, read_calls, read_limit}

-- Each is written before the bytes that follow it, as the reader reads it.
unfoldable pub write_interval : Interval → List ℕ → List ℕ
-- written by tools/written.py: bytes of an interval
write_interval I0 bs = 16 ∷ bs
write_interval I1 bs = 17 ∷ bs
write_interval (Dim n) bs = 18 ∷ n ∷ bs
write_interval (Neg a) bs = 19 ∷ write_interval a bs
write_interval (Meet a b) bs = 20 ∷ write_interval a (write_interval b bs)
write_interval (Join a b) bs = 21 ∷ write_interval a (write_interval b bs)

-- end of bytes of an interval

unfoldable pub write_term : Term → List ℕ → List ℕ
-- written by tools/written.py: bytes of a term
write_term (Universe n) bs = 1 ∷ n ∷ bs
write_term (Var n) bs = 2 ∷ n ∷ bs
write_term Nat bs = 3 ∷ bs
write_term Zero bs = 4 ∷ bs
write_term (Pi a b) bs = 5 ∷ write_term a (write_term b bs)
write_term (Lam a b) bs = 6 ∷ write_term a (write_term b bs)
write_term (App a b) bs = 7 ∷ write_term a (write_term b bs)
write_term (Path a b c) bs = 8 ∷ write_term a (write_term b (write_term c bs))
write_term (PathLam a b) bs = 9 ∷ write_term a (write_term b bs)
write_term (PathApp a b) bs = 10 ∷ write_term a (write_interval b bs)
write_term (Sigma a b) bs = 11 ∷ write_term a (write_term b bs)
write_term (Pair a b c) bs = 12 ∷ write_term a (write_term b (write_term c bs))
write_term (Fst a) bs = 13 ∷ write_term a bs
write_term (Snd a) bs = 14 ∷ write_term a bs

-- end of bytes of a term

unfoldable pub write_terms : List Term → List ℕ → List ℕ
write_terms [] bs = bs
write_terms (t ∷ ts) bs = write_term t (write_terms ts bs)

abbrev pub code_byte : Code → ℕ
-- written by tools/written.py: bytes of codes
code_byte c_context = 0
code_byte c_universe = 1
code_byte c_infer = 2
code_byte c_check = 3
code_byte c_normalise = 4
code_byte c_equal = 5
code_byte c_many = 6
code_byte c_headwise = 7

-- end of bytes of codes

unfoldable pub write_call : Call → List ℕ → List ℕ
write_call call bs = code_byte call.code ∷ call.dims ∷ length call.types ∷ write_terms call.types (write_terms call.terms bs)

-- The checks of a call's term at these types.
unfoldable pub write_checks : Call → List Term → List ℕ → List ℕ
write_checks call [] bs = bs
write_checks call (ty ∷ tys) bs = code_byte c_check ∷ call.dims ∷ length call.types ∷ write_terms call.types (write_terms call.terms (write_term ty (write_checks call tys bs)))

unfoldable pub write_drafts : Bool → List Term → List ℕ → List ℕ
write_drafts true drafts bs = length drafts ∷ write_terms drafts bs
write_drafts false drafts bs = bs

unfoldable pub write_by : Bool → Sent → List ℕ → List ℕ
write_by true sent bs = write_checks sent.call sent.drafts bs
write_by false sent bs = write_call sent.call (write_drafts (lists_types sent.call.code) sent.drafts bs)

unfoldable pub write_all : List Sent → List ℕ
write_all [] = []
write_all (sent ∷ others) = write_by (leb 1 (length sent.drafts) && leb (length sent.drafts) 16) sent (write_all others)

-- The limit stays; a run that cannot be read is left.
unfoldable pub written_by : List ℕ → Read (List Sent) → List ℕ
written_by bytes (got sents rest at) = get_or bytes 0 0 ∷ get_or bytes 1 0 ∷ write_all sents
written_by bytes (bad place) = bytes

unfoldable pub written_out : List ℕ → List ℕ
written_out bytes = written_by bytes ((read_limit >>= λ limit. read_calls (length bytes) (length bytes)) bytes 0)
