-- What is sent with one code, a call or one with many types, and what is told of it: the offset past it, and the checks that it is.
use Rattle.std.specs.Prelude.{ℕ, ◌+◌, List, Bool, true, false, ◌&&◌, leb, length, get_or, drop, Some, None, Result, Ok, Err}
use Rattle.walk.specs.Syntax.{Term}
use Rattle.walk.specs.Reader.{Read, got, bad, lists_types, Call, Sent, read_sent}
use Rattle.syntax.specs.declared.scan.Unread.{Unread}
use Rattle.syntax.specs.declared.scan.Unread.TheVariants.{Bad, Short}
use Rattle.syntax.specs.declared.sent.Sent.{Sent as Sending}
use Rattle.syntax.specs.Told.{terms_at, call_at}

abbrev pub sent_at : List ℕ → ℕ → Read Sent
sent_at bytes at = read_sent (length bytes) (drop at bytes) at

abbrev pub one_call : ℕ → Sending
one_call next = record { next = next; checks = None }

abbrev pub many_checks : (next first n : ℕ) → Sending
many_checks next first n = record { next = next; checks = Some (record { first = first; count = n }) }

-- How many calls they are.
unfoldable pub calls_sent : Sending → ℕ
calls_sent sent = elim sent.checks [ Some checks ↦ checks.count | None ↦ 1 ]

-- So many types from an offset on are a check each, or one call that is refused.
unfoldable pub counted_by : Bool → (next first n : ℕ) → Sending
counted_by true next first n = many_checks next first n
counted_by false next first n = one_call next

abbrev pub counted_as : (next first n : ℕ) → Sending
counted_as next first n = counted_by (leb 1 n && leb n 16) next first n

unfoldable pub types_told : (first n : ℕ) → Read (List Term) → Result Sending Unread
types_told first n (got types rest next) = Ok (counted_as next first n)
types_told first n (bad place) = Err (Bad place)

-- The count, then the types.
unfoldable pub types_by : Bool → List ℕ → ℕ → Result Sending Unread
types_by true bytes at = Err (Bad at)
types_by false bytes at = types_told (at + 1) (get_or bytes at 0) (terms_at (get_or bytes at 0) bytes (at + 1))

abbrev pub types_of : List ℕ → ℕ → Result Sending Unread
types_of bytes at = types_by (leb (length bytes) at) bytes at

-- The call, and where it is one with many types, these.
unfoldable pub coded_by : Bool → List ℕ → ℕ → Result Sending Unread
coded_by true bytes next = types_of bytes next
coded_by false bytes next = Ok (one_call next)

unfoldable pub sent_told : List ℕ → Read Call → Result Sending Unread
sent_told bytes (got call rest next) = coded_by (lists_types call.code) bytes next
sent_told bytes (bad place) = Err (Bad place)

abbrev pub sent_of : List ℕ → ℕ → Result Sending Unread
sent_of bytes at = sent_told bytes (call_at bytes at)

-- By whether the stack that is lent has no room.
unfoldable pub sent_in : Bool → List ℕ → ℕ → Result Sending Unread
sent_in true bytes at = Err Short
sent_in false bytes at = sent_of bytes at
