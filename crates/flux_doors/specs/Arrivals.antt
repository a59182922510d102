-- What is read of std's answers at a real door.
use Rattle.std.specs.Prelude.{ℕ, ℤ, pos, Bool, false, ◌||◌, if◌then◌else◌, Option, Some, None}
use Rattle.std.specs.Ordering.{int_eq}
use Rattle.std.specs.declared.io.ErrorKind.{ErrorKind}
use Rattle.std.specs.declared.io.ErrorKind.TheVariants.{WouldBlock, ConnectionAborted, OutOfMemory}
use Rattle.flux_doors.specs.declared.arrivals.Arrival.{Arrival}
use Rattle.flux_doors.specs.declared.arrivals.Arrival.TheVariants as arrivals

-- the system's numbers of too many descriptors, of its own and of the process, and of no buffers
abbrev pub is_short : Option ℤ → Bool
is_short None = false
is_short (Some code) = int_eq code (pos 23) || int_eq code (pos 24) || int_eq code (pos 105)

-- none is there; a client went away before it was accepted; there is no memory; every other error
-- is a failure
abbrev pub why_by_kind : {S : Type 0} → ErrorKind → Arrival S
why_by_kind WouldBlock = arrivals.NoneReady
why_by_kind ConnectionAborted = arrivals.Gone
why_by_kind OutOfMemory = arrivals.Short
why_by_kind kind = arrivals.Failed

-- the same by the system's number too
abbrev pub why_none : {S : Type 0} → Option ℤ → ErrorKind → Arrival S
why_none code kind = if is_short code then arrivals.Short else why_by_kind kind
