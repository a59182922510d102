-- A table is two maps: from each key to its holders, and from each key to its line.
use Rattle.std.specs.Prelude.{◌≢◌, List, [], Option, Some, None}
use Rattle.std.specs.Map.{lookup}
use Rattle.flow_model.specs.declared.journals.Key.{Key}
use Rattle.flow_model.specs.Keys.{same_key}
use Rattle.flux_table.specs.declared.locks.Waiter.{Waiter}
use Rattle.flux_table.specs.Locks.{LockState, Holding, held_by}

-- the keys that are held or waited for; other keys have no holders and an empty line
abbrev pub Locks : Type 0
Locks = List (Key × LockState)

abbrev pub lock_at : Locks → Key → Option LockState
lock_at locks key = lookup (same_key key) locks

-- each lock that is kept has a holder or a waiter, so what a table takes doesn't grow with the keys that were used
abbrev pub AreInUse : Locks → Type 0
AreInUse locks = (key : Key) → lock_at locks key ≢ Some record { holders = []; line = [] }

-- how each flow holds each key
abbrev pub Holders : Type 0
Holders = Key → Holding

abbrev pub holding_in : Option LockState → Holding
holding_in None flow = None
holding_in (Some lock) flow = held_by lock.holders flow

abbrev pub holders_of : Locks → Holders
holders_of locks key = holding_in (lock_at locks key)

-- who waits for each key, first come first
abbrev pub Lines : Type 0
Lines = Key → List Waiter

abbrev pub line_in : Option LockState → List Waiter
line_in None = []
line_in (Some lock) = lock.line

abbrev pub lines_of : Locks → Lines
lines_of locks key = line_in (lock_at locks key)
