-- What the tests of tables keep of their calls.
use Rattle.std.specs.Prelude.{List}
use Rattle.std.specs.List.{Contains}
use Rattle.flow_model.specs.declared.journals.Key.{Key}
use Rattle.flux_table.specs.declared.locks.Waiter.{Waiter}
use Rattle.flux_table.specs.Tables.{Locks, lines_of}

-- each waiter of a line is among those that ever stood in one
abbrev pub HaveStood : Locks → List (Key × Waiter) → Type 0
HaveStood locks stood =
    (key : Key) (waiter : Waiter) → Contains (lines_of locks key) waiter → Contains stood (key, waiter)
