-- How takes, waits and releases change the two maps.
use Rattle.std.specs.Prelude.{◌≡◌, ℕ, ◌+◌, ◌-◌, ◌==◌, nat_lt, if◌then◌else◌, List, [], ◌∷◌, ◌++◌, Option, Some, None}
use Rattle.flux_values.specs.declared.answers.Mode.{Mode}
use Rattle.flux_model.specs.declared.items.FlowNo.{FlowNo}
use Rattle.flow_model.specs.declared.journals.Key.{Key}
use Rattle.flow_model.specs.Keys.{same_key}
use Rattle.flux_table.specs.declared.locks.Held.{Held}
use Rattle.flux_table.specs.declared.locks.Waiter.{Waiter}
use Rattle.flux_table.specs.declared.tables.Taken.{Taken}
use Rattle.flux_table.specs.declared.tables.Taken.TheVariants.{Got, Busy}
use Rattle.flux_table.specs.Locks.{Holding}
use Rattle.flux_table.specs.Tables.{Locks, Holders, Lines, holders_of, lines_of}

-- one take more; the first take is the greatest
abbrev pub one_more : Option Held → Mode → Held
one_more None mode = record { mode = mode; count = 1 }
one_more (Some held) mode = record { mode = held.mode; count = held.count + 1 }

-- one take less; the holder goes with its last
abbrev pub one_less : Option Held → Option Held
one_less None = None
one_less (Some held) =
    if nat_lt 1 held.count then Some (record { mode = held.mode; count = held.count - 1 }) else None

-- one flow's holding of a key is changed
abbrev pub with_held : Holding → ℕ → Option Held → Holding
with_held held flow now = λ other. if flow == other then now else held other

-- a line that a flow is taken out of
abbrev pub line_without : List Waiter → ℕ → List Waiter
line_without [] flow = []
line_without (waiter ∷ line) flow =
    if waiter.flow.0 == flow then line else waiter ∷ line_without line flow

-- one key's holders, or its line, are changed
abbrev pub with_holding : Holders → Key → Holding → Holders
with_holding holders key held = λ other. if same_key key other then held else holders other

abbrev pub with_line : Lines → Key → List Waiter → Lines
with_line lines key line = λ other. if same_key key other then line else lines other

-- the flow gets the key: it holds it once more, and has left the line
pub record Takes (old new : Locks) (flow : ℕ) (key : Key) (mode : Mode) : Type 0 where
  pub holders : let held = holders_of old key in
      holders_of new ≡ with_holding (holders_of old) key (with_held held flow (Some (one_more (held flow) mode)))
  pub lines : lines_of new ≡ with_line (lines_of old) key (line_without (lines_of old key) flow)

-- the flow is at the end of the line
pub record Waits (old new : Locks) (flow : FlowNo) (key : Key) (mode : Mode) : Type 0 where
  pub holders : holders_of new ≡ holders_of old
  pub lines : lines_of new
      ≡ with_line (lines_of old) key (lines_of old key ++ record { flow = flow; mode = mode } ∷ [])

-- the flow holds the key once less
pub record Releases (old new : Locks) (flow : ℕ) (key : Key) : Type 0 where
  pub holders : let held = holders_of old key in
      holders_of new ≡ with_holding (holders_of old) key (with_held held flow (one_less (held flow)))
  pub lines : lines_of new ≡ lines_of old

-- the flow that a try names
abbrev pub blocker_in : Taken → Option FlowNo
blocker_in Got = None
blocker_in (Busy holder) = Some holder

-- what there is after a try: a take, or the same table
abbrev pub Follows : Taken → Locks → Locks → ℕ → Key → Mode → Type 0
Follows Got old new flow key mode = Takes old new flow key mode
Follows (Busy holder) old new flow key mode = new ≡ old
