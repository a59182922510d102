-- Which flow blocks another at a key, and when a flow may ask for a key.
use Rattle.std.specs.Prelude.{◌≡◌, ◌≢◌, ℕ, ◌≤◌, ◌==◌, ◌⊎◌, true, not, List, Option, Some, None}
use Rattle.std.specs.List.{Contains, take_while}
use Rattle.flux_values.specs.declared.answers.Mode.{Mode}
use Rattle.flux_model.specs.declared.items.FlowNo.{FlowNo}
use Rattle.flow_model.specs.declared.journals.Key.{Key}
use Rattle.flux_model.specs.Modes.{conflict, at_least}
use Rattle.flux_table.specs.declared.locks.Held.{Held}
use Rattle.flux_table.specs.declared.locks.Waiter.{Waiter}
use Rattle.flux_table.specs.Locks.{Holding}
use Rattle.flux_table.specs.Tables.{Holders, Lines}

-- a flow holds the key in conflict with a mode
pub record HoldsAgainst (held : Holding) (other : ℕ) (mode : Mode) : Type 0 where
  pub their : Held
  pub holds : held other ≡ Some their
  pub against : conflict their.mode mode ≡ true

-- the line before a flow, or all of it where the flow isn't there
abbrev pub line_before : List Waiter → ℕ → List Waiter
line_before line flow = take_while (λ waiter. not (waiter.flow.0 == flow)) line

-- a flow waits there in conflict with a mode
pub record StandsAgainst (line : List Waiter) (other : ℕ) (mode : Mode) : Type 0 where
  pub their : Mode
  pub stands : Contains line (record { flow = record { 0 = other }; mode = their })
  pub against : conflict their mode ≡ true

-- another flow blocks a flow that would take the key in a mode: the flow doesn't hold the key, and the other holds it
-- in conflict, or waits in its line in conflict, before the flow or with the flow not there
pub record Blocks (held : Holding) (line : List Waiter) (other flow : ℕ) (mode : Mode) : Type 0 where
  pub free : held flow ≡ None
  pub apart : other ≢ flow
  pub cause : HoldsAgainst held other mode ⊎ StandsAgainst (line_before line flow) other mode

-- of these: a flow that holds the key in conflict
pub record IsHeldAgainst (held : Holding) (other flow : ℕ) (mode : Mode) : Type 0 where
  pub free : held flow ≡ None
  pub holds : HoldsAgainst held other mode

-- and one that waits there in conflict, before the flow or with the flow not there
pub record IsAhead (held : Holding) (line : List Waiter) (other flow : ℕ) (mode : Mode) : Type 0 where
  pub free : held flow ≡ None
  pub stands : StandsAgainst (line_before line flow) other mode

-- the lowest of the flows that are so, and none where no flow is
abbrev pub IsLowestOf : (ℕ → Type 0) → Option FlowNo → Type 0
IsLowestOf Is None = (flow : ℕ) → Is flow → ⊥
IsLowestOf Is (Some lowest) = Is lowest.0 × ((flow : ℕ) → Is flow → lowest.0 ≤ flow)

-- one of two flows
abbrev pub IsEither : Option FlowNo → Option FlowNo → ℕ → Type 0
IsEither a b flow = (a ≡ Some (record { 0 = flow })) ⊎ (b ≡ Some (record { 0 = flow }))

-- ---- when a flow may ask

-- where the flow is in a line, it is this one
abbrev pub StandsOnlyAt : Lines → ℕ → Key → Mode → Type 0
StandsOnlyAt lines flow key mode = (other : Key) (waiter : Waiter) → Contains (lines other) waiter
    → waiter.flow.0 ≡ flow → (other ≡ key) × (waiter.mode ≡ mode)

-- a flow may take a key in a mode: it doesn't hold the key or holds it in at least that mode, and it is in no line
-- or in this key's in this mode
pub record MayTake (holders : Holders) (lines : Lines) (flow : ℕ) (key : Key) (mode : Mode) : Type 0 where
  pub enough : (own : Held) → holders key flow ≡ Some own → at_least own.mode mode ≡ true
  pub stands : StandsOnlyAt lines flow key mode

-- a flow may wait for a key: it is in no line and doesn't hold the key
pub record MayWait (holders : Holders) (lines : Lines) (flow : ℕ) (key : Key) : Type 0 where
  pub free : holders key flow ≡ None
  pub stands : (other : Key) (waiter : Waiter) → Contains (lines other) waiter → waiter.flow.0 ≢ flow
