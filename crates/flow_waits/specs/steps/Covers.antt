-- Candidates: which flows are looked at for one that can go on, and why that is enough.
use Rattle.std.specs.Prelude.{◌≡◌, ◌≢◌, ℕ, ◌<◌, ◌||◌, ◌⊎◌, Bool, true, false, length, if◌then◌else◌, List, [], ◌∷◌, ◌++◌}
use Rattle.flux_values.specs.declared.answers.Mode.{Mode}
use Rattle.flux_values.specs.declared.answers.Mode.TheVariants.{Reader, Writer}
use Rattle.flow_model.specs.declared.journals.Entry.{Entry}
use Rattle.flow_model.specs.declared.journals.Event.{Event}
use Rattle.flux_model.specs.declared.items.FlowNo.{FlowNo}
use Rattle.flow_model.specs.declared.journals.Key.{Key}
use Rattle.flow_model.specs.Setup.{Setup}
use Rattle.flow_model.specs.Events.{IsLive}
use Rattle.flux_laws.specs.Going.{IsBlocked}
use Rattle.flux_laws.specs.Hoisted.{is_writer}
use Rattle.flux_table.specs.declared.locks.Waiter.{Waiter}
use Rattle.flow_state.specs.declared.readiness.BlockedTake.{BlockedTake}
use Rattle.flow_orders.specs.Turns.{IsBefore, IsFirstFrom, IsInLine}
use Rattle.flow_waits.specs.steps.Staying.{IsFresh}
use Rattle.flow_waits.specs.steps.Waking.{has, IsMore, IsLess, IsEarliest, ParkedFlows, parked_at, IsMoreAt, IsLessAt}

-- the flows that are looked at; and those that aren't, since they were found blocked at a key, by the mode in which
-- they would take it. Flows that are in a line are found there
pub record Pools : Type 0 where
  pub ready : List ℕ
  pub readers : ParkedFlows
  pub writers : ParkedFlows

abbrev pub parked_for : Pools → Mode → ParkedFlows
parked_for pools Reader = pools.readers
parked_for pools Writer = pools.writers

abbrev pub IsReady : Pools → ℕ → Type 0
IsReady pools flow = has pools.ready flow ≡ true

abbrev pub IsParked : Pools → Key → Mode → ℕ → Type 0
IsParked pools key mode flow = has (parked_at (parked_for pools mode) key) flow ≡ true

-- ---- why it is enough

-- another flow that is looked at would take the same key in the same mode, and comes before this one
pub record IsBehind (setup : Setup) (entries : List Entry) (pools : Pools) (from : ℕ) (key : Key) (mode : Mode)
    (flow : ℕ) : Type 0 where
  pub other : ℕ
  pub ready : IsReady pools other
  pub fresh : IsFresh setup entries other key mode
  pub before : IsBefore from other flow

-- a flow is parked: it is blocked, or such a flow comes first
pub record IsRightlyParked (setup : Setup) (entries : List Entry) (pools : Pools) (from flow : ℕ) : Type 0 where
  pub key : Key
  pub mode : Mode
  pub parked : IsParked pools key mode flow
  pub cause : IsBlocked setup entries flow ⊎ IsBehind setup entries pools from key mode flow

-- a flow needn't be looked at, or is
abbrev pub IsCovered : Setup → List Entry → Pools → ℕ → ℕ → Type 0
IsCovered setup entries pools from flow = IsReady pools flow
    ⊎ (IsInLine setup entries flow ⊎ IsRightlyParked setup entries pools from flow)

-- so the first flow from a number on that can go on is among those that are looked at
pub record Covers (setup : Setup) (entries : List Entry) (pools : Pools) (from : ℕ) : Type 0 where
  pub each : (flow : ℕ) → IsLive setup entries flow → IsCovered setup entries pools from flow
  pub fresh : (key : Key) (mode : Mode) (flow : ℕ) → IsParked pools key mode flow
      → IsFresh setup entries flow key mode
  pub apart : (key : Key) (mode : Mode) (flow : ℕ) → IsParked pools key mode flow → IsReady pools flow → ⊥
  pub exist : (flow : ℕ) → IsReady pools flow → flow < length setup.items

-- a flow is the first that can go on; it is looked at, before all others that are
pub record IsChosen (setup : Setup) (entries : List Entry) (pools : Pools) (from flow : ℕ) : Type 0 where
  pub first : IsFirstFrom setup entries from flow
  pub earliest : IsEarliest pools.ready from flow

-- the candidates don't know of the last entry yet, which is of a flow that is looked at
pub record Lags (setup : Setup) (entries : List Entry) (pools : Pools) (from : ℕ) : Type 0 where
  pub before : List Entry
  pub flow : FlowNo
  pub event : Event
  pub added : entries ≡ before ++ record { flow = flow; event = event } ∷ []
  pub was : ℕ
  pub covers : Covers setup before pools was
  pub ready : IsReady pools flow.0
  pub later : (one other : ℕ) (key : Key) (mode : Mode) → IsReady pools one → IsFresh setup before one key mode
      → flow.0 ≢ one → IsBefore was one other → IsBefore from one other

-- ---- changes

-- no fewer flows are looked at than before
abbrev pub StayReady : Pools → Pools → Type 0
StayReady old new = (flow : ℕ) → IsReady old flow → IsReady new flow

-- each flow that was looked at still is, unless it is blocked and is in a line
abbrev pub StayAwake : Setup → List Entry → Pools → Pools → Type 0
StayAwake setup entries old new = (flow : ℕ) → IsReady old flow → (IsInLine setup entries flow → ⊥)
    → IsReady new flow

-- a flow is no longer looked at
pub record FallsAsleep (old new : Pools) (flow : ℕ) : Type 0 where
  pub less : IsLess old.ready new.ready flow
  pub readers_ : new.readers ≡ old.readers
  pub writers_ : new.writers ≡ old.writers

-- a flow is parked now, unless it is in a line, which the flag tells
abbrev pub BecomesParked : Pools → Pools → ℕ → Key → Mode → Bool → Type 0
BecomesParked old new flow key mode true = (new.readers ≡ old.readers) × (new.writers ≡ old.writers)
BecomesParked old new flow key mode false = IsMoreAt (parked_for old mode) (parked_for new mode) key flow
    × ((other : Mode) → mode ≢ other → parked_for new other ≡ parked_for old other)

-- a blocked flow is no longer looked at, and has such a place
pub record Parks (old new : Pools) (flow : ℕ) (stop : BlockedTake) : Type 0 where
  pub less : IsLess old.ready new.ready flow
  pub fewer : IsReady old flow → length new.ready < length old.ready
  pub parking : BecomesParked old new flow stop.key stop.mode stop.stands

-- the first of the parked flows is looked at, and is parked no longer
pub record MovesFirst (ready more : List ℕ) (parks fewer : ParkedFlows) (key : Key) (from flow : ℕ) : Type 0 where
  pub earliest : IsEarliest (parked_at parks key) from flow
  pub added : IsMore ready more flow
  pub left : IsLessAt parks fewer key flow

-- so is the first flow that is parked at a key, if there is one
abbrev pub WakesFirst : List ℕ → List ℕ → ParkedFlows → ParkedFlows → Key → ℕ → Type 0
WakesFirst ready more parks fewer key from = ((parked_at parks key ≡ []) × (more ≡ ready) × (fewer ≡ parks))
    ⊎ ((flow : ℕ) × MovesFirst ready more parks fewer key from flow)

-- and the parked flows of the other mode stay
pub record Wakes (old new : Pools) (key : Key) (mode : Mode) (from : ℕ) : Type 0 where
  pub first : WakesFirst old.ready new.ready (parked_for old mode) (parked_for new mode) key from
  pub others : (other : Mode) → mode ≢ other → parked_for new other ≡ parked_for old other

-- the flows of a line that may go on, as long as no other flow takes the key: the first ones, to the first writer
abbrev pub served_of : List Waiter → List ℕ
served_of [] = []
served_of (waiter ∷ line) = waiter.flow.0 ∷ (if is_writer waiter.mode then [] else served_of line)

-- they are looked at
pub record WakesLine (old new : Pools) (line : List Waiter) : Type 0 where
  pub ready_ : (flow : ℕ) → has new.ready flow ≡ (has (served_of line) flow || has old.ready flow)
  pub readers_ : new.readers ≡ old.readers
  pub writers_ : new.writers ≡ old.writers
