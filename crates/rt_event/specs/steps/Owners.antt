-- What the loop keeps from entry to entry.
use Rattle.std.specs.Prelude.{◌≡◌, ℕ, ◌+◌, ⊤, Bool, true, false, List, Option, Some, None}
use Rattle.flow_model.specs.declared.journals.Entry.{Entry}
use Rattle.flow_model.specs.declared.journals.Event.{Event}
use Rattle.flux_model.specs.declared.items.FlowNo.{FlowNo}
use Rattle.flow_model.specs.Setup.{Setup}
use Rattle.flow_model.specs.Events.{IsLive}
use Rattle.flow_orders.specs.Turns.{IsInLine, MakesMove}
use Rattle.flow_waits.specs.steps.Covers.{Pools, IsReady, Covers, IsChosen}
use Rattle.flow_orders.specs.Round.{EndsTurn}

-- a flow that is on turn is live, is in no line and is looked at, last of all
pub record IsKeptOn (setup : Setup) (entries : List Entry) (pools : Pools) (from : ℕ) (flow : FlowNo) : Type 0 where
  pub live : IsLive setup entries flow.0
  pub awake : IsInLine setup entries flow.0 → ⊥
  pub ready : IsReady pools flow.0
  pub next : from ≡ flow.0 + 1

-- between two entries: all flows are covered, and so much of the flow that is on turn
abbrev pub KeepsOn : Setup → List Entry → Pools → ℕ → Option FlowNo → Type 0
KeepsOn setup entries pools from None = ⊤
KeepsOn setup entries pools from (Some flow) = IsKeptOn setup entries pools from flow

pub record Stays (setup : Setup) (entries : List Entry) (pools : Pools) (from : ℕ) (on_turn : Option FlowNo)
    : Type 0 where
  pub covers : Covers setup entries pools from
  pub on : KeepsOn setup entries pools from on_turn

-- the next owner: the flow that is on turn, or the first that can go on; none where none is live
abbrev pub IsOwner : Setup → List Entry → Pools → ℕ → Option FlowNo → FlowNo → Type 0
IsOwner setup entries pools from None owner = IsChosen setup entries pools from owner.0
IsOwner setup entries pools from (Some flow) owner = (flow ≡ owner) × IsKeptOn setup entries pools from owner

abbrev pub IsFound : Setup → List Entry → Pools → ℕ → Option FlowNo → Option FlowNo → Type 0
IsFound setup entries pools from on_turn None = (flow : ℕ) → IsLive setup entries flow → ⊥
IsFound setup entries pools from on_turn (Some owner) = IsOwner setup entries pools from on_turn owner

pub record Leads (setup : Setup) (entries : List Entry) (pools : Pools) (from : ℕ) (on_turn found : Option FlowNo)
    : Type 0 where
  pub covers : Covers setup entries pools from
  pub owner : IsFound setup entries pools from on_turn found

-- a flow's move, and whether its turn is over; nothing, where it has ended or is in a line
abbrev pub IsOver : Bool → Event → Type 0
IsOver true event = EndsTurn event
IsOver false event = EndsTurn event → ⊥

pub record MakesOwn (setup : Setup) (before : List Entry) (flow : FlowNo) (after : List Entry) (ends : Bool)
    : Type 0 where
  pub event : Event
  pub makes : MakesMove setup before flow event after
  pub over : IsOver ends event

abbrev pub MakesTurn : Setup → List Entry → FlowNo → List Entry → Bool → Type 0
MakesTurn setup before flow after ends = IsLive setup before flow.0 → (IsInLine setup before flow.0 → ⊥)
    → MakesOwn setup before flow after ends
