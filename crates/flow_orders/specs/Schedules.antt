-- Rules of turns: a journal goes on by the moves that a rule allows, until no flow is live.
use Rattle.std.specs.Prelude.{◌≡◌, ℕ, List, ◌++◌}
use Rattle.flow_model.specs.declared.journals.Entry.{Entry}
use Rattle.flow_model.specs.declared.journals.Event.{Event}
use Rattle.flux_model.specs.declared.items.FlowNo.{FlowNo}
use Rattle.flow_model.specs.Setup.{Setup}
use Rattle.flow_model.specs.Events.{IsLive}
use Rattle.flux_laws.specs.Moves.{IsMove}
use Rattle.flow_orders.specs.Turns.{EachStands}

-- after the entries since an old journal, a flow's entry is its next move, and the rule allows it
pub record IsAllowed (Allows : List Entry → FlowNo → Event → Type 0) (setup : Setup) (old since : List Entry)
    (flow : FlowNo) (event : Event) : Type 0 where
  pub allowed : Allows since flow event
  pub move : IsMove setup (old ++ since) flow event

-- a journal goes on by such entries alone, until no flow is live
pub record IsScheduled (Allows : List Entry → FlowNo → Event → Type 0) (setup : Setup) (old new : List Entry)
    : Type 0 where
  pub more : List Entry
  pub added : new ≡ old ++ more
  pub each : EachStands (IsAllowed Allows setup old) more
  pub over : (flow : ℕ) → IsLive setup new flow → ⊥
