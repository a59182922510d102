-- What comes next for a flow.
use Rattle.std.specs.Prelude.{◌≡◌, ℕ, true, List, Option, Some, None}
use Rattle.flux_values.specs.declared.values.Value.{Value}
use Rattle.flux_model.specs.declared.programs.NodeNo.{NodeNo}
use Rattle.flow_model.specs.declared.journals.Entry.{Entry}
use Rattle.flow_model.specs.declared.journals.Event.{Event}
use Rattle.flow_model.specs.declared.journals.Event.TheVariants as events
use Rattle.flow_model.specs.Setup.{Setup}
use Rattle.flow_model.specs.Events.{IsNext, CallIsNext}
use Rattle.flux_laws.specs.Growth.{has_ended}
use Rattle.flow_state.specs.declared.coming.Coming.{Coming}
use Rattle.flow_state.specs.declared.coming.Coming.TheVariants.{Take, Enter, Choose, Call, Exit, Drop, End, Ended}

-- the event that comes; a call has none yet, since its answer isn't known
abbrev pub event_of : Coming → Option Event
event_of (Take key mode) = Some (events.Take key mode)
event_of (Enter node) = Some (events.Enter node)
event_of (Choose number) = Some (events.Choose number)
event_of (Call node) = None
event_of (Exit node outcome) = Some (events.Exit node outcome)
event_of (Drop key) = Some (events.Drop key)
event_of (End outcome) = Some (events.End outcome)
event_of Ended = None

-- it is the flow's next event by its walk on its answers so far: an event, a call of that node, or none, where the flow
-- has had its `end`
abbrev pub IsComing : Setup → List Entry → ℕ → Coming → Type 0
IsComing setup entries flow (Take key mode) = IsNext setup entries flow (events.Take key mode)
IsComing setup entries flow (Enter node) = IsNext setup entries flow (events.Enter node)
IsComing setup entries flow (Choose number) = IsNext setup entries flow (events.Choose number)
IsComing setup entries flow (Call node) = (args : List Value) × CallIsNext setup entries flow node args
IsComing setup entries flow (Exit node outcome) = IsNext setup entries flow (events.Exit node outcome)
IsComing setup entries flow (Drop key) = IsNext setup entries flow (events.Drop key)
IsComing setup entries flow (End outcome) = IsNext setup entries flow (events.End outcome)
IsComing setup entries flow Ended = has_ended entries flow ≡ true

-- and nothing else comes
pub record Comes (setup : Setup) (entries : List Entry) (flow : ℕ) (coming : Coming) : Type 0 where
  pub is : IsComing setup entries flow coming
  pub event : (event : Event) → IsNext setup entries flow event → event_of coming ≡ Some event
  pub call : (node : NodeNo) (args : List Value) → CallIsNext setup entries flow node args → coming ≡ Call node
  pub ended : has_ended entries flow ≡ true → coming ≡ Ended
