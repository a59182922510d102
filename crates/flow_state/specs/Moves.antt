-- What the calls of a state do: each adds one entry, or none.
use Rattle.std.specs.Prelude.{◌≡◌, List, [], ◌∷◌, ◌++◌}
use Rattle.flux_values.specs.declared.answers.Mode.{Mode}
use Rattle.flux_values.specs.Meanings.{LibraryMeaning}
use Rattle.flow_model.specs.declared.journals.CallMade.{CallMade}
use Rattle.flow_model.specs.declared.journals.Event.{Event}
use Rattle.flow_model.specs.declared.journals.Event.TheVariants as events
use Rattle.flux_model.specs.declared.items.FlowNo.{FlowNo}
use Rattle.flow_model.specs.declared.journals.Entry.{Entry}
use Rattle.flow_model.specs.declared.journals.Key.{Key}
use Rattle.flow_model.specs.Setup.{Setup}
use Rattle.flux_laws.specs.Moves.{MayStep, MayStand, MayCall}
use Rattle.flow_state.specs.States.{FlowState, setup_at}

-- an entry is added
abbrev pub with_entry : {L : Type 0} → FlowState L → FlowNo → Event → FlowState L
with_entry state flow event = record state {
  entries = state.entries ++ record { flow = flow; event = event } ∷ [];
}

-- the flow's next event is neither a call nor blocked
pub record MayMake (setup : Setup) (entries : List Entry) (flow : FlowNo) : Type 0 where
  pub event : Event
  pub may : MayStep setup entries flow event

module _ {L : Type 0} (meaning : L → LibraryMeaning) (old new : FlowState L) (flow : FlowNo) where
  -- the flow's next event, which is neither a call nor blocked, is added
  pub record AddsEvent (event : Event) : Type 0 where
    pub may : MayStep (setup_at meaning old) old.entries flow event
    pub new_ : new ≡ with_entry old flow event

  -- whichever it is
  pub record Makes : Type 0 where
    pub event : Event
    pub adds : AddsEvent event

  -- the wait for the flow's next take, which is blocked and has none yet, is added
  pub record AddsWait (key : Key) (mode : Mode) : Type 0 where
    pub may : MayStand (setup_at meaning old) old.entries flow key mode
    pub new_ : new ≡ with_entry old flow (events.Wait key mode)

  -- the flow's next event, which is a call, is added with its node's answer
  pub record AddsCall (made : CallMade) : Type 0 where
    pub may : MayCall (setup_at meaning old) old.entries flow made
    pub new_ : new ≡ with_entry old flow (events.Call made)
