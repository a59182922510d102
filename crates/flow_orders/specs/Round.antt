-- The journal of the event loop: owners take turns, cyclically, and each goes on to its call, its wait or its end.
use Rattle.std.specs.Prelude.{◌≡◌, ℕ, ◌+◌, ◌⊎◌, ⊤, List, [], ◌∷◌, ◌++◌}
use Rattle.flow_model.specs.declared.journals.Entry.{Entry}
use Rattle.flow_model.specs.declared.journals.Event.{Event}
use Rattle.flow_model.specs.declared.journals.Event.TheVariants.{Take, Wait, Enter, Choose, Call, Exit, Drop, End}
use Rattle.flux_model.specs.declared.items.FlowNo.{FlowNo}
use Rattle.flow_model.specs.Setup.{Setup}
use Rattle.flow_orders.specs.Turns.{IsFirstFrom}
use Rattle.flow_orders.specs.Schedules.{IsScheduled}

-- a turn ends with a call, a wait or an end
abbrev pub EndsTurn : Event → Type 0
EndsTurn (Call made) = ⊤
EndsTurn (Wait key mode) = ⊤
EndsTurn (End outcome) = ⊤
EndsTurn (Take key mode) = ⊥
EndsTurn (Enter node) = ⊥
EndsTurn (Choose place) = ⊥
EndsTurn (Exit node outcome) = ⊥
EndsTurn (Drop key) = ⊥

-- the last entry is the flow's, and doesn't end its turn
pub record IsOnTurn (entries : List Entry) (flow : FlowNo) : Type 0 where
  pub front : List Entry
  pub event : Event
  pub last : entries ≡ front ++ record { flow = flow; event = event } ∷ []
  pub on : EndsTurn event → ⊥

-- the turn of a flow has ended with the last entry
pub record HasHadTurn (entries : List Entry) (flow : FlowNo) : Type 0 where
  pub front : List Entry
  pub event : Event
  pub last : entries ≡ front ++ record { flow = flow; event = event } ∷ []
  pub over : EndsTurn event

-- the first owner is looked for from 0 on, each later one after the last
abbrev pub LooksFrom : List Entry → ℕ → Type 0
LooksFrom entries from =
    ((entries ≡ []) × (from ≡ 0)) ⊎ ((flow : FlowNo) × HasHadTurn entries flow × (from ≡ flow.0 + 1))

-- after some new entries it is a flow's turn: it goes on, or is the first that can go on from where it is looked for
abbrev pub HasTurn : Setup → List Entry → List Entry → FlowNo → Type 0
HasTurn setup old entries flow = IsOnTurn entries flow
    ⊎ ((from : ℕ) × LooksFrom entries from × IsFirstFrom setup (old ++ entries) from flow.0)

-- the rule: it is the flow's turn
abbrev pub IsOwnersTurn : Setup → List Entry → List Entry → FlowNo → Event → Type 0
IsOwnersTurn setup old since flow event = HasTurn setup old since flow

-- a journal goes on by this rule, until no flow is live
abbrev pub IsRound : Setup → List Entry → List Entry → Type 0
IsRound setup old new = IsScheduled (IsOwnersTurn setup old) setup old new
