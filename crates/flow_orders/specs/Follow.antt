-- The journal of a script: each listed number in turn, and then the lowest flow that can go on, again and again.
use Rattle.std.specs.Prelude.{◌≡◌, ℕ, ◌⊎◌, List, [], ◌∷◌, ◌++◌}
use Rattle.flow_model.specs.declared.journals.Entry.{Entry}
use Rattle.flow_model.specs.declared.journals.Event.{Event}
use Rattle.flux_model.specs.declared.items.FlowNo.{FlowNo}
use Rattle.flow_model.specs.Setup.{Setup}
use Rattle.flow_model.specs.Events.{IsLive}
use Rattle.flux_laws.specs.Going.{IsLowest}
use Rattle.flow_orders.specs.Turns.{IsInLine, MakesMove}
use Rattle.flow_orders.specs.Schedules.{IsScheduled}
use Rattle.flow_orders.specs.Drains.{DrainsTo}

-- there is nothing for a flow to do: there is no such flow, it has ended, or it is blocked and in a line
abbrev pub Rests : Setup → List Entry → ℕ → Type 0
Rests setup before flow = (IsLive setup before flow → ⊥) ⊎ IsInLine setup before flow

-- a turn: nothing, where there is nothing to do; else the flow's next event, or its wait at a take that is blocked
abbrev pub IsTurn : Setup → List Entry → FlowNo → List Entry → Type 0
IsTurn setup before flow after = (Rests setup before flow.0 × (after ≡ before))
    ⊎ ((event : Event) × MakesMove setup before flow event after)

-- turns one after another
abbrev pub AreTurns : Setup → List Entry → List FlowNo → List Entry → Type 0
AreTurns setup before [] after = after ≡ before
AreTurns setup before (flow ∷ flows) after =
    (between : List Entry) × IsTurn setup before flow between × AreTurns setup between flows after

-- a journal goes on by the turns of the listed numbers, and then it is drained
pub record IsFollow (setup : Setup) (old : List Entry) (numbers : List FlowNo) (new : List Entry) : Type 0 where
  pub listed : List Entry
  pub turns : AreTurns setup old numbers listed
  pub drains : DrainsTo setup listed new

-- ---- as a rule

-- the rule: the flow is the next of the list, after the turns of those listed before; or the lowest that can go on,
-- after the turns of the whole list
abbrev pub IsListedTurn : Setup → List Entry → List FlowNo → List Entry → FlowNo → Event → Type 0
IsListedTurn setup old numbers since flow event =
    ((done : List FlowNo) × (left : List FlowNo) × (numbers ≡ done ++ flow ∷ left)
    × AreTurns setup old done (old ++ since))
    ⊎ ((listed : List Entry) × (later : List Entry) × (since ≡ listed ++ later)
    × AreTurns setup old numbers (old ++ listed) × IsLowest setup (old ++ since) flow.0)
