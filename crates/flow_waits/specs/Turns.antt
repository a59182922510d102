-- What is made of a flow's turn.
use Rattle.std.specs.Prelude.{◌≡◌, ⊤, List}
use Rattle.flux_values.specs.declared.answers.Mode.{Mode}
use Rattle.flow_model.specs.declared.journals.Entry.{Entry}
use Rattle.flow_model.specs.declared.journals.Event.{Event}
use Rattle.flow_model.specs.declared.journals.Event.TheVariants.{Take, Wait, Enter, Choose, Call, Exit, Drop, End}
use Rattle.flow_model.specs.declared.journals.CallMade.{CallMade}
use Rattle.flow_model.specs.declared.journals.Key.{Key}
use Rattle.flux_model.specs.declared.items.FlowNo.{FlowNo}
use Rattle.flow_model.specs.Setup.{Setup}
use Rattle.flow_model.specs.Events.{IsLive}
use Rattle.flow_orders.specs.Turns.{MakesMove, IsInLine}
use Rattle.flow_waits.specs.declared.turns.Turn.{Turn}
use Rattle.flow_waits.specs.declared.turns.Turn.TheVariants.{Ended, InLine, Waited, Called, Went}

-- neither a call nor a wait
abbrev pub IsPassing : Event → Type 0
IsPassing (Call made) = ⊥
IsPassing (Wait key mode) = ⊥
IsPassing (Take key mode) = ⊤
IsPassing (Enter node) = ⊤
IsPassing (Choose place) = ⊤
IsPassing (Exit node outcome) = ⊤
IsPassing (Drop key) = ⊤
IsPassing (End outcome) = ⊤

-- what a flow makes of its turn: nothing, where it has ended or is in a line; and else its next move
abbrev pub TakesTurn : Setup → List Entry → FlowNo → List Entry → Turn → Type 0
TakesTurn setup before flow after Ended = (IsLive setup before flow.0 → ⊥) × (after ≡ before)
TakesTurn setup before flow after InLine = IsInLine setup before flow.0 × (after ≡ before)
TakesTurn setup before flow after Waited =
    (key : Key) × (mode : Mode) × MakesMove setup before flow (Wait key mode) after
TakesTurn setup before flow after Called = (made : CallMade) × MakesMove setup before flow (Call made) after
TakesTurn setup before flow after Went =
    (event : Event) × IsPassing event × MakesMove setup before flow event after
