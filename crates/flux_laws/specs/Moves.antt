-- What one entry more of a legal journal may be.
use Rattle.std.specs.Prelude.{List, [], ◌∷◌, ◌++◌}
use Rattle.std.specs.List.{slice_get}
use Rattle.flux_values.specs.declared.answers.Mode.{Mode}
use Rattle.flow_model.specs.declared.journals.CallMade.{CallMade}
use Rattle.flow_model.specs.declared.journals.Entry.{Entry}
use Rattle.flow_model.specs.declared.journals.Event.{Event}
use Rattle.flow_model.specs.declared.journals.Event.TheVariants.{Take, Wait, Enter, Choose, Call, Exit, Drop, End}
use Rattle.flux_model.specs.declared.items.FlowNo.{FlowNo}
use Rattle.flow_model.specs.declared.journals.Key.{Key}
use Rattle.flow_model.specs.Setup.{Setup}
use Rattle.flux_model.specs.Locks.{AreLocks}
use Rattle.flow_model.specs.CellsAfter.{cells_after}
use Rattle.flow_model.specs.Answers.{IsNodeAnswer}
use Rattle.flow_model.specs.Events.{IsNext, CallIsNext}
use Rattle.flow_model.specs.Waits.{IsNoWaitLast}
use Rattle.flow_model.specs.Legal.{IsLegal}
use Rattle.flux_laws.specs.Going.{IsBlocked}

-- an event that is the flow's next, where the flow isn't blocked
pub record MayStep (setup : Setup) (entries : List Entry) (flow : FlowNo) (event : Event) : Type 0 where
  pub next : IsNext setup entries flow.0 event
  pub free : IsBlocked setup entries flow.0 → ⊥

-- a wait for the flow's next take, where the flow is blocked and its take has no wait yet
pub record MayStand (setup : Setup) (entries : List Entry) (flow : FlowNo) (key : Key) (mode : Mode) : Type 0 where
  pub next : IsNext setup entries flow.0 (Take key mode)
  pub blocked : IsBlocked setup entries flow.0
  pub once : IsNoWaitLast entries flow

-- a call that is next, with its node's answer on the cells that the entries leave
pub record MayCall (setup : Setup) (entries : List Entry) (flow : FlowNo) (made : CallMade) : Type 0 where
  pub next : CallIsNext setup entries flow.0 made.node made.args
  pub right : IsNodeAnswer setup flow.0 (cells_after setup entries) (slice_get setup.program.nodes made.node.0) made

-- an entry that may be next
abbrev pub IsMove : Setup → List Entry → FlowNo → Event → Type 0
IsMove setup entries flow (Wait key mode) = MayStand setup entries flow key mode
IsMove setup entries flow (Call made) = MayCall setup entries flow made
IsMove setup entries flow (Take key mode) = MayStep setup entries flow (Take key mode)
IsMove setup entries flow (Enter node) = MayStep setup entries flow (Enter node)
IsMove setup entries flow (Choose place) = MayStep setup entries flow (Choose place)
IsMove setup entries flow (Exit node outcome) = MayStep setup entries flow (Exit node outcome)
IsMove setup entries flow (Drop key) = MayStep setup entries flow (Drop key)
IsMove setup entries flow (End outcome) = MayStep setup entries flow (End outcome)

-- ---- legal journals are made of moves

-- no entries at all are legal, with the program's locks
abbrev pub NothingIsLegal : Type 0
NothingIsLegal = (setup : Setup) → AreLocks setup.program setup.locks → IsLegal setup []

-- with one entry more that may be next, a legal journal stays legal: by an event that isn't blocked, a wait, a call
-- with the right answer, and by each move
abbrev pub EventIsLegal : Type 0
EventIsLegal = (setup : Setup) (entries : List Entry) (flow : FlowNo) (event : Event) → IsLegal setup entries
    → MayStep setup entries flow event → IsLegal setup (entries ++ record { flow = flow; event = event } ∷ [])

abbrev pub WaitIsLegal : Type 0
WaitIsLegal = (setup : Setup) (entries : List Entry) (flow : FlowNo) (key : Key) (mode : Mode)
    → IsLegal setup entries → MayStand setup entries flow key mode
    → IsLegal setup (entries ++ record { flow = flow; event = Wait key mode } ∷ [])

abbrev pub CallIsLegal : Type 0
CallIsLegal = (setup : Setup) (entries : List Entry) (flow : FlowNo) (made : CallMade) → IsLegal setup entries
    → MayCall setup entries flow made → IsLegal setup (entries ++ record { flow = flow; event = Call made } ∷ [])

abbrev pub MovesAreLegal : Type 0
MovesAreLegal = (setup : Setup) (entries : List Entry) (flow : FlowNo) (event : Event) → IsLegal setup entries
    → IsMove setup entries flow event → IsLegal setup (entries ++ record { flow = flow; event = event } ∷ [])

-- a front of a legal journal is legal
abbrev pub FrontsAreLegal : Type 0
FrontsAreLegal = (setup : Setup) (entries more : List Entry) → IsLegal setup (entries ++ more) → IsLegal setup entries

-- and each entry of a legal journal may be next after those before it
abbrev pub EntriesAreMoves : Type 0
EntriesAreMoves = (setup : Setup) (entries : List Entry) (flow : FlowNo) (event : Event)
    → IsLegal setup (entries ++ record { flow = flow; event = event } ∷ []) → IsMove setup entries flow event
