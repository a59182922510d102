-- The rules of entries: what keeps each of them after the entries before it, and what breaks it.
use Rattle.std.specs.Prelude.{◌≡◌, ◌≢◌, ◌<◌, ℕ, true, List, length, ⊤}
use Rattle.std.specs.List.{slice_get}
use Rattle.flux_model.specs.declared.items.FlowNo.{FlowNo}
use Rattle.flow_model.specs.declared.journals.Event.{Event}
use Rattle.flow_model.specs.declared.journals.Event.TheVariants.{Take, Wait, Call}
use Rattle.flow_model.specs.declared.journals.Entry.{Entry}
use Rattle.flow_model.specs.Setup.{Setup}
use Rattle.flow_model.specs.CellsAfter.{cells_after}
use Rattle.flow_model.specs.Answers.{IsNodeAnswer}
use Rattle.flow_model.specs.Events.{IsNext, CallIsNext}
use Rattle.flow_model.specs.Exclusion.{HoldsKey, holds_against}
use Rattle.flow_model.specs.Waits.{StandsBefore, Blocks, IsNoWaitLast}
use Rattle.flux_audit.specs.declared.verdicts.Rule.{Rule}
use Rattle.flux_audit.specs.declared.verdicts.Rule.TheVariants as rules

-- path: the event is the flow's next one, by its walk on its answers so far; a wait is for the take that is next, and
-- that take has no wait yet
abbrev pub IsOnPath : Setup → List Entry → FlowNo → Event → Type 0
IsOnPath setup before flow (Wait key mode) =
    IsNext setup before flow.0 (Take key mode) × IsNoWaitLast before flow
IsOnPath setup before flow (Call made) = CallIsNext setup before flow.0 made.node made.args
IsOnPath setup before flow event = IsNext setup before flow.0 event

-- answer: a call's answer is the library's on its arguments and the cells that the calls before it left
abbrev pub IsAnswered : Setup → List Entry → FlowNo → Event → Type 0
IsAnswered setup before flow (Call made) = IsNodeAnswer setup flow.0 (cells_after setup before)
    (slice_get setup.program.nodes made.node.0) made
IsAnswered setup before flow event = ⊤

-- hold: another flow holds a take's key in conflict
abbrev pub IsHeld : List Entry → FlowNo → Event → Type 0
IsHeld before flow (Take key mode) =
    (other : ℕ) × (other ≢ flow.0) × (holds_against before other key mode ≡ true)
IsHeld before flow event = ⊥

-- turn: the flow of a take doesn't hold the key, and another flow waits at it in conflict, ahead of the flow or with
-- the flow not there
abbrev pub IsOutOfTurn : List Entry → FlowNo → Event → Type 0
IsOutOfTurn before flow (Take key mode) = (HoldsKey before flow.0 key → ⊥)
    × ((other : ℕ) × (other ≢ flow.0) × StandsBefore before other flow.0 key mode)
IsOutOfTurn before flow event = ⊥

-- wait: some flow blocks the flow of a wait
abbrev pub HasCause : List Entry → FlowNo → Event → Type 0
HasCause before flow (Wait key mode) = (other : ℕ) × Blocks before other flow.0 key mode
HasCause before flow event = ⊤

-- an entry keeps a rule; those of head lines, of spelling and of ends aren't rules of entries
abbrev pub Keeps : Setup → List Entry → FlowNo → Event → Rule → Type 0
Keeps setup before flow event rules.Flow = flow.0 < length setup.items
Keeps setup before flow event rules.Path = IsOnPath setup before flow event
Keeps setup before flow event rules.Answer = IsAnswered setup before flow event
Keeps setup before flow event rules.Hold = IsHeld before flow event → ⊥
Keeps setup before flow event rules.Turn = IsOutOfTurn before flow event → ⊥
Keeps setup before flow event rules.Wait = HasCause before flow event
Keeps setup before flow event other = ⊤

-- an entry breaks a rule
abbrev pub Breaks : Setup → List Entry → FlowNo → Event → Rule → Type 0
Breaks setup before flow event rules.Flow = flow.0 < length setup.items → ⊥
Breaks setup before flow event rules.Path = IsOnPath setup before flow event → ⊥
Breaks setup before flow event rules.Answer = IsAnswered setup before flow event → ⊥
Breaks setup before flow event rules.Hold = IsHeld before flow event
Breaks setup before flow event rules.Turn = IsOutOfTurn before flow event
Breaks setup before flow event rules.Wait = HasCause before flow event → ⊥
Breaks setup before flow event other = ⊥
