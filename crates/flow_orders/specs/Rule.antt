-- The rule of simulated processors: which entry comes when, and which call runs when.
use Rattle.std.specs.Prelude.{◌≡◌, ℕ, ◌<◌, ◌≤◌, ◌⊎◌, List, ◌∷◌, ◌++◌, map, length}
use Rattle.std.specs.List.{AllByRecursion}
use Rattle.std.specs.List.Sorted.{IsNonDecreasing}
use Rattle.flux_model.specs.declared.items.FlowNo.{FlowNo}
use Rattle.flow_model.specs.declared.journals.CallMade.{CallMade}
use Rattle.flow_model.specs.declared.journals.Event.{Event}
use Rattle.flow_model.specs.declared.journals.Event.TheVariants.{Call}
use Rattle.flow_model.specs.declared.journals.Entry.{Entry}
use Rattle.flow_model.specs.Setup.{Setup}
use Rattle.flow_model.specs.Events.{IsLive}
use Rattle.flux_laws.specs.Going.{IsBlocked, IsAtCall, CanGoOn}
use Rattle.flux_laws.specs.Growth.{IsNoWait}
use Rattle.flow_orders.specs.declared.runs.Run.{Run}
use Rattle.flow_orders.specs.Ticks.{Timed, timed, until, at_tick, last_tick}
use Rattle.flow_orders.specs.Runs.{running_at, running_of, starting_from, NeverMoreRuns, IsOneRunACall}

-- ---- whose entry comes next

-- a flow can go on without a call: it is live, it isn't blocked, and its next event isn't a call
pub record GoesAlone (setup : Setup) (entries : List Entry) (flow : ℕ) : Type 0 where
  pub can : CanGoOn setup entries flow
  pub no_call : IsAtCall setup entries flow → ⊥

-- no such flow has a lower number
pub record IsLowestAlone (setup : Setup) (entries : List Entry) (lowest : ℕ) : Type 0 where
  pub goes : GoesAlone setup entries lowest
  pub least : (flow : ℕ) → GoesAlone setup entries flow → lowest ≤ flow

-- an entry is a call of a lower flow
pub record IsCallBelow (flow : ℕ) (entry : Entry) : Type 0 where
  pub made : CallMade
  pub is : entry.event ≡ Call made
  pub below : let own = entry.flow in own.0 < flow

-- a call comes before all else of its tick, but calls of lower flows
pub record IsCallsTurn (before : Timed) (tick : ℕ) (flow : FlowNo) (event : Event) : Type 0 where
  pub made : CallMade
  pub is : event ≡ Call made
  pub first : AllByRecursion (IsCallBelow flow.0) (at_tick tick before)

-- the rule: a call comes so, and any other event is that of the lowest flow that can go on without a call
abbrev pub IsTurnAt : Setup → Timed → ℕ → FlowNo → Event → Type 0
IsTurnAt setup before tick flow event = IsCallsTurn before tick flow event
    ⊎ IsLowestAlone setup (map (λ one. one.1) before) flow.0

abbrev pub ComeInTurn : Setup → Timed → Type 0
ComeInTurn setup journal = (before after : Timed) (tick : ℕ) (flow : FlowNo) (event : Event)
    → journal ≡ before ++ (tick, record { flow = flow; event = event }) ∷ after
    → IsTurnAt setup before tick flow event

-- ---- which calls run

-- a flow's call waits: all processors are taken, and no call of a higher flow starts at this tick
pub record IsPassedOver (processors : ℕ) (runs : List Run) (tick flow : ℕ) : Type 0 where
  pub taken : processors ≤ running_at runs tick
  pub lower : starting_from runs flow tick ≡ 0

-- where a live flow is when all of a tick is done: it is blocked; or it is at a call, which runs or waits
abbrev pub IsSettled : Setup → ℕ → List Entry → List Run → ℕ → ℕ → Type 0
IsSettled setup processors entries runs tick flow =
    (IsBlocked setup entries flow × (running_of runs flow tick ≡ 0))
    ⊎ ((IsAtCall setup entries flow × (running_of runs flow tick ≡ 1))
    ⊎ (IsAtCall setup entries flow × (running_of runs flow tick ≡ 0)
    × IsPassedOver processors runs tick flow))

abbrev pub AreSettled : Setup → ℕ → Timed → List Run → Type 0
AreSettled setup processors journal runs = (tick flow : ℕ) → IsLive setup (until tick journal) flow
    → IsSettled setup processors (until tick journal) runs tick flow

-- ---- the whole

-- a journal, the ticks of its entries, the runs and the last tick are those of the rule
pub record IsByTheRule (setup : Setup) (costs : List ℕ) (processors : ℕ) (entries : List Entry) (at : List ℕ)
    (runs : List Run) (ticks : ℕ) : Type 0 where
  pub each : length at ≡ length entries
  pub rising : IsNonDecreasing at
  pub turns : ComeInTurn setup (timed at entries)
  pub runs_ : IsOneRunACall costs (timed at entries) runs
  pub few : NeverMoreRuns processors runs
  pub settled : AreSettled setup processors (timed at entries) runs
  pub last : ticks ≡ last_tick at
  pub no_wait : AllByRecursion IsNoWait entries
