-- Which flows can go on, and that one can where any is live.
use Rattle.std.specs.Prelude.{ℕ, ◌<◌, ◌≤◌, ◌⊎◌, List, length}
use Rattle.std.specs.List.{AllByRecursion}
use Rattle.flux_values.specs.declared.values.Value.{Value}
use Rattle.flux_model.specs.declared.programs.NodeNo.{NodeNo}
use Rattle.flux_model.specs.declared.programs.Program.{Program}
use Rattle.flow_model.specs.declared.journals.Entry.{Entry}
use Rattle.flow_model.specs.declared.journals.Event.{Event}
use Rattle.flux_model.specs.declared.items.Item.{Item}
use Rattle.flow_model.specs.Setup.{Setup}
use Rattle.flux_model.specs.Ordering.{HasCycle}
use Rattle.flux_model.specs.Numbered.{IsNumbered}
use Rattle.flow_model.specs.Events.{IsNext, CallIsNext, IsLive}
use Rattle.flow_model.specs.Waits.{WaitsFor}
use Rattle.flow_model.specs.Legal.{IsLegal, IsWhole}

-- a flow is blocked: it waits for some other
abbrev pub IsBlocked : Setup → List Entry → ℕ → Type 0
IsBlocked setup entries flow = (other : ℕ) × WaitsFor setup entries flow other

-- a flow's next event is a call
abbrev pub IsAtCall : Setup → List Entry → ℕ → Type 0
IsAtCall setup entries flow = (node : NodeNo) × (args : List Value) × CallIsNext setup entries flow node args

-- a flow has a next event: one of its walk, or a call that wants an answer
abbrev pub HasNext : Setup → List Entry → ℕ → Type 0
HasNext setup entries flow = ((event : Event) × IsNext setup entries flow event) ⊎ IsAtCall setup entries flow

-- a live flow that isn't blocked
pub record CanGoOn (setup : Setup) (entries : List Entry) (flow : ℕ) : Type 0 where
  pub live : IsLive setup entries flow
  pub free : IsBlocked setup entries flow → ⊥

-- each item is of a source line of the program
abbrev pub HaveSources : Program → List Item → Type 0
HaveSources p items = AllByRecursion (λ item. item.source.0 < length p.sources) items

-- no flow that can go on has a lower number
pub record IsLowest (setup : Setup) (entries : List Entry) (lowest : ℕ) : Type 0 where
  pub can : CanGoOn setup entries lowest
  pub least : (flow : ℕ) → CanGoOn setup entries flow → lowest ≤ flow

-- ---- laws

-- whoever blocks a flow in a legal journal is live
abbrev pub BlockersAreLive : Type 0
BlockersAreLive = (setup : Setup) (entries : List Entry) → IsLegal setup entries
    → (flow other : ℕ) → WaitsFor setup entries flow other → IsLive setup entries other

-- in a legal journal where some flow is live, not all live flows are blocked
abbrev pub NotAllBlocked : Type 0
NotAllBlocked = (setup : Setup) (entries : List Entry) → IsLegal setup entries
    → ((flow : ℕ) → IsLive setup entries flow → IsBlocked setup entries flow)
    → (flow : ℕ) → IsLive setup entries flow → ⊥

-- so where some flow is live, there is a lowest one that can go on
abbrev pub SomeFlowCanGoOn : Type 0
SomeFlowCanGoOn = (setup : Setup) (entries : List Entry) → IsLegal setup entries
    → (flow : ℕ) → IsLive setup entries flow → (lowest : ℕ) × IsLowest setup entries lowest

-- in a numbered program without cycles, with items of its source lines, each live flow has a next event
abbrev pub LiveFlowsHaveNext : Type 0
LiveFlowsHaveNext = (setup : Setup) (entries : List Entry) → IsNumbered setup.program
    → (HasCycle setup.program.nodes → ⊥) → HaveSources setup.program setup.items → IsLegal setup entries
    → (flow : ℕ) → IsLive setup entries flow → HasNext setup entries flow

-- a legal journal in which no flow is live is whole
abbrev pub NoneLiveIsWhole : Type 0
NoneLiveIsWhole = (setup : Setup) (entries : List Entry) → IsLegal setup entries
    → ((flow : ℕ) → IsLive setup entries flow → ⊥) → IsWhole setup entries
