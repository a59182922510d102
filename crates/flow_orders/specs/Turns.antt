-- Whose turn it is, and what a flow's move makes of a journal.
use Rattle.std.specs.Prelude.{◌≡◌, ℕ, ◌<◌, ◌≤◌, ◌⊎◌, List, [], ◌∷◌, ◌++◌}
use Rattle.flux_values.specs.declared.answers.Mode.{Mode}
use Rattle.flow_model.specs.declared.journals.Entry.{Entry}
use Rattle.flow_model.specs.declared.journals.Event.{Event}
use Rattle.flow_model.specs.declared.journals.Key.{Key}
use Rattle.flux_model.specs.declared.items.FlowNo.{FlowNo}
use Rattle.flow_model.specs.Setup.{Setup}
use Rattle.flow_model.specs.Events.{Stands}
use Rattle.flow_model.specs.Waits.{StandsAt}
use Rattle.flux_laws.specs.Going.{IsBlocked, CanGoOn}
use Rattle.flux_laws.specs.Moves.{IsMove}

-- of two flows, the one that is looked at first, from a number on upward and then from 0 on
abbrev pub IsBefore : ℕ → ℕ → ℕ → Type 0
IsBefore from one other = ((from ≤ one) × ((one < other) ⊎ (other < from))) ⊎ ((one < other) × (other < from))

-- the first flow, from a number on, that can go on
pub record IsFirstFrom (setup : Setup) (entries : List Entry) (from flow : ℕ) : Type 0 where
  pub can : CanGoOn setup entries flow
  pub first : (other : ℕ) → CanGoOn setup entries other → IsBefore from other flow → ⊥

-- a flow's next move: its next event, or its wait where that is a take at which it is blocked
pub record MakesMove (setup : Setup) (before : List Entry) (flow : FlowNo) (event : Event) (after : List Entry)
    : Type 0 where
  pub move : IsMove setup before flow event
  pub added : after ≡ before ++ record { flow = flow; event = event } ∷ []

-- a flow is in a line, and is blocked: its take has its wait
pub record IsInLine (setup : Setup) (entries : List Entry) (flow : ℕ) : Type 0 where
  pub key : Key
  pub mode : Mode
  pub place : ℕ
  pub stands : StandsAt entries flow key mode place
  pub blocked : IsBlocked setup entries flow

-- each entry of a list is as it should be, after those before it
abbrev pub EachStands : (List Entry → FlowNo → Event → Type 0) → List Entry → Type 0
EachStands Is entries = (before after : List Entry) (flow : FlowNo) (event : Event)
    → Stands entries before flow event after → Is before flow event
