-- How long a flow stays blocked.
use Rattle.std.specs.Prelude.{◌≢◌, ℕ, ◌<◌, List, [], ◌∷◌, ◌++◌}
use Rattle.flux_values.specs.declared.answers.Mode.{Mode}
use Rattle.flux_values.specs.declared.answers.Mode.TheVariants.{Writer}
use Rattle.flow_model.specs.declared.journals.Entry.{Entry}
use Rattle.flow_model.specs.declared.journals.Event.{Event}
use Rattle.flow_model.specs.declared.journals.Event.TheVariants.{Take, Drop}
use Rattle.flux_model.specs.declared.items.FlowNo.{FlowNo}
use Rattle.flow_model.specs.declared.journals.Key.{Key}
use Rattle.flow_model.specs.Setup.{Setup}
use Rattle.flow_model.specs.Events.{IsNext, IsLive}
use Rattle.flow_model.specs.Exclusion.{HoldsKey}
use Rattle.flow_model.specs.Waits.{StandsAt}
use Rattle.flow_model.specs.Legal.{IsLegal}
use Rattle.flux_laws.specs.Going.{IsBlocked}

-- a live flow is at a take of a key that it doesn't hold, and is in no line
pub record IsFresh (setup : Setup) (entries : List Entry) (flow : ℕ) (key : Key) (mode : Mode) : Type 0 where
  pub live : IsLive setup entries flow
  pub next : IsNext setup entries flow (Take key mode)
  pub free : HoldsKey entries flow key → ⊥
  pub stands_nowhere : (line : Key) (own : Mode) (place : ℕ) → StandsAt entries flow line own place → ⊥

-- ---- laws

-- a flow that is blocked at a key stays so while another flow makes an entry, unless that drops the key
abbrev pub BlockedStay : Type 0
BlockedStay = (setup : Setup) (entries : List Entry) (flow : FlowNo) (event : Event)
    → IsLegal setup (entries ++ record { flow = flow; event = event } ∷ [])
    → (other : ℕ) (key : Key) (mode : Mode) → flow.0 ≢ other → IsNext setup entries other (Take key mode)
    → IsBlocked setup entries other → event ≢ Drop key
    → IsBlocked setup (entries ++ record { flow = flow; event = event } ∷ []) other

-- a flow that waits at a key after a writer is blocked
abbrev pub WritersBlock : Type 0
WritersBlock = (setup : Setup) (entries : List Entry) → IsLegal setup entries
    → (flow writer : ℕ) (key : Key) (mode : Mode) (place before : ℕ) → StandsAt entries flow key mode place
    → StandsAt entries writer key Writer before → before < place → IsBlocked setup entries flow

-- flows that are fresh at one key in one mode are blocked alike
abbrev pub FreshAreAlike : Type 0
FreshAreAlike = (setup : Setup) (entries : List Entry) (one other : ℕ) (key : Key) (mode : Mode)
    → IsFresh setup entries one key mode → IsFresh setup entries other key mode
    → IsBlocked setup entries one → IsBlocked setup entries other
