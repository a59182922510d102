-- Who blocks a take: who holds the key, and who waits at it ahead.
use Rattle.std.specs.Prelude.{◌≡◌, ◌≢◌, ℕ, true, List}
use Rattle.flux_values.specs.declared.answers.Mode.{Mode}
use Rattle.flow_model.specs.declared.journals.Entry.{Entry}
use Rattle.flow_model.specs.declared.journals.Event.TheVariants.{Take}
use Rattle.flow_model.specs.declared.journals.Key.{Key}
use Rattle.flow_model.specs.Setup.{Setup}
use Rattle.flow_model.specs.Events.{IsNext}
use Rattle.flow_model.specs.Exclusion.{HoldsKey, holds_against}
use Rattle.flow_model.specs.Waits.{StandsBefore}
use Rattle.flux_laws.specs.Going.{IsBlocked}

-- another flow holds the key in conflict with a flow's take
pub record IsHeldBy (entries : List Entry) (other flow : ℕ) (key : Key) (mode : Mode) : Type 0 where
  pub apart : other ≢ flow
  pub against : holds_against entries other key mode ≡ true

-- the flow doesn't hold the key, and another waits at it in conflict, ahead of the flow or with the flow not there
pub record IsAhead (entries : List Entry) (other flow : ℕ) (key : Key) (mode : Mode) : Type 0 where
  pub free : HoldsKey entries flow key → ⊥
  pub apart : other ≢ flow
  pub before : StandsBefore entries other flow key mode

-- a flow is blocked at the take of a key
pub record IsBlockedAt (setup : Setup) (entries : List Entry) (flow : ℕ) (key : Key) : Type 0 where
  pub mode : Mode
  pub next : IsNext setup entries flow (Take key mode)
  pub blocked : IsBlocked setup entries flow
