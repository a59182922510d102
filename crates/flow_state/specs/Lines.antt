-- Where a flow waits or is blocked, and who waits at a key.
use Rattle.std.specs.Prelude.{◌≡◌, ℕ, ◌<◌, true, false, List, [], ◌∷◌, ⊤}
use Rattle.std.specs.List.{Contains}
use Rattle.flux_values.specs.declared.answers.Mode.{Mode}
use Rattle.flow_model.specs.declared.journals.Entry.{Entry}
use Rattle.flow_model.specs.declared.journals.Event.TheVariants.{Take}
use Rattle.flux_model.specs.declared.items.FlowNo.{FlowNo}
use Rattle.flow_model.specs.declared.journals.Key.{Key}
use Rattle.flow_model.specs.Setup.{Setup}
use Rattle.flow_model.specs.Events.{IsNext}
use Rattle.flow_model.specs.Waits.{StandsAt, IsNoWaitLast}
use Rattle.flux_laws.specs.Growth.{has_ended}
use Rattle.flux_laws.specs.Going.{IsBlocked}
use Rattle.flux_table.specs.declared.locks.Waiter.{Waiter}
use Rattle.flow_state.specs.declared.readiness.BlockedTake.{BlockedTake}
use Rattle.flow_state.specs.declared.readiness.Readiness.{Readiness}
use Rattle.flow_state.specs.declared.readiness.Readiness.TheVariants.{Ended, Blocked, Free}

-- a flow waits at some key: its last entry is a `wait` for it
pub record IsStanding (entries : List Entry) (flow : ℕ) : Type 0 where
  pub key : Key
  pub mode : Mode
  pub place : ℕ
  pub stands : StandsAt entries flow key mode place

-- a flow is blocked at a take, and waits there or has no wait yet
pub record IsBlockedTake (setup : Setup) (entries : List Entry) (flow : ℕ) (stop : BlockedTake) : Type 0 where
  pub next : IsNext setup entries flow (Take stop.key stop.mode)
  pub blocked : IsBlocked setup entries flow
  pub stands : stop.stands ≡ true → (place : ℕ) × StandsAt entries flow stop.key stop.mode place
  pub nowhere : stop.stands ≡ false → IsNoWaitLast entries (record { 0 = flow })

-- a flow has had its `end`, is blocked at a take, or is neither
abbrev pub IsReadiness : Setup → List Entry → ℕ → Readiness → Type 0
IsReadiness setup entries flow Ended = has_ended entries flow ≡ true
IsReadiness setup entries flow (Blocked stop) = (has_ended entries flow ≡ false) × IsBlockedTake setup entries flow stop
IsReadiness setup entries flow Free = (has_ended entries flow ≡ false) × (IsBlocked setup entries flow → ⊥)

-- the others of a line wait there, after a place
abbrev pub StandBehind : List Entry → Key → ℕ → List Waiter → Type 0
StandBehind entries key place line = (waiter : Waiter) (behind : ℕ) → Contains line waiter
    → StandsAt entries waiter.flow.0 key waiter.mode behind → place < behind

abbrev pub StandInOrder : List Entry → Key → List Waiter → Type 0
StandInOrder entries key [] = ⊤
StandInOrder entries key (waiter ∷ line) =
    ((place : ℕ) × StandsAt entries waiter.flow.0 key waiter.mode place × StandBehind entries key place line)
    × StandInOrder entries key line

-- a line has exactly the flows that wait at a key, by their places
pub record IsLineAt (entries : List Entry) (key : Key) (line : List Waiter) : Type 0 where
  pub all : (flow : FlowNo) (mode : Mode) (place : ℕ) → StandsAt entries flow.0 key mode place
      → Contains line (record { flow = flow; mode = mode })
  pub order : StandInOrder entries key line
