-- Who waits for whom: first come, first served, and no waits form a cycle.
use Rattle.std.specs.Prelude.{◌≡◌, ◌≢◌, ℕ, ◌<◌, ◌⊎◌, true, List, [], ◌∷◌, ◌++◌, length}
use Rattle.flux_values.specs.declared.answers.Mode.{Mode}
use Rattle.flux_model.specs.declared.items.FlowNo.{FlowNo}
use Rattle.flow_model.specs.declared.journals.Key.{Key}
use Rattle.flow_model.specs.declared.journals.Event.{Event}
use Rattle.flow_model.specs.declared.journals.Event.TheVariants.{Take, Wait}
use Rattle.flow_model.specs.declared.journals.Entry.{Entry}
use Rattle.flow_model.specs.Setup.{Setup}
use Rattle.flux_model.specs.Modes.{conflict}
use Rattle.flow_model.specs.Events.{events_by, IsNext, Stands}
use Rattle.flow_model.specs.Exclusion.{HoldsKey, holds_against}

-- the flow's last entry
pub record IsLast (entries : List Entry) (flow : FlowNo) (event : Event) (place : ℕ) : Type 0 where
  pub before : List Entry
  pub after : List Entry
  pub stands : Stands entries before flow event after
  pub last : events_by flow.0 after ≡ []
  pub at : length before ≡ place

-- a flow waits at a key in a mode: its last entry is a `wait` for it, at this place
abbrev pub StandsAt : List Entry → ℕ → Key → Mode → ℕ → Type 0
StandsAt entries flow key mode place = IsLast entries (record { 0 = flow }) (Wait key mode) place

-- another flow waits at the key in conflict with this mode, and this flow doesn't wait there, or only after it
pub record StandsBefore (entries : List Entry) (other flow : ℕ) (key : Key) (mode : Mode) : Type 0 where
  pub their : Mode
  pub place : ℕ
  pub stands : StandsAt entries other key their place
  pub against : conflict their mode ≡ true
  pub first : (own : Mode) (behind : ℕ) → StandsAt entries flow key own behind → place < behind

-- a flow whose next event is this take is blocked by another
pub record Blocks (entries : List Entry) (other flow : ℕ) (key : Key) (mode : Mode) : Type 0 where
  pub free : HoldsKey entries flow key → ⊥
  pub apart : other ≢ flow
  pub cause : (holds_against entries other key mode ≡ true) ⊎ StandsBefore entries other flow key mode

-- after these entries a flow waits for another: its next event is a take, and the other blocks it
pub record WaitsFor (setup : Setup) (entries : List Entry) (flow other : ℕ) : Type 0 where
  pub key : Key
  pub mode : Mode
  pub next : IsNext setup entries flow (Take key mode)
  pub blocked : Blocks entries other flow key mode

-- ---- where a wait may be

-- a flow's last entry isn't a wait
abbrev pub IsNoWaitLast : List Entry → FlowNo → Type 0
IsNoWaitLast entries flow =
    (key : Key) (mode : Mode) (place : ℕ) → IsLast entries flow (Wait key mode) place → ⊥

-- a flow may pass one that waits for a key from a place on: it holds the key, or waits at it since before that
abbrev pub MayPass : List Entry → ℕ → Key → ℕ → Type 0
MayPass entries other key since = HoldsKey entries other key
    ⊎ ((own : Mode) × (place : ℕ) × (place < since) × StandsAt entries other key own place)

-- a flow that comes later doesn't overtake: a conflicting take of another flow after a wait, and before the waiting
-- flow's next entry, is of a flow that may pass
abbrev pub IsNotOvertaken : List Entry → FlowNo → Key → Mode → List Entry → Type 0
IsNotOvertaken before flow key mode after =
    (between rest : List Entry) (other : FlowNo) (their : Mode)
    → Stands after between other (Take key their) rest → other.0 ≢ flow.0
    → events_by flow.0 between ≡ [] → conflict their mode ≡ true
    → MayPass (before ++ record { flow = flow; event = Wait key mode } ∷ between) other.0 key (length before)

-- a wait is only before the flow's take, where some flow blocks it; once for a take; and nobody overtakes
pub record MayWait (setup : Setup) (before : List Entry) (flow : FlowNo) (key : Key) (mode : Mode)
    (after : List Entry) : Type 0 where
  pub next : IsNext setup before flow.0 (Take key mode)
  pub blocker : ℕ
  pub blocked : Blocks before blocker flow.0 key mode
  pub once : IsNoWaitLast before flow
  pub kept : IsNotOvertaken before flow key mode after

abbrev pub WaitsAreRight : Setup → List Entry → Type 0
WaitsAreRight setup entries =
    (before after : List Entry) (flow : FlowNo) (key : Key) (mode : Mode)
    → Stands entries before flow (Wait key mode) after → MayWait setup before flow key mode after

-- ---- cycles

-- a flow waits for another, over these flows between them
abbrev pub Chain : (ℕ → ℕ → Type 0) → ℕ → List ℕ → ℕ → Type 0
Chain Waits first [] last = Waits first last
Chain Waits first (next ∷ flows) last = Waits first next × Chain Waits next flows last

-- after no front of the entries does a flow wait for itself, directly or over others
abbrev pub IsFreeOfCycles : Setup → List Entry → Type 0
IsFreeOfCycles setup entries = (before after : List Entry) → entries ≡ before ++ after
    → (flow : ℕ) (between : List ℕ) → Chain (WaitsFor setup before) flow between flow → ⊥
