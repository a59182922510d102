-- Conflicting sections never overlap.
use Rattle.std.specs.Prelude.{◌≡◌, ◌≢◌, ℕ, Bool, false, if◌then◌else◌, List, [], ◌∷◌, ◌++◌, Some}
use Rattle.std.specs.List.{list_any, Contains}
use Rattle.flux_values.specs.declared.answers.Mode.{Mode}
use Rattle.flux_model.specs.declared.programs.NodeNo.{NodeNo}
use Rattle.flux_model.specs.declared.programs.Hold.{Hold}
use Rattle.flux_model.specs.declared.items.FlowNo.{FlowNo}
use Rattle.flow_model.specs.declared.journals.Key.{Key}
use Rattle.flow_model.specs.declared.journals.Event.{Event}
use Rattle.flow_model.specs.declared.journals.Event.TheVariants.{Take, Wait, Enter, Choose, Call, Exit, Drop, End}
use Rattle.flow_model.specs.declared.journals.Entry.{Entry}
use Rattle.flow_model.specs.Setup.{Setup, item_of}
use Rattle.flux_model.specs.Modes.{conflict}
use Rattle.flow_model.specs.Keys.{same_key}
use Rattle.flux_model.specs.Locks.{declared}
use Rattle.flow_model.specs.CellsAfter.{key_for}
use Rattle.flow_model.specs.Events.{events_by, Stands}

abbrev pub without_first : {X : Type 0} → List X → List X
without_first [] = []
without_first (x ∷ xs) = xs

-- ---- what a flow holds

-- the modes in which events leave a key held, the latest take first: each drop ends the latest one
abbrev pub held_after : Key → List Mode → List Event → List Mode
held_after key modes [] = modes
held_after key modes (Take k mode ∷ events) =
    held_after key (if same_key k key then mode ∷ modes else modes) events
held_after key modes (Drop k ∷ events) =
    held_after key (if same_key k key then without_first modes else modes) events
held_after key modes (Wait k mode ∷ events) = held_after key modes events
held_after key modes (Enter node ∷ events) = held_after key modes events
held_after key modes (Choose place ∷ events) = held_after key modes events
held_after key modes (Call made ∷ events) = held_after key modes events
held_after key modes (Exit node outcome ∷ events) = held_after key modes events
held_after key modes (End outcome ∷ events) = held_after key modes events

-- the modes of a flow's takes of a key that it hasn't dropped, where its events follow a walk
abbrev pub modes_held : List Entry → ℕ → Key → List Mode
modes_held entries flow key = held_after key [] (events_by flow entries)

abbrev pub HoldsKey : List Entry → ℕ → Key → Type 0
HoldsKey entries flow key = modes_held entries flow key ≢ []

-- the flow holds the key in a mode in conflict with this one; that is so exactly where the greatest of its modes is
abbrev pub holds_against : List Entry → ℕ → Key → Mode → Bool
holds_against entries flow key mode = list_any (λ held. conflict held mode) (modes_held entries flow key)

-- no take is made where another flow holds that key in conflict
abbrev pub TakesExclude : List Entry → Type 0
TakesExclude entries = (before after : List Entry) (flow : FlowNo) (key : Key) (mode : Mode)
    → Stands entries before flow (Take key mode) after
    → (other : ℕ) → other ≢ flow.0 → holds_against before other key mode ≡ false

-- ---- sections

-- the nodes that a flow has entered and not exited, the latest first: each exit is from the latest one
abbrev pub open_after : List NodeNo → List Event → List NodeNo
open_after nodes [] = nodes
open_after nodes (Enter node ∷ events) = open_after (node ∷ nodes) events
open_after nodes (Exit node outcome ∷ events) = open_after (without_first nodes) events
open_after nodes (Take k mode ∷ events) = open_after nodes events
open_after nodes (Drop k ∷ events) = open_after nodes events
open_after nodes (Wait k mode ∷ events) = open_after nodes events
open_after nodes (Choose place ∷ events) = open_after nodes events
open_after nodes (Call made ∷ events) = open_after nodes events
open_after nodes (End outcome ∷ events) = open_after nodes events

-- after these entries a flow is in a section: between entering a node and leaving it, on the key of a constraint that
-- the text declares on that node
pub record IsInSection (setup : Setup) (entries : List Entry) (flow : ℕ) (key : Key) (mode : Mode) : Type 0 where
  pub node : NodeNo
  pub inside : Contains (open_after [] (events_by flow entries)) node
  pub hold : Hold
  pub declares : Contains (declared setup.program node.0) hold
  pub on : key_for setup (item_of setup flow) hold.class ≡ Some key
  pub as_ : hold.mode ≡ mode

-- at no moment are two flows in sections on one key, one of them a writer's
abbrev pub SectionsExclude : Setup → List Entry → Type 0
SectionsExclude setup entries = (before after : List Entry) → entries ≡ before ++ after
    → (flow other : ℕ) (key : Key) (own their : Mode) → flow ≢ other
    → IsInSection setup before flow key own → IsInSection setup before other key their
    → conflict own their ≡ false

-- both
pub record Excludes (setup : Setup) (entries : List Entry) : Type 0 where
  pub takes : TakesExclude entries
  pub sections : SectionsExclude setup entries
