-- Which takes and drops come next, by what a flow holds.
use Rattle.std.specs.Prelude.{◌≡◌, ℕ, ◌<◌, ◌⊎◌, true, List, [], ◌∷◌, ◌++◌}
use Rattle.std.specs.List.{Contains}
use Rattle.flux_values.specs.declared.answers.Mode.{Mode}
use Rattle.flow_model.specs.declared.journals.Entry.{Entry}
use Rattle.flow_model.specs.declared.journals.Event.TheVariants.{Take, Drop}
use Rattle.flow_model.specs.declared.journals.Key.{Key}
use Rattle.flow_model.specs.Setup.{Setup}
use Rattle.flux_model.specs.Modes.{at_least}
use Rattle.flux_model.specs.Locks.{AreLocks}
use Rattle.flow_model.specs.Events.{FollowsWalk, IsNext}
use Rattle.flow_model.specs.Exclusion.{modes_held, HoldsKey}
use Rattle.flow_model.specs.Waits.{StandsAt, WaitsAreRight}

-- the flow holds the key in at least a mode
pub record HoldsEnough (entries : List Entry) (flow : ℕ) (key : Key) (mode : Mode) : Type 0 where
  pub own : Mode
  pub held : Contains (modes_held entries flow key) own
  pub enough : at_least own mode ≡ true

-- all that the flow holds is of lesser classes
abbrev pub HoldsBelow : List Entry → ℕ → ℕ → Type 0
HoldsBelow entries flow class =
    (key : Key) (own : Mode) → Contains (modes_held entries flow key) own → key.class.0 < class

-- with the program's locks, a flow's next take is of a key that it holds in at least that mode, or of a class above
-- those of all that it holds
abbrev pub TakesGoUp : Type 0
TakesGoUp = (setup : Setup) (entries : List Entry) → AreLocks setup.program setup.locks
    → (flow : ℕ) (key : Key) (mode : Mode) → IsNext setup entries flow (Take key mode)
    → HoldsEnough entries flow key mode ⊎ HoldsBelow entries flow key.class.0

-- a flow's next drop is of a key that it holds
abbrev pub DropsAreHeld : Type 0
DropsAreHeld = (setup : Setup) (entries : List Entry) → AreLocks setup.program setup.locks
    → (flow : ℕ) (key : Key) → IsNext setup entries flow (Drop key) → HoldsKey entries flow key

-- of the takes of a key that a flow hasn't dropped, the first is in the greatest mode
abbrev pub FirstTakesAreGreatest : Type 0
FirstTakesAreGreatest = (setup : Setup) (entries : List Entry) → AreLocks setup.program setup.locks
    → (flow : ℕ) → FollowsWalk setup entries flow → (key : Key) (later : List Mode) (first : Mode)
    → modes_held entries flow key ≡ later ++ first ∷ []
    → (mode : Mode) → Contains later mode → at_least first mode ≡ true

-- where waits are right, a flow that waits at a key in a mode takes it in that mode next
abbrev pub StandersTakeNext : Type 0
StandersTakeNext = (setup : Setup) (entries : List Entry) → WaitsAreRight setup entries
    → (flow : ℕ) (key : Key) (mode : Mode) (place : ℕ) → StandsAt entries flow key mode place
    → IsNext setup entries flow (Take key mode)
