-- What a flow has taken and entered, as a stack, and which events it may make there.
use Rattle.std.proofs.Common.{◌≡◌, ◌<◌, ℕ, Bool, true, false, ◌⊎◌, inl, inr, List, [], ◌∷◌, ◌++◌, if◌then◌else◌, refl, ap, ◌∙◌}
use Rattle.std.specs.List.{Contains}
use Rattle.flux_values.specs.declared.answers.Mode.{Mode}
use Rattle.flux_model.specs.declared.programs.Hold.{Hold}
use Rattle.flux_model.specs.declared.programs.ClassNo.{ClassNo}
use Rattle.flux_model.specs.declared.programs.NodeNo.{NodeNo}
use Rattle.flow_model.specs.declared.journals.Key.{Key}
use Rattle.flow_model.specs.declared.journals.Event.{Event}
use Rattle.flow_model.specs.declared.journals.Event.TheVariants.{Take, Wait, Enter, Choose, Call, Exit, Drop, End}
use Rattle.flux_model.specs.Modes.{at_least}
use Rattle.flow_model.specs.Keys.{same_key}
use Rattle.flow_model.specs.Exclusion.{without_first, held_after, open_after}
use Rattle.flux_laws.proofs.Members.{In}

-- a flow that has begun; a key taken; a node entered
pub data Frame : Type 0 where
  begun : Frame
  taken : Key → Mode → Frame
  opened : NodeNo → Frame

-- the latest first
abbrev pub Stack : Type 0
Stack = List Frame

-- what an event makes of a stack
abbrev pub step : Stack → Event → Stack
step st (Take key mode) = taken key mode ∷ st
step st (Wait key mode) = st
step st (Enter node) = opened node ∷ st
step st (Choose place) = st
step st (Call made) = st
step st (Exit node outcome) = without_first st
step st (Drop key) = without_first st
step st (End outcome) = without_first st

-- and what events make of it
abbrev pub run : Stack → List Event → Stack
run st [] = st
run st (event ∷ events) = run (step st event) events

-- the key is held, in at least the mode
pub record Covers (st : Stack) (key : Key) (mode : Mode) : Type 0 where
  pub own : Mode
  pub held : In (taken key own) st
  pub enough : at_least own mode ≡ true

-- a class is above those of all that is held
abbrev pub IsAbove : Stack → ℕ → Type 0
IsAbove st class = (key : Key) (mode : Mode) → In (taken key mode) st → key.class.0 < class

-- a take goes upward, or is of what is held
abbrev pub MayTake : Stack → Key → Mode → Type 0
MayTake st key mode = Covers st key mode ⊎ IsAbove st key.class.0

-- something is on the stack
abbrev pub IsOn : Stack → Type 0
IsOn [] = ⊥
IsOn (frame ∷ st) = Unit {0}

-- the last frame
abbrev pub IsOpened : NodeNo → Stack → Type 0
IsOpened node [] = ⊥
IsOpened node (begun ∷ st) = ⊥
IsOpened node (taken key mode ∷ st) = ⊥
IsOpened node (opened other ∷ st) = other ≡ node

-- the key that was taken last
abbrev pub IsTaken : Key → Stack → Type 0
IsTaken key [] = ⊥
IsTaken key (begun ∷ st) = ⊥
IsTaken key (taken other mode ∷ st) = other ≡ key
IsTaken key (opened other ∷ st) = ⊥

-- nothing but the begin
abbrev pub IsBegun : Stack → Type 0
IsBegun [] = ⊥
IsBegun (begun ∷ st) = st ≡ []
IsBegun (taken other mode ∷ st) = ⊥
IsBegun (opened other ∷ st) = ⊥

-- what a node declares is held
abbrev pub AreCovered : (ClassNo → Key) → Stack → List Hold → Type 0
AreCovered key st holds = (hold : Hold) → Contains holds hold → Covers st (key hold.class) hold.mode

module _ (key : ClassNo → Key) (declares : ℕ → List Hold) where
  -- an event may be made where its takes go upward, where what its node declares is held, or where it ends what came last
  abbrev pub Allowed : Stack → Event → Type 0
  Allowed st (Take k mode) = MayTake st k mode
  Allowed st (Wait k mode) = ⊥
  Allowed st (Enter node) = AreCovered key st (declares node.0)
  Allowed st (Choose place) = Unit {0}
  Allowed st (Call made) = IsOpened made.node st
  Allowed st (Exit node outcome) = IsOpened node st
  Allowed st (Drop k) = IsTaken k st
  Allowed st (End outcome) = IsBegun st

  -- each event may be made where it is
  abbrev pub Runs : Stack → List Event → Type 0
  Runs st [] = Unit {0}
  Runs st (event ∷ events) = IsOn st × Allowed st event × Runs (step st event) events

-- events one after another
pub run-append : (st : Stack) (a b : List Event) → run st (a ++ b) ≡ run (run st a) b
run-append st [] b = refl
run-append st (e ∷ a) b = run-append (step st e) a b

-- each may be made where it is
pub runs-append : (key : ClassNo → Key) (declares : ℕ → List Hold) (st : Stack) (a b : List Event) → Runs key declares st a → Runs key declares (run st a) b → Runs key declares st (a ++ b)
runs-append key declares st [] b first more = more
runs-append key declares st (e ∷ a) b (on, allowed, first) more = (on, allowed, runs-append key declares (step st e) a b first more)

-- so may those of a front
pub runs-front : (key : ClassNo → Key) (declares : ℕ → List Hold) (st : Stack) (a b : List Event) → Runs key declares st (a ++ b) → Runs key declares st a
runs-front key declares st [] b all = tt
runs-front key declares st (e ∷ a) b (on, allowed, all) = (on, allowed, runs-front key declares (step st e) a b all)

-- and of the rest
pub runs-rest : (key : ClassNo → Key) (declares : ℕ → List Hold) (st : Stack) (a b : List Event) → Runs key declares st (a ++ b) → Runs key declares (run st a) b
runs-rest key declares st [] b all = all
runs-rest key declares st (e ∷ a) b (on, allowed, all) = runs-rest key declares (step st e) a b all

-- ---- what is held and open

-- the modes in which a key was taken, the latest first
abbrev pub modes_in : Key → Stack → List Mode
modes_in key [] = []
modes_in key (begun ∷ st) = modes_in key st
modes_in key (taken other mode ∷ st) = if same_key other key then mode ∷ modes_in key st else modes_in key st
modes_in key (opened node ∷ st) = modes_in key st

-- the nodes that are open, the latest first
abbrev pub nodes_in : Stack → List NodeNo
nodes_in [] = []
nodes_in (begun ∷ st) = nodes_in st
nodes_in (taken other mode ∷ st) = nodes_in st
nodes_in (opened node ∷ st) = node ∷ nodes_in st

-- after a drop of the key that was taken last, what was held before is held
dropped : (k key other : Key) (mode : Mode) (modes : List Mode) → other ≡ key
    → (if same_key key k then without_first (if same_key other k then mode ∷ modes else modes) else (if same_key other k then mode ∷ modes else modes)) ≡ modes
dropped k key other mode modes same = rw same (by (same_key key k))
  where
    by : (b : Bool) → (if b then without_first (if b then mode ∷ modes else modes) else (if b then mode ∷ modes else modes)) ≡ modes
    by true = refl
    by false = refl

module _ (key : ClassNo → Key) (declares : ℕ → List Hold) (k : Key) where
  -- what a flow holds of a key is what its stack has of it
  pub held-run : (st : Stack) (events : List Event) → Runs key declares st events → held_after k (modes_in k st) events ≡ modes_in k (run st events)
  held-run st [] runs = refl
  held-run st (Take other mode ∷ events) (on, allowed, runs) = held-run (taken other mode ∷ st) events runs
  held-run st (Wait other mode ∷ events) (on, allowed, runs) = absurd allowed
  held-run st (Enter node ∷ events) (on, allowed, runs) = held-run (opened node ∷ st) events runs
  held-run st (Choose place ∷ events) (on, allowed, runs) = held-run st events runs
  held-run st (Call made ∷ events) (on, allowed, runs) = held-run st events runs
  held-run [] (Exit node outcome ∷ events) (on, allowed, runs) = absurd on
  held-run (begun ∷ st) (Exit node outcome ∷ events) (on, allowed, runs) = absurd allowed
  held-run (taken other mode ∷ st) (Exit node outcome ∷ events) (on, allowed, runs) = absurd allowed
  held-run (opened other ∷ st) (Exit node outcome ∷ events) (on, allowed, runs) = held-run st events runs
  held-run [] (Drop key ∷ events) (on, allowed, runs) = absurd on
  held-run (begun ∷ st) (Drop key ∷ events) (on, allowed, runs) = absurd allowed
  held-run (opened other ∷ st) (Drop key ∷ events) (on, allowed, runs) = absurd allowed
  held-run (taken other mode ∷ st) (Drop key ∷ events) (on, allowed, runs) =
      ap (λ modes. held_after k modes events) (dropped k key other mode (modes_in k st) allowed) ∙ held-run st events runs
  held-run [] (End outcome ∷ events) (on, allowed, runs) = absurd on
  held-run (taken other mode ∷ st) (End outcome ∷ events) (on, allowed, runs) = absurd allowed
  held-run (opened other ∷ st) (End outcome ∷ events) (on, allowed, runs) = absurd allowed
  held-run (begun ∷ st) (End outcome ∷ events) (on, allowed, runs) = held-run st events runs

module _ (key : ClassNo → Key) (declares : ℕ → List Hold) where
  -- the nodes that a flow has entered and not left are those of its stack
  pub open-run : (st : Stack) (events : List Event) → Runs key declares st events → open_after (nodes_in st) events ≡ nodes_in (run st events)
  open-run st [] runs = refl
  open-run st (Take other mode ∷ events) (on, allowed, runs) = open-run (taken other mode ∷ st) events runs
  open-run st (Wait other mode ∷ events) (on, allowed, runs) = absurd allowed
  open-run st (Enter node ∷ events) (on, allowed, runs) = open-run (opened node ∷ st) events runs
  open-run st (Choose place ∷ events) (on, allowed, runs) = open-run st events runs
  open-run st (Call made ∷ events) (on, allowed, runs) = open-run st events runs
  open-run [] (Exit node outcome ∷ events) (on, allowed, runs) = absurd on
  open-run (begun ∷ st) (Exit node outcome ∷ events) (on, allowed, runs) = absurd allowed
  open-run (taken other mode ∷ st) (Exit node outcome ∷ events) (on, allowed, runs) = absurd allowed
  open-run (opened other ∷ st) (Exit node outcome ∷ events) (on, allowed, runs) = open-run st events runs
  open-run [] (Drop other ∷ events) (on, allowed, runs) = absurd on
  open-run (begun ∷ st) (Drop other ∷ events) (on, allowed, runs) = absurd allowed
  open-run (opened node ∷ st) (Drop other ∷ events) (on, allowed, runs) = absurd allowed
  open-run (taken own mode ∷ st) (Drop other ∷ events) (on, allowed, runs) = open-run st events runs
  open-run [] (End outcome ∷ events) (on, allowed, runs) = absurd on
  open-run (taken other mode ∷ st) (End outcome ∷ events) (on, allowed, runs) = absurd allowed
  open-run (opened other ∷ st) (End outcome ∷ events) (on, allowed, runs) = absurd allowed
  open-run (begun ∷ st) (End outcome ∷ events) (on, allowed, runs) = open-run st events runs

-- ---- what open nodes declare is held

-- what is covered stays so under one frame more
pub covers-under : (frame : Frame) (st : Stack) (k : Key) (mode : Mode) → Covers st k mode → Covers (frame ∷ st) k mode
covers-under frame st k mode covers = record { own = covers.own; held = inr covers.held; enough = covers.enough }

module _ (key : ClassNo → Key) (declares : ℕ → List Hold) where
  -- each open node has what it declares below it
  abbrev pub IsGood : Stack → Type 0
  IsGood [] = Unit {0}
  IsGood (begun ∷ st) = IsGood st
  IsGood (taken other mode ∷ st) = IsGood st
  IsGood (opened node ∷ st) = AreCovered key st (declares node.0) × IsGood st

  good-under : (st : Stack) → IsGood st → IsGood (without_first st)
  good-under [] good = tt
  good-under (begun ∷ st) good = good
  good-under (taken other mode ∷ st) good = good
  good-under (opened node ∷ st) (own, good) = good

  good-step : (st : Stack) (event : Event) → Allowed key declares st event → IsGood st → IsGood (step st event)
  good-step st (Take other mode) allowed good = good
  good-step st (Wait other mode) allowed good = good
  good-step st (Enter node) allowed good = (allowed, good)
  good-step st (Choose place) allowed good = good
  good-step st (Call made) allowed good = good
  good-step st (Exit node outcome) allowed good = good-under st good
  good-step st (Drop other) allowed good = good-under st good
  good-step st (End outcome) allowed good = good-under st good

  -- what open nodes declare stays held
  pub good-run : (st : Stack) (events : List Event) → Runs key declares st events → IsGood st → IsGood (run st events)
  good-run st [] runs good = good
  good-run st (event ∷ events) (on, allowed, runs) good = good-run (step st event) events runs (good-step st event allowed good)

  -- so what an open node declares is held
  pub good-open : (st : Stack) (node : NodeNo) → IsGood st → In node (nodes_in st) → AreCovered key st (declares node.0)
  good-open [] node good is hold declared = absurd is
  good-open (begun ∷ st) node good is hold declared = covers-under begun st (key hold.class) hold.mode (good-open st node good is hold declared)
  good-open (taken other mode ∷ st) node good is hold declared = covers-under (taken other mode) st (key hold.class) hold.mode (good-open st node good is hold declared)
  good-open (opened other ∷ st) node (own, good) (inl same) hold declared = covers-under (opened other) st (key hold.class) hold.mode (own hold (rw same declared))
  good-open (opened other ∷ st) node (own, good) (inr is) hold declared = covers-under (opened other) st (key hold.class) hold.mode (good-open st node good is hold declared)
