-- How many events flows have at most, and how many they can still make.
use Rattle.std.specs.Prelude.{◌≡◌, ℕ, zero, suc, ◌+◌, ◌≤◌, Bool, true, false, if◌then◌else◌, List, ◌++◌, length, Option, Some, None}
use Rattle.std.specs.List.{slice_get, list_any, AllByRecursion}
use Rattle.flux_values.specs.declared.values.Value.{Value}
use Rattle.flux_values.specs.declared.answers.Answer.{Answer}
use Rattle.flux_values.specs.declared.answers.Mode.{Mode}
use Rattle.flux_model.specs.declared.programs.Node.{Node}
use Rattle.flux_model.specs.declared.programs.SourceLine.{SourceLine}
use Rattle.flow_model.specs.declared.journals.Entry.{Entry}
use Rattle.flow_model.specs.declared.journals.Event.{Event}
use Rattle.flow_model.specs.declared.journals.Event.TheVariants.{Take, Wait, Enter, Choose, Call, Exit, Drop, End}
use Rattle.flux_model.specs.declared.items.Item.{Item}
use Rattle.flow_model.specs.declared.journals.Key.{Key}
use Rattle.flow_model.specs.Setup.{Setup, item_of}
use Rattle.flow_model.specs.Walk.{Given, walk}
use Rattle.flux_model.specs.Sizes.{size_of, source_size}
use Rattle.flow_model.specs.Flows.{flow_events}
use Rattle.flow_model.specs.Events.{events_by, own_events, FollowsWalk}
use Rattle.flow_model.specs.Legal.{IsLegal}

-- the expanded size of an item's source; where there is none, its flow has no events
abbrev pub line_size : Setup → Option SourceLine → ℕ
line_size setup None = 0
line_size setup (Some line) = source_size setup.locks setup.program line

abbrev pub item_size : Setup → Option Item → ℕ
item_size setup None = 0
item_size setup (Some item) = line_size setup (slice_get setup.program.sources item.source.0)

abbrev pub flow_size : Setup → ℕ → ℕ
flow_size setup flow = item_size setup (item_of setup flow)

abbrev pub is_end : Event → Bool
is_end (End outcome) = true
is_end (Take key mode) = false
is_end (Wait key mode) = false
is_end (Enter node) = false
is_end (Choose place) = false
is_end (Call made) = false
is_end (Exit node outcome) = false
is_end (Drop key) = false

-- a flow that has its `end` makes no more events; a live one at most as many as its size
abbrev pub has_ended : List Entry → ℕ → Bool
has_ended entries flow = list_any is_end (events_by flow entries)

abbrev pub room_of : Setup → List Entry → ℕ → ℕ
room_of setup entries flow = if has_ended entries flow then 0 else flow_size setup flow

-- the sum over the flows below a number
abbrev pub sum_below : (ℕ → ℕ) → ℕ → ℕ
sum_below size zero = 0
sum_below size (suc flow) = sum_below size flow + size flow

-- an entry that isn't a wait
abbrev pub IsNoWait : Entry → Type 0
IsNoWait entry = (key : Key) (mode : Mode) → entry.event ≡ Wait key mode → ⊥

-- ---- laws

-- a node's walk, whatever its values and answers, has at most as many events as the node's expanded size
abbrev pub NodesAreBounded : Type 0
NodesAreBounded = (given : Given) (nodes : List Node) (number : ℕ) (values : List Value) (left : List Answer)
    → let walked = walk given nodes number values left in
    length walked.events ≤ size_of given.locks nodes number

-- a flow's events, whatever its answers, are at most as many as its source's expanded size
abbrev pub WalksAreBounded : Type 0
WalksAreBounded = (setup : Setup) (flow : ℕ) (answers : List Answer)
    → length (flow_events setup flow answers) ≤ flow_size setup flow

-- so are those of a flow that follows its walk
abbrev pub OwnEventsAreBounded : Type 0
OwnEventsAreBounded = (setup : Setup) (entries : List Entry) (flow : ℕ) → FollowsWalk setup entries flow
    → length (own_events entries flow) ≤ flow_size setup flow

-- a legal journal that goes on without waits has at most as many new entries as the sizes of the flows that were
-- live come to
abbrev pub GrowthIsBounded : Type 0
GrowthIsBounded = (setup : Setup) (entries more : List Entry) → IsLegal setup (entries ++ more)
    → AllByRecursion IsNoWait more → length more ≤ sum_below (room_of setup entries) (length setup.items)
