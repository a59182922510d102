-- Where flows are: what holds of their places. No promise cites it.
use Rattle.std.specs.Prelude.{◌≡◌, ℕ, Bool, true, false, List, [], ◌∷◌, length, Option, Some, None, IsSome, ⊤}
use Rattle.std.specs.List.{slice_get}
use Rattle.flux_values.specs.Meanings.{LibraryMeaning}
use Rattle.flux_model.specs.declared.programs.ClassNo.{ClassNo}
use Rattle.flux_model.specs.declared.programs.Program.{Program}
use Rattle.flux_model.specs.declared.programs.SourceLine.{SourceLine}
use Rattle.flow_model.specs.declared.journals.Key.{Key}
use Rattle.flow_model.specs.declared.journals.Event.{Event}
use Rattle.flow_model.specs.declared.journals.Event.TheVariants as events
use Rattle.flow_model.specs.declared.journals.Entry.{Entry}
use Rattle.flux_model.specs.declared.items.Item.{Item}
use Rattle.flow_model.specs.Setup.{Setup, item_of}
use Rattle.flow_model.specs.Keys.{session_number, class_key}
use Rattle.flow_model.specs.Matching.{patterns_match}
use Rattle.flow_model.specs.Events.{events_by}
use Rattle.flux_plan.specs.declared.plans.Plan.{Plan}
use Rattle.flux_plan.specs.declared.locals.Next.{Next}
use Rattle.flux_plan.specs.declared.locals.Next.TheVariants.{Take, Enter, Choose, Call, Exit, Drop, End, Ended}
use Rattle.flux_plan.specs.Machine.{Matches, Position}
use Rattle.flux_plan.specs.Moves.{next_in, IsEvent, called_in, IsReached, IsReachedBySome}
use Rattle.flux_plan.specs.Flows.{IsAt}
use Rattle.flow_state.specs.declared.places.Place.{Place}

-- which patterns match
abbrev pub matches_by : LibraryMeaning → Program → Matches
matches_by meaning p = patterns_match meaning p.predicates

abbrev pub matches_in : Setup → Matches
matches_in setup = matches_by setup.meaning setup.program

-- the plan that a flow follows: that of its item's source line
abbrev pub plan_of_item : List Plan → Option Item → Option Plan
plan_of_item plans None = None
plan_of_item plans (Some item) = slice_get plans item.source.0

-- a flow has a plan, of which this holds
pub record HasPlan (plans : List Plan) (items : List Item) (flow : ℕ) (Is : Plan → Type 0) : Type 0 where
  pub plan : Plan
  pub is_plan : plan_of_item plans (slice_get items flow) ≡ Some plan
  pub holds : Is plan

-- the event that comes next at a place may be made
pub record MayAdvance (plan : Plan) (matches : Matches) (position : Position) : Type 0 where
  pub reached : IsReached plan matches position
  pub event : IsEvent (next_in plan matches position)

-- the call that comes next at a place may be answered
pub record MayAnswer (plan : Plan) (position : Position) : Type 0 where
  pub reached : IsReachedBySome plan position
  pub call : IsSome (called_in plan position)

-- the key of a class in a session
abbrev pub key_in : Program → ℕ → ClassNo → Key
key_in p session class = class_key (slice_get p.classes class.0) class session

-- ---- places

abbrev pub is_wait : Event → Bool
is_wait (events.Wait key mode) = true
is_wait (events.Take key mode) = false
is_wait (events.Enter node) = false
is_wait (events.Choose place) = false
is_wait (events.Call made) = false
is_wait (events.Exit node outcome) = false
is_wait (events.Drop key) = false
is_wait (events.End outcome) = false

-- the last of some events is a wait
abbrev pub ends_waiting : Bool → List Event → Bool
ends_waiting before [] = before
ends_waiting before (event ∷ events) = ends_waiting (is_wait event) events

-- a flow is at its place
pub record IsPlaceOf (setup : Setup) (plans : List Plan) (entries : List Entry) (flow : ℕ) (place : Place)
    : Type 0 where
  pub item : Item
  pub is_item : item_of setup flow ≡ Some item
  pub line : SourceLine
  pub is_line : slice_get setup.program.sources item.source.0 ≡ Some line
  pub plan : Plan
  pub is_plan : plan_of_item plans (item_of setup flow) ≡ Some plan
  pub at : IsAt setup plan entries flow place.local
  pub session : place.session ≡ session_number setup.meaning line.session item.values
  pub stands : place.stands ≡ ends_waiting false (events_by flow entries)

-- one for each flow
pub record ArePlaces (setup : Setup) (plans : List Plan) (entries : List Entry) (places : List Place)
    : Type 0 where
  pub count : length places ≡ length setup.items
  pub each : (flow : ℕ) (place : Place) → slice_get places flow ≡ Some place
      → IsPlaceOf setup plans entries flow place

-- ---- what comes next

-- what comes next at a flow's place
pub record IsComing (setup : Setup) (plans : List Plan) (places : List Place) (flow : ℕ) (next : Next)
    : Type 0 where
  pub place : Place
  pub is_place : slice_get places flow ≡ Some place
  pub plan : Plan
  pub is_plan : plan_of_item plans (item_of setup flow) ≡ Some plan
  pub coming : next_in plan (matches_in setup) place.local ≡ Some next

-- the event that it is, with a session's keys; a call has one only with its answer
abbrev pub event_for : (ClassNo → Key) → Next → Option Event
event_for key (Take class mode) = Some (events.Take (key class) mode)
event_for key (Enter node) = Some (events.Enter node)
event_for key (Choose number) = Some (events.Choose number)
event_for key (Call node) = None
event_for key (Exit node outcome) = Some (events.Exit node outcome)
event_for key (Drop class) = Some (events.Drop (key class))
event_for key (End outcome) = Some (events.End outcome)
event_for key Ended = None

-- an event that changes no keys
abbrev pub IsQuiet : Event → Type 0
IsQuiet (events.Take key mode) = ⊥
IsQuiet (events.Wait key mode) = ⊥
IsQuiet (events.Enter node) = ⊤
IsQuiet (events.Choose place) = ⊤
IsQuiet (events.Call made) = ⊤
IsQuiet (events.Exit node outcome) = ⊤
IsQuiet (events.Drop key) = ⊥
IsQuiet (events.End outcome) = ⊤

-- an event comes next
pub record IsEventComing (setup : Setup) (plans : List Plan) (places : List Place) (flow : ℕ) (event : Event)
    : Type 0 where
  pub next : Next
  pub coming : IsComing setup plans places flow next
  pub event_ : let place = coming.place in
      event_for (key_in setup.program place.session) next ≡ Some event
