-- What a flow has done in a journal, and what it does next.
use Rattle.std.specs.Prelude.{◌≡◌, ℕ, ◌<◌, ◌==◌, if◌then◌else◌, List, [], ◌∷◌, ◌++◌, length}
use Rattle.std.specs.List.{flat_map, Contains}
use Rattle.flux_values.specs.declared.values.Value.{Value}
use Rattle.flux_values.specs.declared.answers.Answer.{Answer}
use Rattle.flux_model.specs.declared.programs.NodeNo.{NodeNo}
use Rattle.flow_model.specs.declared.journals.Outcome.{Outcome}
use Rattle.flow_model.specs.declared.journals.Event.{Event}
use Rattle.flow_model.specs.declared.journals.Event.TheVariants.{Take, Wait, Enter, Choose, Call, Exit, Drop, End}
use Rattle.flow_model.specs.declared.journals.Entry.{Entry}
use Rattle.flux_model.specs.declared.items.FlowNo.{FlowNo}
use Rattle.flow_model.specs.Setup.{Setup}
use Rattle.flow_model.specs.Walk.{before_call}
use Rattle.flow_model.specs.Flows.{flow_walk, flow_events, IsFinished}

-- an event, unless it is a wait
abbrev pub unless_wait : Event → List Event
unless_wait (Wait key mode) = []
unless_wait (Take key mode) = Take key mode ∷ []
unless_wait (Enter node) = Enter node ∷ []
unless_wait (Choose place) = Choose place ∷ []
unless_wait (Call made) = Call made ∷ []
unless_wait (Exit node outcome) = Exit node outcome ∷ []
unless_wait (Drop key) = Drop key ∷ []
unless_wait (End outcome) = End outcome ∷ []

-- the answer of a call
abbrev pub answer_in : Event → List Answer
answer_in (Call made) = made.answer ∷ []
answer_in (Take key mode) = []
answer_in (Wait key mode) = []
answer_in (Enter node) = []
answer_in (Choose place) = []
answer_in (Exit node outcome) = []
answer_in (Drop key) = []
answer_in (End outcome) = []

-- the events of one flow, in order
abbrev pub events_by : ℕ → List Entry → List Event
events_by flow [] = []
events_by flow (entry ∷ entries) =
    if entry.flow.0 == flow then entry.event ∷ events_by flow entries else events_by flow entries

-- a flow's own events, without its waits
abbrev pub own_events : List Entry → ℕ → List Event
own_events entries flow = flat_map unless_wait (events_by flow entries)

-- the answers in its calls
abbrev pub own_answers : List Entry → ℕ → List Answer
own_answers entries flow = flat_map answer_in (events_by flow entries)

-- the flow has followed its walk, so far as its own answers go
pub record FollowsWalk (setup : Setup) (entries : List Entry) (flow : ℕ) : Type 0 where
  pub rest : List Event
  pub prefix : flow_events setup flow (own_answers entries flow) ≡ own_events entries flow ++ rest

-- the flow's next event, by its walk on its own answers
pub record IsNext (setup : Setup) (entries : List Entry) (flow : ℕ) (event : Event) : Type 0 where
  pub rest : List Event
  pub next : flow_events setup flow (own_answers entries flow) ≡ own_events entries flow ++ event ∷ rest

-- the flow's next event is a call of a node on these values: its walk on its own answers stops exactly there
pub record CallIsNext (setup : Setup) (entries : List Entry) (flow : ℕ) (node : NodeNo) (args : List Value)
    : Type 0 where
  pub all : flow_events setup flow (own_answers entries flow) ≡ own_events entries flow
  pub stops : let walked = flow_walk setup flow (own_answers entries flow) in walked.stop ≡ before_call node args

-- an entry is in a list, after these and before those
abbrev pub Stands : List Entry → List Entry → FlowNo → Event → List Entry → Type 0
Stands entries before flow event after =
    entries ≡ before ++ record { flow = flow; event = event } ∷ after

-- an item's flow is live as long as it has no `end`
pub record IsLive (setup : Setup) (entries : List Entry) (flow : ℕ) : Type 0 where
  pub item : flow < length setup.items
  pub goes_on : (outcome : Outcome) → Contains (events_by flow entries) (End outcome) → ⊥

-- the flow is one whole path: all of its finished walk on its own answers
pub record IsWholePath (setup : Setup) (entries : List Entry) (flow : ℕ) : Type 0 where
  pub finished : IsFinished setup flow (own_answers entries flow)
  pub all : own_events entries flow ≡ flow_events setup flow (own_answers entries flow)
