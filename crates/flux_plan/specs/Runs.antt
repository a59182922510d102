-- The run of a plan from its beginning, given the answers of its calls; and plans of walks.
use Rattle.std.specs.Prelude.{◌≡◌, ℕ, zero, suc, List, [], ◌∷◌, ⊤}
use Rattle.flux_values.specs.declared.values.Value.{Value}
use Rattle.flux_values.specs.declared.answers.Answer.{Answer}
use Rattle.flux_model.specs.declared.programs.NodeNo.{NodeNo}
use Rattle.flux_model.specs.declared.programs.ClassNo.{ClassNo}
use Rattle.flux_model.specs.declared.programs.SourceLine.{SourceLine}
use Rattle.flux_model.specs.declared.programs.Program.{Program}
use Rattle.flow_model.specs.declared.journals.Key.{Key}
use Rattle.flow_model.specs.declared.journals.Event.{Event}
use Rattle.flow_model.specs.declared.journals.Event.TheVariants as events
use Rattle.flux_model.specs.Locks.{AreLocks}
use Rattle.flow_model.specs.Walk.{Given, Stop, Walked, walk}
use Rattle.flow_model.specs.Walk as walks
use Rattle.flow_model.specs.Flows.{with_end}
use Rattle.flux_plan.specs.declared.plans.Plan.{Plan}
use Rattle.flux_plan.specs.declared.plans.Segment.{Segment}
use Rattle.flux_plan.specs.Machine.{State, Act, takes, enters, chooses, exits, drops, ends, Step, silent, acts, calls, ended, stuck, Matches, step, answered, beginning}

-- what a run does is an event of a journal, with keys for classes
abbrev pub event_of : (ClassNo → Key) → Act → Event
event_of key (takes class mode) = events.Take (key class) mode
event_of key (enters node) = events.Enter node
event_of key (chooses number) = events.Choose number
event_of key (exits node outcome) = events.Exit node outcome
event_of key (drops class) = events.Drop (key class)
event_of key (ends outcome) = events.End outcome

-- where a run is: it has ended; it is before a call of a node on values, and no answer is left for that; the plan has
-- no instruction there; or it is on its way, with these answers left
pub data Standing : Type 0 where
  at_end : Standing
  at_call : NodeNo → List Value → Standing
  nowhere : Standing
  on_the_way : State → List Answer → Standing

-- the events of a run, and where it is then
pub record Ran : Type 0 where
  pub events : List Event
  pub standing : Standing

abbrev pub stands : Standing → Ran
stands standing = record { events = []; standing = standing }

abbrev pub after_event : Event → Ran → Ran
after_event event ran = record { events = event ∷ ran.events; standing = ran.standing }

-- a call takes the first answer that is left
abbrev pub run_call : (State → List Answer → Ran) → State → NodeNo → List Answer → Ran
run_call more state node [] = stands (at_call node state.values)
run_call more state node (answer ∷ left) =
    after_event
    (events.Call (record { node = node; args = state.values; answer = answer }))
    (more (answered state answer) left)

abbrev pub run_step : (State → List Answer → Ran) → (ClassNo → Key) → State → List Answer → Step → Ran
run_step more key state answers (silent next) = more next answers
run_step more key state answers (acts act next) = after_event (event_of key act) (more next answers)
run_step more key state answers (calls node) = run_call more state node answers
run_step more key state answers ended = stands at_end
run_step more key state answers stuck = stands nowhere

-- so many steps from a state on, or fewer where it halts before
abbrev pub run : List Segment → (ClassNo → Key) → Matches → ℕ → State → List Answer → Ran
run segments key matches zero state answers = stands (on_the_way state answers)
run segments key matches (suc steps) state answers =
    run_step (run segments key matches steps) key state answers (step segments matches state)

-- ---- plans of walks

-- a run halts where a walk stops
abbrev pub still : Stop → Standing
still (walks.finished end_) = at_end
still (walks.before_call node args) = at_call node args
still walks.nowhere = nowhere

-- a walk as a run: its events with its `end`, and where it stops
abbrev pub run_of : Walked → Ran
run_of walked = record { events = with_end walked; standing = still walked.stop }

-- after some number of steps the plan has made exactly the events of a walk, and is where that stops
pub record RunsAs (plan : Plan) (given : Given) (values : List Value) (answers : List Answer) (walked : Walked)
    : Type 0 where
  pub steps : ℕ
  pub same : run plan.segments given.key given.matches steps (beginning plan values) answers
      ≡ run_of walked

-- a plan is that of a target in a program where on every list of values and answers it runs as the target's walk, with
-- the program's locks, whatever the keys of classes are and whatever patterns match
pub record IsPlanOf (p : Program) (target : NodeNo) (plan : Plan) : Type 0 where
  pub runs : (given : Given) → AreLocks p given.locks → (values : List Value) (answers : List Answer)
      → RunsAs plan given values answers (walk given p.nodes target.0 values answers)

-- one plan for the target of each source line
abbrev pub AreLinePlans : Program → List SourceLine → List Plan → Type 0
AreLinePlans p [] [] = ⊤
AreLinePlans p [] (plan ∷ plans) = ⊥
AreLinePlans p (line ∷ lines) [] = ⊥
AreLinePlans p (line ∷ lines) (plan ∷ plans) =
    IsPlanOf p line.target plan × AreLinePlans p lines plans

-- the plans of a program
abbrev pub ArePlansOf : Program → List Plan → Type 0
ArePlansOf p plans = AreLinePlans p p.sources plans
