-- One flow's place in a plan: what comes next there, and which place follows. Places are at rest: the machine's silent
-- steps are done already.
use Rattle.std.specs.Prelude.{◌≡◌, ℕ, zero, suc, List, [], ◌∷◌, Option, Some, None, IsSome, ⊤}
use Rattle.std.specs.List.{slice_get}
use Rattle.flux_values.specs.declared.values.Value.{Value}
use Rattle.flux_values.specs.declared.answers.Answer.{Answer}
use Rattle.flux_model.specs.declared.programs.NodeNo.{NodeNo}
use Rattle.flux_model.specs.declared.programs.ClassNo.{ClassNo}
use Rattle.flow_model.specs.declared.journals.Key.{Key}
use Rattle.flow_model.specs.declared.journals.Event.{Event}
use Rattle.flux_plan.specs.declared.plans.Plan.{Plan}
use Rattle.flux_plan.specs.declared.plans.Segment.{Segment}
use Rattle.flux_plan.specs.declared.plans.Instr.{Instr}
use Rattle.flux_plan.specs.declared.plans.Instr.TheVariants as instrs
use Rattle.flux_plan.specs.declared.stacks.Frame.{Frame}
use Rattle.flux_plan.specs.declared.locals.Next.{Next}
use Rattle.flux_plan.specs.declared.locals.Next.TheVariants.{Take, Enter, Choose, Call, Exit, Drop, End, Ended}
use Rattle.flux_plan.specs.Machine.{State, Act, takes, enters, chooses, exits, drops, ends, Step, silent, acts, calls, ended, stuck, Matches, step, answered, Position, fresh, at, state_in, beginning}
use Rattle.flux_plan.specs.Runs.{on_the_way, run}

-- ---- what comes next

abbrev pub next_act : Act → Next
next_act (takes class mode) = Take class mode
next_act (enters node) = Enter node
next_act (chooses number) = Choose number
next_act (exits node outcome) = Exit node outcome
next_act (drops class) = Drop class
next_act (ends outcome) = End outcome

-- what comes next by a step; for a silent step it is by those after it
abbrev pub next_by : Step → Option Next
next_by (silent state) = None
next_by (acts act state) = Some (next_act act)
next_by (calls node) = Some (Call node)
next_by ended = Some Ended
next_by stuck = None

-- what comes next at a place in a plan
abbrev pub next_in : Plan → Matches → Position → Option Next
next_in plan matches position = next_by (step plan.segments matches (state_in plan position))

-- it is an event, and neither a call nor nothing
abbrev pub IsEvent : Option Next → Type 0
IsEvent None = ⊥
IsEvent (Some (Take class mode)) = ⊤
IsEvent (Some (Enter node)) = ⊤
IsEvent (Some (Choose number)) = ⊤
IsEvent (Some (Call node)) = ⊥
IsEvent (Some (Exit node outcome)) = ⊤
IsEvent (Some (Drop class)) = ⊤
IsEvent (Some (End outcome)) = ⊤
IsEvent (Some Ended) = ⊥

-- the node that is called, where a call comes next, whatever patterns match
abbrev pub called_by : Frame → Option Instr → Option NodeNo
called_by frame (Some instrs.Call) = Some frame.node
called_by frame other = None

abbrev pub code_of : Option Segment → List Instr
code_of None = []
code_of (Some segment) = segment.code

abbrev pub called_over : List Segment → List Frame → Option NodeNo
called_over segments [] = None
called_over segments (frame ∷ below) =
    called_by frame (slice_get (code_of (slice_get segments frame.node.0)) frame.place)

abbrev pub called_in : Plan → Position → Option NodeNo
called_in plan position = let state = state_in plan position in called_over plan.segments state.frames

-- ---- places that a run reaches

-- a flow that has begun is at rest
abbrev pub IsAtRest : Plan → Matches → Position → Type 0
IsAtRest plan matches (fresh values) = ⊤
IsAtRest plan matches (at state) = IsSome (next_in plan matches (at state))

-- from its beginning with these values a run has come to this place, with these events, by exactly these answers
pub record HasReached (plan : Plan) (key : ClassNo → Key) (matches : Matches) (values : List Value)
    (answers : List Answer) (events : List Event) (position : Position) : Type 0 where
  pub steps : ℕ
  pub reached : run plan.segments key matches steps (beginning plan values) answers
      ≡ record { events = events; standing = on_the_way (state_in plan position) [] }
  pub rests : IsAtRest plan matches position

-- some run reaches this place
pub record IsReached (plan : Plan) (matches : Matches) (position : Position) : Type 0 where
  pub key : ClassNo → Key
  pub values : List Value
  pub answers : List Answer
  pub events : List Event
  pub has : HasReached plan key matches values answers events position

-- some run reaches it, whatever patterns match
pub record IsReachedBySome (plan : Plan) (position : Position) : Type 0 where
  pub matches : Matches
  pub reached : IsReached plan matches position

-- ---- which place follows

-- so many silent steps, or fewer where a state is at rest before
abbrev pub after_silence : (State → State) → State → Step → State
after_silence more state (silent next) = more next
after_silence more state (acts act next) = state
after_silence more state (calls node) = state
after_silence more state ended = state
after_silence more state stuck = state

abbrev pub settled : List Segment → Matches → ℕ → State → State
settled segments matches zero state = state
settled segments matches (suc steps) state =
    after_silence (settled segments matches steps) state (step segments matches state)

-- the event that comes next at a place is made, and then silent steps up to a place at rest
pub record Advances (plan : Plan) (matches : Matches) (old new : Position) : Type 0 where
  pub act : Act
  pub after : State
  pub made : step plan.segments matches (state_in plan old) ≡ acts act after
  pub steps : ℕ
  pub new_ : state_in plan new ≡ settled plan.segments matches steps after
  pub rests : IsSome (next_in plan matches new)

-- the call that comes next at a place has been answered; the place after it is at rest, whatever patterns match
abbrev pub answered_in : Plan → Position → Answer → Position
answered_in plan position answer = at (answered (state_in plan position) answer)

pub record IsAnswered (plan : Plan) (old : Position) (answer : Answer) (new : Position) : Type 0 where
  pub new_ : new ≡ answered_in plan old answer
  pub rests : (matches : Matches) → IsSome (next_in plan matches new)
