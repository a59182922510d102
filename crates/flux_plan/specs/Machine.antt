-- What a plan does: a machine with a stack, and one step of it, by cases on the instruction that comes next.
use Rattle.std.specs.Prelude.{ℕ, ◌+◌, Bool, if◌then◌else◌, List, [], ◌∷◌, Option, Some, None}
use Rattle.std.specs.List.{slice_get}
use Rattle.flux_values.specs.declared.values.Value.{Value}
use Rattle.flux_values.specs.declared.answers.Mode.{Mode}
use Rattle.flux_values.specs.declared.answers.Answer.{Answer}
use Rattle.flux_values.specs.declared.answers.CallResult.{CallResult}
use Rattle.flux_values.specs.declared.answers.CallResult.TheVariants as results
use Rattle.flux_model.specs.declared.programs.NodeNo.{NodeNo}
use Rattle.flux_model.specs.declared.programs.ClassNo.{ClassNo}
use Rattle.flux_model.specs.declared.programs.HandleArm.{HandleArm}
use Rattle.flow_model.specs.declared.journals.Outcome.{Outcome}
use Rattle.flow_model.specs.declared.journals.Outcome.TheVariants.{Good, Over, Bad}
use Rattle.flow_model.specs.Matching.{handler_for}
use Rattle.flux_plan.specs.declared.plans.Plan.{Plan}
use Rattle.flux_plan.specs.declared.plans.Segment.{Segment}
use Rattle.flux_plan.specs.declared.plans.Arm.{Arm}
use Rattle.flux_plan.specs.declared.plans.Instr.{Instr}
use Rattle.flux_plan.specs.declared.plans.Instr.TheVariants.{Take, Enter, Choose, Go, Leave, Call, Exit, Drop, Handle, EndHandle, Return}
use Rattle.flux_plan.specs.declared.stacks.Frame.{Frame}

-- ---- states

-- the frames of the nodes that were entered and not left, the innermost first; the values at hand; and how all came out
-- so far
pub record State : Type 0 where
  pub frames : List Frame
  pub values : List Value
  pub outcome : Outcome

-- a node is entered with values, while all is well, over these frames
abbrev pub entering : NodeNo → List Value → List Frame → State
entering node values below = record {
  frames = record { node = node; place = 0; inputs = values } ∷ below;
  values = values;
  outcome = Good;
}

-- a flow begins with a frame of the target
abbrev pub beginning : Plan → List Value → State
beginning plan values = entering plan.target values []

-- the same frame at another place of its segment
abbrev pub at_place : Frame → ℕ → Frame
at_place frame place = record { node = frame.node; place = place; inputs = frame.inputs }

-- the frame goes to a place
abbrev pub going_to : ℕ → Frame → List Frame → List Value → Outcome → State
going_to place frame below values outcome =
    record { frames = at_place frame place ∷ below; values = values; outcome = outcome }

-- ---- steps

-- what a flow does that others can see, but for its calls
pub data Act : Type 0 where
  takes : ClassNo → Mode → Act
  enters : NodeNo → Act
  chooses : ℕ → Act
  exits : NodeNo → Outcome → Act
  drops : ClassNo → Act
  ends : Outcome → Act

-- one step of a state: to another without an event; or with one; a call of a node, which waits for its answer; nothing,
-- where no frame is left; or nothing, where the plan has no instruction there
pub data Step : Type 0 where
  silent : State → Step
  acts : Act → State → Step
  calls : NodeNo → Step
  ended : Step
  stuck : Step

-- which patterns match which values
abbrev pub Matches : Type 0
Matches = List (Option ℕ) → List Value → Bool

-- the first arm that matches, with its place, counted from this one
abbrev pub first_arm : (List (Option ℕ) → Bool) → ℕ → List Arm → Option (ℕ × Arm)
first_arm fits number [] = None
first_arm fits number (arm ∷ arms) =
    if fits arm.patterns then Some (number, arm) else first_arm fits (number + 1) arms

-- to the first arm that matches; where there is none, the outcome is failure with code 256, and it goes to `exit`
abbrev pub chosen : ℕ → Frame → List Frame → List Value → Outcome → Option (ℕ × Arm) → Step
chosen exit frame below values outcome None = silent (going_to exit frame below values (Bad 256))
chosen exit frame below values outcome (Some (number, arm)) =
    acts (chooses number) (going_to arm.to frame below values outcome)

-- while all is well, a node is entered with the values, and this frame goes on after it; with another outcome it goes to
-- `exit`
abbrev pub gone : ℕ → Frame → List Frame → List Value → NodeNo → Outcome → Step
gone exit frame below values node Good =
    silent (entering node values (at_place frame (frame.place + 1) ∷ below))
gone exit frame below values node Over = silent (going_to exit frame below values Over)
gone exit frame below values node (Bad code) = silent (going_to exit frame below values (Bad code))

-- a failure's handler is entered with the frame's inputs, all being well again; where there is none, it goes two places on
abbrev pub handled : Frame → List Frame → List Value → ℕ → Option NodeNo → Step
handled frame below values code None =
    silent (going_to (frame.place + 2) frame below values (Bad code))
handled frame below values code (Some handler) =
    silent (entering handler frame.inputs (at_place frame (frame.place + 1) ∷ below))

abbrev pub handles : Frame → List Frame → List Value → List HandleArm → Outcome → Step
handles frame below values arms Good =
    silent (going_to (frame.place + 2) frame below values Good)
handles frame below values arms Over =
    silent (going_to (frame.place + 2) frame below values Over)
handles frame below values arms (Bad code) =
    handled frame below values code (handler_for arms code)

-- after a handler that came out well all is over
abbrev pub over_after : Outcome → Outcome
over_after Good = Over
over_after Over = Over
over_after (Bad code) = Bad code

-- the frame is gone; with the last one the flow ends
abbrev pub returned : List Frame → List Value → Outcome → Step
returned [] values outcome =
    acts (ends outcome) (record { frames = []; values = values; outcome = outcome })
returned (frame ∷ below) values outcome =
    silent (record { frames = frame ∷ below; values = values; outcome = outcome })

-- the step of an instruction, for the innermost frame and those below it, in a segment with this `exit`
abbrev pub obeyed : Matches → ℕ → Frame → List Frame → List Value → Outcome → Instr → Step
obeyed matches exit frame below values outcome (Take class mode) =
    acts (takes class mode) (going_to (frame.place + 1) frame below values outcome)
obeyed matches exit frame below values outcome Enter =
    acts (enters frame.node) (going_to (frame.place + 1) frame below values outcome)
obeyed matches exit frame below values outcome (Choose arms) =
    chosen exit frame below values outcome (first_arm (λ patterns. matches patterns values) 1 arms)
obeyed matches exit frame below values outcome (Go node) = gone exit frame below values node outcome
obeyed matches exit frame below values outcome Leave = silent (going_to exit frame below values outcome)
obeyed matches exit frame below values outcome Call = calls frame.node
obeyed matches exit frame below values outcome Exit =
    acts (exits frame.node outcome) (going_to (frame.place + 1) frame below values outcome)
obeyed matches exit frame below values outcome (Drop class) =
    acts (drops class) (going_to (frame.place + 1) frame below values outcome)
obeyed matches exit frame below values outcome (Handle arms) =
    handles frame below values arms outcome
obeyed matches exit frame below values outcome EndHandle =
    silent (going_to (frame.place + 1) frame below values (over_after outcome))
obeyed matches exit frame below values outcome Return = returned below values outcome

-- the instruction at the frame's place in its segment
abbrev pub step_of : Matches → ℕ → Frame → List Frame → List Value → Outcome → Option Instr → Step
step_of matches exit frame below values outcome None = stuck
step_of matches exit frame below values outcome (Some instr) =
    obeyed matches exit frame below values outcome instr

abbrev pub step_in : Matches → Frame → List Frame → List Value → Outcome → Option Segment → Step
step_in matches frame below values outcome None = stuck
step_in matches frame below values outcome (Some segment) =
    step_of matches segment.exit frame below values outcome (slice_get segment.code frame.place)

abbrev pub step_over : List Segment → Matches → List Frame → List Value → Outcome → Step
step_over segments matches [] values outcome = ended
step_over segments matches (frame ∷ below) values outcome =
    step_in matches frame below values outcome (slice_get segments frame.node.0)

abbrev pub step : List Segment → Matches → State → Step
step segments matches state = step_over segments matches state.frames state.values state.outcome

-- ---- answers

-- a call's answer: its values, or failure with its code; the frame goes on
abbrev pub resulting : Frame → List Frame → List Value → Outcome → CallResult → State
resulting frame below values outcome (results.Good new) =
    going_to (frame.place + 1) frame below new outcome
resulting frame below values outcome (results.Bad code) =
    going_to (frame.place + 1) frame below values (Bad code)

abbrev pub answered_over : List Frame → List Value → Outcome → CallResult → State
answered_over [] values outcome result =
    record { frames = []; values = values; outcome = outcome }
answered_over (frame ∷ below) values outcome result =
    resulting frame below values outcome result

-- the state of a call once it is answered
abbrev pub answered : State → Answer → State
answered state answer = answered_over state.frames state.values state.outcome answer.result

-- ---- one flow's place

-- either a flow has just its values, or it is in a state
pub data Position : Type 0 where
  fresh : List Value → Position
  at : State → Position

abbrev pub state_in : Plan → Position → State
state_in plan (fresh values) = beginning plan values
state_in plan (at state) = state

-- the values at hand
abbrev pub values_at : Position → List Value
values_at (fresh values) = values
values_at (at state) = state.values
