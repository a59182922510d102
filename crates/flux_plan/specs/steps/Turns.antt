-- The silent steps of a flow's place, as the code takes them.
use Rattle.std.specs.Prelude.{◌≡◌, ◌≢◌, ℕ, zero, suc, Bool, ◌+◌, ◌^◌, ◌<◌, ◌≤◌, List, [], ◌∷◌, length, reverse, take, Option, Some, None, IsSome, ⊤}
use Rattle.std.specs.List.{slice_get}
use Rattle.flux_values.specs.declared.values.Value.{Value}
use Rattle.flux_values.specs.declared.answers.CallResult.{CallResult}
use Rattle.flux_values.specs.declared.answers.CallResult.TheVariants as results
use Rattle.flux_values.specs.Meanings.{LibraryMeaning}
use Rattle.flux_model.specs.declared.programs.NodeNo.{NodeNo}
use Rattle.flux_model.specs.declared.programs.HandleArm.{HandleArm}
use Rattle.flow_model.specs.declared.journals.Outcome.{Outcome}
use Rattle.flow_model.specs.declared.journals.Outcome.TheVariants.{Good, Over, Bad}
use Rattle.flow_model.specs.Matching.{patterns_match, handler_for}
use Rattle.flux_plan.specs.declared.plans.Plan.{Plan}
use Rattle.flux_plan.specs.declared.plans.Segment.{Segment}
use Rattle.flux_plan.specs.declared.plans.Arm.{Arm}
use Rattle.flux_plan.specs.declared.plans.Instr.{Instr}
use Rattle.flux_plan.specs.declared.plans.Instr.TheVariants as instrs
use Rattle.flux_plan.specs.declared.stacks.Frame.{Frame}
use Rattle.flux_plan.specs.declared.stacks.Stack.{Stack}
use Rattle.flux_plan.specs.declared.machines.Turn.{Turn}
use Rattle.flux_plan.specs.declared.machines.Turn.TheVariants.{To, Out, Stop}
use Rattle.flux_plan.specs.declared.machines.Landing.{Landing}
use Rattle.flux_plan.specs.declared.machines.Entering.{Entering}
use Rattle.flux_plan.specs.declared.machines.Entering.TheVariants.{Nothing, Node, Handler}
use Rattle.flux_plan.specs.declared.locals.Next.{Next}
use Rattle.flux_plan.specs.Machine.{State, beginning, Step, Act, silent, acts, Matches, step, going_to, entering, at_place}
use Rattle.flux_plan.specs.Moves.{next_by, settled}
use Rattle.flux_plan.specs.Faulty.{AreFewArms}
use Rattle.flux_plan.specs.steps.Placed.{AreLedOn, ArePlaced}

-- `Take` and `Enter`
abbrev pub IsOpening : Instr → Type 0
IsOpening (instrs.Take class mode) = ⊤
IsOpening instrs.Enter = ⊤
IsOpening other = ⊥

-- the instruction at a place of a node's segment, with the segment's `exit`
pub record StandsAt (plan : Plan) (node place exit : ℕ) (instr : Instr) : Type 0 where
  pub segment : Segment
  pub is : slice_get plan.segments node ≡ Some segment
  pub exit_ : segment.exit ≡ exit
  pub at : slice_get segment.code place ≡ Some instr
  pub led : AreLedOn plan node place exit instr
  pub fits : place + 1 < 2 ^ 32
  pub few : AreFewArms instr
  pub opens : place ≡ 0 → IsOpening instr

-- which patterns match values
abbrev pub fitting : LibraryMeaning → List (List ℕ) → List Value → List (Option ℕ) → Bool
fitting meaning names values patterns = patterns_match meaning names patterns values

-- the number of an arm, and its place
abbrev pub found_place : Option (ℕ × Arm) → Option (ℕ × ℕ)
found_place None = None
found_place (Some (number, arm)) = Some (number, arm.to)

-- the innermost frame stays at a place, and perhaps a node is entered
abbrev pub entered_in : Entering → ℕ → Frame → List Frame → List Value → Outcome → State
entered_in Nothing place top below values outcome = going_to place top below values outcome
entered_in (Node node) place top below values outcome =
    entering node values (at_place top place ∷ below)
entered_in (Handler node) place top below values outcome =
    entering node top.inputs (at_place top place ∷ below)

-- the silent step of the innermost frame at a place, if there is one
abbrev pub IsTurn : Frame → ℕ → List Frame → List Value → Outcome → Step → Turn → Type 0
IsTurn frame place below values outcome step (To to after) =
    (step ≡ silent (going_to to frame below values after)) × (place < to)
IsTurn frame place below values outcome step Out =
    (step ≡ silent (record { frames = below; values = values; outcome = outcome })) × (below ≢ [])
IsTurn frame place below values outcome step (Stop at Nothing) =
    (at ≡ place) × IsSome (next_by step)
IsTurn frame place below values outcome step (Stop at (Node node)) =
    step ≡ silent (entered_in (Node node) at frame below values outcome)
IsTurn frame place below values outcome step (Stop at (Handler node)) =
    step ≡ silent (entered_in (Handler node) at frame below values outcome)

-- the turns of `Go` and `Handle`
abbrev pub IsGoTurn : ℕ → ℕ → NodeNo → Outcome → Turn → Type 0
IsGoTurn exit place node Good turn = turn ≡ Stop (place + 1) (Node node)
IsGoTurn exit place node Over turn = turn ≡ To exit Over
IsGoTurn exit place node (Bad code) turn = turn ≡ To exit (Bad code)

abbrev pub handler_turn : ℕ → ℕ → Option NodeNo → Turn
handler_turn place code None = To (place + 2) (Bad code)
handler_turn place code (Some node) = Stop (place + 1) (Handler node)

abbrev pub IsHandleTurn : ℕ → List HandleArm → Outcome → Turn → Type 0
IsHandleTurn place arms Good turn = turn ≡ To (place + 2) Good
IsHandleTurn place arms Over turn = turn ≡ To (place + 2) Over
IsHandleTurn place arms (Bad code) turn = turn ≡ handler_turn place code (handler_for arms code)

-- frames, the outermost first, of which the innermost is at another place
abbrev pub cursor_on : ℕ → List Frame → List Value → Outcome → State
cursor_on place [] values outcome = record { frames = []; values = values; outcome = outcome }
cursor_on place (top ∷ below) values outcome = going_to place top below values outcome

abbrev pub IsCursorPlaced : Plan → List Frame → ℕ → Type 0
IsCursorPlaced plan frames place =
    let state = cursor_on place (reverse frames) [] Good in ArePlaced plan state.frames

abbrev pub cursor : List Frame → ℕ → List Value → Outcome → State
cursor frames place values outcome = cursor_on place (reverse frames) values outcome

-- where silent steps lead to
abbrev pub landed_on : Landing → List Frame → List Value → State
landed_on landing [] values =
    record { frames = []; values = values; outcome = landing.outcome }
landed_on landing (top ∷ below) values =
    entered_in landing.entering landing.place top below values landing.outcome

abbrev pub landed : Landing → List Frame → List Value → State
landed landing frames values = landed_on landing (reverse (take landing.depth frames)) values

-- a node is entered over frames, the innermost of which goes to a place
abbrev pub entered_over : NodeNo → List Value → ℕ → List Frame → State
entered_over node inputs place [] = entering node inputs []
entered_over node inputs place (top ∷ below) = entering node inputs (at_place top place ∷ below)

-- the frame at an index goes to a place
abbrev pub with_place : List Frame → ℕ → ℕ → List Frame
with_place [] index place = []
with_place (frame ∷ frames) zero place = at_place frame place ∷ frames
with_place (frame ∷ frames) (suc index) place = frame ∷ with_place frames index place

pub record Lands (plan : Plan) (matches : Matches) (frames : List Frame) (start : State) (values : List Value)
    (landing : Landing) : Type 0 where
  pub steps : ℕ
  pub same : settled plan.segments matches steps start ≡ landed landing frames values
  pub rests : IsSome (next_by (step plan.segments matches (landed landing frames values)))
  pub some : 0 < landing.depth
  pub most : landing.depth ≤ length frames

-- the place of the innermost frame after the event that comes next; none where the flow ends
abbrev pub IsBehind : List Frame → List Value → Outcome → Step → Option ℕ → Type 0
IsBehind frames values outcome step None = (act : Act)
    × (step ≡ acts act (record { frames = []; values = values; outcome = outcome }))
IsBehind frames values outcome step (Some place) =
    (act : Act) × (step ≡ acts act (cursor frames place values outcome))

-- an event is made, and then silent steps up to a state at rest
pub record MovesOn (plan : Plan) (matches : Matches) (old new : State) : Type 0 where
  pub act : Act
  pub after : State
  pub made : step plan.segments matches old ≡ acts act after
  pub steps : ℕ
  pub settles : new ≡ settled plan.segments matches steps after
  pub rests : IsSome (next_by (step plan.segments matches new))

-- on the way down the frames: these are left, the innermost of them at a place
pub record IsLanding (plan : Plan) (matches : Matches) (frames : List Frame) (start : State) (values : List Value)
    (left : List Frame) (place : ℕ) (outcome : Outcome) : Type 0 where
  pub steps : ℕ
  pub same : settled plan.segments matches steps start ≡ cursor left place values outcome
  pub placed : IsCursorPlaced plan left place
  pub some : 0 < length left
  pub front : take (length left) frames ≡ left
  pub most : length left ≤ length frames

-- the values of a call, or its failure
abbrev pub IsTaken : CallResult → Stack → Stack → Type 0
IsTaken (results.Good values) old new = (new.values ≡ values) × (new.outcome ≡ old.outcome)
IsTaken (results.Bad code) old new = (new.values ≡ old.values) × (new.outcome ≡ Bad code)

-- what comes next at the beginning, whatever patterns match
abbrev pub IsFirst : Plan → Next → Type 0
IsFirst plan next = (matches : Matches) (values : List Value)
    → next_by (step plan.segments matches (beginning plan values)) ≡ Some next
