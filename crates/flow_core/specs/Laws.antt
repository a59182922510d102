-- What comes of every run of moves.
use Rattle.std.specs.Prelude.{◌≡◌, ◌↔◌, ◌⊎◌, List, [], ◌∷◌, Some, None}
use Rattle.std.specs.List.{slice_get}
use Rattle.flux_values.specs.declared.answers.Answer.{Answer}
use Rattle.flux_values.specs.declared.answers.Mode.{Mode}
use Rattle.flux_values.specs.Meanings.{LibraryMeaning}
use Rattle.flux_library.specs.Libraries.{IsLawful}
use Rattle.flux_model.specs.declared.programs.Program.{Program}
use Rattle.flow_model.specs.declared.journals.CallMade.{CallMade}
use Rattle.flow_model.specs.declared.journals.Event.{Event}
use Rattle.flow_model.specs.declared.journals.Event.TheVariants.{Call}
use Rattle.flux_model.specs.declared.items.FlowNo.{FlowNo}
use Rattle.flux_model.specs.declared.items.Item.{Item}
use Rattle.flow_model.specs.declared.journals.Key.{Key}
use Rattle.flow_model.specs.CellsAfter.{cells_after}
use Rattle.flow_model.specs.Answers.{IsNodeAnswer}
use Rattle.flux_plan.specs.declared.plans.Plan.{Plan}
use Rattle.flux_cells.specs.Kept.{Kept}
use Rattle.flow_state.specs.declared.inputs.Inputs.{Inputs}
use Rattle.flow_state.specs.States.{MayRun}
use Rattle.flow_state.specs.Calls.{IsAnswerOf, made_of}
use Rattle.flow_core.specs.States.{CoreState, setup_in, begun_by, opened, IsKept}
use Rattle.flow_model.specs.Legal.{IsWhole}
use Rattle.flow_core.specs.Runs.{live_count}
use Rattle.flow_core.specs.declared.cores.Step.{Step}
use Rattle.flow_core.specs.declared.cores.AtOnce.{AtOnce}
use Rattle.flow_core.specs.declared.cores.Finish.{Finish}
use Rattle.flow_core.specs.Moves.{with_entry, with_begun, MakesEvent, AddsWait, BeginsCall, CallsAtOnce, HasStepped, HasSteppedAtOnce, HasFinished}

-- ---- answers of begun calls

module _ {L : Type 0} (meaning : L → LibraryMeaning) (core : CoreState L) where
  -- the answer is the library's on the cells that the call was begun on
  abbrev pub IsAnswerAtBegin : Inputs → Answer → Type 0
  IsAnswerAtBegin inputs answer = IsAnswerOf (meaning core.setup.library) core.setup.program inputs answer

  -- the answer is the library's on the cells after the journal
  abbrev pub IsAnswerNow : FlowNo → Inputs → Answer → Type 0
  IsAnswerNow flow inputs answer = let setup = setup_in meaning core in
      IsNodeAnswer setup flow.0 (cells_after setup core.entries)
      (slice_get core.setup.program.nodes inputs.node.0) (made_of inputs answer)

-- ---- runs

module _ {L : Type 0} (meaning : L → LibraryMeaning) (old new : CoreState L) where
  -- a flow's begun call is added with the library's answer, on the cells that it was begun on or on those of this
  -- moment, and is begun no more
  pub record EndsCall (flow : FlowNo) (inputs : Inputs) (answer : Answer) : Type 0 where
    pub begun : begun_by old flow.0 ≡ Some inputs
    pub right : IsAnswerAtBegin meaning old inputs answer
        ⊎ IsAnswerNow meaning old flow inputs answer
    pub new_ : new ≡ with_begun (with_entry old flow (Call (made_of inputs answer))) flow None

  -- a move of a flow: an event, a wait, the begin of a call, its end, or a call that is made at once
  pub data IsMoveOf (flow : FlowNo) : Type 0 where
    made_event : (event : Event) → MakesEvent meaning old new flow event → IsMoveOf flow
    added_wait : (key : Key) (mode : Mode) → AddsWait meaning old new flow key mode → IsMoveOf flow
    begun_call : (inputs : Inputs) → BeginsCall meaning old new flow inputs → IsMoveOf flow
    ended_call : (inputs : Inputs) (answer : Answer) → EndsCall flow inputs answer → IsMoveOf flow
    made_call : (made : CallMade) → CallsAtOnce meaning old new flow made → IsMoveOf flow

  -- a move of some flow
  abbrev pub IsMove : Type 0
  IsMove = (flow : FlowNo) × IsMoveOf flow

-- move by move, from a core to a last one
abbrev pub IsRun : {L : Type 0} → (L → LibraryMeaning) → CoreState L → List (CoreState L)
    → CoreState L → Type 0
IsRun meaning first [] last = last ≡ first
IsRun meaning first (next ∷ later) last = IsMove meaning first next × IsRun meaning next later last

-- ---- laws

-- all that a core keeps, so the journal is legal, and each begun call is its flow's next on the cells of this moment;
-- and the answer of a begun call is the same on the cells that it was begun on as on those of this moment
pub record IsRight {L : Type 0} (meaning : L → LibraryMeaning) (core : CoreState L) : Type 0 where
  pub kept : IsKept meaning core
  pub agree : (flow : FlowNo) (inputs : Inputs) (answer : Answer)
      → begun_by core flow.0 ≡ Some inputs
      → IsAnswerAtBegin meaning core inputs answer ↔ IsAnswerNow meaning core flow inputs answer

-- so it is after every run of moves from flows that have done nothing, in a program that may be run with its lawful
-- library
abbrev pub RunsAreLegal : {L : Type 0} → (L → LibraryMeaning) → Type 0
RunsAreLegal {L} meaning = (p : Program) (plans : List Plan) (items : List Item) (opening : Kept)
    (library : L) → IsLawful (meaning library) → MayRun (meaning library) p plans items
    → (states : List (CoreState L)) (last : CoreState L)
    → IsRun meaning (opened p plans items opening library) states last → IsRight meaning last

-- a journal in which no flow is live is whole
abbrev pub NoneLiveIsWhole : {L : Type 0} → (L → LibraryMeaning) → Type 0
NoneLiveIsWhole {L} meaning = (core : CoreState L) → IsKept meaning core → live_count core ≡ 0
    → IsWhole (setup_in meaning core) core.entries

-- what a step does is one move of its flow, or none
abbrev pub StepsAreMoves : {L : Type 0} → (L → LibraryMeaning) → Type 0
StepsAreMoves {L} meaning = (old new : CoreState L) (flow : FlowNo) (step : Step L)
    → HasStepped meaning old new flow step → (new ≡ old) ⊎ IsMoveOf meaning old new flow

-- so is what a step at once does
abbrev pub StepsAtOnceAreMoves : {L : Type 0} → (L → LibraryMeaning) → Type 0
StepsAtOnceAreMoves {L} meaning = (old new : CoreState L) (flow : FlowNo) (step : AtOnce)
    → HasSteppedAtOnce meaning old new flow step → (new ≡ old) ⊎ IsMoveOf meaning old new flow

-- and so is what a finished call does
abbrev pub FinishesAreMoves : {L : Type 0} → (L → LibraryMeaning) → Type 0
FinishesAreMoves {L} meaning = (old new : CoreState L) (flow : FlowNo) (inputs : Inputs)
    (answer : Answer) (done : Finish) → HasFinished meaning old new flow inputs answer done
    → (new ≡ old) ⊎ IsMoveOf meaning old new flow
