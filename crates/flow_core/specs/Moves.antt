-- What the calls of a core do: each is one move, or none.
use Rattle.std.specs.Prelude.{◌≡◌, ℕ, ◌≤◌, ◌⊎◌, [], ◌∷◌, ◌++◌, Option, Some, None, IsSome, true, ⊤}
use Rattle.std.specs.List.{slice_set}
use Rattle.flux_values.specs.declared.answers.Answer.{Answer}
use Rattle.flux_values.specs.declared.answers.Mode.{Mode}
use Rattle.flux_values.specs.Meanings.{LibraryMeaning}
use Rattle.flow_model.specs.declared.journals.CallMade.{CallMade}
use Rattle.flow_model.specs.declared.journals.Event.{Event}
use Rattle.flow_model.specs.declared.journals.Event.TheVariants as events
use Rattle.flux_model.specs.declared.items.FlowNo.{FlowNo}
use Rattle.flow_model.specs.declared.journals.Key.{Key}
use Rattle.flow_model.specs.Events.{IsNext}
use Rattle.flow_model.specs.Waits.{Blocks, StandsAt}
use Rattle.flux_laws.specs.Growth.{has_ended}
use Rattle.flux_laws.specs.Going.{IsBlocked, IsAtCall}
use Rattle.flux_laws.specs.Moves.{MayStep, MayStand, MayCall}
use Rattle.flow_state.specs.declared.inputs.Inputs.{Inputs}
use Rattle.flow_state.specs.Calls.{IsNextCall}
use Rattle.flow_core.specs.declared.cores.Step.{Step}
use Rattle.flow_core.specs.declared.cores.Step.TheVariants.{Ended, Calling, Waits, Job, Went}
use Rattle.flow_core.specs.declared.cores.AtOnce.{AtOnce}
use Rattle.flow_core.specs.declared.cores.AtOnce.TheVariants as at_once
use Rattle.flow_core.specs.declared.cores.Finish.{Finish}
use Rattle.flow_core.specs.declared.cores.Finish.TheVariants as finishes
use Rattle.flow_core.specs.States.{CoreState, JobState, setup_in, begun_by}

-- ---- changes

-- an entry is added
abbrev pub with_entry : {L : Type 0} → CoreState L → FlowNo → Event → CoreState L
with_entry core flow event = record core {
  entries = core.entries ++ record { flow = flow; event = event } ∷ [];
}

-- a flow's begun call is changed
abbrev pub with_begun : {L : Type 0} → CoreState L → FlowNo → Option Inputs → CoreState L
with_begun core flow call = record core { begun = slice_set core.begun flow.0 call }

-- ---- the four moves, and a call that is made at once

module _ {L : Type 0} (meaning : L → LibraryMeaning) (old new : CoreState L) (flow : FlowNo) where
  -- the flow's next event, which is neither a call nor blocked, is added
  pub record MakesEvent (event : Event) : Type 0 where
    pub may : MayStep (setup_in meaning old) old.entries flow event
    pub new_ : new ≡ with_entry old flow event

  -- the wait for the flow's next take, which is blocked and has none yet, is added
  pub record AddsWait (key : Key) (mode : Mode) : Type 0 where
    pub may : MayStand (setup_in meaning old) old.entries flow key mode
    pub new_ : new ≡ with_entry old flow (events.Wait key mode)

  -- the flow's next event, which is a call, is begun on the cells of that moment
  pub record BeginsCall (inputs : Inputs) : Type 0 where
    pub idle : begun_by old flow.0 ≡ None
    pub next : IsNextCall (setup_in meaning old) old.entries flow.0 inputs
    pub new_ : new ≡ with_begun old flow (Some inputs)

  -- the flow's begun call is added with its answer, which is right for the cells of this moment too
  pub record FinishesCall (inputs : Inputs) (answer : Answer) : Type 0 where
    pub begun : begun_by old flow.0 ≡ Some inputs
    pub made : CallMade
    pub made_ : made ≡ record { node = inputs.node; args = inputs.args; answer = answer }
    pub may : MayCall (setup_in meaning old) old.entries flow made
    pub new_ : new ≡ with_begun (with_entry old flow (events.Call made)) flow None

  -- the flow's next event, a call that isn't begun, is added with its node's answer on the cells of this moment
  pub record CallsAtOnce (made : CallMade) : Type 0 where
    pub idle : begun_by old flow.0 ≡ None
    pub may : MayCall (setup_in meaning old) old.entries flow made
    pub new_ : new ≡ with_entry old flow (events.Call made)

  -- ---- what a step does

  -- the job of a begun call
  abbrev pub job_of : Inputs → JobState L
  job_of inputs =
      let setup = old.setup in
      record { flow = flow; inputs = inputs; program = setup.program; library = setup.library }

  -- the flow's next event is a take that other flows block: its key and the lowest of them are named, and its wait is
  -- added, unless the flow waits there already
  pub record HasWaited (key : Key) (holder : FlowNo) : Type 0 where
    pub mode : Mode
    pub next : IsNext (setup_in meaning old) old.entries flow.0 (events.Take key mode)
    pub blocked : Blocks old.entries holder.0 flow.0 key mode
    pub lowest : (other : ℕ) → Blocks old.entries other flow.0 key mode → holder.0 ≤ other
    pub noted : AddsWait key mode
        ⊎ ((place : ℕ) × StandsAt old.entries flow.0 key mode place × (new ≡ old))

  -- a call is begun, and the job is that call
  pub record HasBegun (job : JobState L) : Type 0 where
    pub inputs : Inputs
    pub job_ : job ≡ job_of inputs
    pub begins : BeginsCall inputs

  -- the flow's `end` is in the journal; its call is begun; its take is blocked; its call is begun now; and else its
  -- next event is made
  abbrev pub HasStepped : Step L → Type 0
  HasStepped Ended = (has_ended old.entries flow.0 ≡ true) × (new ≡ old)
  HasStepped Calling = IsSome (begun_by old flow.0) × (new ≡ old)
  HasStepped (Waits key holder) = HasWaited key holder
  HasStepped (Job job) = HasBegun job
  HasStepped Went = (event : Event) × MakesEvent event

  -- a step at once makes the call that a step would begin, and else does what a step does
  abbrev pub HasSteppedAtOnce : AtOnce → Type 0
  HasSteppedAtOnce at_once.Ended = HasStepped Ended
  HasSteppedAtOnce at_once.Calling = HasStepped Calling
  HasSteppedAtOnce (at_once.Waits key holder) = HasStepped (Waits key holder)
  HasSteppedAtOnce at_once.Called = (made : CallMade) × CallsAtOnce made
  HasSteppedAtOnce at_once.Went = HasStepped Went

  -- ---- what a finished call does

  -- it is late where the flow has no begun call with its inputs
  abbrev pub HasFinished : Inputs → Answer → Finish → Type 0
  HasFinished inputs answer finishes.Went = FinishesCall inputs answer
  HasFinished inputs answer finishes.Late = (begun_by old flow.0 ≡ Some inputs → ⊥) × (new ≡ old)

-- ---- which step comes

abbrev pub IsWaits : {L : Type 0} → Step L → Type 0
IsWaits Ended = ⊥
IsWaits Calling = ⊥
IsWaits (Waits key holder) = ⊤
IsWaits (Job job) = ⊥
IsWaits Went = ⊥

abbrev pub IsJob : {L : Type 0} → Step L → Type 0
IsJob Ended = ⊥
IsJob Calling = ⊥
IsJob (Waits key holder) = ⊥
IsJob (Job job) = ⊤
IsJob Went = ⊥

-- the four steps that come for a cause come wherever it is
pub record ComesWherever {L : Type 0} (meaning : L → LibraryMeaning) (old : CoreState L) (flow : FlowNo)
    (step : Step L) : Type 0 where
  pub ended : has_ended old.entries flow.0 ≡ true → step ≡ Ended
  pub calling : IsSome (begun_by old flow.0) → step ≡ Calling
  pub waits : IsBlocked (setup_in meaning old) old.entries flow.0 → IsWaits step
  pub job : IsAtCall (setup_in meaning old) old.entries flow.0 → begun_by old flow.0 ≡ None → IsJob step

-- ---- and which step at once

abbrev pub IsWaitsAtOnce : AtOnce → Type 0
IsWaitsAtOnce at_once.Ended = ⊥
IsWaitsAtOnce at_once.Calling = ⊥
IsWaitsAtOnce (at_once.Waits key holder) = ⊤
IsWaitsAtOnce at_once.Called = ⊥
IsWaitsAtOnce at_once.Went = ⊥

-- these four come wherever their cause is, too
pub record ComesAtOnceWherever {L : Type 0} (meaning : L → LibraryMeaning) (old : CoreState L) (flow : FlowNo)
    (step : AtOnce) : Type 0 where
  pub ended : has_ended old.entries flow.0 ≡ true → step ≡ at_once.Ended
  pub calling : IsSome (begun_by old flow.0) → step ≡ at_once.Calling
  pub waits : IsBlocked (setup_in meaning old) old.entries flow.0 → IsWaitsAtOnce step
  pub called : IsAtCall (setup_in meaning old) old.entries flow.0 → begun_by old flow.0 ≡ None
      → step ≡ at_once.Called
