-- What a flow does in one turn.
use Rattle.std.specs.Prelude.{◌≡◌, ◌≢◌, ℕ, ◌<◌, true, false, List, ◌++◌, length, Some, Result, Ok, Err}
use Rattle.std.specs.List.{AllByRecursion}
use Rattle.flux_values.specs.Meanings.{LibraryMeaning}
use Rattle.flux_model.specs.declared.items.FlowNo.{FlowNo}
use Rattle.flow_model.specs.declared.journals.Entry.{Entry}
use Rattle.flow_model.specs.declared.journals.Key.{Key}
use Rattle.flux_laws.specs.Growth.{has_ended}
use Rattle.flow_state.specs.States.{SetupState}
use Rattle.flow_state.specs.Calls.{library_name}
use Rattle.flow_core.specs.States.{CoreState, JobState, DoneState, begun_by}
use Rattle.flow_core.specs.Moves.{HasWaited, HasFinished}
use Rattle.flow_core.specs.Runs.{SameSetup}
use Rattle.flow_core.specs.declared.cores.Finish.{Finish}
use Rattle.flow_turns.specs.declared.turns.TurnEnd.{TurnEnd}
use Rattle.flow_turns.specs.declared.turns.TurnEnd.TheVariants.{Ended, Waits, Calls, Went, Halted}

module _ {L : Type 0} where
  -- the same setup; some entries more, or none, which are all of one flow; and the begun calls of the others
  pub record AddsOwn (old new : CoreState L) (flow : FlowNo) : Type 0 where
    pub setup_ : SameSetup old new
    pub more : List Entry
    pub added : new.entries ≡ old.entries ++ more
    pub own : AllByRecursion (λ entry. entry.flow ≡ flow) more
    pub others : (other : ℕ) → flow.0 ≢ other → begun_by new other ≡ begun_by old other

  -- ---- calls

  -- a call in a program, by a library
  pub record IsCallIn (setup : SetupState L) (job : JobState L) : Type 0 where
    pub program : job.program ≡ setup.program
    pub library : job.library ≡ setup.library

  -- the call that a flow has begun
  pub record IsOwnCall (core : CoreState L) (flow : FlowNo) (job : JobState L) : Type 0 where
    pub flow_ : job.flow ≡ flow
    pub begun : begun_by core flow.0 ≡ Some job.inputs
    pub call : IsCallIn core.setup job

  -- a call that was run
  pub record IsAnswerTo (job : JobState L) (done : DoneState L) : Type 0 where
    pub flow_ : done.flow ≡ job.flow
    pub inputs_ : done.inputs ≡ job.inputs
    pub program_ : done.program ≡ job.program
    pub library_ : done.library ≡ job.library

  -- an answer to a flow's call, by the core's library
  pub record IsAnsweredBy (meaning : L → LibraryMeaning) (core : CoreState L) (flow : FlowNo)
      (done : DoneState L) : Type 0 where
    pub flow_ : done.flow ≡ flow
    pub library : let setup = core.setup in meaning done.library ≡ meaning setup.library
    pub name : let setup = core.setup in let inputs = done.inputs in
        library_name done.program inputs.node ≡ library_name setup.program inputs.node

  -- ---- waits

  -- a flow's last step found it blocked, by this flow and higher ones alone, and left this core
  pub record IsLeftWaiting (meaning : L → LibraryMeaning) (left : CoreState L) (flow blocker : FlowNo) : Type 0 where
    pub before : CoreState L
    pub key : Key
    pub waited : HasWaited meaning before left flow key blocker

module _ {L : Type 0} (meaning : L → LibraryMeaning) (old new : CoreState L) (flow : FlowNo) where
  -- ---- a turn in which a flow goes on

  -- the core isn't halted, before and after, and no call is begun or finished
  pub record StaysOn : Type 0 where
    pub was : old.halted ≡ false
    pub is : new.halted ≡ false
    pub begun_ : new.begun ≡ old.begun

  -- the flow has its `end`
  pub record ComesToEnd : Type 0 where
    pub on : StaysOn
    pub ended : has_ended new.entries flow.0 ≡ true

  -- it waits
  pub record ComesToWait (blocker : FlowNo) : Type 0 where
    pub on : StaysOn
    pub waits : IsLeftWaiting meaning new flow blocker

  -- its call is begun, now or before, and is handed out
  pub record ComesToCall (job : JobState L) : Type 0 where
    pub was : old.halted ≡ false
    pub is : new.halted ≡ false
    pub own : IsOwnCall new flow job

  -- it made an event at least
  pub record GoesFurther : Type 0 where
    pub on : StaysOn
    pub longer : length old.entries < length new.entries

  -- the core is halted: it was before, and nothing is done; or memory was short
  pub record IsHalted : Type 0 where
    pub is : new.halted ≡ true
    pub still : old.halted ≡ true → new ≡ old

  -- what a flow came to
  abbrev pub ComesTo : TurnEnd L → Type 0
  ComesTo Ended = ComesToEnd
  ComesTo (Waits blocker) = ComesToWait blocker
  ComesTo (Calls job) = ComesToCall job
  ComesTo Went = GoesFurther
  ComesTo Halted = IsHalted

  -- ---- a turn in which its answer is taken

  -- the answer is entered, or comes late
  abbrev pub HandsIn : DoneState L → Type 0
  HandsIn done = (finish : Finish) × HasFinished meaning old new flow done.inputs done.answer finish

  -- the call was made, and its answer is handed in
  abbrev pub TakesAnswer : {E : Type 0} → Result (DoneState L) E → Type 0
  TakesAnswer (Ok done) = HandsIn done
  TakesAnswer (Err want) = ⊥
