-- What workers do, and what each of them is given.
use Rattle.std.specs.Prelude.{◌≡◌, ◌⊎◌, true, ⊤}
use Rattle.flux_values.specs.declared.answers.Answer.{Answer}
use Rattle.flux_values.specs.Meanings.{LibraryMeaning}
use Rattle.flux_model.specs.declared.items.FlowNo.{FlowNo}
use Rattle.flow_state.specs.States.{SetupState}
use Rattle.flow_core.specs.States.{CoreState, JobState}
use Rattle.flow_core.specs.Moves.{HasFinished}
use Rattle.flow_core.specs.Runs.{GoesOn, live_count}
use Rattle.flow_core.specs.declared.cores.Finish.{Finish}
use Rattle.flow_hall.specs.States.{HallState}
use Rattle.flow_turns.specs.Turns.{IsCallIn, IsOwnCall}
use Rattle.flow_turns.specs.declared.workers.Next.{Next}
use Rattle.flow_turns.specs.declared.workers.Next.TheVariants.{Goes, Rests, Runs, Ends}
use Rattle.flow_turns.specs.declared.workers.Post.{Post}

module _ {L : Type 0} where
  -- the call that a worker runs, if it runs one, is in this program, by this library
  abbrev pub RunsIn : SetupState L → Next L → Type 0
  RunsIn setup Goes = ⊤
  RunsIn setup Rests = ⊤
  RunsIn setup (Runs job) = IsCallIn setup job
  RunsIn setup Ends = ⊤

  -- a worker with a seat of the hall
  pub record HasSeat {W : Type 0} (hall : HallState L) (post : Post L W) : Type 0 where
    pub seat_ : let seat = post.seat in seat.hall ≡ hall

  -- the core is halted, or no flow is live
  abbrev pub IsOver : CoreState L → Type 0
  IsOver core = (core.halted ≡ true) ⊎ (live_count core ≡ 0)

  -- a worker ends only then
  abbrev pub EndsIn : CoreState L → Next L → Type 0
  EndsIn core Goes = ⊤
  EndsIn core Rests = ⊤
  EndsIn core (Runs job) = ⊤
  EndsIn core Ends = IsOver core

  -- the call that a worker runs, if it runs one, is the one that this flow has begun
  abbrev pub RunsOwn : CoreState L → FlowNo → Next L → Type 0
  RunsOwn core flow Goes = ⊤
  RunsOwn core flow Rests = ⊤
  RunsOwn core flow (Runs job) = IsOwnCall core flow job
  RunsOwn core flow Ends = ⊤

  -- a call's answer was handed in, at a turn that found this core and left the other
  pub record HandsInAnswer (meaning : L → LibraryMeaning) (base : CoreState L) (job : JobState L)
      (left : CoreState L) : Type 0 where
    pub found : CoreState L
    pub on : GoesOn base found
    pub answer : Answer
    pub finish : Finish
    pub finished : HasFinished meaning found left job.flow job.inputs answer finish

  -- a call was run, and its answer handed in; or memory was short, and the core is halted
  abbrev pub WasRun : (L → LibraryMeaning) → CoreState L → JobState L → CoreState L → Type 0
  WasRun meaning base job left = HandsInAnswer meaning base job left ⊎ (left.halted ≡ true)
