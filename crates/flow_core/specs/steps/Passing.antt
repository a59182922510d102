-- What a step does where no call comes. No promise cites it.
use Rattle.flux_values.specs.Meanings.{LibraryMeaning}
use Rattle.flux_model.specs.declared.items.FlowNo.{FlowNo}
use Rattle.flow_core.specs.declared.cores.AtOnce.{AtOnce}
use Rattle.flow_core.specs.declared.cores.AtOnce.TheVariants as at_once
use Rattle.flow_core.specs.declared.cores.Step.TheVariants.{Ended, Waits, Went}
use Rattle.flow_core.specs.States.{CoreState}
use Rattle.flow_core.specs.Moves.{HasStepped}

-- the flow has ended, waits, or makes its next event
abbrev pub HasPassed : {L : Type 0} → (L → LibraryMeaning) → CoreState L → CoreState L → FlowNo → AtOnce → Type 0
HasPassed meaning old new flow at_once.Ended = HasStepped meaning old new flow Ended
HasPassed meaning old new flow at_once.Calling = ⊥
HasPassed meaning old new flow (at_once.Waits key holder) = HasStepped meaning old new flow (Waits key holder)
HasPassed meaning old new flow at_once.Called = ⊥
HasPassed meaning old new flow at_once.Went = HasStepped meaning old new flow Went
