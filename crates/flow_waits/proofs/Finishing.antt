-- What finishing a begun call makes of a flow's turn.
use Rattle.std.proofs.Common.{◌≡◌, Some, ap}
use Rattle.flux_values.specs.declared.answers.Answer.{Answer}
use Rattle.flux_values.specs.Meanings.{LibraryMeaning}
use Rattle.flux_model.specs.declared.items.FlowNo.{FlowNo}
use Rattle.flow_state.specs.declared.inputs.Inputs.{Inputs}
use Rattle.flow_core.specs.declared.cores.Finish.{Finish}
use Rattle.flow_core.specs.declared.cores.Finish.TheVariants as finishes
use Rattle.flow_core.specs.States.{CoreState, setup_in, begun_by}
use Rattle.flow_core.specs.Moves.{HasFinished}
use Rattle.flow_waits.specs.Driven.{MakesCall}

-- a finish of the call that a flow has begun is no late one, and makes it
pub finish-makes : {L : Type 0} (meaning : L → LibraryMeaning) (old new : CoreState L) (flow : FlowNo) (inputs : Inputs)
    (answer : Answer) (finish : Finish) → begun_by old flow.0 ≡ Some inputs
    → HasFinished meaning old new flow inputs answer finish
    → MakesCall (setup_in meaning old) old.entries flow new.entries
finish-makes {L} meaning old new flow inputs answer finishes.Went begun finished =
    (finished.made, record { move = finished.may; added = ap (λ (c : CoreState L). c.entries) finished.new_ })
finish-makes {L} meaning old new flow inputs answer finishes.Late begun finished = absurd (finished.0 begun)
