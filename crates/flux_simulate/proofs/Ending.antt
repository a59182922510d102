-- What becomes of a call that is recalled, run and finished.
use Rattle.std.proofs.Common.{◌≡◌, Option, Some, None, refl, sym, ap, subst, ◌∙◌}
use Rattle.std.specs.Option.{option_map}
use Rattle.flux_values.specs.declared.answers.Answer.{Answer}
use Rattle.flux_values.specs.Meanings.{LibraryMeaning}
use Rattle.flux_model.specs.declared.items.FlowNo.{FlowNo}
use Rattle.flow_state.specs.declared.inputs.Inputs.{Inputs}
use Rattle.flow_core.specs.declared.cores.Finish.{Finish}
use Rattle.flow_core.specs.declared.cores.Finish.TheVariants as finishes
use Rattle.flow_core.specs.States.{CoreState, JobState, begun_by}
use Rattle.flow_core.specs.Moves.{HasFinished, job_of}
use Rattle.flow_waits.specs.Driven.{IsJobOf}
use Rattle.flux_simulate.specs.steps.Calls.{EndsBegun}

-- the inputs of a call that is recalled
pub record IsRecalled {L : Type 0} (meaning : L → LibraryMeaning) (core : CoreState L) (flow : FlowNo) (job : JobState L)
    : Type 0 where
  pub inputs : Inputs
  pub begun : begun_by core flow.0 ≡ Some inputs
  pub is : job ≡ job_of meaning core core flow inputs

pub recalled : {L : Type 0} (meaning : L → LibraryMeaning) (core : CoreState L) (flow : FlowNo) (job : JobState L)
    → Some job ≡ option_map (job_of meaning core core flow) (begun_by core flow.0)
    → IsRecalled meaning core flow job
recalled {L} meaning core flow job is = by (begun_by core flow.0) refl is
  where
    by : (call : Option Inputs) → begun_by core flow.0 ≡ call
        → Some job ≡ option_map (job_of meaning core core flow) call → IsRecalled meaning core flow job
    by None begun e = absurd cc
    by (Some inputs) begun e = record { inputs = inputs; begun = begun; is = cc }

pub recalled-job : {L : Type 0} (meaning : L → LibraryMeaning) (core : CoreState L) (flow : FlowNo) (job : JobState L)
    → IsRecalled meaning core flow job → IsJobOf core job
recalled-job {L} meaning core flow job is = subst (λ (j : JobState L). IsJobOf core j) (sym is.is)
    (record { begun = is.begun; program_ = refl; library_ = refl })

-- a call that was begun isn't late
pub ended-by : {L : Type 0} (meaning : L → LibraryMeaning) (old new : CoreState L) (flow own : FlowNo)
    (inputs : Inputs) (answer : Answer) (done : Finish)
    → HasFinished meaning old new own inputs answer done → own ≡ flow → begun_by old flow.0 ≡ Some inputs
    → EndsBegun meaning old new flow
ended-by meaning old new flow own inputs answer finishes.Went ends same begun =
    subst (EndsBegun meaning old new) same (record { inputs = inputs; answer = answer; ends = ends })
ended-by meaning old new flow own inputs answer finishes.Late late same begun =
    absurd (late.0 (ap (λ (f : FlowNo). begun_by old f.0) same ∙ begun))
