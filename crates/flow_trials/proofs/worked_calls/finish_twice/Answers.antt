use Rattle.std.proofs.Common.{◌≡◌, refl, ap, sym, ◌∙◌}
use Rattle.flow_state.specs.Calls.{library_name}
use Rattle.flux_model.specs.declared.programs.Program.{Program}
use Rattle.flow_trials.proofs.Recalled.{program_of_recalled}
use Rattle.flow_trials.proofs.worked_calls.finish_twice.Goals as goal

pub tell_finish-requires-clause-name : goal.tell_finish-requires-clause-name
tell_finish-requires-clause-name c =
    ap (λ (p : Program). library_name p c.in_ok-done.done.inputs.node)
    (c.in_ok-done.ensures.program ∙ program_of_recalled _ _ _ c.in-Some.job (λ inputs. refl) (sym c.in-Some.is ∙ c.in_ok-job.ensures))

pub tell_finish-requires-2-clause-name : goal.tell_finish-requires-2-clause-name
tell_finish-requires-2-clause-name c =
    ap (λ (p : Program). library_name p c.in_ok-done.done.inputs.node)
    (c.in_ok-done.ensures.program ∙ (program_of_recalled _ _ _ c.in-Some.job (λ inputs. refl) (sym c.in-Some.is ∙ c.in_ok-job.ensures)
    ∙ sym (ap (λ s. s.program) c.tell_finish.ensures)))
