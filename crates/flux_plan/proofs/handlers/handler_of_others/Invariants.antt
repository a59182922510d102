use Rattle.std.proofs.Common.{◌≡◌, length}
use Rattle.std.specs.List.{find}
use Rattle.flux_model.specs.declared.programs.HandleArm.{HandleArm}
use Rattle.flow_model.specs.Matching.{has_no_codes}
use Rattle.flux_plan.proofs.handlers.handler_of_others.Given as goal

abbrev pub invariant-loop-rest : goal.invariant-loop-rest
invariant-loop-rest l =
    find (λ (arm : HandleArm). has_no_codes arm.codes) l.rest
    ≡ find (λ (arm : HandleArm). has_no_codes arm.codes) l.arms

abbrev pub decreases-loop-rest : goal.decreases-loop-rest
decreases-loop-rest l = length l.rest
