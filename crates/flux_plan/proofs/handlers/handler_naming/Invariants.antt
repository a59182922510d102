use Rattle.std.proofs.Common.{◌≡◌, length}
use Rattle.std.specs.List.{find}
use Rattle.flow_model.specs.Matching.{names_code}
use Rattle.flux_plan.proofs.handlers.handler_naming.Given as goal

abbrev pub invariant-loop-rest : goal.invariant-loop-rest
invariant-loop-rest l = find (names_code l.code) l.rest ≡ find (names_code l.code) l.arms

abbrev pub decreases-loop-rest : goal.decreases-loop-rest
decreases-loop-rest l = length l.rest
