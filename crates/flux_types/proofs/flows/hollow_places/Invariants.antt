use Rattle.std.proofs.Common.{◌≡◌, None, length}
use Rattle.flux_types.specs.steps.Passing.{hollow_places}
use Rattle.flux_types.proofs.flows.hollow_places.Given as goal

abbrev pub invariant-loop-rest : goal.invariant-loop-rest
invariant-loop-rest l = hollow_places None l.fn.nodes l.fn.sites ≡ hollow_places l.place l.rest l.left

abbrev pub decreases-loop-rest : goal.decreases-loop-rest
decreases-loop-rest l = length l.rest
