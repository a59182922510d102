use Rattle.std.proofs.Common.{length}
use Rattle.flux_cli.specs.steps.Found.{AreCostsSoFar}
use Rattle.flux_cli.proofs.simulations.read_list.Given as goal

abbrev pub invariant-costs : goal.invariant-costs
invariant-costs l = AreCostsSoFar l.list (length l.yielded) l.costs
