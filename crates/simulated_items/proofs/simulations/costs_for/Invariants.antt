use Rattle.std.proofs.Common.{◌≡◌}
use Rattle.flux_runs.specs.Simulations.{costs_for}
use Rattle.simulated_items.proofs.simulations.costs_for.Given as goal

abbrev pub invariant-loop-node : goal.invariant-loop-node
invariant-loop-node l = l.costs ≡ costs_for l.node l.given
