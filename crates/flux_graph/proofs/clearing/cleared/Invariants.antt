use Rattle.std.proofs.Common.{length}
use Rattle.flux_graph.specs.steps.Clearing.{IsClearing}
use Rattle.flux_graph.proofs.clearing.cleared.Given as goal

abbrev pub invariant-loop-node : goal.invariant-loop-node
invariant-loop-node l = IsClearing l.nodes l.clearing

abbrev pub decreases-loop-node : goal.decreases-loop-node
decreases-loop-node l = length l.order
