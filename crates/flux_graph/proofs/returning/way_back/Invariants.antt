use Rattle.std.proofs.Common.{◌-◌, length}
use Rattle.flux_graph.specs.steps.Returning.{Seeks}
use Rattle.flux_graph.proofs.returning.way_back.Given as goal

abbrev pub invariant-loop-node : goal.invariant-loop-node
invariant-loop-node l = Seeks l.nodes l.start l.search

abbrev pub decreases-loop-node : goal.decreases-loop-node
decreases-loop-node l = length l.nodes - length l.search.entered
