use Rattle.flux_hoist.specs.steps.Reaching.{AreHoisted}
use Rattle.flux_hoist.proofs.hoisting.all_locks.Given as goal

abbrev pub invariant-loop-node : goal.invariant-loop-node
invariant-loop-node l = AreHoisted l.nodes l.table l.node-index l.sets
