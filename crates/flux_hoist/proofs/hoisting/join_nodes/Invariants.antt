use Rattle.std.proofs.Common.{take}
use Rattle.flux_hoist.specs.steps.Joining.{AreJoined, held_by_all}
use Rattle.flux_hoist.proofs.hoisting.join_nodes.Given as goal

abbrev pub invariant-loop-node : goal.invariant-loop-node
invariant-loop-node l = AreJoined l.fn.set (held_by_all l.table (take l.node-index l.nodes)) l.set
