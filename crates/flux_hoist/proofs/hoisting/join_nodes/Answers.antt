use Rattle.std.proofs.Common.{arith}
use Rattle.flux_hoist.specs.steps.Joining.{held_at}
use Rattle.flux_hoist.proofs.Joins.{joined_next}
use Rattle.flux_hoist.proofs.hoisting.join_nodes.Goals as goal

pub loop-node-preserved : goal.loop-node-preserved
loop-node-preserved c =
    joined_next (held_at c.args.table.now) c.args.nodes.now c.loop-node.node-index _ c.args.set.now c.loop-node.set c.join_holds.new.set (omega arith) c.loop-node.invariant
    (rw c.holds_of.ensures at c.in_ok-join_holds.ensures)
