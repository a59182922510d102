use Rattle.std.proofs.Common.{arith}
use Rattle.flux_hoist.proofs.Hoists.{hoisted_next}
use Rattle.flux_hoist.proofs.hoisting.all_locks.Goals as goal

pub loop-node-preserved : goal.loop-node-preserved
loop-node-preserved c =
    rw c.in_ok-add.ensures.added (hoisted_next c.args.nodes.now c.args.table.now c.loop-node.sets c.loop-node.node-index c.node-item.result c.in_ok-locks_of.field-0 c.loop-node.invariant (omega arith)
    (rw (← c.node-item.is) c.in_ok-locks_of.ensures))
