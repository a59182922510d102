use Rattle.std.proofs.Common.{arith}
use Rattle.flux_hoist.proofs.Reached.{reached_step, reached_end}
use Rattle.flux_hoist.proofs.hoisting.reached.Goals as goal

pub loop-number-preserved : goal.loop-number-preserved
loop-number-preserved c =
    rw c.set.ensures (reached_step c.args.nodes.now c.args.order.now c.loop-number.number-index _ c.index-nodes-number.result c.loop-number.table c.in_ok-set.set (omega arith)
    c.loop-number.invariant c.index-nodes-number.is (rw c.as_slice.ensures at c.in_ok-set.ensures))

pub returns : goal.returns
returns c = reached_end c.args.nodes.now c.args.order.now c.loop-number.number-index c.loop-number.table c.requires.ordered c.loop-number-test.false c.loop-number.invariant
