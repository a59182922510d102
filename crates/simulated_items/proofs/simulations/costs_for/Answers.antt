use Rattle.simulated_items.proofs.GivenCosts.{cost_more}
use Rattle.simulated_items.proofs.simulations.costs_for.Goals as goal

pub loop-node-preserved : goal.loop-node-preserved
loop-node-preserved c =
    cost_more c.loop-node.node c.cost_of.result c.args.given.now c.loop-node.costs c.add.new.self c.loop-node.invariant
    c.cost_of.ensures c.in_ok-add.ensures.added
