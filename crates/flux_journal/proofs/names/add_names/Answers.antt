use Rattle.flux_journal.proofs.Named.{named_more}
use Rattle.flux_journal.proofs.names.add_names.Goals as goal

pub loop-node-preserved : goal.loop-node-preserved
loop-node-preserved c =
    named_more c.args.nodes.now c.requires.apart c.loop-node.names c.add.new.self c.loop-node.node-index c.node-item.result c.as_bytes.result.now
    c.loop-node.invariant c.loop-node-test.true c.node-item.is c.as_bytes.ensures.same c.in_ok-add.ensures.new_
