use Rattle.flux_graph.proofs.Back.{turned_on, turned_less, turned_back, turned_none}
use Rattle.flux_graph.proofs.returning.way_back.Goals as goal

pub returns-then-node-start : goal.returns-then-node-start
returns-then-node-start c = rw (c.in_ok-path_back.ensures, c.as_slice.ensures) (turned_back c.args.nodes.now c.args.start c.loop-node.search c.next.new.self c.next.result c.in-Some.node (c.next.ensures c.loop-node.invariant) c.in-Some.is c.if-node-start.true)

pub loop-node-smaller : goal.loop-node-smaller
loop-node-smaller c = turned_less c.args.nodes.now c.args.start c.loop-node.search c.next.new.self c.enter.new.self c.next.result c.in-Some.node c.requires.numbered (c.next.ensures c.loop-node.invariant) c.in-Some.is c.if-node-start.false c.in_ok-enter.ensures

pub loop-node-preserved : goal.loop-node-preserved
loop-node-preserved c = turned_on c.args.nodes.now c.args.start c.loop-node.search c.next.new.self c.enter.new.self c.next.result c.in-Some.node c.requires.numbered (c.next.ensures c.loop-node.invariant) c.in-Some.is c.if-node-start.false c.in_ok-enter.ensures

pub returns : goal.returns
returns c = turned_none c.args.nodes.now c.args.start c.loop-node.search c.next.new.self c.next.result (c.next.ensures c.loop-node.invariant) c.in_default.is
