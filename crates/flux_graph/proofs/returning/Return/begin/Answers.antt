use Rattle.flux_graph.proofs.Back.{begun}
use Rattle.flux_graph.proofs.returning.Return.begin.Goals as goal

pub returns : goal.returns
returns c = rw (c.in_ok-enter.ensures, c.new.ensures, c.new-2.ensures) (begun c.args.nodes.now c.args.start c.requires.is_node)
