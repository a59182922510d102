use Rattle.std.proofs.Common.{length}
use Rattle.flux_graph.specs.steps.Descending.{among}
use Rattle.flux_graph.proofs.Descending.{are_below, answered}
use Rattle.flux_graph.proofs.children.below.Goals as goal

pub returns : goal.returns
returns c =
    let p = c.args.p.now in
    answered c.rising.result (among c.in_ok-visits.visits (length p.nodes)) p c.args.node.0 (rw c.len.ensures at c.rising.ensures) (are_below p c.args.node.0 c.in_ok-visits.visits c.requires.numbered c.in_ok-visits.ensures)
