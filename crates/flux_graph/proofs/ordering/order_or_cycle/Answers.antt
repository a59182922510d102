use Rattle.flux_graph.proofs.Ends.{holds_first, entered_next, entered_less, ordered_last, no_cycle}
use Rattle.flux_graph.proofs.ordering.order_or_cycle.Goals as goal

pub loop-search-init : goal.loop-search-init
loop-search-init c = (holds_first c.as_slice-nodes.result.now c.in_ok-search.search c.in_ok-search.ensures, c.as_slice-nodes.ensures)

pub loop-search-smaller : goal.loop-search-smaller
loop-search-smaller c =
    let nodes = c.as_slice-nodes.result.now in
    entered_less nodes c.loop-search.search c.next.new.self c.enter.new.self c.in_ok-node.field-0 c.in-Some.node (rw c.as_slice-nodes.ensures c.requires.numbered.nodes) (c.in_ok-node.ensures.found c.loop-search.invariant.0) c.in-Some.is c.in_ok-enter.ensures

pub loop-search-preserved : goal.loop-search-preserved
loop-search-preserved c =
    let nodes = c.as_slice-nodes.result.now in
    (entered_next nodes c.loop-search.search c.next.new.self c.enter.new.self c.in_ok-node.field-0 c.in-Some.node (rw c.as_slice-nodes.ensures c.requires.numbered.nodes) (c.in_ok-node.ensures.found c.loop-search.invariant.0) c.in-Some.is c.in_ok-enter.ensures, c.loop-search.invariant.1)

pub returns-clause-ordered : goal.returns-clause-ordered
returns-clause-ordered c = ordered_last c.as_slice-nodes.result.now c.args.p.now.nodes c.loop-search.search c.next.new.self c.in_ok-node.field-0 (c.in_ok-node.ensures.found c.loop-search.invariant.0) c.in_default.is c.loop-search.invariant.1

pub returns-clause-no_cycle : goal.returns-clause-no_cycle
returns-clause-no_cycle c = no_cycle c.args.p.now.nodes c.next.new.self.order (ordered_last c.as_slice-nodes.result.now c.args.p.now.nodes c.loop-search.search c.next.new.self c.in_ok-node.field-0 (c.in_ok-node.ensures.found c.loop-search.invariant.0) c.in_default.is c.loop-search.invariant.1)
