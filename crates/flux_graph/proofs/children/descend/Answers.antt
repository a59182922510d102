use Rattle.std.proofs.Common.{◌∙◌, ◌+◌, ◌≡◌, get_or, length, drop, reverse, sym, ap}
use Rattle.std.proofs.lemmas.List.{length_push}
use Rattle.std.proofs.lemmas.Option.{slice_get-get_or}
use Rattle.std.proofs.lemmas.Iterator.Adapters.{YieldsList-from_rev_slice}
use Rattle.std.proofs.lemmas.Iterator.Consumers.{YieldsList-turn, YieldsList-end}
use Rattle.flux_model.specs.Leading.{leads_in}
use Rattle.flux_graph.proofs.Descending.{on_the_way_first, on_the_way_past, on_the_way_down, on_the_way_last, next_of}
use Rattle.flux_graph.proofs.children.descend.Goals as goal

pub loop-node-init : goal.loop-node-init
loop-node-init c =
    let p = c.args.p.now in
    let start = get_or c.as_slice-nodes.result.now c.args.top.0 c.index-nodes-top.result in
    rw (c.in_ok-visit_members.ensures, c.new-visits.ensures) (on_the_way_first p c.args.top.0 start c.args.order.now (rw c.as_slice-nodes.ensures (slice_get-get_or p.nodes c.args.top.0 c.index-nodes-top.result c.requires.is_node)) c.requires.ordered)

pub loop-node-preserved-then-has : goal.loop-node-preserved-then-has
loop-node-preserved-then-has c =
    let turn = YieldsList-turn (YieldsList-from_rev_slice c.args.order.now cc) c.loop-node.yielded _ c.loop-node.yielded_by _ _ c.in-Some.node c.in-Some.is c.next.ensures.steps in
    let p = c.args.p.now in let node = c.in-Some.node.now in let v = c.loop-node.visits in
    let n = length c.loop-node.yielded in let order = reverse c.args.order.now in
    let way = on_the_way_down p c.args.top.0 v node (drop (n + 1) order) (next_of p c.args.top.0 v order n node turn c.loop-node.invariant) (sym c.has.ensures ∙ c.if-has.true) in
    let led : c.as_slice.result.now ≡ leads_in p.nodes node.0 = c.as_slice.ensures ∙ c.in_ok-leads_in.ensures ∙ ap (λ ns. leads_in ns node.0) c.as_slice-nodes.ensures in
    rw (c.in_ok-add_all.ensures, led, length_push) way

pub loop-node-preserved : goal.loop-node-preserved
loop-node-preserved c =
    let turn = YieldsList-turn (YieldsList-from_rev_slice c.args.order.now cc) c.loop-node.yielded _ c.loop-node.yielded_by _ _ c.in-Some.node c.in-Some.is c.next.ensures.steps in
    let p = c.args.p.now in let node = c.in-Some.node.now in let v = c.loop-node.visits in
    let n = length c.loop-node.yielded in let order = reverse c.args.order.now in
    rw length_push (on_the_way_past p c.args.top.0 v node (drop (n + 1) order) (next_of p c.args.top.0 v order n node turn c.loop-node.invariant) (sym c.has.ensures ∙ c.if-has.false))

pub returns : goal.returns
returns c =
    let end = YieldsList-end (YieldsList-from_rev_slice c.args.order.now cc) c.loop-node.yielded _ c.loop-node.yielded_by _ _ c.in-None.is c.next.ensures.steps in
    on_the_way_last c.args.p.now c.args.top.0 c.loop-node.visits (reverse c.args.order.now) (length c.loop-node.yielded) end.1 c.loop-node.invariant
