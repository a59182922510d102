use Rattle.std.proofs.Common.{arith}
use Rattle.flux_model.proofs.Visiting.{known_new, all_more}
use Rattle.flux_graph.proofs.ClearingLemmas.{closed_first, closed_more, closed_last}
use Rattle.flux_graph.specs.steps.Clearing.{leads_at}
use Rattle.std.specs.List.{slice_get}
use Rattle.flux_graph.proofs.clearing.visit_onward.Goals as goal

pub loop-place-init : goal.loop-place-init
loop-place-init c =
    let v = c.args.visits.now in
    rw (c.in_ok-add.ensures, c.len-place.ensures) (record {
      start = known_new v c.args.start.0;
      closed = closed_first c.args.nodes.now v c.args.start.0;
    })

pub loop-place-preserved : goal.loop-place-preserved
loop-place-preserved c =
    let nodes = c.args.nodes.now in
    let v = c.loop-place.visits in
    let place = c.loop-place.place in
    rw c.in_ok-visit_from.ensures (record {
      start = all_more c.args.start.0 v (leads_at nodes (slice_get v place)) c.loop-place.invariant.start;
      closed = λ closed. closed_more nodes v place (omega (arith, c.loop-place-test.true, c.len.ensures)) (c.loop-place.invariant.closed closed);
    })

pub returns-clause-closed : goal.returns-clause-closed
returns-clause-closed c = λ closed. closed_last c.args.nodes.now c.loop-place.visits c.loop-place.place (omega (arith, c.loop-place-test.false, c.len.ensures)) (c.loop-place.invariant.closed closed)
