use Rattle.std.proofs.Common.{get_or, sym, subst, arith}
use Rattle.flux_model.specs.declared.programs.NodeNo.{NodeNo}
use Rattle.flux_hoist.specs.steps.Lowest.{IsLowest}
use Rattle.flux_hoist.proofs.LowestNodes.{DeclaresIt, lowest_own, lowest_step, lowest_end}
use Rattle.flux_hoist.proofs.declarers.lowest_declaring.Goals as goal

pub loop-number-preserved : goal.loop-number-preserved
loop-number-preserved c =
    let nodes = c.args.nodes.now in
    let hold = c.args.hold in
    let number : NodeNo = get_or c.args.order.now c.loop-number.number-index (record { 0 = 0 }) in
    let own = c.requires.own number.0 hold in
    let first = lowest_own nodes hold number c.covers.result (λ e. own.0 (c.covers.ensures.0 e), λ more. c.covers.ensures.1 (own.1 more)) in
    rw c.set.ensures (lowest_step nodes hold c.args.order.now c.loop-number.number-index (record { 0 = 0 }) c.index-nodes-place.result c.loop-number.table c.then_some-first.result c.lowest_led-found.result (omega arith)
    c.loop-number.invariant c.index-nodes-place.is (subst (IsLowest (DeclaresIt nodes hold number.0)) (sym c.then_some-first.ensures) first) (rw c.as_slice.ensures at c.lowest_led-found.ensures))

pub returns : goal.returns
returns c = lowest_end c.args.nodes.now c.args.hold c.args.order.now c.loop-number.number-index c.loop-number.table c.requires.ordered c.loop-number-test.false c.loop-number.invariant
