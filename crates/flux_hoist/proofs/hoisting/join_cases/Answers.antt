use Rattle.std.proofs.Common.{arith}
use Rattle.flux_hoist.specs.steps.Joining.{held_by_all}
use Rattle.flux_hoist.proofs.Joins.{joined_next}
use Rattle.flux_hoist.proofs.hoisting.join_cases.Goals as goal

pub loop-case-preserved : goal.loop-case-preserved
loop-case-preserved c =
    joined_next (λ case. held_by_all c.args.table.now case.members) c.args.cases.now c.loop-case.case-index c.case-item.result c.args.set.now c.loop-case.set c.join_nodes.new.set (omega arith) c.loop-case.invariant
    (rw (← c.case-item.is, ← c.as_slice.ensures) c.in_ok-join_nodes.ensures)
