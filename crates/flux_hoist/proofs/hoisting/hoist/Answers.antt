use Rattle.std.proofs.Common.{List, length, subst}
use Rattle.flux_model.specs.declared.programs.Node.{Node}
use Rattle.flux_hoist.specs.steps.Reaching.{AreReached, AreHoisted}
use Rattle.flux_hoist.proofs.Hoisted.{hoisted_locks}
use Rattle.flux_hoist.proofs.hoisting.hoist.Goals as goal

pub returns : goal.returns
returns c =
    hoisted_locks c.args.p.now c.in_ok-table.table c.in_ok-all_locks.field-0
    (subst (λ (nodes : List Node). AreReached nodes c.in_ok-table.table) c.as_slice-nodes.ensures c.in_ok-table.ensures)
    (subst (λ (nodes : List Node). AreHoisted nodes c.in_ok-table.table (length nodes) c.in_ok-all_locks.field-0) c.as_slice-nodes.ensures
    (rw c.as_slice-2.ensures at c.in_ok-all_locks.ensures))
