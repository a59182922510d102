use Rattle.std.specs.Prelude.{◌-◌, ◌≤◌}
use Rattle.flow_core.specs.Runs.{GoesOn}
use Rattle.rt_perflow.proofs.leaves.groups.Given as goal

abbrev pub invariant-loop-first : goal.invariant-loop-first
invariant-loop-first g l = GoesOn l.fn.core l.core × (l.first ≤ l.flows)

abbrev pub decreases-loop-first : goal.decreases-loop-first
decreases-loop-first g l = l.flows - l.first
