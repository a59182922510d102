use Rattle.flow_core.specs.Runs.{GoesOn}
use Rattle.rt_event.proofs.shifts.all_shifts.Given as goal

abbrev pub invariant-loop : goal.invariant-loop
invariant-loop g l = GoesOn l.fn.core l.core
