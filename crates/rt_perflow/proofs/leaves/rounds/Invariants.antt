use Rattle.flow_core.specs.Runs.{GoesOn}
use Rattle.rt_perflow.proofs.leaves.rounds.Given as goal

abbrev pub invariant-loop : goal.invariant-loop
invariant-loop g l = GoesOn l.fn.core l.core
