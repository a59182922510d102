use Rattle.flow_core.specs.Runs.{GoesOn}
use Rattle.rt_pool.proofs.pool.rounds.Given as goal

abbrev pub invariant-loop : goal.invariant-loop
invariant-loop g l = GoesOn l.fn.core l.core
