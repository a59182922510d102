use Rattle.flow_core.specs.Runs.{GoesOn}
use Rattle.rt_pool.proofs.workers.PoolWorker.advance.Given as goal

abbrev pub invariant-loop-flow : goal.invariant-loop-flow
invariant-loop-flow g l = GoesOn l.fn.core l.core
