use Rattle.std.proofs.Common.{◌≡◌, ◌++◌, map, length}
use Rattle.flux_edges.specs.Handlers.{arm_of}
use Rattle.flux_edges.proofs.handlers.add_arms.Given as goal

abbrev pub invariant-loop-rest : goal.invariant-loop-rest
invariant-loop-rest l = l.arms ++ map (arm_of l.number) l.rest ≡ l.initial.arms ++ map (arm_of l.number) l.fn.on_fail

abbrev pub decreases-loop-rest : goal.decreases-loop-rest
decreases-loop-rest l = length l.rest
