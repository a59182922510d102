use Rattle.std.proofs.Common.{◌≡◌, ◌+◌, ◌++◌, length}
use Rattle.flux_edges.specs.Handlers.{arms_from}
use Rattle.flux_edges.proofs.handlers.arms_of.Given as goal

abbrev pub invariant-loop-rest : goal.invariant-loop-rest
invariant-loop-rest l = (l.arms ++ arms_from l.number l.rest ≡ arms_from 0 l.fn.nodes) × (l.number + length l.rest ≡ length l.fn.nodes)

abbrev pub decreases-loop-rest : goal.decreases-loop-rest
decreases-loop-rest l = length l.rest
