use Rattle.std.proofs.Common.{◌≡◌, ◌-◌, length}
use Rattle.flux_graph.specs.steps.Search.{Holds}
use Rattle.flux_graph.proofs.ordering.order_or_cycle.Given as goal

abbrev pub invariant-loop-search : goal.invariant-loop-search
invariant-loop-search l = Holds l.nodes l.search × (l.nodes ≡ l.fn.p.nodes)

abbrev pub decreases-loop-search : goal.decreases-loop-search
decreases-loop-search l = length l.nodes - length l.search.entered
