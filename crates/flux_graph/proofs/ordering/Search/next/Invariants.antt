use Rattle.std.proofs.Common.{◌≡◌, length}
use Rattle.flux_graph.specs.steps.Search.{Holds}
use Rattle.flux_graph.proofs.ordering.Search.next.Given as goal

abbrev pub invariant-loop-step : goal.invariant-loop-step
invariant-loop-step l = (Holds l.fn.nodes l.fn.self → Holds l.fn.nodes l.self) × (l.self.entered ≡ l.fn.self.entered)

abbrev pub decreases-loop-step : goal.decreases-loop-step
decreases-loop-step l = length l.self.steps
