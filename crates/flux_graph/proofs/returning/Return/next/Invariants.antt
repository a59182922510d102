use Rattle.std.proofs.Common.{◌≡◌, length}
use Rattle.flux_graph.specs.steps.Returning.{Seeks}
use Rattle.flux_graph.proofs.returning.Return.next.Given as goal

abbrev pub invariant-loop-step : goal.invariant-loop-step
invariant-loop-step l = (Seeks l.fn.nodes l.fn.start l.fn.self → Seeks l.fn.nodes l.fn.start l.self) × (l.self.entered ≡ l.fn.self.entered)

abbrev pub decreases-loop-step : goal.decreases-loop-step
decreases-loop-step l = length l.self.steps
