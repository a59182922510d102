use Rattle.std.proofs.Common.{length}
use Rattle.flux_graph.proofs.leaving.Leaving.next.Given as goal

abbrev pub decreases-loop-step : goal.decreases-loop-step
decreases-loop-step l = length l.self.steps
