use Rattle.std.proofs.Common.{◌≡◌, take}
use Rattle.flux_graph.specs.steps.Searching.{leaves_of}
use Rattle.flux_graph.proofs.steps.leaves.Given as goal

abbrev pub invariant-loop-step : goal.invariant-loop-step
invariant-loop-step l = l.leaves ≡ leaves_of (take l.step-index l.steps)
