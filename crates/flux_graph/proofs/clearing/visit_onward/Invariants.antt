use Rattle.std.proofs.Common.{◌-◌}
use Rattle.flux_model.specs.Visits.{IsKnown}
use Rattle.flux_graph.specs.steps.Clearing.{AreClosed}
use Rattle.flux_graph.proofs.ClearingLemmas.{AreClosedBelow}
use Rattle.flux_graph.proofs.clearing.visit_onward.Given as goal

abbrev pub invariant-loop-place : goal.invariant-loop-place
invariant-loop-place l = record {
  start : IsKnown l.fn.start.0 l.visits;
  closed : AreClosed l.nodes l.fn.visits → AreClosedBelow l.nodes l.visits l.place;
}

abbrev pub decreases-loop-place : goal.decreases-loop-place
decreases-loop-place l = 18446744073709551616 - l.place
