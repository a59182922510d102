use Rattle.std.proofs.Common.{◌-◌}
use Rattle.flux_verify.specs.steps.Visits.{IsReaching}
use Rattle.flux_verify.proofs.reaching.reach.Given as goal

abbrev pub invariant-loop-place : goal.invariant-loop-place
invariant-loop-place l = IsReaching l.segments l.starts l.visits l.place

abbrev pub decreases-loop-place : goal.decreases-loop-place
decreases-loop-place l = 18446744073709551616 - l.place
