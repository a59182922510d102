use Rattle.std.proofs.Common.{◌≡◌, ◌≤◌, ℕ}
use Rattle.flux_plan.specs.Faulty.{IsFaulty}
use Rattle.flux_verify.proofs.verifying.first_in_segments.Given as goal

abbrev pub invariant-loop-segment : goal.invariant-loop-segment
invariant-loop-segment l = record {
  counted : l.node ≡ l.segment-index;
  none : (other at : ℕ) → IsFaulty l.plan other at → l.node ≤ other;
}
