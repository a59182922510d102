use Rattle.std.proofs.Common.{ℕ, ◌≤◌, ◌^◌}
use Rattle.flux_hoist.specs.steps.Declaring.{AreFewer}
use Rattle.flux_hoist.proofs.Declared.{AreFirstFewer}
use Rattle.flux_hoist.proofs.declarers.class_count.Given as goal

abbrev pub invariant-loop-set : goal.invariant-loop-set
invariant-loop-set l = record {
  below : AreFirstFewer l.sets l.set-index l.count;
  least : (other : ℕ) → AreFewer l.sets other → l.count ≤ other;
  few : l.count ≤ 2 ^ 32;
}
