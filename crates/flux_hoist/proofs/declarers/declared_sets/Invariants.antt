use Rattle.std.proofs.Common.{◌≡◌, ◌↔◌, ℕ, ◌<◌, length, slice_get}
use Rattle.flux_model.specs.declared.programs.Hold.{Hold}
use Rattle.flux_model.specs.Locks.{HasAtLeast, declared_on}
use Rattle.flux_hoist.specs.Sets.{held_by}
use Rattle.flux_hoist.proofs.declarers.declared_sets.Given as goal

abbrev pub invariant-loop-node : goal.invariant-loop-node
invariant-loop-node l = record {
  many : length l.sets ≡ l.node-index;
  each : (number : ℕ) → number < l.node-index → (hold : Hold) → HasAtLeast (held_by l.sets number) hold ↔ HasAtLeast (declared_on (slice_get l.nodes number)) hold;
}
