use Rattle.std.proofs.Common.{◌≡◌, ℕ, ◌<◌, length}
use Rattle.flux_hoist.specs.steps.Lowest.{AreLowest}
use Rattle.flux_hoist.specs.steps.Declaring.{table_at}
use Rattle.flux_hoist.proofs.declarers.tables.Given as goal

abbrev pub invariant-loop-number : goal.invariant-loop-number
invariant-loop-number l = record {
  many : length l.tables ≡ l.number;
  each : (number : ℕ) → number < l.number → AreLowest l.nodes (record { class = record { 0 = number }; mode = l.mode }) (table_at l.tables (record { 0 = number }));
}
