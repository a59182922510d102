use Rattle.std.proofs.Common.{◌≡◌, ◌≤◌, take}
use Rattle.flux_runs.specs.Summaries.{step_count}
use Rattle.flux_runs.proofs.summaries.step_count.Given as goal

abbrev pub invariant-loop-entry : goal.invariant-loop-entry
invariant-loop-entry l = (l.count ≡ step_count (take l.entry-index l.entries)) × (l.count ≤ l.entry-index)
