use Rattle.std.proofs.Common.{take}
use Rattle.std.specs.Prelude.{◌≢◌}
use Rattle.std.specs.List.{All}
use Rattle.call_trials.proofs.tests.tables.stood_nowhere.Given as goal

abbrev pub invariant-loop-waiter : goal.invariant-loop-waiter
invariant-loop-waiter l = All (λ s. s.1.flow.0 ≢ l.flow.0) (take l.waiter-index l.stood)
