use Rattle.std.proofs.Common.{◌≡◌, take}
use Rattle.std.specs.List.{All}
use Rattle.call_trials.proofs.tests.tables.stood_only_at.Given as goal

abbrev pub invariant-loop-other : goal.invariant-loop-other
invariant-loop-other l = All (λ s. s.1.flow.0 ≡ l.flow.0 → (s.0 ≡ l.key) × (s.1.mode ≡ l.mode))
    (take l.other-index l.stood)
