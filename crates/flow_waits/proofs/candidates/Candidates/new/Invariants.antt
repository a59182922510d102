use Rattle.std.proofs.Common.{ℕ, ◌<◌, ◌≡◌, true}
use Rattle.flow_waits.specs.steps.Waking.{has}
use Rattle.flow_waits.proofs.candidates.Candidates.new.Given as goal

abbrev pub invariant-loop-flow : goal.invariant-loop-flow
invariant-loop-flow g l = ((flow : ℕ) → flow < l.flow → has l.ready flow ≡ true) ×
    ((flow : ℕ) → has l.ready flow ≡ true → flow < l.flow)
