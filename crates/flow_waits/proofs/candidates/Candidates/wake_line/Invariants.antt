use Rattle.std.proofs.Common.{◌≡◌, ℕ, ◌||◌, drop}
use Rattle.flow_waits.specs.steps.Waking.{has}
use Rattle.flow_waits.specs.steps.Covers.{served_of}
use Rattle.flow_waits.proofs.candidates.Candidates.wake_line.Given as goal

abbrev pub invariant-loop-waiter : goal.invariant-loop-waiter
invariant-loop-waiter l = ((flow : ℕ) → (has (served_of l.line) flow || has l.fn.self.ready flow)
    ≡ (has (served_of (drop l.waiter-index l.line)) flow || has l.self-inside.ready flow))
    × (l.self-inside.readers ≡ l.fn.self.readers) × (l.self-inside.writers ≡ l.fn.self.writers)
