use Rattle.std.proofs.Common.{ℕ, ◌<◌, IsSome}
use Rattle.flow_core.specs.States.{begun_by}
use Rattle.rt_event.proofs.leads.lowest_call.Given as goal

abbrev pub invariant-loop-number : goal.invariant-loop-number
invariant-loop-number g l = (flow : ℕ) → flow < l.number → IsSome (begun_by l.core flow) → ⊥
