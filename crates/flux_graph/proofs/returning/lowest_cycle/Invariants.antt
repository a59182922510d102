use Rattle.std.proofs.Common.{ℕ, ◌<◌, ◌-◌, length}
use Rattle.flux_model.specs.Ordering.{LeadsOn}
use Rattle.flux_graph.proofs.returning.lowest_cycle.Given as goal

abbrev pub invariant-loop-number : goal.invariant-loop-number
invariant-loop-number l = (x : ℕ) → x < l.number → LeadsOn l.nodes x x → ⊥

abbrev pub decreases-loop-number : goal.decreases-loop-number
decreases-loop-number l = length l.nodes - l.number
