use Rattle.std.proofs.Common.{◌≡◌, ◌≤◌, length}
use Rattle.std.specs.List.{AllByRecursion}
use Rattle.flow_trials.proofs.readying.all_costs.Given as goal

-- so many costs
abbrev pub invariant-loop-node : goal.invariant-loop-node
invariant-loop-node l =
    (length l.all ≡ l.node) × AllByRecursion (λ cost. (1 ≤ cost) × (cost ≤ 1000)) l.all
