-- What calls cost, in ticks.
use Rattle.std.specs.Prelude.{◌≡◌, ℕ, ◌≤◌, List, length}
use Rattle.std.specs.List.{slice_index, AllByRecursion}
use Rattle.flux_model.specs.declared.programs.NodeNo.{NodeNo}
use Rattle.flux_model.specs.declared.programs.Program.{Program}

-- the cost of a node's calls
abbrev pub cost_of : List ℕ → NodeNo → ℕ
cost_of costs node = slice_index costs node.0

-- one cost for each node, each from 1 to 1,000
pub record AreCosts (program : Program) (costs : List ℕ) : Type 0 where
  pub each : length costs ≡ length program.nodes
  pub within : AllByRecursion (λ cost. (1 ≤ cost) × (cost ≤ 1000)) costs
