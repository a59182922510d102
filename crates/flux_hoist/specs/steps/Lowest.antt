-- Steps of the report: the lowest-numbered of some nodes.
use Rattle.std.specs.Prelude.{ℕ, ◌≤◌, fold, nat_lt, if◌then◌else◌, List, Option, Some, None, unwrap_or}
use Rattle.std.specs.List.{slice_get}
use Rattle.flux_model.specs.declared.programs.NodeNo.{NodeNo}
use Rattle.flux_model.specs.declared.programs.Node.{Node}
use Rattle.flux_model.specs.declared.programs.Hold.{Hold}
use Rattle.flux_model.specs.declared.programs.Program.{Program}
use Rattle.flux_model.specs.Children.{IsBelow}
use Rattle.flux_model.specs.Locks.{declared_on, declared, HasAtLeast}
use Rattle.flux_hoist.specs.steps.Reaching.{IsPath}

-- of two nodes the lower one
abbrev pub lower : Option NodeNo → Option NodeNo → Option NodeNo
lower None other = other
lower (Some node) None = Some node
lower (Some node) (Some other) = Some (if nat_lt other.0 node.0 then other else node)

-- the node that a table has for a number
abbrev pub node_at : List (Option NodeNo) → ℕ → Option NodeNo
node_at table number = unwrap_or (slice_get table number) None

abbrev pub lowest_among : List (Option NodeNo) → Option NodeNo → List NodeNo → Option NodeNo
lowest_among table first nodes = fold (λ found node. lower found (node_at table node.0)) first nodes

-- the lowest number of which something holds
abbrev pub IsLowest : (ℕ → Type 0) → Option NodeNo → Type 0
IsLowest Is None = (number : ℕ) → Is number → ⊥
IsLowest Is (Some node) = Is node.0 × ((number : ℕ) → Is number → node.0 ≤ number)

-- a node is another, or leads on to it, and that one declares a class in at least this mode
pub record Finds (nodes : List Node) (hold : Hold) (from to : ℕ) : Type 0 where
  pub path : List ℕ
  pub way : IsPath nodes from path to
  pub declares : HasAtLeast (declared_on (slice_get nodes to)) hold

-- a table has the lowest of these for each node
abbrev pub AreLowest : List Node → Hold → List (Option NodeNo) → Type 0
AreLowest nodes hold table = (number : ℕ) → IsLowest (Finds nodes hold number) (node_at table number)

-- a node below another declares a class in at least this mode
abbrev pub IsCausal : Program → ℕ → Hold → ℕ → Type 0
IsCausal p top hold number = IsBelow p top number × HasAtLeast (declared p number) hold
