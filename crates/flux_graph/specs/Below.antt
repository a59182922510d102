-- What is below a node, in rising order.
use Rattle.std.specs.Prelude.{ℕ, ◌<◌, List, [], ◌∷◌, ⊤}
use Rattle.flux_model.specs.declared.programs.NodeNo.{NodeNo}
use Rattle.flux_model.specs.declared.programs.Program.{Program}
use Rattle.flux_model.specs.Children.{IsIn, IsBelow}

-- each number is lower than those after it
abbrev pub IsRising : List NodeNo → Type 0
IsRising [] = ⊤
IsRising (node ∷ nodes) = ((number : ℕ) → IsIn number nodes → node.0 < number) × IsRising nodes

-- these are exactly the nodes below a node, in rising order
pub record AreBelow (p : Program) (top : ℕ) (nodes : List NodeNo) : Type 0 where
  pub each : (number : ℕ) → IsIn number nodes → IsBelow p top number
  pub all : (number : ℕ) → IsBelow p top number → IsIn number nodes
  pub rising : IsRising nodes
