-- Orders of nodes, and cycles of what leads to what.
use Rattle.std.specs.Prelude.{◌≡◌, ℕ, ◌<◌, ◌≤◌, List, [], ◌∷◌, ◌++◌, length, ⊤}
use Rattle.flux_model.specs.declared.programs.NodeNo.{NodeNo}
use Rattle.flux_model.specs.declared.programs.Node.{Node}
use Rattle.flux_model.specs.Leading.{leads_in}
use Rattle.flux_model.specs.Children.{IsIn}

-- each is one of the nodes, none of those before it, and is after all that it leads to
abbrev pub ComeAfter : List Node → List NodeNo → List NodeNo → Type 0
ComeAfter nodes before [] = ⊤
ComeAfter nodes before (node ∷ order) = (node.0 < length nodes) × (IsIn node.0 before → ⊥)
    × ((led : ℕ) → IsIn led (leads_in nodes node.0) → IsIn led before)
    × ComeAfter nodes (node ∷ before) order

-- each node is there once, after all that it leads to
pub record IsOrder (nodes : List Node) (order : List NodeNo) : Type 0 where
  pub each : (number : ℕ) → number < length nodes → IsIn number order
  pub after : ComeAfter nodes [] order

-- each is led to from the one before it
abbrev pub IsLed : List Node → ℕ → List NodeNo → Type 0
IsLed nodes from [] = ⊤
IsLed nodes from (next ∷ others) = IsIn next.0 (leads_in nodes from) × IsLed nodes next.0 others

-- a node leads to another, over these between them
pub record LeadsOn (nodes : List Node) (from to : ℕ) : Type 0 where
  pub between : List NodeNo
  pub led : IsLed nodes from (between ++ record { 0 = to } ∷ [])

-- leading has a cycle: a node that leads on to itself
abbrev pub HasCycle : List Node → Type 0
HasCycle nodes = (from : ℕ) × LeadsOn nodes from from

-- no node comes twice
abbrev pub AreDistinct : List NodeNo → Type 0
AreDistinct [] = ⊤
AreDistinct (node ∷ others) = (IsIn node.0 others → ⊥) × AreDistinct others

-- a path of a cycle: it ends with the node that it begins with, and no other comes twice
pub record IsCycle (nodes : List Node) (path : List NodeNo) : Type 0 where
  pub first : NodeNo
  pub others : List NodeNo
  pub is : path ≡ first ∷ others ++ first ∷ []
  pub led : IsLed nodes first.0 (others ++ first ∷ [])
  pub distinct : AreDistinct (first ∷ others)

-- no node that is on any cycle has a lower number than the one that the path begins with
pub record IsLowestCycle (nodes : List Node) (path : List NodeNo) : Type 0 where
  pub cycle : IsCycle nodes path
  pub lowest : (number : ℕ) → LeadsOn nodes number number → cycle.first.0 ≤ number
