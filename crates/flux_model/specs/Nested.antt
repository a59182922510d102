-- What a rule gives for nodes, where it depends on what it gives for the nodes that they lead to.
use Rattle.std.specs.Prelude.{◌≡◌, ℕ, zero, suc, length, List, Option, Some, None}
use Rattle.std.specs.List.{slice_get}
use Rattle.flux_model.specs.declared.programs.Node.{Node}
use Rattle.flux_model.specs.Leading.{leads_to}
use Rattle.flux_model.specs.Children.{IsIn}

-- from what others have, a node's number and the node to what it has
abbrev pub Rule : Type 0 → Type 0
Rule X = (ℕ → X) → ℕ → Node → X

abbrev pub for_node : {X : Type 0} → X → (Node → X) → Option Node → X
for_node none of None = none
for_node none of (Some node) = of node

-- through as many nested nodes; past them, and where there is no such node, there is `none`
abbrev pub nested : {X : Type 0} → X → Rule X → List Node → ℕ → ℕ → X
nested none rule nodes zero number = none
nested none rule nodes (suc depth) number = for_node none (rule (nested none rule nodes depth) number) (slice_get nodes number)

-- through all nodes. Where leading has no cycle this keeps the rule: no way over what nodes lead to is longer
abbrev pub through : {X : Type 0} → X → Rule X → List Node → ℕ → X
through none rule nodes number = nested none rule nodes (length nodes) number

-- the rule looks at nothing but the nodes that a node leads to
abbrev pub LooksDown : {X : Type 0} → Rule X → Type 0
LooksDown {X} rule = (f g : ℕ → X) (number : ℕ) (node : Node) → ((led : ℕ) → IsIn led (leads_to node) → f led ≡ g led) → rule f number node ≡ rule g number node
