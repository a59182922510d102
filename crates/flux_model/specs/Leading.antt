-- What nodes lead to.
use Rattle.std.specs.Prelude.{ℕ, List, [], ◌++◌, map, Option, Some, None}
use Rattle.std.specs.List.{flat_map, slice_get}
use Rattle.flux_model.specs.declared.programs.NodeNo.{NodeNo}
use Rattle.flux_model.specs.declared.programs.Node.{Node}
use Rattle.flux_model.specs.declared.programs.HandleArm.{HandleArm}
use Rattle.flux_model.specs.declared.programs.Body.{Body}
use Rattle.flux_model.specs.declared.programs.Body.TheVariants.{Concrete, Abstract}

-- the members of a node's cases, in order
abbrev pub members_of : Body → List NodeNo
members_of (Concrete library) = []
members_of (Abstract cases) = flat_map (λ case. case.members) cases

-- the handlers of a node's failures, in order
abbrev pub handlers_of : List HandleArm → List NodeNo
handlers_of arms = map (λ arm. arm.node) arms

-- a node leads to the members of its cases and to its handlers
abbrev pub leads_to : Node → List NodeNo
leads_to node = members_of node.body ++ handlers_of node.on_fail

-- what a node's number has, if there is such a node
abbrev pub numbers_of : (Node → List NodeNo) → Option Node → List NodeNo
numbers_of of None = []
numbers_of of (Some node) = of node

-- what the node of a number leads to
abbrev pub leads_in : List Node → ℕ → List NodeNo
leads_in nodes number = numbers_of leads_to (slice_get nodes number)
