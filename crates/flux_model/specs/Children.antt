-- The children of nodes, and what is below a node.
use Rattle.std.specs.Prelude.{◌≡◌, ℕ, ◌⊎◌, List, [], ◌∷◌}
use Rattle.std.specs.List.{slice_get}
use Rattle.flux_model.specs.declared.programs.NodeNo.{NodeNo}
use Rattle.flux_model.specs.declared.programs.Program.{Program}
use Rattle.flux_model.specs.Leading.{members_of, handlers_of, numbers_of}

-- a number is among numbers
abbrev pub IsIn : ℕ → List NodeNo → Type 0
IsIn number [] = ⊥
IsIn number (other ∷ numbers) = (number ≡ other.0) ⊎ IsIn number numbers

-- the members of the node of a number, and its handlers
abbrev pub members : Program → ℕ → List NodeNo
members p number = numbers_of (λ node. members_of node.body) (slice_get p.nodes number)

abbrev pub handlers : Program → ℕ → List NodeNo
handlers p number = numbers_of (λ node. handlers_of node.on_fail) (slice_get p.nodes number)

-- each is a handler of the one before it, from a node to another
abbrev pub AreHandlers : Program → ℕ → List ℕ → ℕ → Type 0
AreHandlers p from [] to = from ≡ to
AreHandlers p from (next ∷ others) to = IsIn next (handlers p from) × AreHandlers p next others to

-- the children of a node are the members of its cases, and the handlers of its children
pub record IsChild (p : Program) (parent child : ℕ) : Type 0 where
  pub member : ℕ
  pub is_member : IsIn member (members p parent)
  pub others : List ℕ
  pub are_handlers : AreHandlers p member others child

-- from a node over children to another, one step or more
abbrev pub IsWay : Program → ℕ → List ℕ → ℕ → Type 0
IsWay p from [] to = IsChild p from to
IsWay p from (next ∷ others) to = IsChild p from next × IsWay p next others to

-- a node is below another
pub record IsBelow (p : Program) (top node : ℕ) : Type 0 where
  pub between : List ℕ
  pub way : IsWay p top between node
