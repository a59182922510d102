-- Steps of the search against leading: for each node those that lead to it.
use Rattle.std.specs.Prelude.{◌≡◌, ℕ, ◌<◌, List, [], ◌∷◌, ◌++◌, length, slice_set, slice_index_or}
use Rattle.flux_model.specs.declared.programs.NodeNo.{NodeNo}
use Rattle.flux_model.specs.declared.programs.Node.{Node}
use Rattle.flux_model.specs.Leading.{leads_in}
use Rattle.flux_model.specs.Children.{IsIn}

-- those that lead to the node of a number
abbrev pub leaders_at : List (List NodeNo) → ℕ → List NodeNo
leaders_at leaders number = slice_index_or leaders number []

-- one more leads to the node of a number
abbrev pub with_leader : List (List NodeNo) → ℕ → NodeNo → List (List NodeNo)
with_leader leaders number node = slice_set leaders number (leaders_at leaders number ++ node ∷ [])

-- a node has been added to those that lead to each of these, and all others are where they were
pub record LeadsToAll (node : NodeNo) (led : List NodeNo) (before after : List (List NodeNo)) : Type 0 where
  pub many : length after ≡ length before
  pub kept : (from to : ℕ) → IsIn from (leaders_at before to) → IsIn from (leaders_at after to)
  pub added : (to : ℕ) → to < length before → IsIn to led → IsIn node.0 (leaders_at after to)

-- each node is among those that lead to what it leads to
abbrev pub HaveLeaders : List Node → List (List NodeNo) → Type 0
HaveLeaders nodes leaders = (from to : ℕ) → to < length nodes → IsIn to (leads_in nodes from)
    → IsIn from (leaders_at leaders to)
