-- Steps of the proof of `order`: what its search in depth has found so far.
use Rattle.std.specs.Prelude.{◌≡◌, ℕ, ◌<◌, ◌⊎◌, List, [], ◌∷◌, ◌++◌, length, Option, Some, None, nat_eq, false, ⊤}
use Rattle.std.specs.List.{list_any, IsDistinct, AllByRecursion}
use Rattle.flux_model.specs.declared.programs.NodeNo.{NodeNo}
use Rattle.flux_model.specs.declared.programs.Node.{Node}
use Rattle.flux_model.specs.Children.{IsIn}
use Rattle.flux_graph.specs.declared.steps.Step.{Step}
use Rattle.flux_graph.specs.declared.steps.Step.TheVariants.{Enter, Leave}
use Rattle.flux_graph.specs.declared.ordering.Search.{Search}
use Rattle.flux_model.specs.Leading.{leads_to, leads_in}
use Rattle.flux_model.specs.Numbered.{AreBelow}
use Rattle.flux_model.specs.Visits.{IsKnown, with_number}
use Rattle.flux_model.specs.Ordering.{ComeAfter, AreDistinct}
use Rattle.flux_graph.specs.steps.Searching.{enters, leaves_of, numbered}

-- each node leads to nodes alone
abbrev pub LeadToNodes : List Node → Type 0
LeadToNodes nodes = AllByRecursion (λ node. AreBelow (length nodes) (leads_to node)) nodes

-- ---- moves

-- all nodes are still to be entered
pub record IsBegun (count : ℕ) (s : Search) : Type 0 where
  pub steps : s.steps ≡ enters (numbered count)
  pub entered : s.entered ≡ []
  pub done : s.done ≡ []
  pub order : s.order ≡ []

-- a node is left
abbrev pub left : Search → NodeNo → Search
left s node = record {
  steps = s.steps;
  entered = s.entered;
  done = with_number s.done node.0;
  order = s.order ++ node ∷ [];
}

-- a node is entered
abbrev pub entered : List Node → Search → NodeNo → Search
entered nodes s node = record {
  steps = (s.steps ++ Leave node ∷ []) ++ enters (leads_in nodes node.0);
  entered = with_number s.entered node.0;
  done = s.done;
  order = s.order;
}

-- one step more
abbrev pub with_step : Search → Step → Search
with_step s step = record {
  steps = s.steps ++ step ∷ [];
  entered = s.entered;
  done = s.done;
  order = s.order;
}

-- ---- what holds

-- a number's node has a step
abbrev pub HasStep : ℕ → List Step → Type 0
HasStep number [] = ⊥
HasStep number (Enter node ∷ steps) = (number ≡ node.0) ⊎ HasStep number steps
HasStep number (Leave node ∷ steps) = (number ≡ node.0) ⊎ HasStep number steps

-- all that an entered node leads to is in the order, or has a later step
abbrev pub Covered : List Node → List NodeNo → List Step → Type 0
Covered nodes order [] = ⊤
Covered nodes order (Enter node ∷ steps) = Covered nodes order steps
Covered nodes order (Leave node ∷ steps) =
    ((led : ℕ) → IsIn led (leads_in nodes node.0) → IsIn led order ⊎ HasStep led steps)
    × Covered nodes order steps

-- a node is led to by the one before it, or begins the search
abbrev pub FollowsOn : List Node → Option ℕ → ℕ → Type 0
FollowsOn nodes None number = number < length nodes
FollowsOn nodes (Some from) number = IsIn number (leads_in nodes from)

-- each step's node follows on the node that was entered last before it
abbrev pub AreLed : List Node → Option ℕ → List Step → Type 0
AreLed nodes from [] = ⊤
AreLed nodes from (Enter node ∷ steps) = FollowsOn nodes from node.0 × AreLed nodes from steps
AreLed nodes from (Leave node ∷ steps) =
    FollowsOn nodes from node.0 × AreLed nodes (Some node.0) steps

-- what holds of the search: each node is in the order or has a step; the order is one so far; and each node that was
-- entered is done or still to be left
pub record Holds (nodes : List Node) (s : Search) : Type 0 where
  pub roots : (x : ℕ) → x < length nodes → IsIn x s.order ⊎ HasStep x s.steps
  pub covered : Covered nodes s.order s.steps
  pub led : AreLed nodes None s.steps
  pub leaves : AreDistinct (leaves_of s.steps)
  pub after : ComeAfter nodes [] s.order
  pub known : (x : ℕ) → IsKnown x s.entered → IsKnown x s.done ⊎ IsIn x (leaves_of s.steps)
  pub done : (x : ℕ) → IsKnown x s.done → IsIn x s.order
  pub ordered : (x : ℕ) → IsIn x s.order → IsKnown x s.entered
  pub entered : (x : ℕ) → IsIn x (leaves_of s.steps) → IsKnown x s.entered
  pub apart : (x : ℕ) → IsIn x s.order → IsIn x (leaves_of s.steps) → ⊥
  pub unique : IsDistinct nat_eq s.entered
  pub within : (x : ℕ) → IsKnown x s.entered → x < length nodes

-- the next node is to be entered, or nothing is left to do
abbrev pub IsNext : List Node → Search → Search → Option NodeNo → Type 0
IsNext nodes old new None = Holds nodes new × (new.steps ≡ [])
IsNext nodes old new (Some node) = Holds nodes (with_step new (Enter node))
    × (list_any (nat_eq node.0) new.entered ≡ false) × (new.entered ≡ old.entered)
