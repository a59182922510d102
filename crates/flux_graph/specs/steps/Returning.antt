-- Steps of the proof that finds a way from a node back to it.
use Rattle.std.specs.Prelude.{◌≡◌, ℕ, ◌<◌, ◌⊎◌, List, [], ◌∷◌, ◌++◌, length, Option, Some, None, nat_eq, false, ⊤}
use Rattle.std.specs.List.{list_any, IsDistinct}
use Rattle.flux_model.specs.declared.programs.NodeNo.{NodeNo}
use Rattle.flux_model.specs.declared.programs.Node.{Node}
use Rattle.flux_model.specs.Children.{IsIn}
use Rattle.flux_graph.specs.declared.steps.Step.{Step}
use Rattle.flux_graph.specs.declared.steps.Step.TheVariants.{Enter, Leave}
use Rattle.flux_graph.specs.declared.returning.Return.{Return}
use Rattle.flux_model.specs.Leading.{leads_in}
use Rattle.flux_model.specs.Visits.{IsKnown, with_number}
use Rattle.flux_model.specs.Ordering.{AreDistinct, IsLed, LeadsOn}
use Rattle.flux_graph.specs.steps.Searching.{enters, leaves_of}
use Rattle.flux_graph.specs.steps.Search.{AreLed}

-- a number's node is still to be entered
abbrev pub IsAhead : ℕ → List Step → Type 0
IsAhead number [] = ⊥
IsAhead number (Enter node ∷ steps) = (number ≡ node.0) ⊎ IsAhead number steps
IsAhead number (Leave node ∷ steps) = IsAhead number steps

-- the first step exits the node that the search began with, until all is done
abbrev pub BeginsWith : NodeNo → List Step → Type 0
BeginsWith start [] = ⊤
BeginsWith start (step ∷ steps) = step ≡ Leave start

-- a node is entered
abbrev pub moved : List Node → Return → NodeNo → Return
moved nodes s node = record {
  steps = (s.steps ++ Leave node ∷ []) ++ enters (leads_in nodes node.0);
  entered = with_number s.entered node.0;
}

-- one step more
abbrev pub and_step : Return → Step → Return
and_step s step = record { steps = s.steps ++ step ∷ []; entered = s.entered }

-- what holds of the search: its steps are led and lead back to the start, and all that an entered node leads to was
-- entered or is ahead
pub record Seeks (nodes : List Node) (start : NodeNo) (s : Return) : Type 0 where
  pub led : AreLed nodes None s.steps
  pub leaves : AreDistinct (leaves_of s.steps)
  pub begins : BeginsWith start s.steps
  pub inside : (x : ℕ) → IsIn x (leaves_of s.steps) → IsKnown x s.entered
  pub covered : (x y : ℕ) → IsKnown x s.entered → IsIn y (leads_in nodes x)
      → (IsKnown y s.entered × (y ≡ start.0 → ⊥)) ⊎ IsAhead y s.steps
  pub unique : IsDistinct nat_eq s.entered
  pub within : (x : ℕ) → IsKnown x s.entered → x < length nodes
  pub started : IsKnown start.0 s.entered

-- the next node that is new, or the one that the search began with
abbrev pub IsAfter : List Node → NodeNo → Return → Return → Option NodeNo → Type 0
IsAfter nodes start old new None = Seeks nodes start new × (new.steps ≡ [])
IsAfter nodes start old new (Some node) = Seeks nodes start (and_step new (Enter node))
    × (new.entered ≡ old.entered)
    × ((node.0 ≡ start.0) ⊎ (list_any (nat_eq node.0) new.entered ≡ false))

-- the way back
pub record IsWayBack (nodes : List Node) (start : NodeNo) (path : List NodeNo) : Type 0 where
  pub others : List NodeNo
  pub is : path ≡ start ∷ others ++ start ∷ []
  pub led : IsLed nodes start.0 (others ++ start ∷ [])
  pub distinct : AreDistinct (start ∷ others)

-- there is no way back, or this is one
abbrev pub IsBack : List Node → NodeNo → Option (List NodeNo) → Type 0
IsBack nodes start None = LeadsOn nodes start.0 start.0 → ⊥
IsBack nodes start (Some path) = IsWayBack nodes start path
