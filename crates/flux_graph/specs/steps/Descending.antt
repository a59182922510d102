-- Steps of the proof of `below`: what has been visited, on the way down an order.
use Rattle.std.specs.Prelude.{ℕ, zero, suc, nat_eq, List, [], ◌∷◌, ◌++◌, if◌then◌else◌, ⊤}
use Rattle.std.specs.List.{list_any}
use Rattle.flux_model.specs.declared.programs.NodeNo.{NodeNo}
use Rattle.flux_model.specs.declared.programs.Node.{Node}
use Rattle.flux_model.specs.declared.programs.Program.{Program}
use Rattle.flux_model.specs.Leading.{leads_in}
use Rattle.flux_model.specs.Children.{IsIn, IsBelow, members}
use Rattle.flux_model.specs.Visits.{IsKnown}

-- each leads to nothing but what comes after it
abbrev pub LeadDown : List Node → List NodeNo → Type 0
LeadDown nodes [] = ⊤
LeadDown nodes (node ∷ rest) =
    ((led : ℕ) → IsIn led (leads_in nodes node.0) → IsIn led rest) × LeadDown nodes rest

-- what has been visited is below the node; the node's members have been visited; and from what has been visited and
-- isn't still to come, so has all that is led to
pub record IsOnTheWay (p : Program) (top : ℕ) (visits : List ℕ) (rest : List NodeNo) : Type 0 where
  pub down : LeadDown p.nodes rest
  pub each : (number : ℕ) → IsKnown number visits → IsBelow p top number
  pub begun : (number : ℕ) → IsIn number (members p top) → IsKnown number visits
  pub closed : (from led : ℕ) → IsKnown from visits → (IsIn from rest → ⊥)
      → IsIn led (leads_in p.nodes from) → IsKnown led visits

-- exactly what is below a node has been visited
pub record Has (p : Program) (top : ℕ) (visits : List ℕ) : Type 0 where
  pub each : (number : ℕ) → IsKnown number visits → IsBelow p top number
  pub all : (number : ℕ) → IsBelow p top number → IsKnown number visits

-- the numbers below a count that are among these, in rising order
abbrev pub among : List ℕ → ℕ → List NodeNo
among numbers zero = []
among numbers (suc count) =
    if list_any (nat_eq count) numbers
    then among numbers count ++ record { 0 = count } ∷ []
    else among numbers count
