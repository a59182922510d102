-- What has been reached, and visited.
use Rattle.std.specs.Prelude.{◌≡◌, ℕ, List, [], ◌<◌, Option, Some, None}
use Rattle.std.specs.List.{slice_get}
use Rattle.flux_model.specs.declared.programs.NodeNo.{NodeNo}
use Rattle.flux_model.specs.Children.{IsIn}
use Rattle.flux_model.specs.Visits.{IsKnown}
use Rattle.flux_plan.specs.declared.plans.Segment.{Segment}
use Rattle.flux_plan.specs.Leading.{leads_from, Reaches}

-- a number is reached from some of these nodes
pub record IsReachedFrom (segments : List Segment) (starts : List NodeNo) (number : ℕ) : Type 0 where
  pub start : ℕ
  pub among : IsIn start starts
  pub reaches : Reaches segments start number

-- exactly what is reached from these nodes
pub record IsReach (segments : List Segment) (starts : List NodeNo) (visits : List ℕ) : Type 0 where
  pub each : (number : ℕ) → IsKnown number visits → IsReachedFrom segments starts number
  pub all : (number : ℕ) → IsReachedFrom segments starts number → IsKnown number visits

-- what the node of a number leads to, if there is one
abbrev pub leads_at : List Segment → Option ℕ → List NodeNo
leads_at segments None = []
leads_at segments (Some number) = leads_from segments number

-- so far all that has been visited is reached, and all that is led to from the numbers before a place has been visited
pub record IsReaching (segments : List Segment) (starts : List NodeNo) (visits : List ℕ) (place : ℕ) : Type 0 where
  pub each : (number : ℕ) → IsKnown number visits → IsReachedFrom segments starts number
  pub begun : (number : ℕ) → IsIn number starts → IsKnown number visits
  pub closed : (i from led : ℕ) → i < place → slice_get visits i ≡ Some from
      → IsIn led (leads_from segments from) → IsKnown led visits
