-- Nodes in an order in which each comes after all that it leads to.
use Rattle.std.specs.Prelude.{◌≡◌, ◌↔◌, ℕ, ◌<◌, Bool, true, false, if◌then◌else◌, List, [], ◌∷◌, ◌++◌, map, Option, Some, None}
use Rattle.std.specs.List.{fold, slice_get, Contains}
use Rattle.flux_model.specs.declared.programs.NodeNo.{NodeNo}
use Rattle.flux_model.specs.declared.programs.Hold.{Hold}
use Rattle.flux_model.specs.Children.{IsIn}
use Rattle.flux_plan.specs.declared.plans.Segment.{Segment}
use Rattle.flux_plan.specs.Leading.{leads_from, takes_of}
use Rattle.flux_model.specs.Visits.{IsKnown, with_number}
use Rattle.flux_verify.specs.declared.orders.Task.{Task}
use Rattle.flux_verify.specs.declared.orders.Task.TheVariants.{Enter, Settle}
use Rattle.flux_verify.specs.steps.Checks.{covers, IsOpenTo}

-- a number is before a place
pub record StandsBefore (numbers : List ℕ) (place number : ℕ) : Type 0 where
  pub at_ : ℕ
  pub before : at_ < place
  pub is : slice_get numbers at_ ≡ Some number

-- what a node leads to is before it
abbrev pub IsSettled : List Segment → List ℕ → Type 0
IsSettled segments settled = (place node led : ℕ) → slice_get settled place ≡ Some node
    → IsIn led (leads_from segments node) → StandsBefore settled place led

-- all nodes are among numbers
abbrev pub AreKnown : List ℕ → List NodeNo → Type 0
AreKnown numbers nodes = (node : ℕ) → IsIn node nodes → IsKnown node numbers

-- a take more, where no other covers it
abbrev pub with_take : List Hold → Hold → List Hold
with_take takes take = if covers takes take then takes else takes ++ take ∷ []

abbrev pub with_takes : List Hold → List Hold → List Hold
with_takes takes others = fold with_take takes others

-- a number more, where a test holds
abbrev pub with_if : Bool → List ℕ → ℕ → List ℕ
with_if true numbers number = with_number numbers number
with_if false numbers number = numbers

-- what nodes take is covered
abbrev pub AreCovered : List Segment → List ℕ → List Hold → Type 0
AreCovered segments nodes takes = (node : ℕ) (hold : Hold) → IsKnown node nodes
    → Contains (takes_of segments node) hold → covers takes hold ≡ true

-- the takes of nodes are closed at all that these lead to
abbrev pub AreClosed : List Segment → List ℕ → Type 0
AreClosed segments nodes = (node led : ℕ) → IsKnown node nodes → IsIn led (leads_from segments node)
    → IsOpenTo segments (takes_of segments node) led → ⊥

-- what is known of nodes that have been settled
pub record IsGround (segments : List Segment) (straight closed : List ℕ) (taken : List Hold) : Type 0 where
  pub settled : IsSettled segments straight
  pub covered : AreCovered segments straight taken
  pub closed_ : AreClosed segments closed

-- takes are closed where those of a node are, at all that it leads to
abbrev pub OpenAlike : List Segment → ℕ → List Hold → Type 0
OpenAlike segments node takes = (led : ℕ) → IsIn led (leads_from segments node)
    → IsOpenTo segments takes led ↔ IsOpenTo segments (takes_of segments node) led

-- what is to be done for a node that is entered: all that it leads to is entered, and then it is settled
abbrev pub tasks_of : List Segment → NodeNo → List Task
tasks_of segments node = Settle node ∷ map Enter (leads_from segments node.0)

-- a node that comes next hasn't been entered yet; where there is none, nothing is left to do
abbrev pub IsNew : List ℕ → List Task → Option NodeNo → Type 0
IsNew entered tasks (Some node) = IsKnown node.0 entered → ⊥
IsNew entered tasks None = tasks ≡ []
