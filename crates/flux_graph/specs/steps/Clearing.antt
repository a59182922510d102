-- Steps of the proof that clears nodes: that shows of them that they are on no cycle.
use Rattle.std.specs.Prelude.{ℕ, List, [], Option, Some, None}
use Rattle.flux_model.specs.declared.programs.NodeNo.{NodeNo}
use Rattle.flux_model.specs.declared.programs.Node.{Node}
use Rattle.flux_model.specs.Leading.{leads_in}
use Rattle.flux_model.specs.Children.{IsIn}
use Rattle.flux_model.specs.Ordering.{LeadsOn}
use Rattle.flux_graph.specs.declared.clearing.Clearing.{Clearing}
use Rattle.flux_model.specs.Visits.{IsKnown}

-- what the node of a number leads to, if there is one
abbrev pub leads_at : List Node → Option ℕ → List NodeNo
leads_at nodes None = []
leads_at nodes (Some number) = leads_in nodes number

-- what is led to from these numbers is among them
abbrev pub AreClosed : List Node → List ℕ → Type 0
AreClosed nodes numbers =
    (from led : ℕ) → IsKnown from numbers → IsIn led (leads_in nodes from) → IsKnown led numbers

-- none of these numbers leads on to itself
abbrev pub AreOnNoCycle : List Node → List ℕ → Type 0
AreOnNoCycle nodes numbers =
    (number : ℕ) → IsKnown number numbers → LeadsOn nodes number number → ⊥

pub record IsClearing (nodes : List Node) (s : Clearing) : Type 0 where
  pub closed : AreClosed nodes s.visited
  pub cleared : AreOnNoCycle nodes s.cleared
