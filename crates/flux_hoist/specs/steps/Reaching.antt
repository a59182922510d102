-- Steps of hoisting: what nodes, and all that they lead on to, declare.
use Rattle.std.specs.Prelude.{◌≡◌, ℕ, ◌<◌, List, [], ◌∷◌, length, Some}
use Rattle.std.specs.List.{Contains, slice_get}
use Rattle.flux_model.specs.declared.programs.Hold.{Hold}
use Rattle.flux_model.specs.declared.programs.Node.{Node}
use Rattle.flux_model.specs.Leading.{leads_in, members_of}
use Rattle.flux_model.specs.Children.{IsIn}
use Rattle.flux_model.specs.Locks.{HasAtLeast, declared_on}
use Rattle.flux_hoist.specs.Sets.{held_by}
use Rattle.flux_hoist.specs.steps.Joining.{IsHoisted, held_by_all}

-- each is led to from the one before it
abbrev pub IsPath : List Node → ℕ → List ℕ → ℕ → Type 0
IsPath nodes from [] to = from ≡ to
IsPath nodes from (next ∷ path) to = IsIn next (leads_in nodes from) × IsPath nodes next path to

-- a node, or one that it leads on to, declares this
pub record Reaches (nodes : List Node) (from : ℕ) (hold : Hold) : Type 0 where
  pub to : ℕ
  pub path : List ℕ
  pub way : IsPath nodes from path to
  pub declares : Contains (declared_on (slice_get nodes to)) hold

-- a set has all that a node reaches, each in at least its mode, and nothing else
pub record HasReached (nodes : List Node) (from : ℕ) (holds : List Hold) : Type 0 where
  pub above : (hold : Hold) → Reaches nodes from hold → HasAtLeast holds hold
  pub only : (hold : Hold) → Contains holds hold → Reaches nodes from hold

-- so do the sets of a table, for each node
abbrev pub AreReached : List Node → List (List Hold) → Type 0
AreReached nodes table = (number : ℕ) → HasReached nodes number (held_by table number)

-- the first sets of a list are what the first nodes hold
pub record AreHoisted (nodes : List Node) (table : List (List Hold)) (count : ℕ)
    (sets : List (List Hold)) : Type 0 where
  pub many : length sets ≡ count
  pub each : (number : ℕ) (node : Node) → number < count → slice_get nodes number ≡ Some node
      → IsHoisted node.declared (held_by_all table (members_of node.body)) (held_by sets number)
