-- Where the peers of a hash are the swarm in the cell.
use Rattle.std.specs.Prelude.{◌≡◌, ℕ, false, List, codes, Option, Some, None, IfSome, IsSome, ⊤}
use Rattle.std.specs.List.{slice_get, Contains}
use Rattle.flux_values.specs.declared.meanings.Sig.{Sig}
use Rattle.flux_values.specs.declared.meanings.CellUse.{CellUse}
use Rattle.flux_values.specs.Meanings.{LibraryMeaning}
use Rattle.flux_model.specs.declared.programs.Program.{Program}
use Rattle.flux_model.specs.declared.programs.ClassNo.{ClassNo}
use Rattle.flux_model.specs.declared.programs.Node.{Node}
use Rattle.flux_model.specs.declared.programs.Body.{Body}
use Rattle.flux_model.specs.declared.programs.Body.TheVariants.{Concrete, Abstract}
use Rattle.flow_model.specs.declared.journals.Entry.{Entry}
use Rattle.flow_model.specs.declared.journals.Key.{Key}
use Rattle.flow_model.specs.Setup.{Setup}
use Rattle.flow_model.specs.CellsAfter.{class_named, cells_after}
use Rattle.nodes_tracker.specs.declared.peers.Peer.{Peer}
use Rattle.nodes_tracker.specs.Nodes.{node_named}
use Rattle.nodes_tracker.specs.Calls.{swarm_in}
use Rattle.nodes_tracker.specs.Trackers.{tracker_meaning}

-- ---- the library

-- a library has the nodes of `Tracker`, and means the same by them
abbrev pub HasTrackersNodes : LibraryMeaning → Type 0
HasTrackersNodes meaning = (name : List ℕ) → IfSome (tracker_meaning.node name)
    (λ sig. (meaning.node name ≡ Some sig) × (meaning.call name ≡ tracker_meaning.call name))

-- ---- the program

-- a library node uses the cells `swarms`
abbrev pub UsesSwarms : Option Sig → Type 0
UsesSwarms None = ⊥
UsesSwarms (Some sig) = (cell : CellUse) × Contains sig.cells cell × (cell.name ≡ codes "swarms")

-- where a concrete node's library node uses them, it is one of Tracker's
abbrev pub IsTrackersAlone : LibraryMeaning → Body → Type 0
IsTrackersAlone meaning (Concrete name) = UsesSwarms (meaning.node name) → IsSome (node_named name)
IsTrackersAlone meaning (Abstract cases) = ⊤

-- a `Swarm` node has this class under their name
abbrev pub HasClass : Program → ClassNo → ℕ → Body → Type 0
HasClass p class number (Concrete name) =
    name ≡ codes "Swarm" → class_named p number (codes "swarms") ≡ Some class
HasClass p class number (Abstract cases) = ⊤

-- In a program, `swarms` is Tracker's:
--   wide    the class has this name, program-wide;
--   alone   only Tracker's nodes use cells of the name;
--   swarm   and each `Swarm` node has the class.
pub record IsTrackers (meaning : LibraryMeaning) (p : Program) (class : ClassNo) : Type 0 where
  pub wide : slice_get p.classes class.0 ≡ Some (record { name = codes "swarms"; session = false })
  pub alone : (number : ℕ) (node : Node) → slice_get p.nodes number ≡ Some node
      → IsTrackersAlone meaning node.body
  pub swarm : (number : ℕ) (node : Node) → slice_get p.nodes number ≡ Some node
      → HasClass p class number node.body

-- ---- the swarm in the cell

-- the key of the cell
abbrev pub key_of_class : ClassNo → Key
key_of_class class = record { class = class; id = None }

-- the swarm of a hash after a journal
abbrev pub swarm_after : Setup → List Entry → ClassNo → List ℕ → List Peer
swarm_after setup entries class hash = swarm_in (cells_after setup entries (key_of_class class)) hash
