-- The laws of swarms: where calls are right, the peers of a hash are the swarm in the cell.
use Rattle.std.specs.Prelude.{◌≡◌, ℕ, List, Option, Some, None, IsSome}
use Rattle.std.specs.List.{slice_get, AllByRecursion}
use Rattle.flux_values.specs.Meanings.{LibraryMeaning}
use Rattle.flux_values.specs.Cells.{no_cell}
use Rattle.flux_library.specs.Libraries.{IsLawful}
use Rattle.flux_model.specs.declared.programs.Program.{Program}
use Rattle.flux_model.specs.declared.programs.ClassNo.{ClassNo}
use Rattle.flux_model.specs.declared.items.FlowNo.{FlowNo}
use Rattle.flux_model.specs.declared.items.Item.{Item}
use Rattle.flux_model.specs.Kinds.{NodeKinds}
use Rattle.flux_model.specs.Items.{IsItemFor}
use Rattle.flux_model.specs.Soundness.{IsSound}
use Rattle.flow_model.specs.declared.journals.CallMade.{CallMade}
use Rattle.flow_model.specs.declared.journals.Event.TheVariants.{Call}
use Rattle.flow_model.specs.declared.journals.Entry.{Entry}
use Rattle.flow_model.specs.Setup.{Setup, item_of}
use Rattle.flow_model.specs.Answers.{AreAnswersRight}
use Rattle.flow_model.specs.Events.{Stands}
use Rattle.flow_model.specs.Legal.{IsLegal}
use Rattle.flux_laws.specs.Calls.{FitsNode}
use Rattle.nodes_tracker.specs.declared.peers.Peer.{Peer}
use Rattle.flux_swarms.specs.Peers.{ArePeersOf}
use Rattle.flux_swarms.specs.Tracked.{HasTrackersNodes, IsTrackers, swarm_after}

-- ---- calls that are right

-- a flow has an item, of a source line
abbrev pub HasLine : Program → Option Item → Type 0
HasLine p None = ⊥
HasLine p (Some item) = IsSome (slice_get p.sources item.source.0)

-- each call is of a flow with an item, on values that its node takes
abbrev pub AreCallsFit : Setup → List Entry → Type 0
AreCallsFit setup entries = (before after : List Entry) (flow : FlowNo) (made : CallMade)
    → Stands entries before flow (Call made) after → HasLine setup.program (item_of setup flow.0)
    × FitsNode setup.meaning (slice_get setup.program.nodes made.node.0) made.args

-- from empty cells each call fits, and has its node's answer
pub record AreCallsRight (setup : Setup) (entries : List Entry) : Type 0 where
  pub empty : setup.opening ≡ (λ key. no_cell)
  pub fit : AreCallsFit setup entries
  pub answers : AreAnswersRight setup entries

-- in every setup of a program and a library, where `swarms` is Tracker's and calls are right, these are the swarm in
-- the cell
abbrev pub AreInTheCell : LibraryMeaning → Program → List Entry → List ℕ → List Peer → Type 0
AreInTheCell meaning p entries hash peers = (setup : Setup) (class : ClassNo) → setup.program ≡ p
    → setup.meaning ≡ meaning → HasTrackersNodes meaning → IsTrackers meaning p class
    → AreCallsRight setup entries → peers ≡ swarm_after setup entries class hash

-- ---- laws

-- the peers of a hash are the swarm in the cell
abbrev pub PeersAreInTheCell : Type 0
PeersAreInTheCell = (setup : Setup) (class : ClassNo) (entries : List Entry) (hash : List ℕ)
    (peers : List Peer) → IsLawful setup.meaning → HasTrackersNodes setup.meaning
    → IsTrackers setup.meaning setup.program class → AreCallsRight setup entries
    → ArePeersOf setup.program entries hash peers → peers ≡ swarm_after setup entries class hash

-- in a legal journal of a sound program, from empty cells, each call is right
abbrev pub LegalCallsAreRight : Type 0
LegalCallsAreRight = (setup : Setup) (kinds : ℕ → NodeKinds) (entries : List Entry)
    → IsSound setup.meaning setup.program kinds → IsLawful setup.meaning
    → AllByRecursion (IsItemFor setup.program kinds) setup.items
    → setup.opening ≡ (λ key. no_cell) → IsLegal setup entries → AreCallsRight setup entries
