-- The text of a swarm, as a journal tells it.
use Rattle.std.specs.Prelude.{◌≡◌, ℕ, List}
use Rattle.flux_values.specs.Meanings.{LibraryMeaning}
use Rattle.flux_model.specs.declared.programs.Program.{Program}
use Rattle.flow_model.specs.declared.journals.Entry.{Entry}
use Rattle.flow_model.specs.declared.journals.Journal.{Journal}
use Rattle.flux_journal.specs.Journals.{ReadsAs}
use Rattle.nodes_tracker.specs.declared.peers.Peer.{Peer}
use Rattle.flux_swarms.specs.Peers.{ArePeersOf}
use Rattle.flux_swarms.specs.InTheCell.{AreInTheCell}
use Rattle.flux_swarms.specs.Printed.{printed_swarm}

-- The text is the printed swarm of a hash after a journal:
--   told      the peers are those that the journal reports;
--   cell      they are the swarm in the cell, where `swarms` is Tracker's;
--   printed   the text is what is printed of them.
pub record IsSwarmText (meaning : LibraryMeaning) (p : Program) (entries : List Entry)
    (hash text : List ℕ) : Type 0 where
  pub peers : List Peer
  pub told : ArePeersOf p entries hash peers
  pub cell : AreInTheCell meaning p entries hash peers
  pub printed : text ≡ printed_swarm peers

-- a text reads as some journal
abbrev pub Reads : Program → List ℕ → Type 0
Reads p text = (journal : Journal) × ReadsAs p text journal
