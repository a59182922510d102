-- The swarm of a hash after a journal that is right.
use Rattle.std.specs.Prelude.{◌≡◌, ℕ, List}
use Rattle.flux_values.specs.Meanings.{LibraryMeaning}
use Rattle.flux_model.specs.declared.programs.ClassNo.{ClassNo}
use Rattle.flow_model.specs.declared.journals.Journal.{Journal}
use Rattle.flow_model.specs.Setup.{Setup}
use Rattle.flux_outside.specs.declared.stores.File.TheVariants.{Found}
use Rattle.flux_audit.specs.Verdicts.{IsTrueText}
use Rattle.nodes_tracker.specs.declared.peers.Peer.{Peer}
use Rattle.flux_swarms.specs.Peers.{ArePeersOf}
use Rattle.flux_swarms.specs.Tracked.{HasTrackersNodes, IsTrackers, swarm_after}
use Rattle.flux_swarms.specs.Printed.{printed_swarm}
use Rattle.flux_commands.specs.declared.files.TheConstants.{JOURNAL_FILE_LIMIT}
use Rattle.flux_commands.specs.Told.{Files, Gives}
use Rattle.flux_commands.specs.Origins.{Origin}
use Rattle.flux_commands.specs.Inputs.{GivesItems}
use Rattle.flux_commands.specs.Audited.{setup_given}

-- A text is what is printed of the swarm of a hash after the journal of another:
--   journal, is_true   that one reads as this journal of a true run;
--   peers, told        these are the peers whose last good `Swarm` call for the hash isn't `stopped`,
--                      in bytewise order, each with that call's number;
--   cell               where the library has the nodes of `Tracker`, and `swarms` is theirs, they
--                      are the swarm in the cell after the journal;
--   printed            the text is how many they are, and a line for each.
pub record IsSwarmOf (setup : Setup) (journal_text hash text : List ℕ) : Type 0 where
  pub journal : Journal
  pub is_true : IsTrueText setup journal_text journal
  pub peers : List Peer
  pub told : ArePeersOf setup.program journal.entries hash peers
  pub cell : (class : ClassNo) → HasTrackersNodes setup.meaning
      → IsTrackers setup.meaning setup.program class
      → peers ≡ swarm_after setup journal.entries class hash
  pub printed : text ≡ printed_swarm peers

-- the journal's file is there, within its limit, and a text is what is printed of the swarm of a hash
-- after it
pub record IsSwarmed (meaning : LibraryMeaning) (told : Files) (program items : Origin)
    (journal hash text : List ℕ) : Type 0 where
  pub given : GivesItems meaning told program items
  pub journal_text : List ℕ
  pub gives : Gives told journal JOURNAL_FILE_LIMIT (Found journal_text)
  pub is : IsSwarmOf (setup_given given) journal_text hash text
