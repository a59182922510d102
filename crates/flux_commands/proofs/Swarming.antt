-- The swarm of a hash after a journal that is right.
use Rattle.std.proofs.Common.{◌<◌, ◌≤◌, ◌^◌, ℕ, Bool, true, false, List, length, refl, arith}
use Rattle.flux_values.specs.Meanings.{LibraryMeaning}
use Rattle.flux_library.specs.Libraries.{IsLawful}
use Rattle.flux_model.specs.declared.programs.Program.{Program}
use Rattle.flux_model.specs.declared.items.Item.{Item}
use Rattle.flow_model.specs.declared.journals.Journal.{Journal}
use Rattle.flow_model.specs.Setup.{Setup}
use Rattle.flux_laws.specs.Hoisted.{locks_of}
use Rattle.flux_journal.specs.Journals.{lines_of, is_headed, FitsFormat, ReadsAs}
use Rattle.flux_audit.specs.declared.verdicts.Verdict.TheVariants.{Yes}
use Rattle.flux_audit.specs.Verdicts.{FitsHead, IsTrueText, HasVerdict}
use Rattle.flux_swarms.specs.InTheCell.{LegalCallsAreRight}
use Rattle.flux_swarms.specs.Swarms.{Reads, IsSwarmText}
use Rattle.flux_runs.specs.Setups.{setup_of}
use Rattle.flux_runs.specs.Opening.{CanRun}
use Rattle.flux_commands.specs.Swarmed.{IsSwarmOf}

-- a head line for so many flows is a head line
fits_format : (headed : Bool) (flows : ℕ) (lines : List (List ℕ)) → flows < 2 ^ 32 → FitsHead headed flows lines
    → FitsFormat headed lines
fits_format true flows lines small fits = record { flows = flows; small = small; is = fits }
fits_format false flows lines small fits = tt

module _ (meaning : LibraryMeaning) (p : Program) (items : List Item) (can : CanRun meaning p items)
    (text : List ℕ) where
  abbrev own : Setup
  own = setup_of p (locks_of p) items meaning

  -- the text of a true run reads as its journal
  reads_as : (journal : Journal) → IsTrueText own text journal → ReadsAs p text journal
  reads_as journal is_true =
      let reads = is_true.reads in
      let few : length items ≤ 4096 = can.few in
      record {
        head = fits_format (is_headed text) (length items) (lines_of text) (omega (arith, few)) reads.head;
        lines = reads.lines;
      }

  -- a journal that is right reads
  pub right_reads : (events : ℕ) → HasVerdict own text (Yes events) → Reads p text
  right_reads events (journal, is_true, count) = (journal, reads_as journal is_true)

  -- what is printed of the swarm after it
  pub swarm_printed : LegalCallsAreRight → IsLawful meaning → (hash printed : List ℕ) (events : ℕ)
      → HasVerdict own text (Yes events)
      → ((journal : Journal) → ReadsAs p text journal → IsSwarmText meaning p journal.entries hash printed)
      → IsSwarmOf own text hash printed
  swarm_printed right lawful hash printed events (journal, is_true, count) told =
      let its = told journal (reads_as journal is_true) in
      let calls = right own can.kinds journal.entries can.sound lawful can.fit refl is_true.legal in
      record {
        journal = journal;
        is_true = is_true;
        peers = its.peers;
        told = its.told;
        cell = λ class has trackers. its.cell own class refl refl has trackers calls;
        printed = its.printed;
      }
