-- The printed texts of a journal read as it, and a text reads as one journal.
use Rattle.std.specs.Prelude.{◌≡◌, ℕ, ◌<◌, ◌^◌, List, length}
use Rattle.flux_model.specs.declared.programs.Program.{Program}
use Rattle.flow_model.specs.declared.journals.Journal.{Journal}
use Rattle.flux_model.specs.Names.{IsNamed}
use Rattle.flow_model.specs.Texts.{printed_journal}
use Rattle.flux_journal.specs.Formats.{printed_journal_2}
use Rattle.flux_journal.specs.Entries.{AreEntriesOf}
use Rattle.flux_journal.specs.Journals.{ReadsAs}

-- the text in format 1
abbrev pub PrintedReads : Type 0
PrintedReads = (p : Program) (journal : Journal) → IsNamed p → AreEntriesOf p journal.entries
    → ReadsAs p (printed_journal p journal) journal

-- the text in format 2, for each number of flows
abbrev pub PrintedReads2 : Type 0
PrintedReads2 = (p : Program) (journal : Journal) (flows : ℕ) → IsNamed p
    → AreEntriesOf p journal.entries → length journal.entries < 2 ^ 64 → flows < 2 ^ 32
    → ReadsAs p (printed_journal_2 p flows journal) journal

-- no text reads as two journals
abbrev pub ReadsOnce : Type 0
ReadsOnce = (p : Program) (text : List ℕ) (first second : Journal) → IsNamed p
    → ReadsAs p text first → ReadsAs p text second → first ≡ second

-- what a text spells are entries of the program
abbrev pub SpellsEntries : Type 0
SpellsEntries = (p : Program) (text : List ℕ) (journal : Journal) → ReadsAs p text journal
    → AreEntriesOf p journal.entries
