-- What is printed of a run.
use Rattle.std.specs.Prelude.{ℕ, List}
use Rattle.flux_model.specs.declared.programs.Program.{Program}
use Rattle.flow_model.specs.declared.journals.Journal.{Journal}
use Rattle.flow_model.specs.Keys.{Cells}
use Rattle.flow_model.specs.Texts.{printed_journal}
use Rattle.flux_journal.specs.Formats.{printed_journal_2}
use Rattle.flux_cli.specs.declared.values.JournalFormat.{JournalFormat}
use Rattle.flux_cli.specs.declared.values.JournalFormat.TheVariants.{One, Two}
use Rattle.flux_runs.specs.declared.printing.Printing.{Printing}
use Rattle.flux_runs.specs.declared.printing.Printing.TheVariants as printings
use Rattle.flux_runs.specs.Summaries.{printed_summary}

-- a journal of so many flows in a format
abbrev pub printed_in : JournalFormat → Program → ℕ → Journal → List ℕ
printed_in One program flows journal = printed_journal program journal
printed_in Two program flows journal = printed_journal_2 program flows journal

-- what is printed of a run of so many flows: its journal in a format, or its summary
abbrev pub printed_by : Printing → Program → ℕ → Journal → Cells → List ℕ
printed_by (printings.Journal format) program flows journal cells =
    printed_in format program flows journal
printed_by printings.Summary program flows journal cells =
    printed_summary program flows journal.entries cells
