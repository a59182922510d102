-- What commands print on `out`.
use Rattle.std.specs.Prelude.{◌≡◌, ℕ, List, [], codes}
use Rattle.flux_values.specs.Meanings.{LibraryMeaning}
use Rattle.flux_syntax.specs.declared.declarations.Decl.{Decl}
use Rattle.flux_syntax.specs.Formatted.{formatted}
use Rattle.flux_syntax.specs.ProgramOfText.{program_of}
use Rattle.flux_model.specs.declared.signatures.NodeSig.{NodeSig}
use Rattle.flux_types.specs.Signatures.{AreSigs}
use Rattle.flux_hoist.specs.Reports.{IsReport}
use Rattle.flux_hoist.specs.Plans.{printed_plan}
use Rattle.flux_load.specs.Loads.{program_text, items_text}
use Rattle.flux_audit.specs.declared.verdicts.Rule.{Rule}
use Rattle.flux_audit.specs.declared.verdicts.Verdict.TheVariants.{Yes, No}
use Rattle.flux_audit.specs.Printed.{printed_verdict}
use Rattle.flux_cli.specs.Commands.{Command, check, plan, format, run, audit, load, serve, help, simulate, swarm}
use Rattle.flux_runs.specs.declared.printing.Printing.TheVariants.{Journal, Summary}
use Rattle.flux_commands.specs.Told.{Files}
use Rattle.flux_commands.specs.Origins.{Origin, named, made}
use Rattle.flux_commands.specs.Inputs.{HasDecls, HasProgram, HasServable}
use Rattle.flux_commands.specs.TrueRuns.{IsRunText}
use Rattle.flux_commands.specs.Audited.{IsAudited}
use Rattle.flux_commands.specs.Simulated.{IsSimulated}
use Rattle.flux_commands.specs.Swarmed.{IsSwarmed}

-- a line for each command that is built
abbrev pub help_text : List ℕ
help_text = codes "flux check FILE\nflux plan FILE\nflux format FILE\nflux run FILE ITEMS [--runtime R] [--docs DIR] [--journal J]\nflux audit FILE ITEMS JOURNAL [--docs DIR]\nflux load N K [--runtime R]\nflux serve FILE --port P [--docs DIR] [--batches B] [--runtime R] [--at-once W]\nflux help or --help\nflux simulate FILE ITEMS --processors N [--costs LIST] [--docs DIR]\nflux swarm FILE ITEMS JOURNAL HASH [--docs DIR]\n"

-- the report on the locks of a sound program
pub record IsReportText (meaning : LibraryMeaning) (told : Files) (program : Origin) (text : List ℕ)
    : Type 0 where
  pub decls : List Decl
  pub has : HasProgram meaning told program decls
  pub report : let sound = has.sound in IsReport (program_of decls) sound.locks text

-- the plan of a sound program, by its locks and by what its nodes take and give
pub record IsPlanText (meaning : LibraryMeaning) (told : Files) (program : Origin) (text : List ℕ)
    : Type 0 where
  pub decls : List Decl
  pub has : HasProgram meaning told program decls
  pub sigs : List NodeSig
  pub are_sigs : AreSigs meaning.kind decls sigs
  pub is : let sound = has.sound in text ≡ printed_plan meaning (program_of decls) sigs sound.locks

-- `check` prints the report, `plan` the plan, `format` the formatted text of the declarations, `run` a journal, `audit`
-- that a journal is right, with the number of its events, `load` the summary of a run of its own two texts, `help` the
-- help text, `simulate` the three lines of a run on simulated processors, and `swarm` the peers of a hash after a journal
-- that is right; `serve` prints nothing before it serves, and then its log
abbrev pub IsPrinted : LibraryMeaning → Command → Files → List ℕ → Type 0
IsPrinted meaning (check file) told text = IsReportText meaning told (named file) text
IsPrinted meaning (plan file) told text = IsPlanText meaning told (named file) text
IsPrinted meaning (format file) told text =
    (decls : List Decl) × HasDecls told (named file) decls × (text ≡ formatted decls)
IsPrinted meaning (run file items options) told text =
    IsRunText meaning told (named file) (named items) options.runtime (Journal options.journal) text
IsPrinted meaning (audit file items journal docs) told text = (events : ℕ)
    × IsAudited meaning told (named file) (named items) journal (Yes events)
    × (text ≡ printed_verdict (Yes events))
IsPrinted meaning (load count first runtime) told text =
    IsRunText meaning told (made program_text) (made (items_text count first)) runtime Summary text
IsPrinted meaning (serve file serving) told text = (text ≡ []) × HasServable meaning told (named file)
IsPrinted meaning help told text = text ≡ help_text
IsPrinted meaning (simulate file items simulating) told text =
    IsSimulated meaning told (named file) (named items) simulating text
IsPrinted meaning (swarm file items journal hash docs) told text =
    IsSwarmed meaning told (named file) (named items) journal hash text

-- a journal isn't right: the text tells the first line that breaks a rule, and the rule
abbrev pub IsNoText : LibraryMeaning → Files → Origin → Origin → List ℕ → List ℕ → Type 0
IsNoText meaning told program items journal text = (line : ℕ) × (rule : Rule)
    × IsAudited meaning told program items journal (No line rule)
    × (text ≡ printed_verdict (No line rule))

-- `audit` and `swarm` print that a journal isn't right
abbrev pub IsRefuted : LibraryMeaning → Command → Files → List ℕ → Type 0
IsRefuted meaning (audit file items journal docs) told text =
    IsNoText meaning told (named file) (named items) journal text
IsRefuted meaning (swarm file items journal hash docs) told text =
    IsNoText meaning told (named file) (named items) journal text
IsRefuted meaning other told text = ⊥
