-- The verdict on the text of a journal.
use Rattle.std.specs.Prelude.{ℕ, List}
use Rattle.flux_values.specs.Meanings.{LibraryMeaning}
use Rattle.flow_model.specs.Setup.{Setup}
use Rattle.flux_outside.specs.declared.stores.File.TheVariants.{Found}
use Rattle.flux_syntax.specs.ProgramOfText.{program_of}
use Rattle.flux_audit.specs.declared.verdicts.Verdict.{Verdict}
use Rattle.flux_audit.specs.Verdicts.{HasVerdict}
use Rattle.flux_commands.specs.declared.files.TheConstants.{JOURNAL_FILE_LIMIT}
use Rattle.flux_commands.specs.Told.{Files, Gives}
use Rattle.flux_commands.specs.Origins.{Origin}
use Rattle.flux_commands.specs.Inputs.{GivesItems}
use Rattle.flux_runs.specs.Setups.{setup_of}

-- what the items' flows run in: the program with its locks, and cells that are all empty at the start
abbrev pub setup_given : {meaning : LibraryMeaning} {told : Files} {program items : Origin}
    → GivesItems meaning told program items → Setup
setup_given {meaning} given = let has = given.has in let own = has.program_ in let sound = own.sound in
    setup_of (program_of has.decls) sound.locks given.its meaning

-- the journal's file is there, within its limit, and its text has this verdict
pub record IsAudited (meaning : LibraryMeaning) (told : Files) (program items : Origin)
    (journal : List ℕ) (verdict : Verdict) : Type 0 where
  pub given : GivesItems meaning told program items
  pub text : List ℕ
  pub gives : Gives told journal JOURNAL_FILE_LIMIT (Found text)
  pub has_verdict : HasVerdict (setup_given given) text verdict
