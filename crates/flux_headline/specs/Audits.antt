-- What `audit` has done where the program answered 0 or 8, and that it answers one of them where
-- nothing is in the way.
use Rattle.std.specs.Prelude.{◌≡◌, ◌⊎◌, List, [], ℕ, Option}
use Rattle.flux_library.specs.Documents.{DocMap}
use Rattle.flux_outside.specs.declared.stores.File.TheVariants.{Found}
use Rattle.flux_outside.specs.Streams.{Gains, Broke}
use Rattle.flux_items.specs.declared.rules.ItemFault.{ItemFault}
use Rattle.flux_items.specs.Faults.{IsFaultOf}
use Rattle.flux_audit.specs.declared.verdicts.Rule.{Rule}
use Rattle.flux_audit.specs.declared.verdicts.Verdict.{Verdict}
use Rattle.flux_audit.specs.declared.verdicts.Verdict.TheVariants.{Yes, No}
use Rattle.flux_audit.specs.Printed.{printed_verdict}
use Rattle.flux_cli.specs.Commands.{audit, Spells}
use Rattle.flux_commands.specs.declared.files.TheConstants.{JOURNAL_FILE_LIMIT}
use Rattle.flux_commands.specs.declared.statuses.Status.{Status}
use Rattle.flux_commands.specs.declared.statuses.Status.TheVariants as statuses
use Rattle.flux_commands.specs.Told.{Told, Gives}
use Rattle.flux_driver.specs.Seen.{Seen}
use Rattle.flux_commands.specs.Origins.{named}
use Rattle.flux_commands.specs.Documents.{AreDocs, TellsAll}
use Rattle.flux_commands.specs.Inputs.{HasItems}
use Rattle.flux_commands.specs.Items.{rules_in}
use Rattle.flux_commands.specs.Audited.{IsAudited}
use Rattle.flux_commands.specs.Answers.{Libraries, OrMemory}
use Rattle.flux_driver.specs.Top.{HasDone}
use Rattle.flux_headline.specs.Headline.{NoneRose}

-- what `audit` has found:
--   docs, are_docs   the documents of the folder that the words name;
--   audited          the verdict on the journal's text, in the setup of the program and the items
--                    of the other two files, the library with these documents, and empty cells
pub record HasFound (library : Libraries) (told : Told) (file items journal : List ℕ)
    (dir : Option (List ℕ)) (verdict : Verdict) : Type 0 where
  pub docs : DocMap
  pub are_docs : AreDocs told.folders dir docs
  pub audited : IsAudited (library docs) told.files (named file) (named items) journal verdict

-- it has found that the journal is that of a true run, and printed that with the number of its
-- events, and no more
pub record HasAgreed (library : Libraries) (before after : Seen) (file items journal : List ℕ)
    (dir : Option (List ℕ)) : Type 0 where
  pub events : ℕ
  pub found : HasFound library before.told file items journal dir (Yes events)
  pub printed : Gains before.out after.out (printed_verdict (Yes events))
  pub silent : Gains before.err after.err []

-- where the words spell `audit` and the program has answered 0, the journal is that of a true run
abbrev pub YesIsTrue : Type 0
YesIsTrue = (library : Libraries) (words : List (List ℕ)) (before after : Seen)
    (file items journal : List ℕ) (dir : Option (List ℕ))
    → Spells words (audit file items journal dir)
    → HasDone library words before statuses.Done after
    → HasAgreed library before after file items journal dir

-- it has found which line breaks which rule first, and printed that, or a front of it where writing
-- failed
pub record HasRefuted (library : Libraries) (before after : Seen) (file items journal : List ℕ)
    (dir : Option (List ℕ)) : Type 0 where
  pub line : ℕ
  pub rule : Rule
  pub found : HasFound library before.told file items journal dir (No line rule)
  pub printed : Gains before.out after.out (printed_verdict (No line rule))
      ⊎ Broke before.out after.out (printed_verdict (No line rule))
  pub silent : Gains before.err after.err []

-- where the words spell `audit` and the program has answered 8, the journal isn't that of a true
-- run
abbrev pub NoIsTrue : Type 0
NoIsTrue = (library : Libraries) (words : List (List ℕ)) (before after : Seen)
    (file items journal : List ℕ) (dir : Option (List ℕ))
    → Spells words (audit file items journal dir)
    → HasDone library words before statuses.No after
    → HasRefuted library before after file items journal dir

-- what `audit` reads is there: the documents, a sound program, the items' file, in which no line
-- has a fault, and the journal's file
pub record IsAuditable (library : Libraries) (told : Told) (file items journal : List ℕ)
    (dir : Option (List ℕ)) : Type 0 where
  pub docs : DocMap
  pub are_docs : AreDocs told.folders dir docs
  pub has : HasItems (library docs) told.files (named file) (named items)
  pub faultless : (fault : ItemFault) → (let own = has.program_ in
      IsFaultOf (rules_in (library docs) has.decls own.sound) fault has.text) → ⊥
  pub text : List ℕ
  pub in_journal : Gives told.files journal JOURNAL_FILE_LIMIT (Found text)

-- then the program has answered 0 or 8, where all that it reads is reported and no count rose,
-- unless memory was short
abbrev pub AuditsAreAnswered : Type 0
AuditsAreAnswered = (library : Libraries) (words : List (List ℕ)) (before after : Seen) (status : Status)
    (file items journal : List ℕ) (dir : Option (List ℕ))
    → Spells words (audit file items journal dir)
    → TellsAll before.told (audit file items journal dir)
    → IsAuditable library before.told file items journal dir → NoneRose before after
    → HasDone library words before status after
    → OrMemory status ((status ≡ statuses.Done) ⊎ (status ≡ statuses.No))
