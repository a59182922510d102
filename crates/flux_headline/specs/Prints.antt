-- What `check`, `plan`, `format` and `help` have printed where the program answered 0, and that it
-- answers so where nothing is in the way.
use Rattle.std.specs.Prelude.{◌≡◌, List, [], ℕ, None, ⊤}
use Rattle.flux_values.specs.Meanings.{LibraryMeaning}
use Rattle.flux_library.specs.Documents.{DocMap}
use Rattle.flux_outside.specs.Streams.{Gains}
use Rattle.flux_syntax.specs.declared.declarations.Decl.{Decl}
use Rattle.flux_cli.specs.Commands.{Command, check, plan, format, help, Spells}
use Rattle.flux_commands.specs.declared.statuses.Status.{Status}
use Rattle.flux_commands.specs.declared.statuses.Status.TheVariants as statuses
use Rattle.flux_commands.specs.Told.{Files, Told}
use Rattle.flux_driver.specs.Seen.{Seen}
use Rattle.flux_commands.specs.Origins.{named}
use Rattle.flux_commands.specs.Documents.{AreDocs, TellsAll}
use Rattle.flux_commands.specs.Inputs.{HasDecls, HasProgram}
use Rattle.flux_commands.specs.Printed.{IsPrinted}
use Rattle.flux_commands.specs.Answers.{Libraries, OrMemory}
use Rattle.flux_driver.specs.Top.{HasDone}
use Rattle.flux_headline.specs.Headline.{NoneRose}

-- a command that looks at a text, or tells what commands there are
abbrev pub IsLook : Command → Type 0
IsLook (check file) = ⊤
IsLook (plan file) = ⊤
IsLook (format file) = ⊤
IsLook help = ⊤
IsLook other = ⊥

-- what it has printed:
--   docs, none   it has no documents;
--   text, is     `check` the report on the locks of the file's sound program, `plan` that program's
--                plan, `format` the formatted text of what the file declares, `help` the help text;
--   printed      `out` has gained this text, and no more;
--   silent       `err` has gained nothing.
pub record HasPrinted (library : Libraries) (before after : Seen) (command : Command) : Type 0 where
  pub docs : DocMap
  pub none : let own = before.told in AreDocs own.folders None docs
  pub text : List ℕ
  pub is : let own = before.told in IsPrinted (library docs) command own.files text
  pub printed : Gains before.out after.out text
  pub silent : Gains before.err after.err []

-- where the words spell such a command and the program has answered 0, it has printed that
abbrev pub PrintsAreTrue : Type 0
PrintsAreTrue = (library : Libraries) (words : List (List ℕ)) (before after : Seen) (command : Command)
    → Spells words command → IsLook command → HasDone library words before statuses.Done after
    → HasPrinted library before after command

-- what it looks at is there: a sound program; for `format` a text with declarations; `help` looks
-- at nothing
abbrev pub LooksAt : LibraryMeaning → Files → Command → Type 0
LooksAt meaning told (check file) = (decls : List Decl) × HasProgram meaning told (named file) decls
LooksAt meaning told (plan file) = (decls : List Decl) × HasProgram meaning told (named file) decls
LooksAt meaning told (format file) = (decls : List Decl) × HasDecls told (named file) decls
LooksAt meaning told help = ⊤
LooksAt meaning told other = ⊥

pub record CanLook (library : Libraries) (told : Told) (command : Command) : Type 0 where
  pub docs : DocMap
  pub none : AreDocs told.folders None docs
  pub there : LooksAt (library docs) told.files command

-- then the program has answered 0, where all that it reads is reported and no count rose, unless
-- memory was short
abbrev pub LooksAreAnswered : Type 0
LooksAreAnswered = (library : Libraries) (words : List (List ℕ)) (before after : Seen) (status : Status)
    (command : Command) → Spells words command → TellsAll before.told command
    → CanLook library before.told command → NoneRose before after
    → HasDone library words before status after → OrMemory status (status ≡ statuses.Done)
