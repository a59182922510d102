-- What is due: what a command decides, where all that it reads is reported.
use Rattle.std.specs.Prelude.{◌≡◌, ℕ, ◌⊎◌, List}
use Rattle.flux_cli.specs.Commands.{Command, Spells}
use Rattle.flux_commands.specs.declared.statuses.Status.{Status}
use Rattle.flux_commands.specs.declared.statuses.Status.TheVariants as statuses
use Rattle.flux_commands.specs.Told.{Told}
use Rattle.flux_commands.specs.Documents.{TellsAll}
use Rattle.flux_commands.specs.Answers.{Libraries, Decided}

-- what is decided for a command, where all that it reads is reported, is the status; or reading failed, or memory was short
abbrev pub AnswersDue : Libraries → Command → Told → Status → Type 0
AnswersDue library command told status = TellsAll told command → (due : Status) (text line : List ℕ)
    → Decided library command told due text line
    → (status ≡ due) ⊎ ((status ≡ statuses.Read) ⊎ (status ≡ statuses.Memory))

-- so it is for whichever command the words spell
abbrev pub AnswersWords : Libraries → List (List ℕ) → Told → Status → Type 0
AnswersWords library words told status =
    (command : Command) → Spells words command → AnswersDue library command told status
