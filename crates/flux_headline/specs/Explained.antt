-- Every status has its cause, and what files and folder decide has its status: the headline's other
-- half. Which counts of failures rise with which status is in `Top`.
use Rattle.std.specs.Prelude.{◌≡◌, ◌⊎◌, List, [], ℕ}
use Rattle.flux_outside.specs.Causes.{Rose}
use Rattle.flux_outside.specs.Streams.{Wrote, Broke, WroteOrBroke}
use Rattle.flux_cli.specs.Commands.{Command, Spells, SpellsNone, IsServe}
use Rattle.flux_commands.specs.declared.statuses.Status.{Status}
use Rattle.flux_commands.specs.declared.statuses.Status.TheVariants as statuses
use Rattle.flux_driver.specs.Seen.{Seen}
use Rattle.flux_commands.specs.Documents.{TellsAll}
use Rattle.flux_commands.specs.Causes.{read_line, write_line}
use Rattle.flux_commands.specs.Answers.{Libraries, Prints, Decided, OrMemory}
use Rattle.flux_driver.specs.Serving.{HasServedWords}
use Rattle.flux_driver.specs.Top.{HasDone, MayBreak}
use Rattle.flux_headline.specs.Headline.{NoneRose}

-- a file or the folder of documents could not be read
abbrev pub ReadingFailed : Seen → Seen → Type 0
ReadingFailed before after =
    (let own = before.store in let later = after.store in Rose own.faults later.faults)
    ⊎ (let own = before.folder in let later = after.folder in Rose own.faults later.faults)

-- `out` could not be written
abbrev pub WritingFailed : Seen → Seen → Type 0
WritingFailed before after =
    let own = before.out in let later = after.out in Rose own.faults later.faults

-- the door could not be opened, or not a first link of a batch be accepted
abbrev pub DoorFailed : Seen → Seen → Type 0
DoorFailed before after =
    let own = before.door in let later = after.door in Rose own.faults later.faults

-- why a command has a status, with the text that it prints and the line that it says: reading
-- failed, writing failed, memory was short, or else the files and the folder decide it
abbrev pub IsCause : Libraries → Command → Seen → Seen → Status → List ℕ → List ℕ → Type 0
IsCause library command before after statuses.Read text line =
    ReadingFailed before after × (text ≡ []) × (line ≡ read_line)
IsCause library command before after statuses.Write text line =
    WritingFailed before after × Prints library command before.told text × (line ≡ write_line)
IsCause library command before after statuses.Memory text line = (text ≡ []) × (line ≡ [])
IsCause library command before after other text line =
    Decided library command before.told other text line

-- a status with its cause; the text is on `out` and the line on `err`, or a front of it where
-- writing there failed; the door is as it was, so that no `serve` ends with 0
pub record IsExplained (library : Libraries) (command : Command) (before after : Seen)
    (status : Status) : Type 0 where
  pub text : List ℕ
  pub line : List ℕ
  pub cause : IsCause library command before after status text line
  pub out : Wrote before.out after.out text
      ⊎ (MayBreak status × Broke before.out after.out text)
  pub err : WroteOrBroke before.err after.err line
  pub door : after.door ≡ before.door
  pub other : status ≡ statuses.Done → IsServe command → ⊥

-- where the words spell a command, each status that the program answers has its cause, or `serve`
-- has served, and its end has this status
abbrev pub StatusesHaveCauses : Type 0
StatusesHaveCauses = (library : Libraries) (words : List (List ℕ)) (before after : Seen)
    (status : Status) (command : Command) → Spells words command
    → HasDone library words before status after
    → IsExplained library command before after status
    ⊎ HasServedWords library words before status after

-- what the files and the folder decide is answered, or 12, where all that the command reads is
-- reported, no count rose, and the door didn't fail
abbrev pub CausesAreAnswered : Type 0
CausesAreAnswered = (library : Libraries) (words : List (List ℕ)) (before after : Seen)
    (status due : Status) (text line : List ℕ) (command : Command) → Spells words command
    → TellsAll before.told command → Decided library command before.told due text line
    → NoneRose before after → (DoorFailed before after → ⊥)
    → HasDone library words before status after → OrMemory status (status ≡ due)

-- status 2 comes for words that are no command, or 12
abbrev pub NoCommandIsUsage : Type 0
NoCommandIsUsage = (library : Libraries) (words : List (List ℕ)) (before after : Seen)
    (status : Status) → SpellsNone words → HasDone library words before status after
    → OrMemory status (status ≡ statuses.Usage)

-- and for no others
abbrev pub UsageIsForNoCommand : Type 0
UsageIsForNoCommand = (library : Libraries) (words : List (List ℕ)) (before after : Seen)
    → HasDone library words before statuses.Usage after → SpellsNone words
