-- What a call of the program has done, by what is seen of the world before and after.
use Rattle.std.specs.Prelude.{◌≡◌, ◌≢◌, ◌≤◌, ℕ, ◌⊎◌, List, ⊤}
use Rattle.flux_outside.specs.Causes.{Rose}
use Rattle.flux_cli.specs.Commands.{Command, serve, Spells, SpellsNone}
use Rattle.flux_commands.specs.declared.statuses.Status.{Status}
use Rattle.flux_commands.specs.declared.statuses.Status.TheVariants as statuses
use Rattle.flux_outside.specs.Streams.{Wrote, Broke, WroteOrBroke}
use Rattle.flux_doors.specs.Seen.{IsLater}
use Rattle.flux_commands.specs.Told.{Told}
use Rattle.flux_driver.specs.Seen.{Seen}
use Rattle.flux_commands.specs.Documents.{TellsAll}
use Rattle.flux_commands.specs.Asked.{HasAsked}
use Rattle.flux_commands.specs.Answers.{Libraries, Decided, IsAnswer, OrMemory}
use Rattle.flux_driver.specs.Serving.{HasServedWords}
use Rattle.flux_cli.specs.Forms.{Serving}

-- ---- what was printed and said

-- the statuses with which writing can have failed: 6, and 8, which stays what it is
abbrev pub MayBreak : Status → Type 0
MayBreak statuses.Write = ⊤
MayBreak statuses.No = ⊤
MayBreak other = ⊥

-- the words spell no `serve`
abbrev pub SpellNoServe : List (List ℕ) → Type 0
SpellNoServe words = (file : List ℕ) (serving : Serving) → Spells words (serve file serving) → ⊥

-- the text is on `out`, all of it, or a front of it where writing failed; the line is on `err`, all
-- of it, or a front of it where `err` failed; the door stays as it was; and only words that spell
-- no `serve` end so with status 0
pub record HasAnswered (library : Libraries) (words : List (List ℕ)) (before : Seen)
    (status : Status) (after : Seen) : Type 0 where
  pub text : List ℕ
  pub line : List ℕ
  pub cause : IsAnswer library words before.told status text line
  pub out : Wrote before.out after.out text
      ⊎ (MayBreak status × Broke before.out after.out text)
  pub err : WroteOrBroke before.err after.err line
  pub door : after.door ≡ before.door
  pub other : status ≡ statuses.Done → SpellNoServe words

-- ---- counts of failures

-- status 5 comes only where the store's count rose, or the folder's; with any other both are as
-- before
pub record RoseForReading (status : Status)
    (store store_after folder folder_after : ℕ) : Type 0 where
  pub failed : status ≡ statuses.Read → Rose store store_after ⊎ Rose folder folder_after
  pub steady : status ≢ statuses.Read → (store_after ≡ store) × (folder_after ≡ folder)

-- the same of status 6 and the count of `out`, but that it may rise with status 8 too
pub record RoseForWriting (status : Status) (out out_after : ℕ) : Type 0 where
  pub failed : status ≡ statuses.Write → Rose out out_after
  pub steady : (MayBreak status → ⊥) → out_after ≡ out

-- status 7 comes only where the door's count rose; with any other it is as before
pub record RoseForDoor (status : Status) (door door_after : ℕ) : Type 0 where
  pub failed : status ≡ statuses.Door → Rose door door_after
  pub steady : status ≢ statuses.Door → door_after ≡ door

-- none of these counts fell
pub record AreLater (before after : Seen) : Type 0 where
  pub store : let own = before.store in let later = after.store in own.faults ≤ later.faults
  pub folder : let own = before.folder in let later = after.folder in own.faults ≤ later.faults
  pub out : let own = before.out in let later = after.out in own.faults ≤ later.faults
  pub err : let own = before.err in let later = after.err in own.faults ≤ later.faults
  pub door : IsLater before.door after.door

-- ---- what was due

-- the status is the one that is due, unless reading failed, or the printing of what was due, or the
-- door
abbrev pub Decides : Status → Status → Type 0
Decides status due = (status ≡ due) ⊎ ((status ≡ statuses.Read)
    ⊎ (((status ≡ statuses.Write) ⊎ (status ≡ statuses.Door)) × (due ≡ statuses.Done)))

-- what a command decides, where all that it reads is reported, is answered
abbrev pub IsComplete : Libraries → List (List ℕ) → Told → Status → Type 0
IsComplete library words told status = (command : Command) → Spells words command
    → TellsAll told command → (due : Status) (text line : List ℕ)
    → Decided library command told due text line → OrMemory status (Decides status due)

-- ---- the whole

-- A call with these words answers this status:
--   what is reported of files and folders is as before, no count of failures falls, and the words
--   say which folder and which files were asked for, in which order;
--   the status has its cause, and `out` and `err` have gained what belongs to it, and the door
--   stays as it was; or `serve` has served;
--   with status 5 the count of the store or of the folder rose, and with any other both are as
--   before; the same of status 6 and the count of `out`, which may rise with status 8 too, and of
--   status 7 and the count of the door;
--   words that are no command are refused, and what is due is answered, unless memory was short.
pub record HasDone (library : Libraries) (words : List (List ℕ)) (before : Seen)
    (status : Status) (after : Seen) : Type 0 where
  pub kept : after.told ≡ before.told
  pub later : AreLater before after
  pub asked : let folder = before.folder in let folder_after = after.folder in
      let store = before.store in let store_after = after.store in
      HasAsked library words before.told status folder.asked folder_after.asked store.asked
      store_after.asked
  pub answered : HasAnswered library words before status after ⊎ HasServedWords library words before status after
  pub reading : let folder = before.folder in let folder_after = after.folder in
      let store = before.store in let store_after = after.store in
      RoseForReading status store.faults store_after.faults folder.faults folder_after.faults
  pub writing : let own = before.out in let later = after.out in
      RoseForWriting status own.faults later.faults
  pub entrance : let own = before.door in let later = after.door in
      RoseForDoor status own.faults later.faults
  pub usage : SpellsNone words → OrMemory status (status ≡ statuses.Usage)
  pub complete : IsComplete library words before.told status
