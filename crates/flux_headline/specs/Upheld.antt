-- What `run` prints, `audit` upholds; and so it does the journal of which `load` prints a summary.
use Rattle.std.specs.Prelude.{◌≡◌, ◌≤◌, ℕ, List, length, Option, None, Some, IsSome}
use Rattle.flux_values.specs.Meanings.{LibraryMeaning}
use Rattle.flux_library.specs.Documents.{DocMap}
use Rattle.flow_model.specs.declared.journals.Journal.{Journal}
use Rattle.flux_journal.specs.Journals.{ReadsAs}
use Rattle.flux_outside.specs.Streams.{Gains}
use Rattle.flux_syntax.specs.ProgramOfText.{program_of}
use Rattle.flux_audit.specs.declared.verdicts.Verdict.TheVariants.{Yes}
use Rattle.flux_audit.specs.Printed.{printed_verdict}
use Rattle.flux_load.specs.Loads.{program_text, items_text}
use Rattle.flux_cli.specs.declared.loads.TheConstants.{LOAD_LIMIT}
use Rattle.flux_cli.specs.declared.values.JournalFormat.{JournalFormat}
use Rattle.flux_cli.specs.declared.values.Runtime.{Runtime}
use Rattle.flux_cli.specs.Forms.{RunOptions}
use Rattle.flux_cli.specs.Commands.{run, audit, Spells}
use Rattle.flux_runs.specs.declared.printing.Printing.{Printing}
use Rattle.flux_runs.specs.declared.printing.Printing.TheVariants as printings
use Rattle.flux_runs.specs.Printed.{printed_in}
use Rattle.flux_commands.specs.declared.files.TheConstants.{JOURNAL_FILE_LIMIT}
use Rattle.flux_commands.specs.declared.statuses.Status.{Status}
use Rattle.flux_commands.specs.declared.statuses.Status.TheVariants as statuses
use Rattle.flux_commands.specs.Told.{Files}
use Rattle.flux_commands.specs.Origins.{Origin, named, made}
use Rattle.flux_commands.specs.Documents.{TellsAll}
use Rattle.flux_commands.specs.TrueRuns.{IsRunText}
use Rattle.flux_commands.specs.Audited.{IsAudited}
use Rattle.flux_commands.specs.BuiltIn.{built_in}
use Rattle.flux_commands.specs.Answers.{Libraries, OrMemory}
use Rattle.flux_driver.specs.Seen.{Seen}
use Rattle.flux_driver.specs.Top.{HasDone}
use Rattle.flux_headline.specs.Headline.{HasRun, NoneRose}

-- ---- worlds

-- it is reported that a file holds these bytes
abbrev pub HoldsFile : Files → List ℕ → List ℕ → Type 0
HoldsFile None name bytes = ⊥
HoldsFile (Some files) name bytes = files name ≡ Some bytes

-- A text is a file's, when `audit` looks at it:
--   program_, items_   the program's file and the items' file hold what they held at the run;
--   journal_           the journal's file holds the text;
--   short              which is within the limit of journals' files: a longer one isn't read, and
--                      `audit` answers 9.
pub record IsKept (before later : Files) (file items journal text : List ℕ) : Type 0 where
  pub program_ : (bytes : List ℕ) → HoldsFile before file bytes → HoldsFile later file bytes
  pub items_ : (bytes : List ℕ) → HoldsFile before items bytes → HoldsFile later items bytes
  pub journal_ : HoldsFile later journal text
  pub short : length text ≤ JOURNAL_FILE_LIMIT

-- ---- texts

-- the journal of a run, printed in a format
abbrev pub journal_text : {meaning : LibraryMeaning} {told : Files} {program items : Origin}
    {runtime : Runtime} {printing : Printing} {text : List ℕ}
    → IsRunText meaning told program items runtime printing text → JournalFormat → List ℕ
journal_text ran format = let given = ran.given in let has = given.has in
    printed_in format (program_of has.decls) (length given.its) ran.journal

-- how many entries the journal of a run has
abbrev pub entry_count : {meaning : LibraryMeaning} {told : Files} {program items : Origin} {runtime : Runtime}
    {printing : Printing} {text : List ℕ}
    → IsRunText meaning told program items runtime printing text → ℕ
entry_count ran = let journal : Journal = ran.journal in length journal.entries

-- a text reads as this journal, and as no other
pub record ReadsAsAlone (text : List ℕ) {meaning : LibraryMeaning} {told : Files}
    {program items : Origin} {runtime : Runtime} {printing : Printing} {printed : List ℕ}
    (ran : IsRunText meaning told program items runtime printing printed) : Type 0 where
  pub reads : let given = ran.given in let has = given.has in
      ReadsAs (program_of has.decls) text ran.journal
  pub alone : (other : Journal)
      → (let given = ran.given in let has = given.has in
      ReadsAs (program_of has.decls) text other)
      → other ≡ ran.journal

-- what `run` prints, in either format, reads back as the journal of the run, and as no other
abbrev pub RunTextsReadBack : Type 0
RunTextsReadBack = (docs : DocMap) (told : Files) (file items text : List ℕ) (runtime : Runtime)
    (format : JournalFormat)
    → (ran : IsRunText (built_in docs) told (named file) (named items) runtime
    (printings.Journal format) text) → ReadsAsAlone text ran

-- and `audit` upholds it, with as many events as that journal has entries
abbrev pub RunTextsAreUpheld : Type 0
RunTextsAreUpheld = (docs : DocMap) (before later : Files) (file items journal text : List ℕ)
    (runtime : Runtime) (format : JournalFormat)
    → (ran : IsRunText (built_in docs) before (named file) (named items) runtime
    (printings.Journal format) text) → IsSome before → IsKept before later file items journal text
    → IsAudited (built_in docs) later (named file) (named items) journal (Yes (entry_count ran))

-- ---- calls

-- what `run` has printed
abbrev pub text_of : {library : Libraries} {before after : Seen} {file items : List ℕ}
    {options : RunOptions}
    → HasRun library before after file items options → List ℕ
text_of {options} ran = let there = ran.there in
    printed_in options.journal (program_of there.decls) (length ran.its) ran.journal

-- how many entries its journal has
abbrev pub count_of : {library : Libraries} {before after : Seen} {file items : List ℕ}
    {options : RunOptions}
    → HasRun library before after file items options → ℕ
count_of ran = let journal : Journal = ran.journal in length journal.entries

-- `audit` has said `ok` to a text with so many events
pub record HasUpheld (before after : Seen) (status : Status) (events : ℕ) : Type 0 where
  pub done : status ≡ statuses.Done
  pub printed : Gains before.out after.out (printed_verdict (Yes events))

-- Where `run` has answered 0, so that `ran` says what it has done, and later `audit` is called with
-- a file of what it has printed, the same two files and the same folders, `audit` says `ok` with the
-- number of the run's entries: where all of this is reported and no count rose, unless memory was
-- short.
abbrev pub RunsAreUpheld : Type 0
RunsAreUpheld = (before after : Seen) (file items : List ℕ) (options : RunOptions)
    (ran : HasRun built_in before after file items options)
    (words : List (List ℕ)) (start finish : Seen) (status : Status) (journal : List ℕ)
    → TellsAll before.told (run file items options)
    → (let own = before.told in let their = start.told in (their.folders ≡ own.folders)
    × IsKept own.files their.files file items journal (text_of ran))
    → Spells words (audit file items journal options.docs)
    → HasDone built_in words start status finish → NoneRose start finish
    → OrMemory status (HasUpheld start finish status (count_of ran))

-- ---- loads

-- a file of a load's program, one of its items, and one of a journal
pub record AreLoads (later : Files) (count first : ℕ) (file items journal text : List ℕ)
    : Type 0 where
  pub program_ : HoldsFile later file program_text
  pub items_ : HoldsFile later items (items_text count first)
  pub journal_ : HoldsFile later journal text
  pub short : length text ≤ JOURNAL_FILE_LIMIT

-- The journal of which `load` prints a summary is one that `audit` upholds, printed in either
-- format, for the program and the items of the load; and these items are as many as were asked for.
pub record IsLoadUpheld (docs : DocMap) (told : Files) (count first : ℕ) (runtime : Runtime)
    (text : List ℕ) (ran : IsRunText (built_in docs) told (made program_text)
    (made (items_text count first)) runtime printings.Summary text) : Type 0 where
  pub many : let given = ran.given in length given.its ≡ count
  pub upheld : (later : Files) (file items journal : List ℕ) (format : JournalFormat)
      → AreLoads later count first file items journal (journal_text ran format)
      → IsAudited (built_in docs) later (named file) (named items) journal
      (Yes (entry_count ran))

-- so it is for each load of at most as many items as the words may ask for
abbrev pub LoadsAreUpheld : Type 0
LoadsAreUpheld = (docs : DocMap) (told : Files) (count first : ℕ) (runtime : Runtime)
    (text : List ℕ) → count ≤ LOAD_LIMIT
    → (ran : IsRunText (built_in docs) told (made program_text) (made (items_text count first))
    runtime printings.Summary text) → IsLoadUpheld docs told count first runtime text ran
