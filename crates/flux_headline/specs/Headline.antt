-- The headline: what `run` has done where the program answered 0, and that it answers 0 where
-- nothing is in the way.
--
-- `HasDone` is the clause of the public call `top`: what a call with these words has done, by what
-- is seen of the world before and after. Where the world tells what its files, folders and streams
-- hold, the texts below are those. Of a real one, which doesn't tell, the program's text and the
-- items' are some within their limits, the documents of a named folder are any, each within its
-- limit, and what a stream gained isn't said.
-- The options of a run are the runtime, `event` where none is named; the folder of
-- documents; the format, 1 where none is named. `Libraries` gives what the library's nodes mean, by
-- its documents. `Holds` are classes with modes for each node; in a legal journal they are its
-- locks: the classes that it declares, and of those that nodes below it declare the ones up to the
-- last of its own in canonical order, each in its greatest mode. `OrMemory` allows one status more:
-- 12, which means want of memory; that memory was short isn't said. The laws speak of a call that
-- has come back, and hold for every library; that of `top` is `built_in`, of the file `BuiltIn` of
-- `flux_commands`.
--
-- That a journal is legal says that the locks are the program's, that each entry is of the flow of
-- an item, and that
--   each flow follows its walk: what the program's text lays down from its source's target on, with
--   the locks taken and dropped on the way;
--   each call has its node's answer, on the cells as earlier calls left them;
--   no take, up to its drop, overlaps one of another flow on the same key, where one of them
--   writes; nor do sections, each of which is a flow's time in a node that declares a constraint;
--   each wait is where a take is blocked, once for that take, and no flow that came later takes the
--   key in conflict before it, but for one that holds the key already; and no waits form a cycle.
-- That it is whole says that each item's flow is in it, as one whole path up to its end.
--
-- That every other status but 12 comes for its cause alone is in `Explained`, and that what words,
-- files and folder decide is answered, or 12, where all is reported and nothing failed; which
-- counts of failures rise with which status is in `Top` of `flux_driver`.
use Rattle.std.specs.Prelude.{◌≡◌, List, [], ℕ, length}
use Rattle.flux_library.specs.Documents.{DocMap}
use Rattle.flux_model.specs.declared.items.Item.{Item}
use Rattle.flux_model.specs.Locks.{Holds}
use Rattle.flow_model.specs.declared.journals.Journal.{Journal}
use Rattle.flow_model.specs.Setup.{Setup}
use Rattle.flow_model.specs.Legal.{IsLegal, IsWhole}
use Rattle.flux_items.specs.declared.rules.ItemFault.{ItemFault}
use Rattle.flux_items.specs.Items.{AreItemsOf}
use Rattle.flux_items.specs.Faults.{IsFaultOf}
use Rattle.flux_outside.specs.Causes.{Rose}
use Rattle.flux_outside.specs.declared.stores.File.TheVariants.{Found}
use Rattle.flux_syntax.specs.declared.declarations.Decl.{Decl}
use Rattle.flux_syntax.specs.Declares.{Declares}
use Rattle.flux_syntax.specs.ProgramOfText.{program_of}
use Rattle.flux_check.specs.Judgement.{AreSound}
use Rattle.flux_cli.specs.Forms.{RunOptions}
use Rattle.flux_cli.specs.Commands.{run, Spells}
use Rattle.flux_runs.specs.Setups.{setup_of}
use Rattle.flux_runs.specs.Printed.{printed_in}
use Rattle.flux_runs.specs.Orders.{IsOrderOf}
use Rattle.flux_commands.specs.declared.files.TheConstants.{PROGRAM_FILE_LIMIT, ITEMS_FILE_LIMIT}
use Rattle.flux_commands.specs.declared.statuses.Status.{Status}
use Rattle.flux_commands.specs.declared.statuses.Status.TheVariants as statuses
use Rattle.flux_outside.specs.Streams.{Gains}
use Rattle.flux_commands.specs.Told.{Told, Gives}
use Rattle.flux_driver.specs.Seen.{Seen}
use Rattle.flux_commands.specs.Documents.{AreDocs, TellsAll}
use Rattle.flux_commands.specs.Items.{rules_in}
use Rattle.flux_commands.specs.Answers.{Libraries, OrMemory}
use Rattle.flux_driver.specs.Top.{HasDone}

-- what a run reads, as the world tells it, where `file` and `items` are the names of two files:
--   docs, are_docs         the documents of the folder that the words name; none, where they name
--                          none;
--   text, in_file          the text of the program's file, of at most 2,097,152 bytes;
--   decls, declared        what that text declares: it has at most 1,048,576 bytes, and none of the
--                          static faults 1 to 4, which are of the grammar;
--   sound                  and none of the others, 5 to 28, for the library with these documents;
--   items_text, in_items   the text of the items' file, of at most 16,777,216 bytes.
pub record IsThere (library : Libraries) (told : Told) (file items : List ℕ) (options : RunOptions)
    : Type 0 where
  pub docs : DocMap
  pub are_docs : AreDocs told.folders options.docs docs
  pub text : List ℕ
  pub in_file : Gives told.files file PROGRAM_FILE_LIMIT (Found text)
  pub decls : List Decl
  pub declared : Declares decls text
  pub sound : AreSound (library docs) decls
  pub items_text : List ℕ
  pub in_items : Gives told.files items ITEMS_FILE_LIMIT (Found items_text)

-- what a journal of these items is judged by: the program of the text, with these locks, empty
-- cells at the start, and the library
abbrev pub setup_there : {library : Libraries} {told : Told} {file items : List ℕ} {options : RunOptions}
    → IsThere library told file items options → Holds → List Item → Setup
setup_there {library} there locks its =
    setup_of (program_of there.decls) locks its (library there.docs)

-- what `run` has done:
--   its, are_items   the items' text, line by line, but for blank ones and comments, by the names
--                    and kinds of the program's sources; 4,096 at most, of which the sizes of the
--                    sources, which bound a flow's events without its waits, sum to 4,194,304 at
--                    most;
--   journal, locks   a journal of their flows through the program of the text, and the program's
--                    locks;
--   legal, whole     that journal is legal, and whole;
--   order            from an empty journal on: by `event`, turns up to a call, a wait or the end;
--                    by a script, the flows that it lists, then the lowest; by threads and helpers,
--                    any;
--   printed          `out` has gained this journal's printed text in the format of the options, of
--                    which 2 begins with a line that tells the flows and events; and no more;
--   silent           `err` has gained nothing.
pub record HasRun (library : Libraries) (before after : Seen) (file items : List ℕ)
    (options : RunOptions) : Type 0 where
  pub there : IsThere library before.told file items options
  pub its : List Item
  pub are_items : let own = there in
      AreItemsOf (rules_in (library own.docs) own.decls own.sound) its own.items_text
  pub journal : Journal
  pub locks : Holds
  pub legal : IsLegal (setup_there there locks its) journal.entries
  pub whole : IsWhole (setup_there there locks its) journal.entries
  pub order : IsOrderOf options.runtime (setup_there there locks its) [] journal.entries
  pub printed : let own = there in Gains before.out after.out
      (printed_in options.journal (program_of own.decls) (length its) journal)
  pub silent : Gains before.err after.err []

-- where the words spell `run` and the program has answered 0, it has run
abbrev pub RunsAreTrue : Type 0
RunsAreTrue = (library : Libraries) (words : List (List ℕ)) (before after : Seen)
    (file items : List ℕ) (options : RunOptions)
    → Spells words (run file items options) → HasDone library words before statuses.Done after
    → HasRun library before after file items options

-- no reading of a file or of the folder failed, nor a write of `out`: their counts of failures
-- didn't rise, and none is at the end of its type
pub record NoneRose (before after : Seen) : Type 0 where
  pub store : let own = before.store in let later = after.store in Rose own.faults later.faults → ⊥
  pub folder : let own = before.folder in let later = after.folder in Rose own.faults later.faults → ⊥
  pub out : let own = before.out in let later = after.out in Rose own.faults later.faults → ⊥

-- no line of the items' text has a fault: each is blank, a comment, or an item of a source's name
-- and kinds, and no limit of items is passed
abbrev pub AreFaultless : (library : Libraries) (told : Told) (file items : List ℕ) (options : RunOptions)
    → IsThere library told file items options → Type 0
AreFaultless library told file items options there = (fault : ItemFault)
    → IsFaultOf (rules_in (library there.docs) there.decls there.sound) fault there.items_text → ⊥

-- where the words spell `run`, all that it reads is reported and there, the items' text has no
-- fault, and none of these counts rose, the program has answered 0, or 12; of a real world, which
-- doesn't tell what it holds, this says nothing
abbrev pub RunsAreAnswered : Type 0
RunsAreAnswered = (library : Libraries) (words : List (List ℕ)) (before after : Seen) (status : Status)
    (file items : List ℕ) (options : RunOptions)
    → Spells words (run file items options) → TellsAll before.told (run file items options)
    → (there : IsThere library before.told file items options)
    → AreFaultless library before.told file items options there → NoneRose before after
    → HasDone library words before status after → OrMemory status (status ≡ statuses.Done)
