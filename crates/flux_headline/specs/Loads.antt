-- What `load` has done where the program answered 0, and that it answers so where nothing is in the
-- way.
use Rattle.std.specs.Prelude.{◌≡◌, List, ℕ, None, []}
use Rattle.flux_library.specs.Documents.{DocMap}
use Rattle.flux_outside.specs.Streams.{Gains}
use Rattle.flux_items.specs.declared.rules.ItemFault.{ItemFault}
use Rattle.flux_items.specs.Faults.{IsFaultOf}
use Rattle.flux_load.specs.Loads.{program_text, items_text}
use Rattle.flux_cli.specs.declared.values.Runtime.{Runtime}
use Rattle.flux_cli.specs.Commands.{load, Spells}
use Rattle.flux_runs.specs.declared.printing.Printing.TheVariants.{Summary}
use Rattle.flux_commands.specs.declared.statuses.Status.{Status}
use Rattle.flux_commands.specs.declared.statuses.Status.TheVariants as statuses
use Rattle.flux_commands.specs.Told.{Told}
use Rattle.flux_driver.specs.Seen.{Seen}
use Rattle.flux_commands.specs.Origins.{made}
use Rattle.flux_commands.specs.Documents.{AreDocs}
use Rattle.flux_commands.specs.Inputs.{HasItems}
use Rattle.flux_commands.specs.Items.{rules_in}
use Rattle.flux_commands.specs.TrueRuns.{IsRunText}
use Rattle.flux_commands.specs.Answers.{Libraries, OrMemory}
use Rattle.flux_driver.specs.Top.{HasDone}
use Rattle.flux_headline.specs.Headline.{NoneRose}

-- what `load` has done:
--   docs, none   it has no documents;
--   summary      a text is the summary of a true run of its own items through its own program, by
--                the runtime that the words name;
--   printed      `out` has gained this text, and no more;
--   silent       `err` has gained nothing.
pub record HasLoaded (library : Libraries) (before after : Seen) (count first : ℕ) (runtime : Runtime)
    : Type 0 where
  pub docs : DocMap
  pub none : let own = before.told in AreDocs own.folders None docs
  pub text : List ℕ
  pub summary : let own = before.told in IsRunText (library docs) own.files (made program_text)
      (made (items_text count first)) runtime Summary text
  pub printed : Gains before.out after.out text
  pub silent : Gains before.err after.err []

-- where the words spell `load` and the program has answered 0, it has run its texts
abbrev pub LoadsAreTrue : Type 0
LoadsAreTrue = (library : Libraries) (words : List (List ℕ)) (before after : Seen)
    (count first : ℕ) (runtime : Runtime)
    → Spells words (load count first runtime)
    → HasDone library words before statuses.Done after
    → HasLoaded library before after count first runtime

-- the program of a load is sound for the library without documents, and no line of its items has a
-- fault
pub record IsLoadable (library : Libraries) (told : Told) (count first : ℕ) : Type 0 where
  pub docs : DocMap
  pub none : AreDocs told.folders None docs
  pub has : HasItems (library docs) told.files (made program_text) (made (items_text count first))
  pub faultless : (fault : ItemFault) → (let own = has.program_ in
      IsFaultOf (rules_in (library docs) has.decls own.sound) fault has.text) → ⊥

-- then the program has answered 0, where no count rose, unless memory was short
abbrev pub LoadsAreAnswered : Type 0
LoadsAreAnswered = (library : Libraries) (words : List (List ℕ)) (before after : Seen) (status : Status)
    (count first : ℕ) (runtime : Runtime)
    → Spells words (load count first runtime)
    → IsLoadable library before.told count first → NoneRose before after
    → HasDone library words before status after → OrMemory status (status ≡ statuses.Done)
