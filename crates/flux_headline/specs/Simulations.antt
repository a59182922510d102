-- What `simulate` has done where the program answered 0, and that it answers so where nothing is in
-- the way.
use Rattle.std.specs.Prelude.{◌≡◌, List, [], ℕ, IsSome}
use Rattle.flux_values.specs.Meanings.{LibraryMeaning}
use Rattle.flux_library.specs.Documents.{DocMap}
use Rattle.flux_outside.specs.Streams.{Gains}
use Rattle.flux_items.specs.declared.rules.ItemFault.{ItemFault}
use Rattle.flux_items.specs.Faults.{IsFaultOf}
use Rattle.flux_cli.specs.Forms.{Simulating}
use Rattle.flux_cli.specs.Commands.{simulate, Spells}
use Rattle.flux_commands.specs.declared.statuses.Status.{Status}
use Rattle.flux_commands.specs.declared.statuses.Status.TheVariants as statuses
use Rattle.flux_commands.specs.Told.{Files, Told}
use Rattle.flux_driver.specs.Seen.{Seen}
use Rattle.flux_commands.specs.Origins.{named}
use Rattle.flux_commands.specs.Documents.{AreDocs, TellsAll}
use Rattle.flux_commands.specs.Inputs.{HasItems}
use Rattle.flux_commands.specs.Items.{rules_in}
use Rattle.flux_commands.specs.Simulated.{IsSimulated}
use Rattle.flux_commands.specs.Answers.{Libraries, OrMemory}
use Rattle.flux_driver.specs.Top.{HasDone}
use Rattle.flux_headline.specs.Headline.{NoneRose}

-- what `simulate` has done:
--   docs, are_docs   the documents of the folder that the words name;
--   text, is         a text is the three lines of a run of the items of the one file through the
--                    program of the other, by the rule of simulated processors, on as many of them
--                    and with such costs as the words say;
--   printed          `out` has gained this text, and no more;
--   silent           `err` has gained nothing.
pub record HasSimulated (library : Libraries) (before after : Seen) (file items : List ℕ) (simulating : Simulating)
    : Type 0 where
  pub docs : DocMap
  pub are_docs : let own = before.told in AreDocs own.folders simulating.docs docs
  pub text : List ℕ
  pub is : let own = before.told in IsSimulated (library docs) own.files (named file) (named items) simulating text
  pub printed : Gains before.out after.out text
  pub silent : Gains before.err after.err []

-- where the words spell `simulate` and the program has answered 0, it has simulated
abbrev pub SimulationsAreTrue : Type 0
SimulationsAreTrue = (library : Libraries) (words : List (List ℕ)) (before after : Seen)
    (file items : List ℕ) (simulating : Simulating)
    → Spells words (simulate file items simulating) → HasDone library words before statuses.Done after
    → HasSimulated library before after file items simulating

-- what `simulate` reads is there: the documents, a sound program, and the items' file, in which no
-- line has a fault
pub record CanBeSimulated (library : Libraries) (told : Told) (file items : List ℕ) (simulating : Simulating)
    : Type 0 where
  pub docs : DocMap
  pub are_docs : AreDocs told.folders simulating.docs docs
  pub has : HasItems (library docs) told.files (named file) (named items)
  pub faultless : (fault : ItemFault) → (let own = has.program_ in
      IsFaultOf (rules_in (library docs) has.decls own.sound) fault has.text) → ⊥

-- then the program has answered 0, where all that it reads is reported and no count rose, unless
-- memory was short
abbrev pub SimulationsAreAnswered : Type 0
SimulationsAreAnswered = (library : Libraries) (words : List (List ℕ)) (before after : Seen) (status : Status)
    (file items : List ℕ) (simulating : Simulating)
    → Spells words (simulate file items simulating) → TellsAll before.told (simulate file items simulating)
    → CanBeSimulated library before.told file items simulating → NoneRose before after
    → HasDone library words before status after → OrMemory status (status ≡ statuses.Done)

-- what `simulate` prints of two files with the same documents and options, where files are
-- reported, is one text: its three numbers are those of the rule of simulated processors
abbrev pub SimulationsAreOne : Type 0
SimulationsAreOne = (meaning : LibraryMeaning) (told : Files) (words : List (List ℕ)) (file items : List ℕ)
    (simulating : Simulating) (text other : List ℕ) → IsSome told → Spells words (simulate file items simulating)
    → IsSimulated meaning told (named file) (named items) simulating text
    → IsSimulated meaning told (named file) (named items) simulating other → text ≡ other
