-- What `serve` has done where the program answered 0, and that it does so where nothing is in the
-- way.
use Rattle.std.specs.Prelude.{◌≡◌, ◌⊎◌, List, ℕ}
use Rattle.flux_library.specs.Documents.{DocMap}
use Rattle.flux_outside.specs.Causes.{Rose}
use Rattle.flux_serve.specs.declared.batches.ServeEnd.TheVariants.{Closed, Counted}
use Rattle.flux_cli.specs.Forms.{Serving}
use Rattle.flux_cli.specs.Commands.{serve, Spells}
use Rattle.flux_commands.specs.declared.statuses.Status.{Status}
use Rattle.flux_commands.specs.declared.statuses.Status.TheVariants as statuses
use Rattle.flux_commands.specs.Told.{Told}
use Rattle.flux_driver.specs.Seen.{Seen}
use Rattle.flux_commands.specs.Origins.{named}
use Rattle.flux_commands.specs.Inputs.{HasServable}
use Rattle.flux_commands.specs.Documents.{AreDocs, TellsAll}
use Rattle.flux_commands.specs.Answers.{Libraries, OrMemory}
use Rattle.flux_driver.specs.Serving.{HasServedFile}
use Rattle.flux_driver.specs.Top.{HasDone}
use Rattle.flux_headline.specs.Headline.{NoneRose}

-- the documents and the program that `serve` reads, as the world tells them: the program can be
-- served
pub record IsServable (library : Libraries) (told : Told) (file : List ℕ) (serving : Serving)
    : Type 0 where
  pub docs : DocMap
  pub are_docs : AreDocs told.folders serving.docs docs
  pub there : HasServable (library docs) told.files (named file)

-- the file's program was served, until the door was closed or as many batches were served as were
-- wanted
pub record HasServedOut (library : Libraries) (before after : Seen) (file : List ℕ) (serving : Serving)
    : Type 0 where
  pub has : HasServedFile library file serving before after
  pub ended : let own = has in (own.end ≡ Closed) ⊎ (own.end ≡ Counted)

-- where the words spell `serve` and the program has answered 0, it has served
abbrev pub ServingIsTrue : Type 0
ServingIsTrue = (library : Libraries) (words : List (List ℕ)) (before after : Seen)
    (file : List ℕ) (serving : Serving)
    → Spells words (serve file serving) → HasDone library words before statuses.Done after
    → HasServedOut library before after file serving

-- where the words spell `serve`, all that it reads is reported, the program can be served, and no
-- count rose, nor the door's, the program has answered 0, unless memory was short
abbrev pub ServingIsAnswered : Type 0
ServingIsAnswered = (library : Libraries) (words : List (List ℕ)) (before after : Seen) (status : Status)
    (file : List ℕ) (serving : Serving)
    → Spells words (serve file serving) → TellsAll before.told (serve file serving)
    → IsServable library before.told file serving → NoneRose before after
    → ((let own = before.door in let later = after.door in Rose own.faults later.faults) → ⊥)
    → HasDone library words before status after → OrMemory status (status ≡ statuses.Done)
