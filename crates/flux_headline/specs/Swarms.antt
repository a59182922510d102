-- What `swarm` has done where the program answered 0 or 8, and that it answers one of them where
-- nothing is in the way.
use Rattle.std.specs.Prelude.{◌≡◌, ◌⊎◌, List, [], length, ℕ, Option}
use Rattle.std.specs.List.{AllByRecursion}
use Rattle.flux_library.specs.Documents.{DocMap}
use Rattle.flux_outside.specs.Streams.{Gains}
use Rattle.flux_cli.specs.Commands.{swarm, Spells}
use Rattle.flux_swarms.specs.Tracked.{HasTrackersNodes}
use Rattle.flux_commands.specs.declared.statuses.Status.{Status}
use Rattle.flux_commands.specs.declared.statuses.Status.TheVariants as statuses
use Rattle.flux_commands.specs.Told.{Files}
use Rattle.flux_driver.specs.Seen.{Seen}
use Rattle.flux_commands.specs.Origins.{named}
use Rattle.flux_commands.specs.Documents.{AreDocs, TellsAll}
use Rattle.flux_commands.specs.Swarmed.{IsSwarmed}
use Rattle.flux_commands.specs.Answers.{Libraries, OrMemory}
use Rattle.flux_commands.specs.BuiltIn.{built_in}
use Rattle.flux_driver.specs.Top.{HasDone}
use Rattle.flux_headline.specs.Headline.{NoneRose}
use Rattle.flux_headline.specs.Audits.{HasRefuted, IsAuditable}

-- what `swarm` has done:
--   docs, are_docs   the documents of the folder that the words name;
--   text, is         the journal's file is that of a true run of the items of the one file through
--                    the program of the other, and a text is `peers` with their number, and the
--                    lines of the peers of the hash after it;
--   printed          `out` has gained this text, and no more;
--   silent           `err` has gained nothing.
pub record HasListed (library : Libraries) (before after : Seen) (file items journal hash : List ℕ)
    (dir : Option (List ℕ)) : Type 0 where
  pub docs : DocMap
  pub are_docs : let own = before.told in AreDocs own.folders dir docs
  pub text : List ℕ
  pub is : let own = before.told in
      IsSwarmed (library docs) own.files (named file) (named items) journal hash text
  pub printed : Gains before.out after.out text
  pub silent : Gains before.err after.err []

-- where the words spell `swarm` and the program has answered 0, it has listed the peers
abbrev pub SwarmsAreTrue : Type 0
SwarmsAreTrue = (library : Libraries) (words : List (List ℕ)) (before after : Seen)
    (file items journal hash : List ℕ) (dir : Option (List ℕ))
    → Spells words (swarm file items journal hash dir)
    → HasDone library words before statuses.Done after
    → HasListed library before after file items journal hash dir

-- the library that the program is built with has the nodes of `Tracker`: where `swarms` is theirs
-- in a program, the peers are the swarm in the cell
abbrev pub TrackersNodesAreBuiltIn : Type 0
TrackersNodesAreBuiltIn = (docs : DocMap) → HasTrackersNodes (built_in docs)

-- each address of a peer that it lists has six bytes, so that no field of a line is empty
abbrev pub AddressesHaveSixBytes : Type 0
AddressesHaveSixBytes = (docs : DocMap) (told : Files) (file items journal hash text : List ℕ)
    → (swarmed : IsSwarmed (built_in docs) told (named file) (named items) journal hash text)
    → let of = swarmed.is in AllByRecursion (λ peer. length peer.address ≡ 6) of.peers

-- where they spell it and the program has answered 8, the journal isn't that of a true run, and it
-- has printed why
abbrev pub SwarmsAreRefuted : Type 0
SwarmsAreRefuted = (library : Libraries) (words : List (List ℕ)) (before after : Seen)
    (file items journal hash : List ℕ) (dir : Option (List ℕ))
    → Spells words (swarm file items journal hash dir)
    → HasDone library words before statuses.No after
    → HasRefuted library before after file items journal dir

-- where what `audit` reads of these files is there, `swarm` has answered 0 or 8, where all that it
-- reads is reported and no count rose, unless memory was short
abbrev pub SwarmsAreAnswered : Type 0
SwarmsAreAnswered = (library : Libraries) (words : List (List ℕ)) (before after : Seen)
    (status : Status) (file items journal hash : List ℕ) (dir : Option (List ℕ))
    → Spells words (swarm file items journal hash dir)
    → TellsAll before.told (swarm file items journal hash dir)
    → IsAuditable library before.told file items journal dir → NoneRose before after
    → HasDone library words before status after
    → OrMemory status ((status ≡ statuses.Done) ⊎ (status ≡ statuses.No))
