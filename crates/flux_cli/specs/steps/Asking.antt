-- Steps of the reader: what was asked for.
use Rattle.std.specs.Prelude.{◌≡◌, ℕ, List, Option, Some, None, option_copied}
use Rattle.std.specs.Borrow.{Bor}
use Rattle.flux_cli.specs.declared.names.CommandName.{CommandName}
use Rattle.flux_cli.specs.declared.commands.Asked.{Asked}
use Rattle.flux_cli.specs.declared.serves.Service.{Service}
use Rattle.flux_cli.specs.declared.replies.Replying.{Replying}
use Rattle.flux_cli.specs.Replies.{IsReplying}
use Rattle.flux_cli.specs.Forms.{Serving, IsFile, HasParts, FitsServe}
use Rattle.flux_cli.specs.steps.Given.{listed}
use Rattle.flux_cli.specs.Commands.{Command, name_of, FollowsName, Spells, SpellsNone, NeedsThreads}
use Rattle.flux_cli.specs.Asking.{asked}

-- the command that the words spell was read, or that they spell none
abbrev pub IsAsked : List (List ℕ) → Option Asked → Type 0
IsAsked words (Some found) = Spells words (asked found)
IsAsked words None = SpellsNone words

-- a command of a name, with the words after it
pub record IsCommand (name : CommandName) (words : List (List ℕ)) (command : Command) : Type 0 where
  pub is : name_of command ≡ name
  pub behind : FollowsName command words

-- the same of the words after a name
abbrev pub IsAskedBehind : CommandName → List (List ℕ) → Option Asked → Type 0
IsAskedBehind name words (Some found) = IsCommand name words (asked found)
IsAskedBehind name words None = (command : Command) → IsCommand name words command → ⊥

-- the one file that words are, or that they are none
abbrev pub IsFileRead : List (List ℕ) → Option (Bor (List ℕ)) → Type 0
IsFileRead words (Some file) = IsFile file.now words
IsFileRead words None = (file : List ℕ) → IsFile file words → ⊥

-- the words after a name ask for threads
pub record AskThreads (name : CommandName) (words : List (List ℕ)) : Type 0 where
  pub command : Command
  pub is : IsCommand name words command
  pub needs : NeedsThreads command

-- all of `serve` but when replies are written was read: with what both options spell of that, it is what the words spell
pub record IsService (words : List (List ℕ)) (service : Service) : Type 0 where
  pub to : (replying : Replying) → IsReplying (listed service.runtime) (listed service.at_once) replying
      → HasParts words (FitsServe service.file.now (record {
        port = service.port;
        batches = service.batches;
        docs = option_copied service.docs;
        replying = replying;
      }))
  pub from : (file : List ℕ) (serving : Serving) → HasParts words (FitsServe file serving)
      → IsReplying (listed service.runtime) (listed service.at_once) serving.replying

-- or the words spell none
abbrev pub IsServeRead : List (List ℕ) → Option Service → Type 0
IsServeRead words (Some service) = IsService words service
IsServeRead words None = (file : List ℕ) (serving : Serving) → HasParts words (FitsServe file serving) → ⊥
