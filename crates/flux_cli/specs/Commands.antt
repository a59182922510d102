-- Which words spell which command.
use Rattle.std.specs.Prelude.{◌≡◌, ℕ, List, [], ◌∷◌, Option, ⊤}
use Rattle.flux_cli.specs.declared.names.CommandName.{CommandName}
use Rattle.flux_cli.specs.declared.names.CommandName.TheVariants as names
use Rattle.flux_cli.specs.declared.values.Runtime.{Runtime}
use Rattle.flux_cli.specs.Values.{StartsThreads}
use Rattle.flux_cli.specs.Names.{IsNamed}
use Rattle.flux_cli.specs.Forms.{RunOptions, Serving, Simulating, IsFile, HasParts, FitsRun, FitsAudit, FitsLoad, FitsServe, FitsSimulate, FitsSwarm}

-- `check FILE`, `plan FILE`, `format FILE`, `run FILE ITEMS` with options, `audit FILE ITEMS JOURNAL` with documents,
-- `load N K` with a runtime, `serve FILE` with a port and options, `help` or `--help`, `simulate FILE ITEMS` with
-- processors and options, and `swarm FILE ITEMS JOURNAL HASH` with documents
pub data Command : Type 0 where
  check : List ℕ → Command
  plan : List ℕ → Command
  format : List ℕ → Command
  run : List ℕ → List ℕ → RunOptions → Command
  audit : List ℕ → List ℕ → List ℕ → Option (List ℕ) → Command
  load : ℕ → ℕ → Runtime → Command
  serve : List ℕ → Serving → Command
  help : Command
  simulate : List ℕ → List ℕ → Simulating → Command
  swarm : List ℕ → List ℕ → List ℕ → List ℕ → Option (List ℕ) → Command

-- a command's name
abbrev pub name_of : Command → CommandName
name_of (check file) = names.Check
name_of (plan file) = names.Plan
name_of (format file) = names.Format
name_of (run file items options) = names.Run
name_of (audit file items journal docs) = names.Audit
name_of (load count first runtime) = names.Load
name_of (serve file serving) = names.Serve
name_of help = names.Help
name_of (simulate file items simulating) = names.Simulate
name_of (swarm file items journal hash docs) = names.Swarm

-- these words come after its name
abbrev pub FollowsName : Command → List (List ℕ) → Type 0
FollowsName (check file) words = IsFile file words
FollowsName (plan file) words = IsFile file words
FollowsName (format file) words = IsFile file words
FollowsName (run file items options) words = HasParts words (FitsRun file items options)
FollowsName (audit file items journal docs) words =
    HasParts words (FitsAudit file items journal docs)
FollowsName (load count first runtime) words = HasParts words (FitsLoad count first runtime)
FollowsName (serve file serving) words = HasParts words (FitsServe file serving)
FollowsName help words = words ≡ []
FollowsName (simulate file items simulating) words = HasParts words (FitsSimulate file items simulating)
FollowsName (swarm file items journal hash docs) words =
    HasParts words (FitsSwarm file items journal hash docs)

-- the words spell this command: the first is its name
pub record Spells (words : List (List ℕ)) (command : Command) : Type 0 where
  pub first : List ℕ
  pub rest : List (List ℕ)
  pub are : words ≡ first ∷ rest
  pub named : IsNamed (name_of command) first
  pub behind : FollowsName command rest

-- the words spell no command
abbrev pub SpellsNone : List (List ℕ) → Type 0
SpellsNone words = (command : Command) → Spells words command → ⊥

-- `serve`
abbrev pub IsServe : Command → Type 0
IsServe (serve file serving) = ⊤
IsServe other = ⊥

-- a command that needs threads: a runtime that starts some, or `serve`, which may wait for clients
abbrev pub NeedsThreads : Command → Type 0
NeedsThreads (run file items options) = StartsThreads options.runtime
NeedsThreads (load count first runtime) = StartsThreads runtime
NeedsThreads (serve file serving) = ⊤
NeedsThreads other = ⊥
