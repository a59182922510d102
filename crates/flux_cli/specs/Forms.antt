-- The words after the name of each command.
use Rattle.std.specs.Prelude.{◌≡◌, ℕ, List, [], ◌∷◌, Option, Some, option_to_list}
use Rattle.nodes_tracker.specs.Asks.{hash_of}
use Rattle.flux_cli.specs.declared.names.OptionName.TheVariants as names
use Rattle.flux_cli.specs.declared.values.Runtime.{Runtime}
use Rattle.flux_cli.specs.declared.values.JournalFormat.{JournalFormat}
use Rattle.flux_cli.specs.declared.replies.Replying.{Replying}
use Rattle.flux_cli.specs.declared.loads.TheConstants.{LOAD_LIMIT, FIRST_LIMIT}
use Rattle.flux_cli.specs.Parts.{Part, IsPositional, BeginWith, words_in, values_of}
use Rattle.flux_cli.specs.Values.{SpellsNumber, IsRuntime, IsFormat, IsPort, IsBatches}
use Rattle.flux_cli.specs.Costs.{IsProcessors, AreCosts}
use Rattle.flux_cli.specs.Replies.{IsReplying}

-- the options of a run: the runtime, the folder of documents, the journal's format
pub record RunOptions : Type 0 where
  pub runtime : Runtime
  pub docs : Option (List ℕ)
  pub journal : JournalFormat

-- how a program is served: at which port, for how many batches, with which folder of documents, and when its
-- replies are written
pub record Serving : Type 0 where
  pub port : ℕ
  pub batches : ℕ
  pub docs : Option (List ℕ)
  pub replying : Replying

-- how a run is simulated: on how many processors, with which costs of the first nodes' calls and which folder of documents
pub record Simulating : Type 0 where
  pub processors : ℕ
  pub costs : List ℕ
  pub docs : Option (List ℕ)

-- one file
abbrev pub IsFile : List ℕ → List (List ℕ) → Type 0
IsFile file words = (words ≡ file ∷ []) × IsPositional file

-- positional words and options, which fit a command
pub record HasParts (words : List (List ℕ)) (Fits : List Part → Type 0) : Type 0 where
  pub parts : List Part
  pub laid : BeginWith parts words []
  pub fits : Fits parts

-- none of the options that `serve` alone has
pub record HasNoServing (parts : List Part) : Type 0 where
  pub no_port : values_of names.Port parts ≡ []
  pub no_batches : values_of names.Batches parts ≡ []
  pub no_at_once : values_of names.AtOnce parts ≡ []

-- none of the options that `simulate` alone has
pub record HasNoSimulating (parts : List Part) : Type 0 where
  pub no_processors : values_of names.Processors parts ≡ []
  pub no_costs : values_of names.Costs parts ≡ []

-- `run`: FILE, ITEMS, and anywhere `--runtime R`, `--docs DIR` and `--journal J`, each at most once
pub record FitsRun (file items : List ℕ) (options : RunOptions) (parts : List Part) : Type 0 where
  pub files : words_in parts ≡ file ∷ items ∷ []
  pub runtime_ : IsRuntime (values_of names.Runtime parts) options.runtime
  pub docs_ : values_of names.Docs parts ≡ option_to_list options.docs
  pub journal_ : IsFormat (values_of names.Journal parts) options.journal
  pub no_serving : HasNoServing parts
  pub no_simulating : HasNoSimulating parts

-- `audit`: FILE, ITEMS, JOURNAL, and anywhere `--docs DIR`, at most once
pub record FitsAudit (file items journal : List ℕ) (docs : Option (List ℕ)) (parts : List Part)
    : Type 0 where
  pub files : words_in parts ≡ file ∷ items ∷ journal ∷ []
  pub docs_ : values_of names.Docs parts ≡ option_to_list docs
  pub no_runtime : values_of names.Runtime parts ≡ []
  pub no_journal : values_of names.Journal parts ≡ []
  pub no_serving : HasNoServing parts
  pub no_simulating : HasNoSimulating parts

-- `swarm`: FILE, ITEMS, JOURNAL, HASH in hexadecimal, and anywhere `--docs DIR`, at most once
pub record FitsSwarm (file items journal hash : List ℕ) (docs : Option (List ℕ)) (parts : List Part)
    : Type 0 where
  pub digits : List ℕ
  pub files : words_in parts ≡ file ∷ items ∷ journal ∷ digits ∷ []
  pub hash_ : hash_of digits ≡ Some hash
  pub docs_ : values_of names.Docs parts ≡ option_to_list docs
  pub no_runtime : values_of names.Runtime parts ≡ []
  pub no_journal : values_of names.Journal parts ≡ []
  pub no_serving : HasNoServing parts
  pub no_simulating : HasNoSimulating parts

-- `load`: N, which is 1 to 4,096, K, which is at most 4,294,967,295, and anywhere `--runtime R`, at most once
pub record FitsLoad (count first : ℕ) (runtime : Runtime) (parts : List Part) : Type 0 where
  pub count_digits : List ℕ
  pub first_digits : List ℕ
  pub numbers : words_in parts ≡ count_digits ∷ first_digits ∷ []
  pub count_ : SpellsNumber 1 LOAD_LIMIT count_digits count
  pub first_ : SpellsNumber 0 FIRST_LIMIT first_digits first
  pub runtime_ : IsRuntime (values_of names.Runtime parts) runtime
  pub no_docs : values_of names.Docs parts ≡ []
  pub no_journal : values_of names.Journal parts ≡ []
  pub no_serving : HasNoServing parts
  pub no_simulating : HasNoSimulating parts

-- `serve`: FILE, `--port P`, and anywhere `--batches B`, `--docs DIR`, and `--runtime R` or `--at-once W`, each at
-- most once
pub record FitsServe (file : List ℕ) (serving : Serving) (parts : List Part) : Type 0 where
  pub files : words_in parts ≡ file ∷ []
  pub port_ : IsPort (values_of names.Port parts) serving.port
  pub batches_ : IsBatches (values_of names.Batches parts) serving.batches
  pub docs_ : values_of names.Docs parts ≡ option_to_list serving.docs
  pub replying_ : IsReplying (values_of names.Runtime parts) (values_of names.AtOnce parts) serving.replying
  pub no_journal : values_of names.Journal parts ≡ []
  pub no_simulating : HasNoSimulating parts

-- `simulate`: FILE, ITEMS, `--processors N`, and anywhere `--costs LIST` and `--docs DIR`, each at most once
pub record FitsSimulate (file items : List ℕ) (simulating : Simulating) (parts : List Part) : Type 0 where
  pub files : words_in parts ≡ file ∷ items ∷ []
  pub processors_ : IsProcessors (values_of names.Processors parts) simulating.processors
  pub costs_ : AreCosts (values_of names.Costs parts) simulating.costs
  pub docs_ : values_of names.Docs parts ≡ option_to_list simulating.docs
  pub no_runtime : values_of names.Runtime parts ≡ []
  pub no_journal : values_of names.Journal parts ≡ []
  pub no_serving : HasNoServing parts
