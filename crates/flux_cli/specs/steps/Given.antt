-- Steps of the reader: what is given by the parts so far.
use Rattle.std.specs.Prelude.{◌≡◌, ◌⊎◌, ℕ, ◌<◌, List, [], ◌∷◌, ◌++◌, length, Option, option_to_list, option_copied}
use Rattle.std.specs.Borrow.{Bor}
use Rattle.flux_cli.specs.declared.names.OptionName.{OptionName}
use Rattle.flux_cli.specs.declared.names.OptionName.TheVariants.{Runtime, Docs, Journal, Port, Batches, AtOnce, Processors, Costs}
use Rattle.flux_cli.specs.declared.given.Files.{Files}
use Rattle.flux_cli.specs.declared.given.Files.TheVariants as files
use Rattle.flux_cli.specs.declared.given.Given.{Given}
use Rattle.flux_cli.specs.Parts.{Part, word, option, BeginWith, words_in, values_of}

-- the files that are named, in order
abbrev pub files_of : Files → List (List ℕ)
files_of files.None = []
files_of (files.One first) = first.now ∷ []
files_of (files.Two first second) = first.now ∷ second.now ∷ []
files_of (files.Three first second third) = first.now ∷ second.now ∷ third.now ∷ []
files_of (files.Four first second third fourth) =
    first.now ∷ second.now ∷ third.now ∷ fourth.now ∷ []

-- a value, or none
abbrev pub listed : Option (Bor (List ℕ)) → List (List ℕ)
listed value = option_to_list (option_copied value)

-- these are the positional words and the options' values of parts
pub record Holds (words runtime docs journal port batches at_once processors costs : List (List ℕ)) (parts : List Part)
    : Type 0 where
  pub words_ : words ≡ words_in parts
  pub runtime_ : runtime ≡ values_of Runtime parts
  pub docs_ : docs ≡ values_of Docs parts
  pub journal_ : journal ≡ values_of Journal parts
  pub port_ : port ≡ values_of Port parts
  pub batches_ : batches ≡ values_of Batches parts
  pub at_once_ : at_once ≡ values_of AtOnce parts
  pub processors_ : processors ≡ values_of Processors parts
  pub costs_ : costs ≡ values_of Costs parts

-- all that is given is that of these parts
abbrev pub HoldsAll : Given → List Part → Type 0
HoldsAll given parts =
    Holds (files_of given.files) (listed given.runtime) (listed given.docs) (listed given.journal)
    (listed given.port) (listed given.batches) (listed given.at_once) (listed given.processors) (listed given.costs)
    parts

-- one part more
pub record Adds (before after : Given) (part : Part) : Type 0 where
  pub words_ : files_of after.files ≡ files_of before.files ++ words_in (part ∷ [])
  pub runtime_ : listed after.runtime ≡ listed before.runtime ++ values_of Runtime (part ∷ [])
  pub docs_ : listed after.docs ≡ listed before.docs ++ values_of Docs (part ∷ [])
  pub journal_ : listed after.journal ≡ listed before.journal ++ values_of Journal (part ∷ [])
  pub port_ : listed after.port ≡ listed before.port ++ values_of Port (part ∷ [])
  pub batches_ : listed after.batches ≡ listed before.batches ++ values_of Batches (part ∷ [])
  pub at_once_ : listed after.at_once ≡ listed before.at_once ++ values_of AtOnce (part ∷ [])
  pub processors_ : listed after.processors ≡ listed before.processors ++ values_of Processors (part ∷ [])
  pub costs_ : listed after.costs ≡ listed before.costs ++ values_of Costs (part ∷ [])

-- there is no room for a part: four words, or a value of its option, are given
abbrev pub IsFull : Given → Part → Type 0
IsFull given (word name) = length (files_of given.files) ≡ 4
IsFull given (option Runtime value) = length (listed given.runtime) ≡ 1
IsFull given (option Docs value) = length (listed given.docs) ≡ 1
IsFull given (option Journal value) = length (listed given.journal) ≡ 1
IsFull given (option Port value) = length (listed given.port) ≡ 1
IsFull given (option Batches value) = length (listed given.batches) ≡ 1
IsFull given (option AtOnce value) = length (listed given.at_once) ≡ 1
IsFull given (option Processors value) = length (listed given.processors) ≡ 1
IsFull given (option Costs value) = length (listed given.costs) ≡ 1

-- all that is given by words
pub record IsGiven (words : List (List ℕ)) (given : Given) : Type 0 where
  pub parts : List Part
  pub laid : BeginWith parts words []
  pub holds : HoldsAll given parts

-- more than four positional words, or an option twice
abbrev pub IsTooMuch : List Part → Type 0
IsTooMuch parts =
    (4 < length (words_in parts)) ⊎ ((name : OptionName) × (1 < length (values_of name parts)))

-- the parts so far, and what they give
pub record AreSoFar (words rest files runtime docs journal port batches at_once processors costs : List (List ℕ))
    : Type 0 where
  pub parts : List Part
  pub front : BeginWith parts words rest
  pub holds : Holds files runtime docs journal port batches at_once processors costs parts
