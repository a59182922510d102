-- What follows the command's word: positional words, and options with their values.
use Rattle.std.specs.Prelude.{◌≡◌, ◌≢◌, ◌⊎◌, ℕ, List, [], ◌∷◌, ◌++◌, codes, ⊤}
use Rattle.flux_cli.specs.declared.names.OptionName.{OptionName}
use Rattle.flux_cli.specs.declared.names.OptionName.TheVariants.{Runtime, Docs, Journal, Port, Batches, AtOnce, Processors, Costs}

-- a positional word is not empty and doesn't begin with `-`
abbrev pub IsPositional : List ℕ → Type 0
IsPositional [] = ⊥
IsPositional (b ∷ word) = b ≢ 45

-- a value is not empty
abbrev pub IsFilled : List ℕ → Type 0
IsFilled [] = ⊥
IsFilled (b ∷ value) = ⊤

-- a value in its own word doesn't begin with `--`
abbrev pub IsNoOption : List ℕ → Type 0
IsNoOption value = (rest : List ℕ) → value ≡ codes "--" ++ rest → ⊥

-- how an option is spelled
abbrev pub spelled : OptionName → List ℕ
spelled Runtime = codes "--runtime"
spelled Docs = codes "--docs"
spelled Journal = codes "--journal"
spelled Port = codes "--port"
spelled Batches = codes "--batches"
spelled AtOnce = codes "--at-once"
spelled Processors = codes "--processors"
spelled Costs = codes "--costs"

-- a part: a positional word, or an option with its value
pub data Part : Type 0 where
  word : List ℕ → Part
  option : OptionName → List ℕ → Part

-- the words begin with a part, and these are left: an option is written as `--name=value` or as
-- `--name value`
abbrev pub Begins : Part → List (List ℕ) → List (List ℕ) → Type 0
Begins (word name) words rest = (words ≡ name ∷ rest) × IsPositional name
Begins (option name value) words rest = IsFilled value
    × ((words ≡ (spelled name ++ 61 ∷ value) ∷ rest)
    ⊎ ((words ≡ spelled name ∷ value ∷ rest) × IsNoOption value))

-- the words begin with these parts, in order, and these are left
abbrev pub BeginWith : List Part → List (List ℕ) → List (List ℕ) → Type 0
BeginWith [] words rest = words ≡ rest
BeginWith (part ∷ parts) words rest =
    (next : List (List ℕ)) × Begins part words next × BeginWith parts next rest

-- the positional words, in order
abbrev pub words_in : List Part → List (List ℕ)
words_in [] = []
words_in (word name ∷ parts) = name ∷ words_in parts
words_in (option name value ∷ parts) = words_in parts

-- a value, where it is given for this option
abbrev pub if_for : OptionName → OptionName → List ℕ → List (List ℕ)
if_for Runtime Runtime value = value ∷ []
if_for Docs Docs value = value ∷ []
if_for Journal Journal value = value ∷ []
if_for Port Port value = value ∷ []
if_for Batches Batches value = value ∷ []
if_for AtOnce AtOnce value = value ∷ []
if_for Processors Processors value = value ∷ []
if_for Costs Costs value = value ∷ []
if_for wanted name value = []

-- the values that are given for an option, in order
abbrev pub values_of : OptionName → List Part → List (List ℕ)
values_of wanted [] = []
values_of wanted (word name ∷ parts) = values_of wanted parts
values_of wanted (option name value ∷ parts) = if_for wanted name value ++ values_of wanted parts
