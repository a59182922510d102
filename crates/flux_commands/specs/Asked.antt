-- What the words ask for: the folder of documents, and the files after it.
use Rattle.std.specs.Prelude.{◌≡◌, ℕ, ◌⊎◌, List, [], ◌∷◌, ◌++◌, Option, IsSome, option_to_list, ⊤}
use Rattle.flux_values.specs.Meanings.{LibraryMeaning}
use Rattle.flux_syntax.specs.declared.declarations.Decl.{Decl}
use Rattle.flux_cli.specs.Commands.{Command, check, plan, format, run, audit, load, serve, help, simulate, swarm, Spells, SpellsNone}
use Rattle.flux_commands.specs.declared.statuses.Status.{Status}
use Rattle.flux_commands.specs.declared.statuses.Status.TheVariants as statuses
use Rattle.flux_commands.specs.Told.{Files, Told}
use Rattle.flux_commands.specs.Documents.{WithDocs}
use Rattle.flux_commands.specs.Commands.{folder_of}
use Rattle.flux_commands.specs.Origins.{named}
use Rattle.flux_commands.specs.Inputs.{HasProgram, GivesItems}
use Rattle.flux_commands.specs.Answers.{Libraries}

-- the file of a program alone, or that of items too, after a sound program
abbrev pub AreTwoFiles : LibraryMeaning → Files → List ℕ → List ℕ → List (List ℕ) → Type 0
AreTwoFiles meaning told file items names = (names ≡ file ∷ [])
    ⊎ ((names ≡ file ∷ items ∷ [])
    × (decls : List Decl) × HasProgram meaning told (named file) decls)

-- these, or that of a journal too, after items
abbrev pub AreThreeFiles : LibraryMeaning → Files → List ℕ → List ℕ → List ℕ → List (List ℕ) → Type 0
AreThreeFiles meaning told file items journal names = AreTwoFiles meaning told file items names
    ⊎ ((names ≡ file ∷ items ∷ journal ∷ []) × GivesItems meaning told (named file) (named items))

-- the names of files that a command asks for, in order
abbrev pub AreFiles : LibraryMeaning → Command → Files → List (List ℕ) → Type 0
AreFiles meaning (check file) told names = names ≡ file ∷ []
AreFiles meaning (plan file) told names = names ≡ file ∷ []
AreFiles meaning (format file) told names = names ≡ file ∷ []
AreFiles meaning (run file items options) told names = AreTwoFiles meaning told file items names
AreFiles meaning (audit file items journal docs) told names =
    AreThreeFiles meaning told file items journal names
AreFiles meaning (load count first runtime) told names = names ≡ []
AreFiles meaning (serve file serving) told names = names ≡ file ∷ []
AreFiles meaning help told names = names ≡ []
AreFiles meaning (simulate file items simulating) told names = AreTwoFiles meaning told file items names
AreFiles meaning (swarm file items journal hash docs) told names =
    AreThreeFiles meaning told file items journal names

-- the statuses that come where the documents weren't read; where no folder is named, memory was short
abbrev pub IsStopped : Option (List ℕ) → Status → Type 0
IsStopped dir statuses.Read = IsSome dir
IsStopped dir statuses.Missing = IsSome dir
IsStopped dir statuses.Memory = ⊤
IsStopped dir other = ⊥

-- a command asks first for its folder of documents, where one is named, and for files only after the
-- documents
pub record AsksFor (library : Libraries) (command : Command) (told : Told) (status : Status)
    (dirs names : List (List ℕ)) : Type 0 where
  pub folder : dirs ≡ option_to_list (folder_of command)
  pub files : WithDocs library command told (λ meaning. AreFiles meaning command told.files names)
      ⊎ ((names ≡ []) × IsStopped (folder_of command) status)

-- words that are no command ask for nothing, nor do those that there was no memory to read
abbrev pub AsksNothing : List (List ℕ) → Status → List (List ℕ) → List (List ℕ) → Type 0
AsksNothing words status dirs names = (dirs ≡ []) × (names ≡ [])
    × (SpellsNone words ⊎ (status ≡ statuses.Memory))

-- so words have asked the folder and the store
pub record HasAsked (library : Libraries) (words : List (List ℕ)) (told : Told) (status : Status)
    (folder folder_after store store_after : List (List ℕ)) : Type 0 where
  pub dirs : List (List ℕ)
  pub names : List (List ℕ)
  pub folder_ : folder_after ≡ folder ++ dirs
  pub store_ : store_after ≡ store ++ names
  pub are : AsksNothing words status dirs names
      ⊎ ((command : Command) × Spells words command × AsksFor library command told status dirs names)
