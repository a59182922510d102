-- What is reported of files and folders, and what is read of them.
use Rattle.std.specs.Prelude.{◌≡◌, ℕ, ◌⊎◌, List, Option, IfSome}
use Rattle.flux_outside.specs.Stores.{file_of, FitsIn}
use Rattle.flux_outside.specs.declared.memory.FileBytes.{FileBytes}
use Rattle.flux_outside.specs.declared.stores.File.{File}
use Rattle.flux_outside.specs.declared.stores.File.TheVariants.{Missing, Longer}

-- the contents of files by their names, where they are reported
abbrev pub Files : Type 0
Files = Option (List ℕ → Option (List ℕ))

-- the documents of folders by their names, in order, where they are reported
abbrev pub Folders : Type 0
Folders = Option (List ℕ → Option (List FileBytes))

-- what is reported of both
pub record Told : Type 0 where
  pub files : Files
  pub folders : Folders

-- what is read under a name: what the files hold, where they are reported, within a limit
pub record Gives (told : Files) (name : List ℕ) (max : ℕ) (file : File) : Type 0 where
  pub fits : FitsIn max file
  pub same : IfSome told (λ files. file ≡ file_of (files name) max)

-- there is no such file, or it is past the limit
abbrev pub IsLost : Files → List ℕ → ℕ → Type 0
IsLost told name max = Gives told name max Missing ⊎ Gives told name max Longer
