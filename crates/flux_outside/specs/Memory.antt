-- What files in memory hold.
use Rattle.std.specs.Prelude.{ℕ, if◌then◌else◌, List, [], ◌∷◌, Option, Some, None}
use Rattle.std.specs.Str.{bytes_eq}
use Rattle.flux_outside.specs.declared.memory.FileBytes.{FileBytes}

-- the body of the first file of a name
abbrev pub first_of : List FileBytes → List ℕ → Option (List ℕ)
first_of [] name = None
first_of (file ∷ files) name =
    if bytes_eq file.name name then Some file.body else first_of files name
