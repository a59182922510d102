-- What a store gives for a name.
use Rattle.std.specs.Prelude.{◌≡◌, ℕ, ◌≤◌, nat_le, if◌then◌else◌, List, [], ◌∷◌, ◌++◌, length}
use Rattle.std.specs.Prelude.{Option, Some, None}
use Rattle.flux_outside.specs.declared.stores.File.{File}
use Rattle.flux_outside.specs.declared.stores.File.TheVariants.{Found, Missing, Longer}

-- the answer for a file's contents: whole where they have at most so many bytes
abbrev pub file_of : Option (List ℕ) → ℕ → File
file_of None max = Missing
file_of (Some body) max = if nat_le (length body) max then Found body else Longer

-- a file that was found has at most so many bytes
abbrev pub FitsIn : ℕ → File → Type 0
FitsIn max (Found body) = length body ≤ max
FitsIn max Missing = Unit {0}
FitsIn max Longer = Unit {0}

-- one name more was asked for, and nothing else
abbrev pub AskedFor : List (List ℕ) → List (List ℕ) → List ℕ → Type 0
AskedFor before after name = after ≡ before ++ name ∷ []
