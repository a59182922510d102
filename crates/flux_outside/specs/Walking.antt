-- The walk through a real folder.
use Rattle.std.specs.Prelude.{◌≡◌, ℕ, Bool, true, false, List, [], ◌∷◌, ◌++◌}
use Rattle.flux_outside.specs.declared.folders.NextDoc.TheVariants as docs
use Rattle.flux_outside.specs.declared.real_folders.Step.{Step}
use Rattle.flux_outside.specs.declared.real_folders.Step.TheVariants as steps
use Rattle.flux_outside.specs.declared.real_folders.Turn.{Turn}
use Rattle.flux_outside.specs.declared.real_folders.Turn.TheVariants.{On, Read, Answer}

-- a file is read next; a subfolder too many is a document past the limit, and after the last entry
-- there is none
abbrev pub turn_of : Step → Turn
turn_of steps.On = On
turn_of (steps.File name) = Read name
turn_of steps.TooMany = Answer docs.Longer
turn_of steps.Over = Answer docs.NoMore

-- what is listed next has this name: the folder itself, which has none, and the subfolders that are
-- still to be read stay; or the last of these, which is then one of them no more
abbrev pub IsNext : Bool → List (List ℕ) → List (List ℕ) → List ℕ → Type 0
IsNext true before after name = (after ≡ before) × (name ≡ [])
IsNext false before after name = before ≡ after ++ name ∷ []
