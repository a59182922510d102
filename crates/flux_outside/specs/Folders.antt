-- What a folder gives.
use Rattle.std.specs.Prelude.{◌≡◌, ℕ, ◌≤◌, nat_le, if◌then◌else◌, Bool, true, false, List, [], ◌∷◌}
use Rattle.std.specs.Prelude.{length, Option, Some, None, Result, Ok, Err}
use Rattle.flux_outside.specs.declared.faults.Failed.{Failed}
use Rattle.flux_outside.specs.declared.faults.StoreFault.{StoreFault}
use Rattle.flux_outside.specs.declared.folders.NextDoc.{NextDoc}
use Rattle.flux_outside.specs.declared.folders.NextDoc.TheVariants.{Doc, Longer, NoMore}
use Rattle.flux_outside.specs.declared.memory.FileBytes.{FileBytes}

-- where there is such a folder, its documents are left; else, and where opening failed, those are
-- that were left before
abbrev pub IsOpened :
    Option (List FileBytes) → Option (List FileBytes) → Option (List FileBytes) → Result Bool Failed → Type 0
IsOpened (Some docs) before after (Ok opened) = (opened ≡ true) × (after ≡ Some docs)
IsOpened None before after (Ok opened) = (opened ≡ false) × (after ≡ before)
IsOpened found before after (Err failed) = after ≡ before

-- the answer for documents that are left: the first one, if it has at most so many bytes
abbrev pub next_of : List FileBytes → ℕ → NextDoc
next_of [] max = NoMore
next_of (doc ∷ docs) max = if nat_le (length doc.body) max then Doc doc.name doc.body else Longer

-- what is left after it: a document that wasn't given stays
abbrev pub left_behind : List FileBytes → ℕ → List FileBytes
left_behind [] max = []
left_behind (doc ∷ docs) max = if nat_le (length doc.body) max then docs else doc ∷ docs

-- a call that was refused changes no document
abbrev pub IsNextOf : List FileBytes → ℕ → Result NextDoc StoreFault → Option (List FileBytes) → Type 0
IsNextOf docs max (Ok next) after = (next ≡ next_of docs max) × (after ≡ Some (left_behind docs max))
IsNextOf docs max (Err fault) after = after ≡ Some docs

-- a document that was given has at most so many bytes
abbrev pub DocFits : ℕ → NextDoc → Type 0
DocFits max (Doc name body) = length body ≤ max
DocFits max Longer = Unit {0}
DocFits max NoMore = Unit {0}
