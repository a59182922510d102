-- Rows of faults, and the least fault: the row that applies with the least number, at its least
-- place.
use Rattle.std.specs.Prelude.{◌≡◌, ⊤, ℕ, min, List, [], ◌∷◌, Option, Some, None}
use Rattle.flux_faults.specs.declared.faults.FaultKind.{FaultKind}
use Rattle.flux_faults.specs.declared.faults.CheckFault.{CheckFault}
use Rattle.flux_faults.specs.declared.faults.CheckFault.TheVariants.{Static, Memory}
use Rattle.flux_syntax.specs.declared.declarations.Word.{Word}

-- a row: a kind of fault, and the words at which it applies
abbrev pub Row : Type 0
Row = FaultKind × List Word

-- the lesser of two places
abbrev pub sooner : Option ℕ → ℕ → ℕ
sooner None at = at
sooner (Some other) at = min other at

-- the least place, with those of words
abbrev pub soonest : Option ℕ → List Word → Option ℕ
soonest place [] = place
soonest place (word ∷ words) = soonest (Some (sooner place word.at)) words

-- a row's fault at its least place; where it doesn't apply, the fault of the rows after it
abbrev pub fault_or : FaultKind → Option ℕ → Option (FaultKind × ℕ) → Option (FaultKind × ℕ)
fault_or kind None other = other
fault_or kind (Some at) other = Some (kind, at)

-- the least row that applies, at its least place
abbrev pub first_fault : List Row → Option (FaultKind × ℕ)
first_fault [] = None
first_fault (row ∷ others) = fault_or row.0 (soonest None row.1) (first_fault others)

-- a fault is the least row that applies, at its least place
abbrev pub IsLeastFault : Option (FaultKind × ℕ) → CheckFault → Type 0
IsLeastFault first (Static fault) =
    (first ≡ Some (fault.kind, fault.at)) × (fault.path ≡ [])
IsLeastFault first Memory = ⊤
