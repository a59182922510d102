-- The first row that applies, of two lists of rows.
use Rattle.std.proofs.Common.{◌≡◌, ℕ, List, [], ◌∷◌, ◌++◌, Option, Some, None, refl, sym, ap, ◌∙◌}
use Rattle.std.specs.Option.{option_or}
use Rattle.flux_faults.specs.declared.faults.FaultKind.{FaultKind}
use Rattle.flux_syntax.specs.Least.{Row, soonest, fault_or, first_fault}

-- a kind of fault, and its place
abbrev pub Found : Type 0
Found = Option (FaultKind × ℕ)

fault_or_or : (kind : FaultKind) (place : Option ℕ) (a b : Found) → fault_or kind place (option_or a b) ≡ option_or (fault_or kind place a) b
fault_or_or kind None a b = refl
fault_or_or kind (Some at) a b = refl

pub first_fault-append : (a b : List Row) → first_fault (a ++ b) ≡ option_or (first_fault a) (first_fault b)
first_fault-append [] b = refl
first_fault-append (row ∷ a) b = ap (fault_or row.0 (soonest None row.1)) (first_fault-append a b) ∙ fault_or_or row.0 (soonest None row.1) (first_fault a) (first_fault b)

-- none of the first, and so the first of the others
pub first_fault-behind : (a b : List Row) → first_fault a ≡ None → first_fault (a ++ b) ≡ first_fault b
first_fault-behind a b none = first_fault-append a b ∙ ap (λ (f : Found). option_or f (first_fault b)) none

pub first_fault-before : (a b : List Row) (x : FaultKind × ℕ) → first_fault a ≡ Some x → first_fault (a ++ b) ≡ Some x
first_fault-before a b x is = first_fault-append a b ∙ ap (λ (f : Found). option_or f (first_fault b)) is
