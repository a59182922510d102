-- A case that is chosen, and a handler that is found, are the node's.
use Rattle.std.proofs.Common.{◌+◌, ℕ, Bool, true, false, if◌then◌else◌, cond, inl, inr, List, [], ◌∷◌, Option, Some, None, refl}
use Rattle.std.specs.List.{flat_map, find}
use Rattle.std.specs.Option.{option_or, option_map}
use Rattle.flux_model.specs.declared.programs.NodeNo.{NodeNo}
use Rattle.flux_model.specs.declared.programs.Case.{Case}
use Rattle.flux_model.specs.declared.programs.HandleArm.{HandleArm}
use Rattle.flux_model.specs.Children.{IsIn}
use Rattle.flux_model.specs.Leading.{handlers_of}
use Rattle.flow_model.specs.Matching.{first_case, handler_for, names_code, has_no_codes}
use Rattle.flux_model.proofs.NodeLists.{in_front, in_behind}

-- the members of a chosen case are among those of all cases
abbrev pub IsCaseOf : List Case → Option (ℕ × Case) → Type 0
IsCaseOf cases None = Unit {0}
IsCaseOf cases (Some chosen) = (m : ℕ) → IsIn m chosen.1.members → IsIn m (flat_map (λ case. case.members) cases)

more_cases : (case : Case) (cases : List Case) (chosen : Option (ℕ × Case)) → IsCaseOf cases chosen → IsCaseOf (case ∷ cases) chosen
more_cases case cases None is = tt
more_cases case cases (Some chosen) is = λ m among. in_behind m case.members (flat_map (λ c. c.members) cases) (is m among)

-- the first case that fits
pub case-chosen : (fits : Case → Bool) (place : ℕ) (cases : List Case) → IsCaseOf cases (first_case fits place cases)
case-chosen fits place [] = tt
case-chosen fits place (case ∷ cases) = by (fits case) (case-chosen fits (place + 1) cases)
  where
    by : (b : Bool) → IsCaseOf cases (first_case fits (place + 1) cases) → IsCaseOf (case ∷ cases) (if b then Some (place, case) else first_case fits (place + 1) cases)
    by true more = λ m among. in_front m case.members (flat_map (λ c. c.members) cases) among
    by false more = more_cases case cases (first_case fits (place + 1) cases) more

-- a handler that is found is among the node's
abbrev pub IsHandlerOf : List HandleArm → Option NodeNo → Type 0
IsHandlerOf arms None = Unit {0}
IsHandlerOf arms (Some handler) = IsIn handler.0 (handlers_of arms)

abbrev IsArmOf : List HandleArm → Option HandleArm → Type 0
IsArmOf arms None = Unit {0}
IsArmOf arms (Some arm) = IsIn arm.node.0 (handlers_of arms)

more_arms : (arm : HandleArm) (arms : List HandleArm) (found : Option HandleArm) → IsArmOf arms found → IsArmOf (arm ∷ arms) found
more_arms arm arms None is = tt
more_arms arm arms (Some found) is = inr is

arm-found : (fits : HandleArm → Bool) (arms : List HandleArm) → IsArmOf arms (find fits arms)
arm-found fits [] = tt
arm-found fits (arm ∷ arms) = by (fits arm) (arm-found fits arms)
  where
    by : (b : Bool) → IsArmOf arms (find fits arms) → IsArmOf (arm ∷ arms) (cond b (Some arm) (find fits arms))
    by true more = inl refl
    by false more = more_arms arm arms (find fits arms) more

either_arm : (arms : List HandleArm) (one other : Option HandleArm) → IsArmOf arms one → IsArmOf arms other → IsHandlerOf arms (option_map (λ arm. arm.node) (option_or one other))
either_arm arms None None one_is other_is = tt
either_arm arms None (Some arm) one_is other_is = other_is
either_arm arms (Some arm) other one_is other_is = one_is

-- the handler for a code
pub handler-chosen : (arms : List HandleArm) (code : ℕ) → IsHandlerOf arms (handler_for arms code)
handler-chosen arms code = either_arm arms (find (names_code code) arms) (find (λ arm. has_no_codes arm.codes) arms) (arm-found (names_code code) arms) (arm-found (λ arm. has_no_codes arm.codes) arms)
