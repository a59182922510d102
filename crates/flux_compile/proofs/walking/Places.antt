-- What is at the places of a node's code.
use Rattle.std.proofs.Common.{◌≡◌, ℕ, suc, ◌+◌, Bool, true, false, List, [], ◌∷◌, ◌++◌, length, map, Option, Some, None, refl, ap, subst, ◌∙◌, arith}
use Rattle.std.specs.Prelude.{if◌then◌else◌}
use Rattle.std.specs.List.{slice_get, flat_map}
use Rattle.std.proofs.lemmas.List.{length-map}
use Rattle.flux_model.specs.declared.programs.Case.{Case}
use Rattle.flux_model.specs.Children.{IsIn}
use Rattle.flow_model.specs.Matching.{first_case}
use Rattle.flux_model.proofs.NodeLists.{in_front, in_behind}
use Rattle.flux_plan.specs.declared.plans.Arm.{Arm}
use Rattle.flux_plan.specs.declared.plans.Instr.{Instr}
use Rattle.flux_plan.specs.declared.plans.Instr.TheVariants.{Go, Leave}
use Rattle.flux_plan.specs.Machine.{first_arm}
use Rattle.flux_compile.specs.steps.Segments.{arms_from, members_code}

-- from a place on these are in the code
abbrev pub Stand : List Instr → ℕ → List Instr → Type 0
Stand code place [] = Unit {0}
Stand code place (instr ∷ more) = (slice_get code place ≡ Some instr) × Stand code (place + 1) more

-- the first of two lists is there, and the second after it
pub stand-append : (code : List Instr) (place : ℕ) (a b : List Instr) → Stand code place (a ++ b) → Stand code place a × Stand code (place + length a) b
stand-append code place [] b all = (tt, subst (λ (p : ℕ). Stand code p b) (omega arith) all)
stand-append code place (instr ∷ a) b (own, more) =
    let (front, rest) = stand-append code (place + 1) a b more in
    ((own, front), subst (λ (p : ℕ). Stand code p b) (omega arith) rest)

-- so where the first list is one of as many
pub stand-map : {X : Type 0} (code : List Instr) (place : ℕ) (f : X → Instr) (xs : List X) (b : List Instr) → Stand code place (map f xs ++ b)
    → Stand code place (map f xs) × Stand code (place + length xs) b
stand-map code place f xs b all =
    let (front, rest) = stand-append code place (map f xs) b all in
    (front, subst (λ (n : ℕ). Stand code (place + n) b) (length-map xs f) rest)

stand_behind : (first : Instr) (code : List Instr) (place : ℕ) (instrs : List Instr) → Stand code place instrs → Stand (first ∷ code) (place + 1) instrs
stand_behind first code place [] all = tt
stand_behind first code place (instr ∷ instrs) (own, more) =
    let next : place + 1 ≡ suc place = omega arith in
    (ap (slice_get (first ∷ code)) next ∙ own, stand_behind first code (place + 1) instrs more)

-- the code is at its own places
pub stand-whole : (code : List Instr) → Stand code 0 code
stand-whole [] = tt
stand-whole (instr ∷ code) = (refl, stand_behind instr code 0 code (stand-whole code))

-- ---- arms

-- an arm and a case that are found are one: of the same number, and the case's members are at the arm's place; or none
-- is found
abbrev pub AreOne : List Instr → List Case → Option (ℕ × Arm) → Option (ℕ × Case) → Type 0
AreOne code cases None None = Unit {0}
AreOne code cases None (Some found) = ⊥
AreOne code cases (Some found) None = ⊥
AreOne code cases (Some (number, arm)) (Some (place, case)) = (number ≡ place)
    × ((rest : List Instr) × Stand code arm.to (map Go case.members ++ Leave ∷ rest))
    × ((member : ℕ) → IsIn member case.members → IsIn member (flat_map (λ c. c.members) cases))

one_more : (code : List Instr) (case : Case) (cases : List Case) (arm : Option (ℕ × Arm)) (found : Option (ℕ × Case)) → AreOne code cases arm found → AreOne code (case ∷ cases) arm found
one_more code case cases None None one = tt
one_more code case cases None (Some found) one = absurd one
one_more code case cases (Some arm) None one = absurd one
one_more code case cases (Some (number, arm)) (Some (place, found)) (same, stands, among) =
    (same, stands, λ member is. in_behind member case.members (flat_map (λ c. c.members) cases) (among member is))

-- the first arm that matches is the first case that does
pub arms-one : (code : List Instr) (fits : List (Option ℕ) → Bool) (number place : ℕ) (cases : List Case) → Stand code place (members_code cases)
    → AreOne code cases (first_arm fits number (arms_from place cases)) (first_case (λ case. fits case.patterns) number cases)
arms-one code fits number place [] all = tt
arms-one code fits number place (case ∷ cases) all =
    let (front, rest) = stand-map code place Go case.members (Leave ∷ members_code cases) all in
    by (fits case.patterns) (arms-one code fits (number + 1) (place + length case.members + 1) cases rest.1)
  where
    by : (t : Bool) → AreOne code cases (first_arm fits (number + 1) (arms_from (place + length case.members + 1) cases)) (first_case (λ case. fits case.patterns) (number + 1) cases)
        → AreOne code (case ∷ cases)
        (if t then Some (number, record { patterns = case.patterns; to = place }) else first_arm fits (number + 1) (arms_from (place + length case.members + 1) cases))
        (if t then Some (number, case) else first_case (λ case. fits case.patterns) (number + 1) cases)
    by true more = (refl, (members_code cases, all), λ member is. in_front member case.members (flat_map (λ c. c.members) cases) is)
    by false more = one_more code case cases (first_arm fits (number + 1) (arms_from (place + length case.members + 1) cases)) (first_case (λ case. fits case.patterns) (number + 1) cases) more
