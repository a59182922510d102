-- How long the segments of numbered programs are.
use Rattle.std.proofs.Common.{◌≡◌, ℕ, zero, suc, ◌+◌, ◌^◌, ◌<◌, ◌≤◌, inl, inr, List, [], ◌∷◌, ◌++◌, map, reverse, length, slice_get, Option, Some, None, Contains, flat_map, refl, sym, subst, arith, length-append}
use Rattle.std.specs.List.{AllByRecursion}
use Rattle.std.proofs.lemmas.List.{length-map, length-reverse}
use Rattle.flux_model.specs.declared.programs.TheConstants.{COUNT_LIMIT}
use Rattle.flux_model.specs.declared.programs.ClassNo.{ClassNo}
use Rattle.flux_model.specs.declared.programs.Hold.{Hold}
use Rattle.flux_model.specs.declared.programs.HandleArm.{HandleArm}
use Rattle.flux_model.specs.declared.programs.Case.{Case}
use Rattle.flux_model.specs.declared.programs.Node.{Node}
use Rattle.flux_model.specs.declared.programs.Program.{Program}
use Rattle.flux_model.specs.declared.programs.Body.{Body}
use Rattle.flux_model.specs.declared.programs.Body.TheVariants.{Concrete, Abstract}
use Rattle.flux_model.specs.Leading.{members_of}
use Rattle.flux_model.specs.Numbered.{AreOnClasses, parts_of, IsNumbered}
use Rattle.flux_model.specs.Locks.{declared_on, declared, HasClass, IsLocked, AreLocksOf}
use Rattle.flux_model.proofs.RisingHolds.{contains_first, contains_later, contains_cases, contains_none, Rises, rises_from}
use Rattle.flux_plan.specs.declared.plans.Instr.{Instr}
use Rattle.flux_plan.specs.declared.plans.Instr.TheVariants.{Enter, Go, Leave, Exit, Return}
use Rattle.flux_plan.specs.Faulty.{AreFewArms, IsFew}
use Rattle.flux_compile.specs.steps.Segments.{taking, dropping, arms_from, members_code, body_code, handling_code, node_code, exit_place, segment_of}
use Rattle.flux_compile.proofs.soundness.Reads.{length_case}

-- ---- how much a node holds

all_at : {X : Type 0} (P : X → Type 0) (xs : List X) (n : ℕ) (x : X) → AllByRecursion P xs
    → slice_get xs n ≡ Some x → P x
all_at P [] n x all is = absurd cc
all_at P (y ∷ xs) zero x (own, all) is = let same : y ≡ x = cc in subst P same own
all_at P (y ∷ xs) (suc n) x (own, all) is = all_at P xs n x all is

on_class : (count : ℕ) (holds : List Hold) (hold : Hold) → AreOnClasses count holds → Contains holds hold
    → hold.class.0 < count
on_class count [] hold all is = absurd (contains_none hold is)
on_class count (h ∷ holds) hold (own, all) is = elim (contains_cases h holds hold is) [
  | inl same ↦ subst (λ (x : Hold). x.class.0 < count) (sym same) own
  | inr later ↦ on_class count holds hold all later
]

module _ (p : Program) (numbered : IsNumbered p) where
  declared_class : (node : ℕ) (class : ClassNo) → HasClass (declared p node) class → class.0 < length p.classes
  declared_class node class (mode, is) = by (slice_get p.nodes node) refl is
    where
      by : (found : Option Node) → slice_get p.nodes node ≡ found
          → Contains (declared_on found) (record { class = class; mode = mode }) → class.0 < length p.classes
      by None at has = absurd (contains_none (record { class = class; mode = mode }) has)
      by (Some own) at has =
          let all = all_at (λ (n : Node). AreOnClasses (length p.classes) n.declared) p.nodes node own numbered.classes at in
          on_class (length p.classes) own.declared (record { class = class; mode = mode }) all has

  locked_class : (node : ℕ) (class : ClassNo) → IsLocked p node class → class.0 < length p.classes
  locked_class node class (inl own) = declared_class node class own
  locked_class node class (inr (below, past)) = declared_class below.node class below.declares

rising_few : (low count : ℕ) (holds : List Hold) → Rises holds → low ≤ count
    → ((hold : Hold) → Contains holds hold → low ≤ hold.class.0)
    → ((hold : Hold) → Contains holds hold → hold.class.0 < count) → low + length holds ≤ count
unfolding Rises
rising_few low count [] rises le above below = omega (arith, le)
rising_few low count (h ∷ holds) rises le above below =
    let own = above h (contains_first h holds) in
    let less = below h (contains_first h holds) in
    let more = rising_few (h.class.0 + 1) count holds rises.1 (omega (arith, less))
    (λ x is. let up = rises.0 x is in omega (arith, up)) (λ x is. below x (contains_later h holds x is)) in
    omega (arith, own, more)

-- a node holds no more than there are classes
pub locks_few : (p : Program) (node : ℕ) (holds : List Hold) → IsNumbered p → AreLocksOf p node holds
    → length holds ≤ length p.classes
locks_few p node holds numbered locks =
    let few = rising_few 0 (length p.classes) holds (rises_from holds locks.rising) (omega arith) (λ x is. omega arith)
    (λ x is. locked_class p numbered node x.class (locks.only x is)) in
    omega (arith, few)

-- ---- how long code is

-- the code of cases is as long as there are cases and members
pub length_members : (cases : List Case) → length (members_code cases) ≡ length cases + length (members_of (Abstract cases))
length_members [] = omega arith
length_members (case ∷ cases) =
    let own = length_case case cases in
    let both = length-append case.members (flat_map (λ (c : Case). c.members) cases) in
    let more = length_members cases in
    omega (arith, own, both, more)

-- a body has an instruction for each case and member, and one more
pub length_body : (place : ℕ) (body : Body) → length (body_code place body) ≡ 1 + parts_of body
length_body place (Concrete name) = refl
length_body place (Abstract cases) = let more = length_members cases in omega (arith, more)

length_handling : (arms : List HandleArm) → length (handling_code arms) ≤ 2
length_handling [] = omega arith
length_handling (arm ∷ arms) = omega arith

-- the code of a node has a take and a drop for each hold, its body, and at most five more
pub length_node : (holds : List Hold) (node : Node)
    → length (node_code holds node) ≤ length holds + length holds + parts_of node.body + 6
length_node holds node =
    let takes = map taking holds in
    let body = Enter ∷ body_code (length holds + 1) node.body in
    let drops = Exit ∷ map dropping (reverse holds) in
    let handling = handling_code node.on_fail in
    let first = length-append takes body in
    let second = length-append (takes ++ body) drops in
    let third = length-append (takes ++ body ++ drops) handling in
    let fourth = length-append (takes ++ body ++ drops ++ handling) (Return ∷ []) in
    let in_takes = length-map holds taking in
    let in_drops = length-map (reverse holds) dropping in
    let turned = length-reverse holds in
    let in_body = length_body (length holds + 1) node.body in
    let in_handling = length_handling node.on_fail in
    omega (arith, first, second, third, fourth, in_takes, in_drops, turned, in_body, in_handling)

pub length_arms : (place : ℕ) (cases : List Case) → length (arms_from place cases) ≡ length cases
length_arms place [] = refl
length_arms place (case ∷ cases) =
    let more = length_arms (place + length case.members + 1) cases in omega (arith, more)

-- ---- how many arms a choice has

abbrev AreFew : List Instr → Type 0
AreFew code = AllByRecursion AreFewArms code

few_both : (front code : List Instr) → AreFew front → AreFew code → AreFew (front ++ code)
few_both [] code few more = more
few_both (instr ∷ front) code (own, few) more = (own, few_both front code few more)

few_map : {X : Type 0} (f : X → Instr) (xs : List X) → ((x : X) → AreFewArms (f x)) → AreFew (map f xs)
few_map f [] each = tt
few_map f (x ∷ xs) each = (each x, few_map f xs each)

few_members : (cases : List Case) → AreFew (members_code cases)
few_members [] = tt
few_members (case ∷ cases) =
    few_both (map Go case.members) (Leave ∷ members_code cases) (few_map Go case.members (λ node. tt)) (tt, few_members cases)

few_body : (place : ℕ) (body : Body) → parts_of body ≤ COUNT_LIMIT → AreFew (body_code place body)
few_body place (Concrete name) le = (tt, tt)
few_body place (Abstract cases) le =
    let same = length_arms (place + 1) cases in
    (omega (arith, same, le), few_members cases)

few_handling : (arms : List HandleArm) → AreFew (handling_code arms)
few_handling [] = tt
few_handling (arm ∷ arms) = (tt, (tt, tt))

few_node : (holds : List Hold) (node : Node) → parts_of node.body ≤ COUNT_LIMIT → AreFew (node_code holds node)
few_node holds node le =
    let takes = map taking holds in
    let body = Enter ∷ body_code (length holds + 1) node.body in
    let drops = Exit ∷ map dropping (reverse holds) in
    let handling = handling_code node.on_fail in
    let in_takes = few_map taking holds (λ hold. tt) in
    let in_body : AreFew body = (tt, few_body (length holds + 1) node.body le) in
    let in_drops : AreFew drops = (tt, few_map dropping (reverse holds) (λ hold. tt)) in
    let first = few_both takes body in_takes in_body in
    let second = few_both (takes ++ body) drops first in_drops in
    let third = few_both (takes ++ body ++ drops) handling second (few_handling node.on_fail) in
    few_both (takes ++ body ++ drops ++ handling) (Return ∷ []) third (tt, tt)

-- the segment of a node fits 32 bits, where it holds no more than the limit and has no more parts
pub segment_few : (holds : List Hold) (node : Node) → length holds ≤ COUNT_LIMIT → parts_of node.body ≤ COUNT_LIMIT
    → IsFew (segment_of holds node)
segment_few holds node few le =
    let long = length_node holds node in
    record { code = omega (arith, long, few, le); arms = few_node holds node le }

-- so does the place of `Exit`
pub exit_few : (holds : List Hold) (node : Node) → length holds ≤ COUNT_LIMIT → parts_of node.body ≤ COUNT_LIMIT
    → exit_place holds node < 2 ^ 32
exit_few holds node few le =
    let long = length_body (length holds + 1) node.body in
    omega (arith, long, few, le)
