-- The code of bodies, arm by arm, and the segments, node by node.
use Rattle.std.proofs.Common.{◌≡◌, ℕ, zero, suc, ◌+◌, ◌<◌, ◌≤◌, List, [], ◌∷◌, ◌++◌, length, map, drop, get_or, sym, ap, ◌∙◌, append_assoc, length-append, add-one, arith, drop-cons}
use Rattle.std.specs.List.{AllByRecursion}
use Rattle.std.proofs.lemmas.List.{length-map}
use Rattle.flux_model.specs.declared.programs.Hold.{Hold}
use Rattle.flux_model.specs.declared.programs.Case.{Case}
use Rattle.flux_model.specs.declared.programs.Node.{Node}
use Rattle.flux_hoist.specs.Sets.{held_by}
use Rattle.flux_plan.specs.declared.plans.Segment.{Segment}
use Rattle.flux_plan.specs.declared.plans.Instr.{Instr}
use Rattle.flux_plan.specs.declared.plans.Instr.TheVariants.{Enter, Go, Leave}
use Rattle.flux_compile.specs.steps.Segments.{taking, arms_from, members_code, segment_for, segments_from, segments_of}

-- the arm of the next case, and those after it
pub arms_next : (place : ℕ) (cases : List Case) (i : ℕ) (case : Case) → i < length cases → case ≡ get_or cases i case
    → arms_from place (drop i cases)
    ≡ record { patterns = case.patterns; to = place } ∷ arms_from (place + length case.members + 1) (drop (suc i) cases)
arms_next place cases i case lt is =
    ap (arms_from place) (drop-cons cases i case lt)
    ∙ ap (λ (c : Case). record { patterns = c.patterns; to = place } ∷ arms_from (place + length c.members + 1) (drop (suc i) cases)) (sym is)

-- the code of the next case's members, and of those after it
pub members_next : (cases : List Case) (i : ℕ) (case : Case) → i < length cases → case ≡ get_or cases i case
    → members_code (drop i cases) ≡ members_code (case ∷ []) ++ members_code (drop (suc i) cases)
members_next cases i case lt is =
    ap members_code (drop-cons cases i case lt)
    ∙ ap (λ (c : Case). members_code (c ∷ drop (suc i) cases)) (sym is)
    ∙ sym (append_assoc (map Go case.members) (Leave ∷ []) (members_code (drop (suc i) cases)))

-- the takes and `Enter`
pub length-opening : (holds : List Hold) (code : List Instr) → code ≡ map taking holds ++ Enter ∷ [] → length code ≡ length holds + 1
length-opening holds code is = rw is (grind (arith, length-append, length-map))

-- the segment of the next node, and those after it
segments_next : (origins : List ℕ) (sets : List (List Hold)) (first : ℕ) (nodes : List Node) (node : Node) (rest : List Node)
    → nodes ≡ node ∷ rest → segments_from origins sets first nodes
    ≡ segment_for origins (held_by sets first) first node ∷ segments_from origins sets (first + 1) rest
segments_next origins sets first nodes node rest is = ap (segments_from origins sets first) is

pub segments_more : (origins : List ℕ) (sets : List (List Hold)) (nodes : List Node) (i : ℕ) (node : Node) (made : List Segment)
    → i < length nodes → node ≡ get_or nodes i node
    → made ++ segments_from origins sets i (drop i nodes) ≡ segments_of origins sets nodes
    → (made ++ segment_for origins (held_by sets i) i node ∷ []) ++ segments_from origins sets (i + 1) (drop (i + 1) nodes)
    ≡ segments_of origins sets nodes
segments_more origins sets nodes i node made lt is so_far =
    let one = segment_for origins (held_by sets i) i node in
    let behind : drop i nodes ≡ node ∷ drop (suc i) nodes =
    drop-cons nodes i node lt ∙ ap (λ (n : Node). n ∷ drop (suc i) nodes) (sym is) in
    let later : drop (i + 1) nodes ≡ drop (suc i) nodes = ap (λ (n : ℕ). drop n nodes) (add-one i) in
    append_assoc made (one ∷ []) (segments_from origins sets (i + 1) (drop (i + 1) nodes))
    ∙ ap (λ (rest : List Node). made ++ one ∷ segments_from origins sets (i + 1) rest) later
    ∙ ap (λ (rest : List Segment). made ++ rest) (sym (segments_next origins sets i (drop i nodes) node (drop (suc i) nodes) behind))
    ∙ so_far

-- where all sets are small, so is what each node holds
pub held_few : (count : ℕ) (sets : List (List Hold)) → AllByRecursion (λ holds. length holds ≤ count) sets → (node : ℕ) → length (held_by sets node) ≤ count
held_few count [] all node = omega arith
held_few count (own ∷ sets) (first, all) zero = first
held_few count (own ∷ sets) (first, all) (suc node) = held_few count sets all node
