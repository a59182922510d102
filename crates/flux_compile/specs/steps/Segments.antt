-- The segment of each node, as the code writes it, given what the nodes hold.
use Rattle.std.specs.Prelude.{ℕ, ◌+◌, nat_eq, if◌then◌else◌, List, [], ◌∷◌, ◌++◌, length, map, reverse}
use Rattle.std.specs.List.{list_any, fold}
use Rattle.flux_model.specs.declared.programs.Hold.{Hold}
use Rattle.flux_model.specs.declared.programs.HandleArm.{HandleArm}
use Rattle.flux_model.specs.declared.programs.Case.{Case}
use Rattle.flux_model.specs.declared.programs.Node.{Node}
use Rattle.flux_model.specs.declared.programs.Body.{Body}
use Rattle.flux_model.specs.declared.programs.Body.TheVariants.{Concrete, Abstract}
use Rattle.flux_model.specs.declared.programs.SourceLine.{SourceLine}
use Rattle.flux_model.specs.Visits.{with_number}
use Rattle.flux_hoist.specs.Sets.{held_by}
use Rattle.flux_plan.specs.declared.plans.Segment.{Segment}
use Rattle.flux_plan.specs.declared.plans.Arm.{Arm}
use Rattle.flux_plan.specs.declared.plans.Instr.{Instr}
use Rattle.flux_plan.specs.declared.plans.Instr.TheVariants.{Take, Enter, Choose, Go, Leave, Call, Exit, Drop, Handle, EndHandle, Return}
use Rattle.flux_compile.specs.Sources.{empty}

abbrev pub taking : Hold → Instr
taking hold = Take hold.class hold.mode

abbrev pub dropping : Hold → Instr
dropping hold = Drop hold.class

-- the arms of cases whose first one begins at this place
abbrev pub arms_from : ℕ → List Case → List Arm
arms_from place [] = []
arms_from place (case ∷ cases) =
    record { patterns = case.patterns; to = place } ∷ arms_from (place + length case.members + 1) cases

-- the members of cases, each case with its `Leave`
abbrev pub members_code : List Case → List Instr
members_code [] = []
members_code (case ∷ cases) = map Go case.members ++ Leave ∷ members_code cases

-- a body that begins at this place
abbrev pub body_code : ℕ → Body → List Instr
body_code place (Concrete name) = Call ∷ []
body_code place (Abstract cases) = Choose (arms_from (place + 1) cases) ∷ members_code cases

abbrev pub handling_code : List HandleArm → List Instr
handling_code [] = []
handling_code (arm ∷ arms) = Handle (arm ∷ arms) ∷ EndHandle ∷ []

-- the code of a node that holds this
abbrev pub node_code : List Hold → Node → List Instr
node_code holds node = map taking holds ++ Enter ∷ body_code (length holds + 1) node.body
    ++ Exit ∷ map dropping (reverse holds) ++ handling_code node.on_fail ++ Return ∷ []

-- the place of `Exit`
abbrev pub exit_place : List Hold → Node → ℕ
exit_place holds node = length holds + 1 + length (body_code (length holds + 1) node.body)

-- the segment of a node that holds this
abbrev pub segment_of : List Hold → Node → Segment
segment_of holds node = record { code = node_code holds node; exit = exit_place holds node }

-- the segment of the node of a number: an empty one where items come from it
abbrev pub segment_for : List ℕ → List Hold → ℕ → Node → Segment
segment_for origins holds number node =
    if list_any (nat_eq number) origins then empty else segment_of holds node

-- the segments of nodes from a number on, given what nodes hold
abbrev pub segments_from : List ℕ → List (List Hold) → ℕ → List Node → List Segment
segments_from origins sets number [] = []
segments_from origins sets number (node ∷ nodes) =
    segment_for origins (held_by sets number) number node ∷ segments_from origins sets (number + 1) nodes

-- the segments of all nodes
abbrev pub segments_of : List ℕ → List (List Hold) → List Node → List Segment
segments_of origins sets nodes = segments_from origins sets 0 nodes

-- the nodes that items come from
abbrev pub origins_of : List SourceLine → List ℕ
origins_of lines = fold (λ known line. with_number known line.node.0) [] lines
