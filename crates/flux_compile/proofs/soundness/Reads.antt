-- Code whose shape goes on to its end, and that the code of a node is such.
use Rattle.std.proofs.Common.{◌≡◌, ℕ, zero, suc, ◌+◌, true, nat_eq, List, [], ◌∷◌, ◌++◌, map, reverse, length, slice_get, Contains, Option, Some, None, refl, sym, ap, ◌∙◌, subst, arith, add-zero, zero-add, append_assoc, append-nil, length-append, lt-ltb, eq-eqb}
use Rattle.std.proofs.lemmas.List.{map-append, reverse-append, length-map}
use Rattle.flux_model.specs.declared.programs.NodeNo.{NodeNo}
use Rattle.flux_model.specs.declared.programs.ClassNo.{ClassNo}
use Rattle.flux_model.specs.declared.programs.Hold.{Hold}
use Rattle.flux_model.specs.declared.programs.HandleArm.{HandleArm}
use Rattle.flux_model.specs.declared.programs.Case.{Case}
use Rattle.flux_model.specs.declared.programs.Node.{Node}
use Rattle.flux_model.specs.declared.programs.Body.{Body}
use Rattle.flux_model.specs.declared.programs.Body.TheVariants.{Concrete, Abstract}
use Rattle.flux_model.specs.Locks.{AreRising}
use Rattle.flux_model.proofs.RisingHolds.{contains_first, Rises, rises_from}
use Rattle.flux_plan.specs.declared.plans.Arm.{Arm}
use Rattle.flux_plan.specs.declared.plans.Instr.{Instr}
use Rattle.flux_plan.specs.declared.plans.Instr.TheVariants.{Enter, Go, Leave, Exit, Drop, Return}
use Rattle.flux_plan.specs.Reading.{Reading, taking, entered, between, within, dropping, handling, closing, whole, is_above, read_more, read_on}
use Rattle.flux_plan.specs.Faulty.{CantGoOn, IsMisshapen}
use Rattle.flux_compile.specs.steps.Segments.{taking as take_of, dropping as drop_of, arms_from, members_code, body_code, handling_code, node_code, exit_place, segment_of}

-- ---- code that goes on to its end

-- what has been read goes on with each instruction from a place on, and ends where all has been read
abbrev pub Reads : ℕ → ℕ → Reading → List Instr → Type 0
Reads exit place reading [] = reading ≡ whole
Reads exit place reading (instr ∷ code) = (next : Reading)
    × (read_more exit place reading instr ≡ Some next) × Reads exit (place + 1) next code

-- such code can go on at each place
pub reads_on : (exit : ℕ) (code : List Instr) (place n : ℕ) (first reading : Reading)
    → Reads exit place first code → read_on exit place (Some first) code n ≡ Some reading
    → CantGoOn exit (place + n) reading (slice_get code n) → ⊥
reads_on exit [] place zero first reading is e cant = cant cc
reads_on exit [] place (suc n) first reading is e cant = absurd cc
reads_on exit (i ∷ code) place zero first reading (next, goes, more) e cant =
    let same : first ≡ reading = cc in
    let stops : read_more exit place first i ≡ None = rw (add-zero, ← same) at cant in
    absurd cc
reads_on exit (i ∷ code) place (suc n) first reading (next, goes, more) e cant =
    let after : read_on exit (place + 1) (Some next) code n ≡ Some reading =
    subst (λ (o : Option Reading). read_on exit (place + 1) o code n ≡ Some reading) goes e in
    let p : place + 1 + n ≡ place + suc n = omega arith in
    reads_on exit code (place + 1) n next reading more after (rw p cant)

reads_at : (exit place other : ℕ) (reading : Reading) (code : List Instr) → place ≡ other
    → Reads exit place reading code → Reads exit other reading code
reads_at exit place other reading code same reads = subst (λ (n : ℕ). Reads exit n reading code) same reads

-- ---- takes and drops

-- the classes of takes after others, the latest first
abbrev taken_on : List ClassNo → List Hold → List ClassNo
taken_on classes [] = classes
taken_on classes (hold ∷ holds) = taken_on (hold.class ∷ classes) holds

reads_takes : (exit place after : ℕ) (classes : List ClassNo) (holds : List Hold) (rest : List Instr)
    → Rises holds → ((x : Hold) → Contains holds x → is_above x.class classes ≡ true)
    → place + length holds ≡ after → Reads exit after (taking (taken_on classes holds)) rest
    → Reads exit place (taking classes) (map take_of holds ++ rest)
unfolding Rises
reads_takes exit place after classes [] rest rises above at reads =
    reads_at exit after place (taking classes) rest (omega (arith, at)) reads
reads_takes exit place after classes (h ∷ holds) rest rises above at reads =
    let first : is_above h.class classes ≡ true = above h (contains_first h holds) in
    let all : (x : Hold) → Contains holds x → is_above x.class (h.class ∷ classes) ≡ true =
    λ x is. lt-ltb h.class.0 x.class.0 (rises.0 x is) in
    let on : place + 1 + length holds ≡ after = omega (arith, at) in (
      taking (h.class ∷ classes),
      rw first refl,
      reads_takes exit (place + 1) after (h.class ∷ classes) holds rest rises.1 all on reads,
    )

reads_drops : (exit place after : ℕ) (classes : List ClassNo) (rest : List Instr)
    → place + length classes ≡ after → Reads exit after (dropping []) rest
    → Reads exit place (dropping classes) (map Drop classes ++ rest)
reads_drops exit place after [] rest at reads =
    reads_at exit after place (dropping []) rest (omega (arith, at)) reads
reads_drops exit place after (class ∷ classes) rest at reads =
    let same : nat_eq class.0 class.0 ≡ true = eq-eqb class.0 class.0 refl in (
      dropping classes,
      rw same refl,
      reads_drops exit (place + 1) after classes rest (omega (arith, at)) reads,
    )

-- drops in the reverse order are those of the classes, the latest first
dropped_on : (classes : List ClassNo) (holds : List Hold)
    → map drop_of (reverse holds) ++ map Drop classes ≡ map Drop (taken_on classes holds)
dropped_on classes [] = refl
dropped_on classes (h ∷ holds) =
    let turned : reverse (h ∷ holds) ≡ reverse holds ++ h ∷ [] = reverse-append (h ∷ []) holds in
    let parts : map drop_of (reverse holds ++ h ∷ []) ≡ map drop_of (reverse holds) ++ Drop h.class ∷ [] =
    map-append drop_of (reverse holds) (h ∷ []) in
    let front : map drop_of (reverse (h ∷ holds)) ≡ map drop_of (reverse holds) ++ Drop h.class ∷ [] =
    ap (map drop_of) turned ∙ parts in
    ap (λ (code : List Instr). code ++ map Drop classes) front
    ∙ append_assoc (map drop_of (reverse holds)) (Drop h.class ∷ []) (map Drop classes)
    ∙ dropped_on (h.class ∷ classes) holds

dropped : (holds : List Hold) → map drop_of (reverse holds) ≡ map Drop (taken_on [] holds)
dropped holds = sym (append-nil (map drop_of (reverse holds))) ∙ dropped_on [] holds

length_taken : (classes : List ClassNo) (holds : List Hold)
    → length (taken_on classes holds) ≡ length classes + length holds
length_taken classes [] = omega arith
length_taken classes (h ∷ holds) = let more = length_taken (h.class ∷ classes) holds in omega (arith, more)

-- ---- bodies

-- the members of a case, within an arm
reads_within : (exit place after : ℕ) (arms : List Arm) (classes : List ClassNo) (nodes : List NodeNo)
    (rest : List Instr) → place + length nodes + 1 ≡ after → Reads exit after (between arms classes) rest
    → Reads exit place (within arms classes) (map Go nodes ++ Leave ∷ rest)
reads_within exit place after arms classes [] rest at reads =
    (between arms classes, refl, reads_at exit after (place + 1) (between arms classes) rest (omega (arith, at)) reads)
reads_within exit place after arms classes (node ∷ nodes) rest at reads =
    (within arms classes, refl, reads_within exit (place + 1) after arms classes nodes rest (omega (arith, at)) reads)

-- a case from its own place on
reads_case : (exit place after : ℕ) (arm : Arm) (arms : List Arm) (classes : List ClassNo) (nodes : List NodeNo)
    (rest : List Instr) → arm.to ≡ place → place + length nodes + 1 ≡ after → Reads exit after (between arms classes) rest
    → Reads exit place (between (arm ∷ arms) classes) (map Go nodes ++ Leave ∷ rest)
reads_case exit place after arm arms classes [] rest here at reads =
    let same : nat_eq arm.to place ≡ true = eq-eqb arm.to place here in
    (between arms classes, rw same refl, reads_at exit after (place + 1) (between arms classes) rest (omega (arith, at)) reads)
reads_case exit place after arm arms classes (node ∷ nodes) rest here at reads =
    let same : nat_eq arm.to place ≡ true = eq-eqb arm.to place here in
    (within arms classes, rw same refl, reads_within exit (place + 1) after arms classes nodes rest (omega (arith, at)) reads)

pub length_case : (case : Case) (cases : List Case)
    → length (members_code (case ∷ cases)) ≡ length case.members + 1 + length (members_code cases)
length_case case cases =
    let both = length-append (map Go case.members) (Leave ∷ members_code cases) in
    let own = length-map case.members Go in
    omega (arith, both, own)

reads_cases : (exit place after : ℕ) (classes : List ClassNo) (cases : List Case) (rest : List Instr)
    → place + length (members_code cases) ≡ after → Reads exit after (between [] classes) rest
    → Reads exit place (between (arms_from place cases) classes) (members_code cases ++ rest)
reads_cases exit place after classes [] rest at reads =
    reads_at exit after place (between [] classes) rest (omega (arith, at)) reads
reads_cases exit place after classes (case ∷ cases) rest at reads =
    let next = place + length case.members + 1 in
    let split : members_code (case ∷ cases) ++ rest ≡ map Go case.members ++ Leave ∷ (members_code cases ++ rest) =
    append_assoc (map Go case.members) (Leave ∷ members_code cases) rest in
    let sized = length_case case cases in
    let more = reads_cases exit next after classes cases rest (omega (arith, at, sized)) reads in
    rw split (reads_case exit place next (record { patterns = case.patterns; to = place }) (arms_from next cases) classes
    case.members (members_code cases ++ rest) refl refl more)

reads_body : (exit place after : ℕ) (classes : List ClassNo) (body : Body) (rest : List Instr)
    → place + length (body_code place body) ≡ after → Reads exit after (between [] classes) rest
    → Reads exit place (entered classes) (body_code place body ++ rest)
reads_body exit place after classes (Concrete name) rest at reads =
    (between [] classes, refl, reads_at exit after (place + 1) (between [] classes) rest (omega (arith, at)) reads)
reads_body exit place after classes (Abstract cases) rest at reads =
    (between (arms_from (place + 1) cases) classes, refl, reads_cases exit (place + 1) after classes cases rest (omega (arith, at)) reads)

reads_end : (exit place : ℕ) (arms : List HandleArm)
    → Reads exit place (dropping []) (handling_code arms ++ Return ∷ [])
reads_end exit place [] = (whole, refl, refl)
reads_end exit place (arm ∷ arms) = (handling, refl, (closing, refl, (whole, refl, refl)))

-- ---- nodes

-- the code of a node, part by part from its end
pub node_parts : (holds : List Hold) (node : Node) → node_code holds node
    ≡ map take_of holds ++ (Enter ∷ (body_code (length holds + 1) node.body
    ++ (Exit ∷ (map drop_of (reverse holds) ++ (handling_code node.on_fail ++ Return ∷ [])))))
node_parts holds node =
    let takes = map take_of holds in
    let body = Enter ∷ body_code (length holds + 1) node.body in
    let drops = Exit ∷ map drop_of (reverse holds) in
    let last = Return ∷ [] in
    append_assoc (takes ++ body ++ drops) (handling_code node.on_fail) last
    ∙ append_assoc (takes ++ body) drops (handling_code node.on_fail ++ last)
    ∙ append_assoc takes body (drops ++ (handling_code node.on_fail ++ last))

reads_node : (holds : List Hold) (node : Node) → AreRising holds
    → Reads (exit_place holds node) 0 (taking []) (node_code holds node)
reads_node holds node rising = rw (node_parts holds node) (from_start at_body)
  where
    exit : ℕ
    exit = exit_place holds node

    classes : List ClassNo
    classes = taken_on [] holds

    last : List Instr
    last = handling_code node.on_fail ++ Return ∷ []

    drops : List Instr
    drops = map drop_of (reverse holds) ++ last

    at_drops : Reads exit (exit + 1) (dropping classes) drops
    at_drops =
        let after = exit + 1 + length classes in
        let reads = reads_drops exit (exit + 1) after classes last refl (reads_end exit after node.on_fail) in
        rw (dropped holds) reads

    at_exit : Reads exit exit (between [] classes) (Exit ∷ drops)
    at_exit =
        let same : nat_eq exit exit ≡ true = eq-eqb exit exit refl in
        (dropping classes, rw same refl, at_drops)

    at_body : Reads exit (length holds) (taking classes) (Enter ∷ (body_code (length holds + 1) node.body ++ (Exit ∷ drops)))
    at_body = (entered classes, refl, reads_body exit (length holds + 1) exit classes node.body (Exit ∷ drops) refl at_exit)

    from_start : Reads exit (length holds) (taking classes) (Enter ∷ (body_code (length holds + 1) node.body ++ (Exit ∷ drops)))
        → Reads exit 0 (taking []) (map take_of holds ++ (Enter ∷ (body_code (length holds + 1) node.body ++ (Exit ∷ drops))))
    from_start reads = reads_takes exit 0 (length holds) [] holds (Enter ∷ (body_code (length holds + 1) node.body ++ (Exit ∷ drops)))
        (rises_from holds rising) (λ x is. refl) (zero-add (length holds)) reads

-- no place of a node's segment is misshapen, where its takes are in canonical order
pub never_misshapen : (holds : List Hold) (node : Node) (place : ℕ) → AreRising holds
    → IsMisshapen (segment_of holds node) place → ⊥
never_misshapen holds node place rising is =
    let reads = reads_node holds node rising in
    let stops = is.stops in
    reads_on (exit_place holds node) (node_code holds node) 0 place (taking []) is.reading reads is.before
    (rw zero-add stops)
