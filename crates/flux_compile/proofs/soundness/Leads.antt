-- What the segments of a program lead to and take: what its nodes lead to and hold.
use Rattle.std.proofs.Common.{◌≡◌, ℕ, zero, suc, ◌+◌, inl, Bool, true, false, eqb, List, [], ◌∷◌, ◌++◌, map, reverse, length, slice_get, Option, Some, None, flat_map, option_map, Contains, refl, sym, ap, ◌∙◌, subst, arith, append-nil}
use Rattle.std.specs.List.{list_any}
use Rattle.std.proofs.lemmas.Grind.{flat_map-append}
use Rattle.flux_model.specs.declared.programs.NodeNo.{NodeNo}
use Rattle.flux_model.specs.declared.programs.Hold.{Hold}
use Rattle.flux_model.specs.declared.programs.HandleArm.{HandleArm}
use Rattle.flux_model.specs.declared.programs.Case.{Case}
use Rattle.flux_model.specs.declared.programs.Node.{Node}
use Rattle.flux_model.specs.declared.programs.Program.{Program}
use Rattle.flux_model.specs.declared.programs.Body.{Body}
use Rattle.flux_model.specs.declared.programs.Body.TheVariants.{Concrete, Abstract}
use Rattle.flux_model.specs.Leading.{members_of, handlers_of, leads_to, numbers_of, leads_in}
use Rattle.flux_model.specs.Children.{IsIn, members, IsBelow}
use Rattle.flux_model.specs.Ordering.{HasCycle, LeadsOn}
use Rattle.flux_model.specs.Visits.{IsKnown}
use Rattle.flux_model.proofs.NodeLists.{in_front, in_behind}
use Rattle.flux_model.proofs.BelowLemmas.{below-member, below-led}
use Rattle.flux_model.proofs.RisingHolds.{contains_none}
use Rattle.flux_hoist.specs.Sets.{held_by}
use Rattle.flux_plan.specs.declared.plans.Segment.{Segment}
use Rattle.flux_plan.specs.declared.plans.Instr.{Instr}
use Rattle.flux_plan.specs.declared.plans.Instr.TheVariants.{Enter, Go, Leave, Exit, Return}
use Rattle.flux_plan.specs.Moves.{code_of}
use Rattle.flux_plan.specs.Leading.{led_by, leads_from, IsWay, Reaches, IsOnCycle, taken_by, takes_of}
use Rattle.flux_compile.specs.steps.Segments.{taking, dropping, members_code, body_code, handling_code, node_code, segment_of, segment_for, segments_from, segments_of}
use Rattle.flux_compile.proofs.soundness.Reads.{node_parts}

-- ---- a function over all instructions of a node

-- where it gives nothing for each of some instructions
nothing_of : {X Y : Type 0} (f : Instr → List Y) (g : X → Instr) → ((x : X) → f (g x) ≡ []) → (xs : List X)
    → flat_map f (map g xs) ≡ []
nothing_of f g none [] = refl
nothing_of f g none (x ∷ xs) = rw none (nothing_of f g none xs)

-- where it gives one for each of them
each_of : {X Y : Type 0} (f : Instr → List Y) (g : X → Instr) (h : X → Y) → ((x : X) → f (g x) ≡ h x ∷ [])
    → (xs : List X) → flat_map f (map g xs) ≡ map h xs
each_of f g h one [] = refl
each_of f g h one (x ∷ xs) = rw one (ap (λ (rest : List _). h x ∷ rest) (each_of f g h one xs))

-- where it gives nothing for `Enter`, `Exit`, drops and `Return`
over_node : {Y : Type 0} (f : Instr → List Y) (holds : List Hold) (node : Node) → f Enter ≡ [] → f Exit ≡ []
    → f Return ≡ [] → ((hold : Hold) → f (dropping hold) ≡ []) → flat_map f (node_code holds node)
    ≡ flat_map f (map taking holds) ++ (flat_map f (body_code (length holds + 1) node.body)
    ++ flat_map f (handling_code node.on_fail))
over_node {Y} f holds node enter exit return drop =
    ap (flat_map f) (node_parts holds node)
    ∙ flat_map-append f (map taking holds) (Enter ∷ (body ++ behind))
    ∙ ap (λ (rest : List Y). flat_map f (map taking holds) ++ rest) within
  where
    body : List Instr
    body = body_code (length holds + 1) node.body

    handling : List Instr
    handling = handling_code node.on_fail

    drops : List Instr
    drops = map dropping (reverse holds)

    behind : List Instr
    behind = Exit ∷ (drops ++ (handling ++ Return ∷ []))

    no_return : flat_map f (Return ∷ []) ≡ []
    no_return = rw return refl

    at_end : flat_map f (handling ++ Return ∷ []) ≡ flat_map f handling
    at_end = flat_map-append f handling (Return ∷ []) ∙ ap (λ (rest : List Y). flat_map f handling ++ rest) no_return
        ∙ append-nil (flat_map f handling)

    no_drops : flat_map f drops ≡ []
    no_drops = nothing_of f dropping drop (reverse holds)

    from_drops : flat_map f (drops ++ (handling ++ Return ∷ [])) ≡ flat_map f handling
    from_drops = flat_map-append f drops (handling ++ Return ∷ [])
        ∙ ap (λ (front : List Y). front ++ flat_map f (handling ++ Return ∷ [])) no_drops ∙ at_end

    from_exit : flat_map f behind ≡ flat_map f handling
    from_exit = ap (λ (front : List Y). front ++ flat_map f (drops ++ (handling ++ Return ∷ []))) exit ∙ from_drops

    within : flat_map f (Enter ∷ (body ++ behind)) ≡ flat_map f body ++ flat_map f handling
    within = ap (λ (front : List Y). front ++ flat_map f (body ++ behind)) enter
        ∙ flat_map-append f body behind ∙ ap (λ (rest : List Y). flat_map f body ++ rest) from_exit

-- over members, where it gives nothing for `Leave`
over_members : {Y : Type 0} (f : Instr → List Y) → f Leave ≡ [] → (cases : List Case)
    → flat_map f (members_code cases) ≡ flat_map (λ case. flat_map f (map Go case.members)) cases
over_members f leave [] = refl
over_members {Y} f leave (case ∷ cases) =
    let front = flat_map f (map Go case.members) in
    flat_map-append f (map Go case.members) (Leave ∷ members_code cases)
    ∙ ap (λ (own : List Y). front ++ (own ++ flat_map f (members_code cases))) leave
    ∙ ap (λ (rest : List Y). front ++ rest) (over_members f leave cases)

-- ---- a node

flat_map_same : {X Y : Type 0} (f g : X → List Y) → ((x : X) → f x ≡ g x) → (xs : List X)
    → flat_map f xs ≡ flat_map g xs
flat_map_same f g same [] = refl
flat_map_same f g same (x ∷ xs) = rw same (ap (λ (rest : List _). g x ++ rest) (flat_map_same f g same xs))

map_same : (nodes : List NodeNo) → map (λ node. node) nodes ≡ nodes
map_same [] = refl
map_same (node ∷ nodes) = ap (λ (rest : List NodeNo). node ∷ rest) (map_same nodes)

-- the nodes that an instruction goes to
abbrev pub gone_by : Instr → List NodeNo
gone_by (Go node) = node ∷ []
gone_by other = []

-- the members of cases, by a function that gives the node of `Go`
over_cases : (f : Instr → List NodeNo) → f Leave ≡ [] → ((node : NodeNo) → f (Go node) ≡ node ∷ [])
    → (cases : List Case) → flat_map f (members_code cases) ≡ flat_map (λ case. case.members) cases
over_cases f leave go cases = over_members f leave cases
    ∙ flat_map_same (λ (case : Case). flat_map f (map Go case.members)) (λ (case : Case). case.members)
    (λ case. each_of f Go (λ node. node) go case.members ∙ map_same case.members) cases

led_by_body : (place : ℕ) (body : Body) → flat_map led_by (body_code place body) ≡ members_of body
led_by_body place (Concrete name) = refl
led_by_body place (Abstract cases) = over_cases led_by refl (λ node. refl) cases

gone_by_body : (place : ℕ) (body : Body) → flat_map gone_by (body_code place body) ≡ members_of body
gone_by_body place (Concrete name) = refl
gone_by_body place (Abstract cases) = over_cases gone_by refl (λ node. refl) cases

taken_by_body : (place : ℕ) (body : Body) → flat_map taken_by (body_code place body) ≡ []
taken_by_body place (Concrete name) = refl
taken_by_body place (Abstract cases) = over_members taken_by refl cases ∙ none cases
  where
    none : (cases : List Case) → flat_map (λ case. flat_map taken_by (map Go case.members)) cases ≡ []
    none [] = refl
    none (case ∷ cases) = rw (nothing_of taken_by Go (λ node. refl) case.members) (none cases)

led_by_handling : (arms : List HandleArm) → flat_map led_by (handling_code arms) ≡ handlers_of arms
led_by_handling [] = refl
led_by_handling (arm ∷ arms) = append-nil (handlers_of (arm ∷ arms))

gone_by_handling : (arms : List HandleArm) → flat_map gone_by (handling_code arms) ≡ []
gone_by_handling [] = refl
gone_by_handling (arm ∷ arms) = refl

taken_by_handling : (arms : List HandleArm) → flat_map taken_by (handling_code arms) ≡ []
taken_by_handling [] = refl
taken_by_handling (arm ∷ arms) = refl

-- the code of a node leads to what the node leads to
node_leads : (holds : List Hold) (node : Node) → flat_map led_by (node_code holds node) ≡ leads_to node
node_leads holds node =
    let parts = over_node led_by holds node refl refl refl (λ hold. refl) in
    let takes = nothing_of led_by taking (λ hold. refl) holds in
    let body = led_by_body (length holds + 1) node.body in
    let handling = led_by_handling node.on_fail in
    parts ∙ rw (takes, body, handling) refl

-- it goes to its members
node_goes : (holds : List Hold) (node : Node) → flat_map gone_by (node_code holds node) ≡ members_of node.body
node_goes holds node =
    let parts = over_node gone_by holds node refl refl refl (λ hold. refl) in
    let takes = nothing_of gone_by taking (λ hold. refl) holds in
    let body = gone_by_body (length holds + 1) node.body in
    let handling = gone_by_handling node.on_fail in
    parts ∙ rw (takes, body, handling) (append-nil (members_of node.body))

-- it takes what the node holds
node_takes : (holds : List Hold) (node : Node) → flat_map taken_by (node_code holds node) ≡ holds
node_takes holds node =
    let parts = over_node taken_by holds node refl refl refl (λ hold. refl) in
    let takes = each_of taken_by taking (λ hold. hold) (λ hold. refl) holds in
    let body = taken_by_body (length holds + 1) node.body in
    let handling = taken_by_handling node.on_fail in
    parts ∙ rw (takes, body, handling) (append-nil (map (λ hold. hold) holds) ∙ held_same holds)
  where
    held_same : (holds : List Hold) → map (λ hold. hold) holds ≡ holds
    held_same [] = refl
    held_same (hold ∷ holds) = ap (λ (rest : List Hold). hold ∷ rest) (held_same holds)

-- ---- the segments of a program

-- from a number on, the segment of a number is that of its node
segment_from-at : (origins : List ℕ) (sets : List (List Hold)) (first : ℕ) (nodes : List Node) (number : ℕ)
    → slice_get (segments_from origins sets first nodes) number
    ≡ option_map (segment_for origins (held_by sets (first + number)) (first + number)) (slice_get nodes number)
segment_from-at origins sets first [] number = refl
segment_from-at origins sets first (node ∷ nodes) zero =
    let same : first ≡ first + 0 = omega arith in
    ap (λ (n : ℕ). let s : Option Segment = Some (segment_for origins (held_by sets n) n node) in s) same
segment_from-at origins sets first (node ∷ nodes) (suc number) =
    let same : first + 1 + number ≡ first + suc number = omega arith in
    segment_from-at origins sets (first + 1) nodes number
    ∙ ap (λ (n : ℕ). option_map (segment_for origins (held_by sets n) n) (slice_get nodes number)) same

-- the segment of a number is that of its node
pub segment_at : (origins : List ℕ) (sets : List (List Hold)) (nodes : List Node) (number : ℕ)
    → slice_get (segments_of origins sets nodes) number
    ≡ option_map (segment_for origins (held_by sets number) number) (slice_get nodes number)
segment_at origins sets nodes number =
    let same : 0 + number ≡ number = omega arith in
    segment_from-at origins sets 0 nodes number
    ∙ ap (λ (n : ℕ). option_map (segment_for origins (held_by sets n) n) (slice_get nodes number)) same

-- where items don't come from the node, it is the node's own
pub own_segment : (origins : List ℕ) (holds : List Hold) (number : ℕ) (node : Node) → (IsKnown number origins → ⊥)
    → segment_for origins holds number node ≡ segment_of holds node
own_segment origins holds number node other = by (list_any (eqb number) origins) refl
  where
    by : (t : Bool) → list_any (eqb number) origins ≡ t
        → segment_for origins holds number node ≡ segment_of holds node
    by true e = absurd (other e)
    by false e = rw e refl

length_from : (origins : List ℕ) (sets : List (List Hold)) (first : ℕ) (nodes : List Node)
    → length (segments_from origins sets first nodes) ≡ length nodes
length_from origins sets first [] = refl
length_from origins sets first (node ∷ nodes) =
    let more = length_from origins sets (first + 1) nodes in omega (arith, more)

pub length_segments : (origins : List ℕ) (sets : List (List Hold)) (nodes : List Node)
    → length (segments_of origins sets nodes) ≡ length nodes
length_segments origins sets nodes = length_from origins sets 0 nodes

-- segments lead to nothing but what their nodes lead to
pub leads_there : (origins : List ℕ) (sets : List (List Hold)) (nodes : List Node) (from next : ℕ)
    → IsIn next (leads_from (segments_of origins sets nodes) from) → IsIn next (leads_in nodes from)
leads_there origins sets nodes from next is = by (slice_get nodes from) (rw (segment_at origins sets nodes from) at is)
  where
    one : (node : Node) (t : Bool) → list_any (eqb from) origins ≡ t
        → IsIn next (flat_map led_by (code_of (Some (segment_for origins (held_by sets from) from node))))
        → IsIn next (leads_to node)
    one node true e is = absurd (rw e at is)
    one node false e is = rw (e, node_leads (held_by sets from) node) at is

    by : (found : Option Node)
        → IsIn next (flat_map led_by (code_of (option_map (segment_for origins (held_by sets from) from) found)))
        → IsIn next (numbers_of leads_to found)
    by None is = absurd is
    by (Some node) is = one node (list_any (eqb from) origins) refl is

-- they take nothing but what these hold
takes_are : (origins : List ℕ) (sets : List (List Hold)) (nodes : List Node) (number : ℕ)
    → takes_of (segments_of origins sets nodes) number
    ≡ flat_map taken_by (code_of (option_map (segment_for origins (held_by sets number) number) (slice_get nodes number)))
takes_are origins sets nodes number =
    ap (λ (found : Option Segment). flat_map taken_by (code_of found)) (segment_at origins sets nodes number)

pub takes_same : (origins : List ℕ) (sets : List (List Hold)) (nodes : List Node) (number : ℕ) (node : Node)
    → (IsKnown number origins → ⊥) → slice_get nodes number ≡ Some node
    → takes_of (segments_of origins sets nodes) number ≡ held_by sets number
takes_same origins sets nodes number node other is =
    takes_are origins sets nodes number
    ∙ rw (is, own_segment origins (held_by sets number) number node other) (node_takes (held_by sets number) node)

pub takes_held : (origins : List ℕ) (sets : List (List Hold)) (nodes : List Node) (number : ℕ) (hold : Hold)
    → Contains (takes_of (segments_of origins sets nodes) number) hold → Contains (held_by sets number) hold
takes_held origins sets nodes number hold is =
    by (slice_get nodes number) (rw (takes_are origins sets nodes number) at is)
  where
    one : (node : Node) (t : Bool) → list_any (eqb number) origins ≡ t
        → Contains (flat_map taken_by (code_of (Some (segment_for origins (held_by sets number) number node)))) hold
        → Contains (held_by sets number) hold
    one node true e is = absurd (contains_none hold (rw e at is))
    one node false e is = rw (e, node_takes (held_by sets number) node) at is

    by : (found : Option Node)
        → Contains (flat_map taken_by (code_of (option_map (segment_for origins (held_by sets number) number) found))) hold
        → Contains (held_by sets number) hold
    by None is = absurd (contains_none hold is)
    by (Some node) is = one node (list_any (eqb number) origins) refl is

-- what a function gives for an instruction, it gives for the code that has it
pub in_code : (f : Instr → List NodeNo) (code : List Instr) (place : ℕ) (instr : Instr) (x : ℕ)
    → slice_get code place ≡ Some instr → IsIn x (f instr) → IsIn x (flat_map f code)
in_code f [] place instr x at is = absurd cc
in_code f (i ∷ code) zero instr x at is =
    let same : i ≡ instr = cc in in_front x (f i) (flat_map f code) (rw same is)
in_code f (i ∷ code) (suc place) instr x at is = in_behind x (f i) (flat_map f code) (in_code f code place instr x at is)

-- what is in the segment of a node as `Go` is a member of the node
pub go_member : (holds : List Hold) (node : Node) (place : ℕ) (inner : NodeNo)
    → slice_get (node_code holds node) place ≡ Some (Go inner) → IsIn inner.0 (members_of node.body)
go_member holds node place inner at =
    rw (node_goes holds node) at (in_code gone_by (node_code holds node) place (Go inner) inner.0 at (inl refl))

-- what a node's segment leads to, the node leads to
pub led_node : (holds : List Hold) (node : Node) (place : ℕ) (instr : Instr) (led : ℕ)
    → slice_get (node_code holds node) place ≡ Some instr → IsIn led (led_by instr) → IsIn led (leads_to node)
led_node holds node place instr led at is =
    rw (node_leads holds node) at (in_code led_by (node_code holds node) place instr led at is)

-- ---- ways over segments are ways over nodes

module _ (origins : List ℕ) (sets : List (List Hold)) (p : Program) where
  abbrev own : List Segment
  own = segments_of origins sets p.nodes

  led_there : (from next : ℕ) → IsIn next (leads_from own from) → IsIn next (leads_in p.nodes from)
  led_there from next is = leads_there origins sets p.nodes from next is

  leads_over : (from next to : ℕ) (others : List ℕ) → IsIn next (leads_in p.nodes from)
      → IsWay own next others to → LeadsOn p.nodes from to
  leads_over from next to [] is same =
      let there : IsIn to (leads_in p.nodes from) = subst (λ (n : ℕ). IsIn n (leads_in p.nodes from)) same is in
      record { between = []; led = (there, tt) }
  leads_over from next to (other ∷ others) is (led, way) =
      let more = leads_over next other to others (led_there next other led) way in
      let first : NodeNo = record { 0 = next } in
      record { between = first ∷ more.between; led = (is, more.led) }

  -- where leading has no cycle, no segment is on one
  pub on_no_cycle : (HasCycle p.nodes → ⊥) → (node : ℕ) → IsOnCycle own node → ⊥
  on_no_cycle acyclic node on =
      acyclic (node, leads_over node on.next node on.back.between (led_there node on.next on.led) on.back.way)

  below_over : (top from to : ℕ) (others : List ℕ) → IsBelow p top from
      → IsWay own from others to → IsBelow p top to
  below_over top from to [] below same = subst (λ (n : ℕ). IsBelow p top n) same below
  below_over top from to (next ∷ others) below (led, way) =
      below_over top next to others (below-led p top from next below (led_there from next led)) way

  -- what a node's member reaches over segments is below the node
  pub below_reached : (top inner to : ℕ) → IsIn inner (members p top)
      → Reaches own inner to → IsBelow p top to
  below_reached top inner to member reached =
      below_over top inner to reached.between (below-member p top inner member) reached.way

  -- where no node leads to these, neither does a node that isn't one of them reach one
  pub others_reached : ((from next : ℕ) → IsIn next (leads_in p.nodes from) → IsKnown next origins → ⊥)
      → (from to : ℕ) → (IsKnown from origins → ⊥) → Reaches own from to → IsKnown to origins → ⊥
  others_reached apart from to other reached = over from to reached.between other reached.way
    where
      over : (from to : ℕ) (between : List ℕ) → (IsKnown from origins → ⊥) → IsWay own from between to
          → IsKnown to origins → ⊥
      over from to [] other same is = other (subst (λ (n : ℕ). IsKnown n origins) (sym same) is)
      over from to (next ∷ between) other (led, way) is =
          over next to between (apart from next (led_there from next led)) way is
