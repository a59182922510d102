-- A plan whose segments are those of a checked program's nodes is verified, and fits 32 bits.
use Rattle.std.proofs.Common.{◌≡◌, ℕ, zero, suc, ◌+◌, ◌^◌, ◌<◌, ◌≤◌, Bool, true, false, eqb, List, [], ◌∷◌, length, slice_get, Option, Some, None, option_map, refl, sym, ap, subst, arith}
use Rattle.std.specs.List.{AllByRecursion, list_any}
use Rattle.flux_model.specs.declared.programs.TheConstants.{COUNT_LIMIT}
use Rattle.flux_model.specs.declared.programs.NodeNo.{NodeNo}
use Rattle.flux_model.specs.declared.programs.Hold.{Hold}
use Rattle.flux_model.specs.declared.programs.Node.{Node}
use Rattle.flux_model.specs.declared.programs.Program.{Program}
use Rattle.flux_model.specs.Leading.{members_of, leads_to, numbers_of, leads_in}
use Rattle.flux_model.specs.Children.{IsIn, members}
use Rattle.flux_model.specs.Numbered.{parts_of, IsNumbered}
use Rattle.flux_model.specs.Ordering.{HasCycle}
use Rattle.flux_model.specs.Visits.{IsKnown}
use Rattle.flux_model.specs.Locks.{AreLocks, HasAtLeast}
use Rattle.flux_model.proofs.Hoisting.{least_closed}
use Rattle.flux_model.proofs.LeadingLemmas.{led-below_count}
use Rattle.flux_hoist.specs.Sets.{held_by}
use Rattle.flux_plan.specs.declared.plans.Plan.{Plan}
use Rattle.flux_plan.specs.declared.plans.Segment.{Segment}
use Rattle.flux_plan.specs.Leading.{IsOnCycle}
use Rattle.flux_plan.specs.Faulty.{LeadsTo, GoesOpen, IsFault, misshapen, into_nothing, into_cycle, not_closed, IsFaultIn, IsVerified, IsFew, IsSized}
use Rattle.flux_compile.specs.Sources.{empty}
use Rattle.flux_compile.specs.steps.Segments.{segment_of, segment_for, segments_from, segments_of}
use Rattle.flux_compile.proofs.soundness.Reads.{never_misshapen}
use Rattle.flux_compile.proofs.soundness.Leads.{segment_at, own_segment, length_segments, takes_same, takes_held, go_member, led_node, on_no_cycle, below_reached, others_reached}
use Rattle.flux_compile.proofs.soundness.Sizes.{locks_few, segment_few}

-- ---- no place is faulty

-- a number of a list's has an element
pub found_below : {X : Type 0} (xs : List X) (n : ℕ) → n < length xs → slice_get xs n ≡ None → ⊥
found_below [] n less none = omega (arith, less)
found_below (x ∷ xs) zero less none = cc
found_below (x ∷ xs) (suc n) less none = found_below xs n (omega (arith, less)) none

-- where no flow reaches these nodes, and all else is as it should be
module _ (p : Program) (origins : List ℕ) (sets : List (List Hold)) (numbered : IsNumbered p) (acyclic : HasCycle p.nodes → ⊥)
    (locks : AreLocks p (held_by sets)) (apart : (from next : ℕ) → IsIn next (leads_in p.nodes from) → IsKnown next origins → ⊥) where
  abbrev segments : List Segment
  segments = segments_of origins sets p.nodes

  -- in the segment of another node
  module _ (number : ℕ) (node : Node) (other : IsKnown number origins → ⊥) (is : slice_get p.nodes number ≡ Some node) (place : ℕ) where
    abbrev own : Segment
    own = segment_of (held_by sets number) node

    leads_of : leads_in p.nodes number ≡ leads_to node
    leads_of = ap (numbers_of leads_to) is

    into_some : LeadsTo (λ led. length segments ≤ led) own place → ⊥
    into_some leads =
        let led = led_node (held_by sets number) node place leads.instr leads.led leads.at_ leads.leads in
        let there : IsIn leads.led (leads_in p.nodes number) = rw leads_of led in
        let less = led-below_count (length p.nodes) p.nodes number leads.led numbered.nodes there in
        let past = leads.has in
        let long = length_segments origins sets p.nodes in
        omega (arith, less, past, long)

    into_none : LeadsTo (IsOnCycle segments) own place → ⊥
    into_none leads = on_no_cycle origins sets p acyclic leads.led leads.has

    closed : GoesOpen segments number own place → ⊥
    closed goes =
        let open_ = goes.open_ in
        let takes = takes_same origins sets p.nodes number node other is in
        let member = go_member (held_by sets number) node place goes.inner goes.at_ in
        let members_are : members p number ≡ members_of node.body = ap (numbers_of (λ n. members_of n.body)) is in
        let below = below_reached origins sets p number goes.inner.0 open_.node (rw members_are member) open_.reached in
        let has = takes_held origins sets p.nodes open_.node open_.hold open_.taken in
        let outer = takes_held origins sets p.nodes number open_.own open_.takes in
        let least = least_closed p (held_by sets) locks in
        let enough : HasAtLeast (held_by sets number) open_.hold =
        least.closed number open_.node open_.hold open_.own below has outer open_.most in
        open_.lacks (rw takes enough)

    no_fault : IsFault segments number own place → ⊥
    no_fault (misshapen stops) = never_misshapen (held_by sets number) node place (locks number).rising stops
    no_fault (into_nothing leads) = into_some leads
    no_fault (into_cycle leads) = into_none leads
    no_fault (not_closed goes) = closed goes

  -- in a plan with these segments, and with another target
  with_segments : (target : NodeNo) → target.0 < length p.nodes → (IsKnown target.0 origins → ⊥)
      → IsVerified (record { target = target; segments = segments })
  with_segments target less other = record { none = none }
    where
      own : Plan
      own = record { target = target; segments = segments }

      by : (node place : ℕ) (found : Option Node) → slice_get p.nodes node ≡ found
          → IsFaultIn own node place (option_map (segment_for origins (held_by sets node) node) found) → ⊥
      by node place None is (same, first) =
          found_below p.nodes target.0 less (subst (λ (n : ℕ). slice_get p.nodes n ≡ None) same is)
      by node place (Some at) is (reached, fault) =
          let others = others_reached origins sets p apart target.0 node other reached in
          let same = own_segment origins (held_by sets node) node at others in
          no_fault node at others is place (subst (λ (s : Segment). IsFault segments node s place) same fault)

      none : (node place : ℕ) → IsFaultIn own node place (slice_get segments node) → ⊥
      none node place faulty = by node place (slice_get p.nodes node) refl (rw (segment_at origins sets p.nodes node) at faulty)

-- a plan whose segments are those of a program's nodes has no faulty place, where leading has no cycle, the sets are the
-- locks of the nodes, and no flow reaches nodes that items come from
pub segments_are_verified : (p : Program) (origins : List ℕ) (sets : List (List Hold)) (plan : Plan)
    → plan.segments ≡ segments_of origins sets p.nodes → plan.target.0 < length p.nodes → (IsKnown plan.target.0 origins → ⊥)
    → ((from next : ℕ) → IsIn next (leads_in p.nodes from) → IsKnown next origins → ⊥)
    → IsNumbered p → (HasCycle p.nodes → ⊥) → AreLocks p (held_by sets) → IsVerified plan
segments_are_verified p origins sets plan same less other apart numbered acyclic locks =
    subst (λ (segments : List Segment). IsVerified (record { target = plan.target; segments = segments })) (sym same)
    (with_segments p origins sets numbered acyclic locks apart plan.target less other)

-- ---- and all fits 32 bits

nothing_few : IsFew empty
nothing_few = record { code = omega arith; arms = tt }

one_few : (origins : List ℕ) (holds : List Hold) (number : ℕ) (node : Node) → length holds ≤ COUNT_LIMIT
    → parts_of node.body ≤ COUNT_LIMIT → (t : Bool) → list_any (eqb number) origins ≡ t
    → IsFew (segment_for origins holds number node)
one_few origins holds number node few parts true e = rw e nothing_few
one_few origins holds number node few parts false e = rw e (segment_few holds node few parts)

all_few : (origins : List ℕ) (sets : List (List Hold)) (first : ℕ) (nodes : List Node)
    → ((node : ℕ) → length (held_by sets node) ≤ COUNT_LIMIT)
    → AllByRecursion (λ node. parts_of node.body ≤ COUNT_LIMIT) nodes → AllByRecursion IsFew (segments_from origins sets first nodes)
all_few origins sets first [] few parts = tt
all_few origins sets first (node ∷ nodes) few (own, parts) = (
  one_few origins (held_by sets first) first node (few first) own (list_any (eqb first) origins) refl,
  all_few origins sets (first + 1) nodes few parts,
)

-- a plan of few nodes, which hold few classes and have few cases and members, fits 32 bits
pub few_are_sized : (origins : List ℕ) (sets : List (List Hold)) (nodes : List Node) (plan : Plan)
    → plan.segments ≡ segments_of origins sets nodes
    → length nodes ≤ COUNT_LIMIT → ((node : ℕ) → length (held_by sets node) ≤ COUNT_LIMIT)
    → AllByRecursion (λ node. parts_of node.body ≤ COUNT_LIMIT) nodes → IsSized plan
few_are_sized origins sets nodes plan same le few parts =
    subst (λ (segments : List Segment). IsSized (record { target = plan.target; segments = segments })) (sym same)
    (record { segments = short; each = all_few origins sets 0 nodes few parts })
  where
    short : length (segments_of origins sets nodes) < 2 ^ 32
    short = let long = length_segments origins sets nodes in omega (arith, long, le)

-- so does one of a numbered program
pub segments_are_sized : (p : Program) (origins : List ℕ) (sets : List (List Hold)) (plan : Plan)
    → plan.segments ≡ segments_of origins sets p.nodes → IsNumbered p → AreLocks p (held_by sets) → IsSized plan
segments_are_sized p origins sets plan same numbered locks =
    few_are_sized origins sets p.nodes plan same numbered.few held numbered.parts
  where
    held : (node : ℕ) → length (held_by sets node) ≤ COUNT_LIMIT
    held node =
        let le = locks_few p node (held_by sets node) numbered (locks node) in
        let classes = numbered.few_classes in
        omega (arith, le, classes)
