-- What compiling needs of what a checked program keeps.
use Rattle.std.proofs.Common.{◌≡◌, ℕ, ◌<◌, ◌≤◌, List, length, ap, arith}
use Rattle.std.specs.List.{AllByRecursion, AllByRecursion-prop}
use Rattle.std.proofs.Math.Bridge.{le_prop}
use Rattle.std.proofs.Math.Logic.{∥∥₁_elim}
use Rattle.std.proofs.Props.{props}
use Rattle.flux_model.specs.declared.programs.TheConstants.{COUNT_LIMIT}
use Rattle.flux_model.specs.declared.programs.NodeNo.{NodeNo}
use Rattle.flux_model.specs.declared.programs.Hold.{Hold}
use Rattle.flux_model.specs.declared.programs.SourceLine.{SourceLine}
use Rattle.flux_model.specs.declared.programs.Program.{Program}
use Rattle.flux_model.specs.declared.signatures.NodeSig.{NodeSig}
use Rattle.flux_model.specs.Numbered.{parts_of}
use Rattle.flux_model.specs.Locks.{AreLocks, Holds}
use Rattle.flux_model.specs.Ordering.{IsOrder}
use Rattle.flux_model.specs.Leading.{leads_in}
use Rattle.flux_model.specs.Children.{IsIn}
use Rattle.flux_model.specs.Visits.{IsKnown}
use Rattle.flux_model.proofs.Hoisting.{locks_once}
use Rattle.flux_hoist.specs.Sets.{held_by}
use Rattle.flux_hoist.specs.Keeping.{Keeps}
use Rattle.flux_plan.specs.declared.plans.Plan.{Plan}
use Rattle.flux_plan.specs.declared.plans.Segment.{Segment}
use Rattle.flux_plan.specs.declared.plans.Instr.{Instr}
use Rattle.flux_plan.specs.declared.plans.Instr.TheVariants.{Take, Enter, Choose, Go, Leave, Call, Exit, Drop, Handle, EndHandle, Return}
use Rattle.flux_plan.specs.Faulty.{AreFewArms, IsFew, IsSized, IsVerified}
use Rattle.flux_compile.specs.steps.Segments.{segments_of}
use Rattle.flux_compile.proofs.Orders.{is_order-prop}
use Rattle.flux_compile.proofs.Sound.{segments_are_verified, segments_are_sized}
use Rattle.flux_compile.proofs.soundness.Sizes.{locks_few}

-- ---- propositions

holds-set : IsSet (List Hold)
holds-set = hlevel props

few_arms-prop : (instr : Instr) → IsProp (AreFewArms instr)
few_arms-prop (Take class mode) = hlevel
few_arms-prop Enter = hlevel
few_arms-prop (Choose arms) = le_prop
few_arms-prop (Go node) = hlevel
few_arms-prop Leave = hlevel
few_arms-prop Call = hlevel
few_arms-prop Exit = hlevel
few_arms-prop (Drop class) = hlevel
few_arms-prop (Handle arms) = hlevel
few_arms-prop EndHandle = hlevel
few_arms-prop Return = hlevel

few-prop : (segment : Segment) → IsProp (IsFew segment)
few-prop segment =
    let arms = AllByRecursion-prop AreFewArms few_arms-prop segment.code in
    hlevel (le_prop, arms)

sized-prop : (plan : Plan) → IsProp (IsSized plan)
sized-prop plan =
    let each = AllByRecursion-prop IsFew few-prop plan.segments in
    hlevel (le_prop, each)

verified-prop : (plan : Plan) → IsProp (IsVerified plan)
verified-prop plan = hlevel

-- ---- out of what is kept

module _ (p : Program) (sigs : List NodeSig) (order : List NodeNo) (sets : List (List Hold)) (sizes : List ℕ)
    (kept : ∥ Keeps p sigs order sets sizes ∥₁) where
  -- a node holds few classes, and has few cases and members
  pub few_holds : (node : ℕ) → length (held_by sets node) ≤ COUNT_LIMIT
  few_holds node = ∥∥₁_elim kept le_prop (λ keeps.
      let few = locks_few p node (held_by sets node) keeps.numbered (keeps.locks node) in
      omega (arith, few, keeps.numbered.few_classes))

  pub few_parts : AllByRecursion (λ node. parts_of node.body ≤ COUNT_LIMIT) p.nodes
  few_parts = ∥∥₁_elim kept (AllByRecursion-prop (λ node. parts_of node.body ≤ COUNT_LIMIT) (λ node. le_prop) p.nodes) (λ keeps. keeps.numbered.parts)

  -- each source's own node and its target are nodes
  pub lines_below : AllByRecursion (λ line. (line.node.0 < length p.nodes) × (line.target.0 < length p.nodes)) p.sources
  lines_below = ∥∥₁_elim kept (AllByRecursion-prop (λ (line : SourceLine). (line.node.0 < length p.nodes) × (line.target.0 < length p.nodes)) (λ line. hlevel le_prop) p.sources)
      (λ keeps. keeps.numbered.sources)

  pub short : length p.nodes ≤ COUNT_LIMIT
  short = ∥∥₁_elim kept le_prop (λ keeps. keeps.numbered.few)

  pub ordered : IsOrder p.nodes order
  ordered = ∥∥₁_elim kept (is_order-prop p.nodes order) (λ keeps. keeps.ordered)

  -- the program's locks are these sets
  pub same_locks : (locks : Holds) → AreLocks p locks → (node : ℕ) → locks node ≡ held_by sets node
  same_locks locks are node =
      ∥∥₁_elim kept (holds-set (locks node) (held_by sets node)) (λ keeps. ap (λ (l : Holds). l node) (locks_once p locks (held_by sets) are keeps.locks))

  -- a plan with the nodes' segments is sound
  module _ (origins : List ℕ) (plan : Plan) (same : plan.segments ≡ segments_of origins sets p.nodes) where
    pub sized : IsSized plan
    sized = ∥∥₁_elim kept (sized-prop plan) (λ keeps. segments_are_sized p origins sets plan same keeps.numbered keeps.locks)

    pub verified : ((from next : ℕ) → IsIn next (leads_in p.nodes from) → IsKnown next origins → ⊥)
        → (IsKnown plan.target.0 origins → ⊥) → plan.target.0 < length p.nodes → IsVerified plan
    verified apart other less = ∥∥₁_elim kept (verified-prop plan) (λ keeps. segments_are_verified p origins sets plan same less other apart keeps.numbered keeps.acyclic keeps.locks)
