-- Frames at places where a segment goes on.
use Rattle.std.specs.Prelude.{◌≡◌, ◌≢◌, ℕ, ◌+◌, ◌<◌, List, Some, ⊤}
use Rattle.std.specs.List.{slice_get, AllByRecursion}
use Rattle.flux_plan.specs.declared.plans.Plan.{Plan}
use Rattle.flux_plan.specs.declared.plans.Segment.{Segment}
use Rattle.flux_plan.specs.declared.plans.Instr.{Instr}
use Rattle.flux_plan.specs.declared.plans.Instr.TheVariants.{Choose, Go, Leave, Handle, Return}
use Rattle.flux_plan.specs.declared.stacks.Frame.{Frame}
use Rattle.flux_plan.specs.Machine.{State}
use Rattle.flux_plan.specs.Reading.{Reading, whole, reading_at}
use Rattle.flux_plan.specs.Leading.{Reaches}

-- the target reaches the node, and the shape of its segment goes on at the place
pub record IsPlaced (plan : Plan) (node place : ℕ) : Type 0 where
  pub reached : Reaches plan.segments plan.target.0 node
  pub segment : Segment
  pub is : slice_get plan.segments node ≡ Some segment
  pub reading : Reading
  pub before : reading_at segment place ≡ Some reading
  pub goes_on : reading ≢ whole

abbrev pub ArePlaced : Plan → List Frame → Type 0
ArePlaced plan frames = AllByRecursion (λ frame. IsPlaced plan frame.node.0 frame.place) frames

abbrev pub AreAllPlaced : Plan → State → Type 0
AreAllPlaced plan state = ArePlaced plan state.frames

-- where an instruction at a place of a node's segment, with this `exit`, leads to: places at which shapes go on, and to
-- `exit` only from before it
abbrev pub AreLedOn : Plan → ℕ → ℕ → ℕ → Instr → Type 0
AreLedOn plan node place exit (Choose arms) = IsPlaced plan node exit × (place < exit)
    × AllByRecursion (λ arm. IsPlaced plan node arm.to) arms
AreLedOn plan node place exit (Go inner) = IsPlaced plan node exit × (place < exit)
    × IsPlaced plan node (place + 1) × IsPlaced plan inner.0 0
AreLedOn plan node place exit Leave = IsPlaced plan node exit × (place < exit)
AreLedOn plan node place exit (Handle arms) = IsPlaced plan node (place + 1)
    × IsPlaced plan node (place + 2) × AllByRecursion (λ arm. IsPlaced plan arm.node.0 0) arms
AreLedOn plan node place exit Return = ⊤
AreLedOn plan node place exit other = IsPlaced plan node (place + 1)
