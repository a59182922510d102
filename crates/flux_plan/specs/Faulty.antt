-- The faulty places of a plan, and the plans without one.
use Rattle.std.specs.Prelude.{◌≡◌, ◌≢◌, ℕ, ◌<◌, ◌≤◌, ◌^◌, List, length, Option, Some, None, ⊤}
use Rattle.std.specs.List.{slice_get, AllByRecursion}
use Rattle.flux_model.specs.declared.programs.NodeNo.{NodeNo}
use Rattle.flux_model.specs.Children.{IsIn}
use Rattle.flux_plan.specs.declared.plans.Plan.{Plan}
use Rattle.flux_plan.specs.declared.plans.Segment.{Segment}
use Rattle.flux_plan.specs.declared.plans.Instr.{Instr}
use Rattle.flux_plan.specs.declared.plans.Instr.TheVariants.{Choose, Go}
use Rattle.flux_plan.specs.Reading.{Reading, whole, read_more, reading_at}
use Rattle.flux_plan.specs.Leading.{led_by, Reaches, IsOnCycle, IsOpen}

-- the shape can't go on with what is at a place, or the code ends there too early
abbrev pub CantGoOn : ℕ → ℕ → Reading → Option Instr → Type 0
CantGoOn exit place reading None = reading ≢ whole
CantGoOn exit place reading (Some instr) = read_more exit place reading instr ≡ None

pub record IsMisshapen (segment : Segment) (place : ℕ) : Type 0 where
  pub reading : Reading
  pub before : reading_at segment place ≡ Some reading
  pub stops : CantGoOn segment.exit place reading (slice_get segment.code place)

-- the instruction at a place leads to a node with this property
pub record LeadsTo (Has : ℕ → Type 0) (segment : Segment) (place : ℕ) : Type 0 where
  pub instr : Instr
  pub at_ : slice_get segment.code place ≡ Some instr
  pub led : ℕ
  pub leads : IsIn led (led_by instr)
  pub has : Has led

-- the instruction at a place goes to a node at which the takes of its own node aren't closed
pub record GoesOpen (segments : List Segment) (node : ℕ) (segment : Segment) (place : ℕ) : Type 0 where
  pub inner : NodeNo
  pub at_ : slice_get segment.code place ≡ Some (Go inner)
  pub open_ : IsOpen segments node inner.0

-- the four faults of a place in the segment of a node
pub data IsFault (segments : List Segment) (node : ℕ) (segment : Segment) (place : ℕ) : Type 0 where
  misshapen : IsMisshapen segment place → IsFault segments node segment place
  into_nothing : LeadsTo (λ led. length segments ≤ led) segment place → IsFault segments node segment place
  into_cycle : LeadsTo (IsOnCycle segments) segment place → IsFault segments node segment place
  not_closed : GoesOpen segments node segment place → IsFault segments node segment place

-- a place in the segment of a node that the target reaches is faulty; where the target has no segment, that is its place 0
abbrev pub IsFaultIn : Plan → ℕ → ℕ → Option Segment → Type 0
IsFaultIn plan node place None = (node ≡ plan.target.0) × (place ≡ 0)
IsFaultIn plan node place (Some segment) =
    Reaches plan.segments plan.target.0 node × IsFault plan.segments node segment place

abbrev pub IsFaulty : Plan → ℕ → ℕ → Type 0
IsFaulty plan node place = IsFaultIn plan node place (slice_get plan.segments node)

-- a plan without a faulty place
pub record IsVerified (plan : Plan) : Type 0 where
  pub none : (node place : ℕ) → IsFaulty plan node place → ⊥

-- numbers of nodes, places and arms fit 32 bits
abbrev pub AreFewArms : Instr → Type 0
AreFewArms (Choose arms) = length arms < 2 ^ 32
AreFewArms other = ⊤

pub record IsFew (segment : Segment) : Type 0 where
  pub code : length segment.code < 2 ^ 32
  pub arms : AllByRecursion AreFewArms segment.code

pub record IsSized (plan : Plan) : Type 0 where
  pub segments : length plan.segments < 2 ^ 32
  pub each : AllByRecursion IsFew plan.segments

-- what a verified plan keeps
pub record IsVerifiedPlan (plan : Plan) : Type 0 where
  pub verified : IsVerified plan
  pub sized : IsSized plan
