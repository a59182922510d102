-- What the checks of a segment's places answer.
use Rattle.std.specs.Prelude.{◌≡◌, ◌⊎◌, ℕ, ◌≤◌, Bool, true, false, not, ◌&&◌, nat_eq, nat_le, List, length, min, Option, Some, None}
use Rattle.std.specs.List.{list_any, slice_get, Contains}
use Rattle.flux_model.specs.declared.programs.NodeNo.{NodeNo}
use Rattle.flux_model.specs.declared.programs.Hold.{Hold}
use Rattle.flux_model.specs.Modes.{at_least}
use Rattle.flux_model.specs.Children.{IsIn}
use Rattle.flux_plan.specs.declared.plans.Segment.{Segment}
use Rattle.flux_plan.specs.declared.plans.Instr.{Instr}
use Rattle.flux_plan.specs.declared.plans.Instr.TheVariants.{Take, Go}
use Rattle.flux_plan.specs.declared.plans.Plan.{Plan}
use Rattle.flux_verify.specs.declared.verifying.SegmentPlace.{SegmentPlace}
use Rattle.flux_plan.specs.Moves.{code_of}
use Rattle.flux_plan.specs.Faulty.{IsVerified}
use Rattle.flux_verify.specs.Faults.{IsFirstFault}
use Rattle.flux_plan.specs.Leading.{led_by, takes_of, Reaches, IsOnCycle}
use Rattle.flux_model.specs.Visits.{IsKnown}

-- takes have a class in at least a mode
abbrev pub covers : List Hold → Hold → Bool
covers takes hold =
    list_any (λ own. nat_eq own.class.0 hold.class.0 && at_least own.mode hold.mode) takes

-- takes have a class that isn't less
abbrev pub has_past : List Hold → Hold → Bool
has_past takes hold = list_any (λ own. nat_le hold.class.0 own.class.0) takes

-- takes lack one of a class that isn't above all of theirs
abbrev pub lacks : List Hold → Hold → Bool
lacks takes hold = has_past takes hold && not (covers takes hold)

-- takes lack what an instruction takes
abbrev pub lacks_in : List Hold → Instr → Bool
lacks_in takes (Take class mode) = lacks takes (record { class = class; mode = mode })
lacks_in takes other = false

-- takes lack what a node takes
abbrev pub lacks_from : List Segment → List Hold → ℕ → Bool
lacks_from segments takes node = list_any (lacks_in takes) (code_of (slice_get segments node))

-- takes lack what a node takes, if there is one
abbrev pub lacks_at : List Segment → List Hold → Option ℕ → Bool
lacks_at segments takes None = false
lacks_at segments takes (Some node) = lacks_from segments takes node

-- a node is none, or on a cycle
abbrev pub IsAstray : List Segment → ℕ → Type 0
IsAstray segments node = (length segments ≤ node) ⊎ IsOnCycle segments node

-- such a node is among these
pub record HasAstray (segments : List Segment) (nodes : List NodeNo) : Type 0 where
  pub node : ℕ
  pub among : IsIn node nodes
  pub astray : IsAstray segments node

-- none of these numbers is on a cycle
abbrev pub AreOffCycles : List Segment → List ℕ → Type 0
AreOffCycles segments numbers = (number : ℕ) → IsKnown number numbers → IsOnCycle segments number → ⊥

-- takes aren't closed at a node: that one, or one that it reaches, takes what they lack
pub record IsOpenTo (segments : List Segment) (takes : List Hold) (inner : ℕ) : Type 0 where
  pub node : ℕ
  pub reached : Reaches segments inner node
  pub hold : Hold
  pub taken : Contains (takes_of segments node) hold
  pub lacking : lacks takes hold ≡ true

-- an instruction goes to a node at which takes aren't closed
pub record IsGoOpen (segments : List Segment) (takes : List Hold) (instr : Instr) : Type 0 where
  pub inner : NodeNo
  pub is : instr ≡ Go inner
  pub open_ : IsOpenTo segments takes inner.0

-- an instruction leads to what is none or on a cycle, or goes where takes aren't closed
abbrev pub IsMisled : List Segment → List Hold → Instr → Type 0
IsMisled segments takes instr = HasAstray segments (led_by instr) ⊎ IsGoOpen segments takes instr

-- so does the instruction at a place
pub record IsMisledAt (segments : List Segment) (takes : List Hold) (segment : Segment) (place : ℕ) : Type 0 where
  pub instr : Instr
  pub at_ : slice_get segment.code place ≡ Some instr
  pub misled : IsMisled segments takes instr

-- the first of the places with a property, if there is one
abbrev pub IsFirstPlace : (ℕ → Type 0) → Option ℕ → Type 0
IsFirstPlace Has None = (place : ℕ) → Has place → ⊥
IsFirstPlace Has (Some first) = Has first × ((place : ℕ) → Has place → first ≤ place)

-- the earlier of two places
abbrev pub earlier : Option ℕ → Option ℕ → Option ℕ
earlier None second = second
earlier (Some first) None = Some first
earlier (Some first) (Some second) = Some (min first second)

-- the lowest node that has a faulty place, and its first such place, if there is one
abbrev pub IsFirstOf : Plan → Option SegmentPlace → Type 0
IsFirstOf plan None = IsVerified plan
IsFirstOf plan (Some found) = IsFirstFault plan found.node.0 found.at
