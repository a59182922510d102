-- What segments lead to, and what they take.
use Rattle.std.specs.Prelude.{◌≡◌, ℕ, ◌≤◌, List, [], ◌∷◌}
use Rattle.std.specs.List.{flat_map, slice_get, Contains}
use Rattle.flux_model.specs.declared.programs.NodeNo.{NodeNo}
use Rattle.flux_model.specs.declared.programs.Hold.{Hold}
use Rattle.flux_model.specs.Leading.{handlers_of}
use Rattle.flux_model.specs.Children.{IsIn}
use Rattle.flux_model.specs.Locks.{HasAtLeast}
use Rattle.flux_plan.specs.declared.plans.Segment.{Segment}
use Rattle.flux_plan.specs.declared.plans.Instr.{Instr}
use Rattle.flux_plan.specs.declared.plans.Instr.TheVariants.{Take, Go, Handle}
use Rattle.flux_plan.specs.Moves.{code_of}

-- an instruction leads to nodes: `Go` to its own, `Handle` to those of its arms
abbrev pub led_by : Instr → List NodeNo
led_by (Go node) = node ∷ []
led_by (Handle arms) = handlers_of arms
led_by other = []

-- what a node's segment leads to
abbrev pub leads_from : List Segment → ℕ → List NodeNo
leads_from segments number = flat_map led_by (code_of (slice_get segments number))

-- each is led to from the one before it, from a node to another
abbrev pub IsWay : List Segment → ℕ → List ℕ → ℕ → Type 0
IsWay segments from [] to = from ≡ to
IsWay segments from (next ∷ others) to =
    IsIn next (leads_from segments from) × IsWay segments next others to

-- a node reaches another, or itself, by none or more such steps
pub record Reaches (segments : List Segment) (from to : ℕ) : Type 0 where
  pub between : List ℕ
  pub way : IsWay segments from between to

-- a node is on a cycle: it leads to some node that reaches it
pub record IsOnCycle (segments : List Segment) (node : ℕ) : Type 0 where
  pub next : ℕ
  pub led : IsIn next (leads_from segments node)
  pub back : Reaches segments next node

-- the takes of a segment
abbrev pub taken_by : Instr → List Hold
taken_by (Take class mode) = record { class = class; mode = mode } ∷ []
taken_by other = []

abbrev pub takes_of : List Segment → ℕ → List Hold
takes_of segments number = flat_map taken_by (code_of (slice_get segments number))

-- the takes of a node aren't closed at a node that it goes to: that one, or one that it reaches, has a take of a class that
-- isn't above all that the first node takes, and the first node doesn't take it in at least that mode
pub record IsOpen (segments : List Segment) (outer inner : ℕ) : Type 0 where
  pub node : ℕ
  pub reached : Reaches segments inner node
  pub hold : Hold
  pub taken : Contains (takes_of segments node) hold
  pub own : Hold
  pub takes : Contains (takes_of segments outer) own
  pub most : hold.class.0 ≤ own.class.0
  pub lacks : HasAtLeast (takes_of segments outer) hold → ⊥
