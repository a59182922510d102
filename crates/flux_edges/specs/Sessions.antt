-- Fault 26 in a program: sources without a session function that lead to a session constraint.
use Rattle.std.specs.Prelude.{ℕ, Bool, false, ◌||◌, List, Option, Some, None}
use Rattle.std.specs.List.{list_any, slice_get}
use Rattle.flux_model.specs.declared.programs.Program.{Program}
use Rattle.flux_model.specs.declared.programs.Class.{Class}
use Rattle.flux_model.specs.declared.programs.Hold.{Hold}
use Rattle.flux_model.specs.Leading.{leads_to}
use Rattle.flux_model.specs.Nested.{Rule, through}

-- a constraint of a session
abbrev pub is_session_class : Option Class → Bool
is_session_class None = false
is_session_class (Some class) = class.session

abbrev pub is_session : List Class → Hold → Bool
is_session classes hold = let class = hold.class in is_session_class (slice_get classes class.0)

-- a node needs a session where it declares such a constraint, or leads to a node that needs one
abbrev pub needs_by : List Class → Rule Bool
needs_by classes needs number node =
    list_any (is_session classes) node.declared || list_any (λ led. needs led.0) (leads_to node)

abbrev pub needs_session : Program → ℕ → Bool
needs_session p number = through false (needs_by p.classes) p.nodes number
