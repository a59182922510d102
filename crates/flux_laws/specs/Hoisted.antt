-- The locks of a program's nodes, counted out class by class.
use Rattle.std.specs.Prelude.{ℕ, zero, suc, ◌+◌, ◌==◌, ◌&&◌, ◌||◌, nat_le, Bool, true, false, if◌then◌else◌, List, [], ◌∷◌, ◌++◌, length}
use Rattle.std.specs.List.{flat_map, list_any}
use Rattle.flux_values.specs.declared.answers.Mode.{Mode}
use Rattle.flux_values.specs.declared.answers.Mode.TheVariants.{Reader, Writer}
use Rattle.flux_model.specs.declared.programs.NodeNo.{NodeNo}
use Rattle.flux_model.specs.declared.programs.Hold.{Hold}
use Rattle.flux_model.specs.declared.programs.Program.{Program}
use Rattle.flux_model.specs.Leading.{leads_to}
use Rattle.flux_model.specs.Children.{members}
use Rattle.flux_model.specs.Nested.{Rule, through}
use Rattle.flux_model.specs.Ordering.{HasCycle}
use Rattle.flux_model.specs.Numbered.{IsNumbered}
use Rattle.flux_model.specs.Locks.{declared, Holds, AreLocks}

-- the nodes that a node leads on to, some of them several times
abbrev pub reached_by : Rule (List NodeNo)
reached_by reached number node = flat_map (λ led. led ∷ reached led.0) (leads_to node)

abbrev pub reached : Program → ℕ → List NodeNo
reached p number = through [] reached_by p.nodes number

-- the nodes below a node: its members, and what these lead on to
abbrev pub below_of : Program → ℕ → List NodeNo
below_of p number = flat_map (λ member. member ∷ reached p member.0) (members p number)

-- what nodes below a node declare
abbrev pub declared_below : Program → ℕ → List Hold
declared_below p number = flat_map (λ node. declared p node.0) (below_of p number)

-- some of the holds is on a class; on one that isn't less; or a writer's on it
abbrev pub has_class : ℕ → List Hold → Bool
has_class class holds = list_any (λ hold. hold.class.0 == class) holds

abbrev pub has_past : ℕ → List Hold → Bool
has_past class holds = list_any (λ hold. nat_le class hold.class.0) holds

abbrev pub is_writer : Mode → Bool
is_writer Reader = false
is_writer Writer = true

abbrev pub has_writer : ℕ → List Hold → Bool
has_writer class holds = list_any (λ hold. hold.class.0 == class && is_writer hold.mode) holds

-- a node holds a class that it declares, or that is declared below it while it declares one that isn't less
abbrev pub is_held : Program → ℕ → ℕ → Bool
is_held p number class = has_class class (declared p number)
    || (has_class class (declared_below p number) && has_past class (declared p number))

-- in the greatest mode in which it, or a node below it, declares the class
abbrev pub mode_held : Program → ℕ → ℕ → Mode
mode_held p number class =
    if has_writer class (declared p number ++ declared_below p number) then Writer else Reader

abbrev pub held_one : Program → ℕ → ℕ → List Hold
held_one p number class = if is_held p number class
    then record { class = record { 0 = class }; mode = mode_held p number class } ∷ [] else []

-- of so many classes, from one on
abbrev pub held_from : Program → ℕ → ℕ → ℕ → List Hold
held_from p number class zero = []
held_from p number class (suc count) =
    held_one p number class ++ held_from p number (class + 1) count

-- what each node holds
abbrev pub locks_of : Program → Holds
locks_of p number = held_from p number 0 (length p.classes)

-- ---- the law

-- in a numbered program without cycles these are the program's locks
abbrev pub LocksAreThere : Type 0
LocksAreThere = (p : Program) → IsNumbered p → (HasCycle p.nodes → ⊥) → AreLocks p (locks_of p)
