-- The law of verified plans: what they take.
use Rattle.std.specs.Prelude.{◌≡◌, ◌≢◌, ◌⊎◌, ℕ, ◌<◌, true, List, []}
use Rattle.std.specs.List.{Contains}
use Rattle.flux_values.specs.declared.values.Value.{Value}
use Rattle.flux_values.specs.declared.answers.Answer.{Answer}
use Rattle.flux_values.specs.declared.answers.Mode.{Mode}
use Rattle.flux_model.specs.declared.programs.ClassNo.{ClassNo}
use Rattle.flow_model.specs.declared.journals.Key.{Key}
use Rattle.flow_model.specs.declared.journals.Event.{Event}
use Rattle.flux_model.specs.Modes.{at_least}
use Rattle.flow_model.specs.Exclusion.{held_after}
use Rattle.flux_plan.specs.declared.plans.Plan.{Plan}
use Rattle.flux_plan.specs.Machine.{State, takes, acts, Matches, step, beginning}
use Rattle.flux_plan.specs.Runs.{on_the_way, run}
use Rattle.flux_plan.specs.Faulty.{IsVerified}

-- each class has its own key
abbrev pub AreOwnKeys : (ClassNo → Key) → Type 0
AreOwnKeys key = (class : ClassNo) → let own = key class in own.class ≡ class

-- after these events a class is held in at least this mode
pub record HoldsAtLeast (key : ClassNo → Key) (events : List Event) (class : ClassNo) (mode : Mode) : Type 0 where
  pub own : Mode
  pub held : Contains (held_after (key class) [] events) own
  pub enough : at_least own mode ≡ true

-- a class is above all that are held after these events
abbrev pub IsAboveHeld : (ClassNo → Key) → List Event → ClassNo → Type 0
IsAboveHeld key events class =
    (other : ClassNo) → held_after (key other) [] events ≢ [] → other.0 < class.0

-- on whatever way a run of the plan comes before a take, its class is held in at least its mode, or is above all that are
-- held
abbrev pub TakesAreOrdered : Plan → Type 0
TakesAreOrdered plan = (key : ClassNo → Key) → AreOwnKeys key → (matches : Matches)
    (values : List Value) (answers left : List Answer) (steps : ℕ) (events : List Event)
    (state after : State) (class : ClassNo) (mode : Mode)
    → run plan.segments key matches steps (beginning plan values) answers
    ≡ record { events = events; standing = on_the_way state left }
    → step plan.segments matches state ≡ acts (takes class mode) after
    → HoldsAtLeast key events class mode ⊎ IsAboveHeld key events class

-- the law
abbrev pub VerifiedPlansTakeInOrder : Type 0
VerifiedPlansTakeInOrder = (plan : Plan) → IsVerified plan → TakesAreOrdered plan
