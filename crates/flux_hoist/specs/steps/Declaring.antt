-- Steps of the report: what is looked up for it.
use Rattle.std.specs.Prelude.{ℕ, ◌<◌, ◌≤◌, ◌↔◌, List, [], length, Option, unwrap_or}
use Rattle.std.specs.List.{Contains, slice_get}
use Rattle.flux_values.specs.declared.answers.Mode.{Mode}
use Rattle.flux_values.specs.declared.answers.Mode.TheVariants.{Reader, Writer}
use Rattle.flux_model.specs.declared.programs.ClassNo.{ClassNo}
use Rattle.flux_model.specs.declared.programs.NodeNo.{NodeNo}
use Rattle.flux_model.specs.declared.programs.Node.{Node}
use Rattle.flux_model.specs.declared.programs.Hold.{Hold}
use Rattle.flux_model.specs.Locks.{declared_on, HasAtLeast}
use Rattle.flux_hoist.specs.declared.declarers.Declarers.{Declarers}
use Rattle.flux_hoist.specs.Sets.{held_by}
use Rattle.flux_hoist.specs.steps.Lowest.{AreLowest}

-- sets have what the nodes declare
abbrev pub AreOwn : List Node → List (List Hold) → Type 0
AreOwn nodes sets = (number : ℕ) (hold : Hold)
    → HasAtLeast (held_by sets number) hold ↔ HasAtLeast (declared_on (slice_get nodes number)) hold

-- all classes of sets are below a count
abbrev pub AreFewer : List (List Hold) → ℕ → Type 0
AreFewer sets count = (number : ℕ) (hold : Hold) → Contains (held_by sets number) hold
    → hold.class.0 < count

-- how many classes there are up to the greatest that sets have: the least count that all are below
pub record IsClassCount (sets : List (List Hold)) (count : ℕ) : Type 0 where
  pub all : AreFewer sets count
  pub least : (other : ℕ) → AreFewer sets other → count ≤ other

-- the table of a class
abbrev pub table_at : List (List (Option NodeNo)) → ClassNo → List (Option NodeNo)
table_at tables class = unwrap_or (slice_get tables class.0) []

-- the tables of the classes below a count, in one mode
abbrev pub AreTables : List Node → Mode → ℕ → List (List (Option NodeNo)) → Type 0
AreTables nodes mode count tables = (class : ClassNo) → class.0 < count
    → AreLowest nodes (record { class = class; mode = mode }) (table_at tables class)

abbrev pub tables_of : Declarers → Mode → List (List (Option NodeNo))
tables_of declarers Reader = declarers.readers
tables_of declarers Writer = declarers.writers

abbrev pub table_of : Declarers → Hold → List (Option NodeNo)
table_of declarers hold = table_at (tables_of declarers hold.mode) hold.class

-- in each mode a table for each class up to the greatest that sets have, and no more
pub record HasTables (sets : List (List Hold)) (declarers : Declarers) : Type 0 where
  pub readers : IsClassCount sets (length declarers.readers)
  pub writers : IsClassCount sets (length declarers.writers)

-- what nodes declare, and the tables of all that a list holds
pub record Knows (nodes : List Node) (holds : List Hold) (declarers : Declarers) : Type 0 where
  pub own : AreOwn nodes declarers.own
  pub lowest : (hold : Hold) → Contains holds hold → AreLowest nodes hold (table_of declarers hold)

-- and of all that sets hold
abbrev pub KnowsAll : List Node → List (List Hold) → Declarers → Type 0
KnowsAll nodes sets declarers = (number : ℕ) → Knows nodes (held_by sets number) declarers
