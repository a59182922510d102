-- The keys of classes, and what cells hold under them.
use Rattle.std.specs.Prelude.{ℕ, ◌==◌, ◌&&◌, Bool, true, false, if◌then◌else◌, List, Option, Some, None}
use Rattle.std.specs.List.{slice_get}
use Rattle.flux_values.specs.declared.values.Value.{Value}
use Rattle.flux_values.specs.Meanings.{LibraryMeaning}
use Rattle.flux_values.specs.Cells.{CellMap}
use Rattle.flux_model.specs.declared.programs.Class.{Class}
use Rattle.flux_model.specs.declared.programs.ClassNo.{ClassNo}
use Rattle.flux_model.specs.declared.programs.Program.{Program}
use Rattle.flux_model.specs.declared.programs.SourceLine.{SourceLine}
use Rattle.flow_model.specs.declared.journals.Key.{Key}

abbrev pub same_id : Option ℕ → Option ℕ → Bool
same_id None None = true
same_id None (Some b) = false
same_id (Some a) None = false
same_id (Some a) (Some b) = a == b

-- a key is a class, for a session class with a session's number
abbrev pub same_key : Key → Key → Bool
same_key a b = a.class.0 == b.class.0 && same_id a.id b.id

-- the session's number is what the session function gives for a flow's values; only a source without one, which leads
-- to no session class in sound programs, has none, and 0 is in its place
abbrev pub session_number : LibraryMeaning → Option (List ℕ) → List Value → ℕ
session_number meaning None values = 0
session_number meaning (Some function) values = meaning.id function values

-- the key of a class: the class alone, or with the session's number
abbrev pub class_key : Option Class → ClassNo → ℕ → Key
class_key None class session = record { class = class; id = None }
class_key (Some found) class session =
    record { class = class; id = if found.session then Some session else None }

-- the key of a class for a flow that starts with these values on a source line
abbrev pub flow_key : Program → LibraryMeaning → SourceLine → List Value → ClassNo → Key
flow_key p meaning line values class =
    class_key (slice_get p.classes class.0) class (session_number meaning line.session values)

-- a cell for each key; a key that nothing was put under has the empty one
abbrev pub Cells : Type 0
Cells = Key → CellMap
