-- Which cells a call reads, and under which keys it puts. No promise cites it.
use Rattle.std.specs.Prelude.{ℕ, Bool, List, [], ◌∷◌, map, Option, Some, None}
use Rattle.std.specs.List.{slice_get, find}
use Rattle.std.specs.Option.{option_map}
use Rattle.flux_values.specs.declared.meanings.CellUse.{CellUse}
use Rattle.flux_values.specs.declared.meanings.Sig.{Sig}
use Rattle.flux_values.specs.Cells.{CellMap}
use Rattle.flux_values.specs.Meanings.{LibraryMeaning}
use Rattle.flux_model.specs.declared.programs.ClassNo.{ClassNo}
use Rattle.flux_model.specs.declared.programs.Hold.{Hold}
use Rattle.flux_model.specs.declared.programs.Body.{Body}
use Rattle.flux_model.specs.declared.programs.Body.TheVariants.{Concrete, Abstract}
use Rattle.flux_model.specs.declared.programs.Node.{Node}
use Rattle.flux_model.specs.declared.programs.Program.{Program}
use Rattle.flow_model.specs.declared.journals.Key.{Key}
use Rattle.flow_model.specs.Keys.{Cells}
use Rattle.flow_model.specs.CellsAfter.{is_named}
use Rattle.flow_model.specs.Answers.{cell_at}
use Rattle.flow_state.specs.steps.Places.{key_in}

abbrev pub declares_named : Program → List ℕ → ClassNo → Bool
declares_named p name class = is_named name (slice_get p.classes class.0)

-- the class of a name among constraints
abbrev pub class_in : Program → List Hold → List ℕ → Option ClassNo
class_in p declared name =
    option_map (λ hold. hold.class) (find (λ hold. declares_named p name hold.class) declared)

-- the classes of the names of uses, among constraints
abbrev pub classes_by : Program → List Hold → List CellUse → List (Option ClassNo)
classes_by p declared uses = map (λ use_. class_in p declared use_.name) uses

-- what the library node of a body uses
abbrev pub uses_found : Option Sig → List CellUse
uses_found None = []
uses_found (Some sig) = sig.cells

abbrev pub uses_of : LibraryMeaning → Body → List CellUse
uses_of meaning (Concrete name) = uses_found (meaning.node name)
uses_of meaning (Abstract cases) = []

-- none where there are no constraints
abbrev pub classes_guarded : Program → List Hold → List CellUse → List (Option ClassNo)
classes_guarded p [] uses = []
classes_guarded p (hold ∷ declared) uses = classes_by p (hold ∷ declared) uses

-- the classes of the cells that a node uses, and those of each node
abbrev pub classes_of : LibraryMeaning → Program → Node → List (Option ClassNo)
classes_of meaning p node = classes_guarded p node.declared (uses_of meaning node.body)

abbrev pub classes_read : LibraryMeaning → Program → List (List (Option ClassNo))
classes_read meaning p = map (classes_of meaning p) p.nodes

-- the cells under the keys of classes in a session; an empty one where there is no class
abbrev pub cells_under : Program → Cells → ℕ → List (Option ClassNo) → List CellMap
cells_under p cells session classes = map (λ class. cell_at cells (option_map (key_in p session) class)) classes

-- the keys of constraints in a session
abbrev pub keys_by : Program → ℕ → List Hold → List Key
keys_by p session declared = map (λ (hold : Hold). key_in p session hold.class) declared
