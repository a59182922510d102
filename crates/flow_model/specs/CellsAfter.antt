-- What the cells hold after entries of a journal.
use Rattle.std.specs.Prelude.{ℕ, Bool, false, if◌then◌else◌, List, [], ◌∷◌, Option, Some, None}
use Rattle.std.specs.List.{slice_get, find}
use Rattle.std.specs.Option.{option_map}
use Rattle.std.specs.Str.{bytes_eq}
use Rattle.flux_values.specs.declared.answers.Put.{Put}
use Rattle.flux_values.specs.Cells.{changed}
use Rattle.flux_model.specs.declared.programs.Class.{Class}
use Rattle.flux_model.specs.declared.programs.ClassNo.{ClassNo}
use Rattle.flux_model.specs.declared.programs.Program.{Program}
use Rattle.flux_model.specs.declared.programs.SourceLine.{SourceLine}
use Rattle.flow_model.specs.declared.journals.Event.{Event}
use Rattle.flow_model.specs.declared.journals.Event.TheVariants.{Take, Wait, Enter, Choose, Call, Exit, Drop, End}
use Rattle.flow_model.specs.declared.journals.Entry.{Entry}
use Rattle.flux_model.specs.declared.items.Item.{Item}
use Rattle.flow_model.specs.declared.journals.Key.{Key}
use Rattle.flow_model.specs.Setup.{Setup, item_of}
use Rattle.flux_model.specs.Locks.{declared}
use Rattle.flow_model.specs.Keys.{Cells, same_key, flow_key}

-- a class has this name
abbrev pub is_named : List ℕ → Option Class → Bool
is_named name None = false
is_named name (Some class) = bytes_eq name class.name

-- the class that a node declares under a name
abbrev pub class_named : Program → ℕ → List ℕ → Option ClassNo
class_named p node name = option_map (λ hold. hold.class)
    (find (λ hold. is_named name (slice_get p.classes hold.class.0)) (declared p node))

-- a flow's key of a class
abbrev pub key_on : Setup → Item → Option SourceLine → ClassNo → Option Key
key_on setup item None class = None
key_on setup item (Some line) class =
    Some (flow_key setup.program setup.meaning line item.values class)

abbrev pub key_for : Setup → Option Item → ClassNo → Option Key
key_for setup None class = None
key_for setup (Some item) class =
    key_on setup item (slice_get setup.program.sources item.source.0) class

-- a flow's key of that class which a node declares under a cell's name
abbrev pub key_of : Setup → ℕ → Option ClassNo → Option Key
key_of setup flow None = None
key_of setup flow (Some class) = key_for setup (item_of setup flow) class

abbrev pub cell_key : Setup → ℕ → ℕ → List ℕ → Option Key
cell_key setup flow node name = key_of setup flow (class_named setup.program node name)

-- the cells with a put under a key; where there is no such key, they stay
abbrev pub put_under : Cells → Put → Option Key → Cells
put_under cells put None = cells
put_under cells put (Some key) =
    λ other. if same_key key other then changed (cells other) put.name put.value else cells other

-- the puts of a flow's call at a node, in order
abbrev pub after_puts : Setup → ℕ → ℕ → Cells → List Put → Cells
after_puts setup flow node cells [] = cells
after_puts setup flow node cells (put ∷ puts) =
    after_puts setup flow node (put_under cells put (cell_key setup flow node put.cell)) puts

-- a call changes cells, and no other event does
abbrev pub after_event : Setup → ℕ → Cells → Event → Cells
after_event setup flow cells (Call made) =
    after_puts setup flow made.node.0 cells made.answer.puts
after_event setup flow cells (Take key mode) = cells
after_event setup flow cells (Wait key mode) = cells
after_event setup flow cells (Enter node) = cells
after_event setup flow cells (Choose place) = cells
after_event setup flow cells (Exit node outcome) = cells
after_event setup flow cells (Drop key) = cells
after_event setup flow cells (End outcome) = cells

abbrev pub after_entries : Setup → Cells → List Entry → Cells
after_entries setup cells [] = cells
after_entries setup cells (entry ∷ entries) =
    after_entries setup (after_event setup entry.flow.0 cells entry.event) entries

-- the opening cells, with the puts of the entries' calls in order
abbrev pub cells_after : Setup → List Entry → Cells
cells_after setup entries = after_entries setup setup.opening entries
