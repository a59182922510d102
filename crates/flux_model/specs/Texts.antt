-- How names, modes, values in parentheses and items are printed.
use Rattle.std.specs.Prelude.{ℕ, List, [], ◌∷◌, ◌++◌, map, slice_get, Option, Some, None, codes}
use Rattle.flux_values.specs.Texts.{printed_value}
use Rattle.flux_values.specs.declared.values.Value.{Value}
use Rattle.flux_values.specs.declared.answers.Mode.{Mode}
use Rattle.flux_values.specs.declared.answers.Mode.TheVariants.{Reader, Writer}
use Rattle.flux_model.specs.declared.programs.Program.{Program}
use Rattle.flux_model.specs.declared.programs.Node.{Node}
use Rattle.flux_model.specs.declared.programs.Class.{Class}
use Rattle.flux_model.specs.declared.programs.NodeNo.{NodeNo}
use Rattle.flux_model.specs.declared.programs.SourceLine.{SourceLine}
use Rattle.flux_model.specs.declared.items.Item.{Item}

-- a node's name, a class's name
abbrev pub name_in : Option Node → List ℕ
name_in None = []
name_in (Some node) = node.name

abbrev pub node_name : Program → NodeNo → List ℕ
node_name p node = name_in (slice_get p.nodes node.0)

abbrev pub class_name : Option Class → List ℕ
class_name None = []
class_name (Some class) = class.name

-- pieces with `, ` between them
abbrev pub comma_separated : List (List ℕ) → List ℕ
comma_separated [] = []
comma_separated (piece ∷ []) = piece
comma_separated (piece ∷ next ∷ pieces) = piece ++ codes ", " ++ comma_separated (next ∷ pieces)

-- values in parentheses
abbrev pub printed_values : List Value → List ℕ
printed_values values = codes "(" ++ comma_separated (map printed_value values) ++ codes ")"

-- an item: its source's name and its values
abbrev pub source_name : Program → Option SourceLine → List ℕ
source_name p None = []
source_name p (Some line) = node_name p line.node

abbrev pub printed_item : Program → Item → List ℕ
printed_item p item = source_name p (slice_get p.sources item.source.0) ++ codes " " ++ printed_values item.values

-- a mode, as a mark
abbrev pub printed_mode : Mode → List ℕ
printed_mode Reader = codes "?"
printed_mode Writer = codes "!"
