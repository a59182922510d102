-- Cells are kept by key; a key without one has the empty cell.
use Rattle.std.specs.Prelude.{◌≡◌, ◌≢◌, List, Option, Some, unwrap_or}
use Rattle.std.specs.Map.{lookup}
use Rattle.flux_values.specs.Cells.{CellMap, no_cell}
use Rattle.flow_model.specs.declared.journals.Key.{Key}
use Rattle.flow_model.specs.Keys.{Cells, same_key}

-- the cells that are kept, by their keys
abbrev pub Kept : Type 0
Kept = List (Key × CellMap)

abbrev pub kept_at : Kept → Key → Option CellMap
kept_at kept key = lookup (same_key key) kept

-- the cell of each key
abbrev pub cells_of : Kept → Cells
cells_of kept = λ key. unwrap_or (kept_at kept key) no_cell

-- no cell that is kept is empty
abbrev pub NoneIsEmpty : Kept → Type 0
NoneIsEmpty kept = (key : Key) (cell : CellMap) → kept_at kept key ≡ Some cell → cell ≢ no_cell
