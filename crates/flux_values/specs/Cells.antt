-- A cell is a finite map from texts, in bytewise order, to values.
use Rattle.std.specs.Prelude.{ℕ, List, Option, Some, None}
use Rattle.std.specs.Ordering.{nat_cmp}
use Rattle.std.specs.Cmp.Lexicographic.{slice_cmp}
use Rattle.std.specs.FinMap.{FinMap, empty, insert, remove}
use Rattle.flux_values.specs.declared.values.Value.{Value}

-- texts to values
abbrev pub CellMap : Type 0
CellMap = FinMap (slice_cmp nat_cmp) Value

-- the cell without names
abbrev pub no_cell : CellMap
no_cell = empty

-- a name set to a value, or removed where there is none
abbrev pub changed : CellMap → List ℕ → Option Value → CellMap
changed cell name (Some value) = insert cell name value
changed cell name None = remove cell name
