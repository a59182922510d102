-- Copies of cells beside the cells themselves: this mirrors code, and no public promise cites it.
use Rattle.std.specs.Prelude.{◌≡◌, if◌then◌else◌, List, [], ◌∷◌, map, Some, IsSome, unwrap_or}
use Rattle.std.specs.List.{Contains}
use Rattle.std.specs.Map.{lookup}
use Rattle.flux_values.specs.declared.answers.Put.{Put}
use Rattle.flux_values.specs.Cells.{CellMap, no_cell, changed}
use Rattle.flux_model.specs.declared.programs.Program.{Program}
use Rattle.flow_model.specs.declared.journals.Key.{Key}
use Rattle.flow_model.specs.Keys.{Cells, same_key}
use Rattle.flow_model.specs.CellsAfter.{is_named}
use Rattle.flux_cells.specs.Kept.{Kept, kept_at}
use Rattle.flux_cells.specs.Applied.{class_of}

-- copies by key, which lie over the cells; of two under one key, the first
abbrev pub Touched : Type 0
Touched = List (Key × CellMap)

abbrev pub keys_in : Touched → List Key
keys_in touched = map (λ copy. copy.0) touched

abbrev pub overlay : Touched → Cells → Cells
overlay touched cells = λ key. unwrap_or (lookup (same_key key) touched) (cells key)

-- a put, applied to the first copy whose class has its cell name
abbrev pub with_put : Program → Touched → Put → Touched
with_put p [] put = []
with_put p (copy ∷ touched) put =
    if is_named put.cell (class_of p copy.0) then (copy.0, changed copy.1 put.name put.value) ∷ touched
    else copy ∷ with_put p touched put

abbrev pub with_puts : Program → Touched → List Put → Touched
with_puts p touched [] = touched
with_puts p touched (put ∷ puts) = with_puts p (with_put p touched put) puts

-- a cell is kept under each of these keys
abbrev pub AreKept : List Key → Kept → Type 0
AreKept keys kept = (key : Key) → Contains keys key → IsSome (kept_at kept key)

-- empty cells are kept under no other keys
abbrev pub EmptyOnlyAt : List Key → Kept → Type 0
EmptyOnlyAt keys kept = (key : Key) → kept_at kept key ≡ Some no_cell → Contains keys key
