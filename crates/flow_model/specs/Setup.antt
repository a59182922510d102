-- What flows run in. Every definition on journals is about one setup.
use Rattle.std.specs.Prelude.{ℕ, List, Option}
use Rattle.std.specs.List.{slice_get}
use Rattle.flux_values.specs.Meanings.{LibraryMeaning}
use Rattle.flux_model.specs.declared.programs.Program.{Program}
use Rattle.flux_model.specs.declared.items.Item.{Item}
use Rattle.flux_model.specs.Locks.{Holds}
use Rattle.flow_model.specs.Keys.{Cells}

-- a program and what its nodes hold; the items, one for each flow; the cells at the start; and the library
pub record Setup : Type 0 where
  pub program : Program
  pub locks : Holds
  pub items : List Item
  pub opening : Cells
  pub meaning : LibraryMeaning

-- a flow's item
abbrev pub item_of : Setup → ℕ → Option Item
item_of setup flow = slice_get setup.items flow
