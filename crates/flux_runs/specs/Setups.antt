-- What items' flows run in, as journals are judged by it.
use Rattle.std.specs.Prelude.{List}
use Rattle.flux_values.specs.Cells.{no_cell}
use Rattle.flux_values.specs.Meanings.{LibraryMeaning}
use Rattle.flux_model.specs.declared.programs.Program.{Program}
use Rattle.flux_model.specs.declared.items.Item.{Item}
use Rattle.flux_model.specs.Locks.{Holds}
use Rattle.flow_model.specs.Setup.{Setup}

-- a program with its locks, items, a library, and cells that are all empty at the start
abbrev pub setup_of : Program → Holds → List Item → LibraryMeaning → Setup
setup_of program locks items meaning = record {
  program = program;
  locks = locks;
  items = items;
  opening = λ key. no_cell;
  meaning = meaning;
}
