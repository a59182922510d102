use Rattle.std.proofs.Common.{[], refl}
use Rattle.flux_values.proofs.CellLemmas.{no_entries}
use Rattle.flux_values.proofs.cells.Cell.new.Goals as goal

pub returns : goal.returns
returns c = no_entries [] refl
