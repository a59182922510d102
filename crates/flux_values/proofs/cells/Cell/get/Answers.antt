use Rattle.std.proofs.Common.{sym}
use Rattle.flux_values.proofs.CellLemmas.{get_there, get_gap}
use Rattle.flux_values.proofs.cells.Cell.get.Goals as goal

pub returns-in-Ok : goal.returns-in-Ok
returns-in-Ok c =
    sym (get_there c.entries-entries.result.now c.args.self.now c.args.name.now c.in-Ok.place c.index-entries-place.result c.entries-entries.ensures.order c.entries-entries.ensures.same c.in-Ok.ensures)

pub returns-in-Err : goal.returns-in-Err
returns-in-Err c =
    sym (get_gap c.entries-entries.result.now c.args.self.now c.args.name.now c.in-Err.field-0 c.entries-entries.ensures.order c.entries-entries.ensures.same c.in-Err.ensures)
