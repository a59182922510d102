use Rattle.flux_journal.proofs.Missing.{cell_none}
use Rattle.flux_journal.proofs.cursors.Cursor.cell.Goals as goal

pub returns-in_default-find_cell : goal.returns-in_default-find_cell
returns-in_default-find_cell c = cell_none c.args.program.now c.requires c.args.self.now.rest.now c.in-Some.name.now c.in-Some.rest.now c.in-Some.ensures.found c.in_default-find_cell.ensures.none
