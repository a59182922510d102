use Rattle.flux_journal.specs.steps.Reading.{BeginsRemoved}
use Rattle.flux_journal.proofs.Failing.{on_bad, part_fails}
use Rattle.flux_journal.proofs.Missing.{removed_no_name}
use Rattle.flux_journal.proofs.cursors.Cursor.removed.Goals as goal

pub returns-in_err-name : goal.returns-in_err-name
returns-in_err-name c =
    part_fails (λ text put rest. BeginsRemoved c.args.program.now text put rest put.value) c.args.self.now.rest.now _ c.in_err-name.field-0.0 c.from_residual-in_err-name.result c.from_residual-in_err-name.ensures.1
    (on_bad c.in_err-name.field-0.0 c.in_err-name.ensures (removed_no_name c.args.program.now c.requires c.args.self.now.rest.now c.cell.new.self.rest.now c.in_ok-cell.cell c.in_ok-cell.ensures))
