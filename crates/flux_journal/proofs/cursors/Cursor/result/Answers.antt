use Rattle.flux_journal.specs.Spelled.{BeginsResult}
use Rattle.flux_journal.proofs.Failing.{on_bad, part_fails}
use Rattle.flux_journal.proofs.Missing.{result_no_values}
use Rattle.flux_journal.proofs.cursors.Cursor.result.Goals as goal

pub returns-in_err-values : goal.returns-in_err-values
returns-in_err-values c =
    part_fails BeginsResult c.args.self.now.rest.now _ c.in_err-values.field-0.0 c.from_residual.result c.from_residual.ensures.1
    (on_bad c.in_err-values.field-0.0 c.in_err-values.ensures (result_no_values c.args.self.now.rest.now c.skip.new.self.rest.now c.if-skip.ensures.found))
