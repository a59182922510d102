use Rattle.flux_journal.proofs.Failing.{on_bad, more_fails}
use Rattle.flux_journal.proofs.Missing.{more_bad, more_pushed}
use Rattle.flux_journal.proofs.cursors.Cursor.more_values.Goals as goal

pub returns-in_err-value : goal.returns-in_err-value
returns-in_err-value c =
    more_fails c.args.values.now c.values.values c.args.self.now.rest.now _ c.in_err-value.field-0.0 c.from_residual.result c.from_residual.ensures.1
    (on_bad c.in_err-value.field-0.0 c.in_err-value.ensures (more_bad c.args.values.now c.values.values c.args.self.now.rest.now c.values.self.rest.now c.skip.new.self.rest.now c.values.invariant c.values-test.ensures.found))

pub values-preserved : goal.values-preserved
values-preserved c =
    more_pushed c.args.values.now c.values.values c.add.new.self c.args.self.now.rest.now c.values.self.rest.now c.skip.new.self.rest.now c.value.new.self.rest.now c.in_ok-value.value c.values.invariant c.values-test.ensures.found c.in_ok-value.ensures c.in_ok-add.ensures.added
