use Rattle.flux_journal.specs.steps.Reading.{BeginsSet}
use Rattle.flux_journal.proofs.Failing.{on_bad, bad, part_fails}
use Rattle.flux_journal.proofs.Missing.{set_no_name, set_no_space, set_no_value}
use Rattle.flux_journal.proofs.cursors.Cursor.set.Goals as goal

pub returns-in_err-name : goal.returns-in_err-name
returns-in_err-name c =
    part_fails (λ text put rest. BeginsSet c.args.program.now text put rest put.value) c.args.self.now.rest.now _ c.in_err-name.field-0.0 c.from_residual-in_err-name.result c.from_residual-in_err-name.ensures.1
    (on_bad c.in_err-name.field-0.0 c.in_err-name.ensures (set_no_name c.args.program.now c.requires c.args.self.now.rest.now c.cell.new.self.rest.now c.in_ok-cell.cell c.in_ok-cell.ensures))

pub returns-in_err-expect : goal.returns-in_err-expect
returns-in_err-expect c =
    part_fails (λ text put rest. BeginsSet c.args.program.now text put rest put.value) c.args.self.now.rest.now _ c.in_err-expect.field-0.0 c.from_residual-in_err-expect.result c.from_residual-in_err-expect.ensures.1
    (bad c.in_err-expect.field-0.0 (set_no_space c.args.program.now c.requires c.args.self.now.rest.now c.cell.new.self.rest.now c.in_ok-cell.cell c.in_ok-cell.ensures c.in_ok-name.name c.text.new.self.rest.now c.in_ok-name.ensures c.in_err-expect.ensures.1))

pub returns-in_err-value : goal.returns-in_err-value
returns-in_err-value c =
    part_fails (λ text put rest. BeginsSet c.args.program.now text put rest put.value) c.args.self.now.rest.now _ c.in_err-value.field-0.0 c.from_residual-in_err-value.result c.from_residual-in_err-value.ensures.1
    (on_bad c.in_err-value.field-0.0 c.in_err-value.ensures (set_no_value c.args.program.now c.requires c.args.self.now.rest.now c.cell.new.self.rest.now c.in_ok-cell.cell c.in_ok-cell.ensures c.in_ok-name.name c.text.new.self.rest.now c.expect.new.self.rest.now c.in_ok-name.ensures c.in_ok-expect.ensures))
