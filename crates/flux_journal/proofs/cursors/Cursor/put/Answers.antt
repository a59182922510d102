use Rattle.std.proofs.Common.{sym, ◌∙◌}
use Rattle.flux_journal.proofs.Failing.{on_bad, put_fails}
use Rattle.flux_journal.proofs.Missing.{bad_set, bad_removed}
use Rattle.flux_journal.proofs.cursors.Cursor.put.Goals as goal

pub returns-in_err-put : goal.returns-in_err-put
returns-in_err-put c =
    put_fails c.args.program.now c.args.self.now.rest.now _ c.in_err-put.field-0.0 c.from_residual.result c.from_residual.ensures.1
    (on_bad c.in_err-put.field-0.0 c.in_err-put.ensures (bad_set c.args.program.now c.args.self.now.rest.now c.skip.new.self.rest.now c.if-skip.ensures.found))

pub returns-in_err-put-2 : goal.returns-in_err-put-2
returns-in_err-put-2 c =
    put_fails c.args.program.now c.args.self.now.rest.now _ c.in_err-put-2.field-0.0 c.from_residual-in_err-put-2.result c.from_residual-in_err-put-2.ensures.1
    (on_bad c.in_err-put-2.field-0.0 c.in_err-put-2.ensures (bad_removed c.args.program.now c.args.self.now.rest.now c.skip-2.new.self.rest.now (sym c.if-skip.ensures.stays ∙ c.if-skip-2.ensures.found)))
