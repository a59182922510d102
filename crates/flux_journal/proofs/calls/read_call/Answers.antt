use Rattle.flux_journal.specs.steps.Reading.{IsCallAt}
use Rattle.flux_journal.proofs.Failing.{on_bad, bad, whole_fails}
use Rattle.flux_journal.proofs.Missing.{call_no_args, call_no_space, call_no_result, call_no_puts, call_no_emission}
use Rattle.flux_journal.proofs.calls.read_call.Goals as goal

pub returns-in_err-args : goal.returns-in_err-args
returns-in_err-args c =
    let p = c.args.program.now in
    whole_fails (IsCallAt p c.args.node c.args.text.now) c.in_err-args.field-0.0 c.from_residual.result c.from_residual.ensures.1
    (on_bad c.in_err-args.field-0.0 c.in_err-args.ensures (call_no_args p c.requires c.args.node c.args.text.now))

pub returns-in_err-expect : goal.returns-in_err-expect
returns-in_err-expect c =
    let p = c.args.program.now in
    whole_fails (IsCallAt p c.args.node c.args.text.now) c.in_err-expect.field-0.0 c.from_residual-in_err-expect.result c.from_residual-in_err-expect.ensures.1
    (bad c.in_err-expect.field-0.0 (call_no_space p c.requires c.args.node c.args.text.now c.in_ok-args.args c.values.new.self.rest.now c.in_ok-args.ensures c.in_err-expect.ensures.1))

pub returns-in_err-result : goal.returns-in_err-result
returns-in_err-result c =
    let p = c.args.program.now in
    whole_fails (IsCallAt p c.args.node c.args.text.now) c.in_err-result.field-0.0 c.from_residual-in_err-result.result c.from_residual-in_err-result.ensures.1
    (on_bad c.in_err-result.field-0.0 c.in_err-result.ensures (call_no_result p c.requires c.args.node c.args.text.now c.in_ok-args.args c.values.new.self.rest.now c.expect.new.self.rest.now c.in_ok-args.ensures c.in_ok-expect.ensures))

pub returns-in_err-puts : goal.returns-in_err-puts
returns-in_err-puts c =
    let p = c.args.program.now in
    whole_fails (IsCallAt p c.args.node c.args.text.now) c.in_err-puts.field-0.0 c.from_residual-in_err-puts.result c.from_residual-in_err-puts.ensures.1
    (on_bad c.in_err-puts.field-0.0 c.in_err-puts.ensures (call_no_puts p c.requires c.args.node c.args.text.now c.in_ok-args.args c.values.new.self.rest.now c.expect.new.self.rest.now c.result.new.self.rest.now c.in_ok-result.result c.in_ok-args.ensures c.in_ok-expect.ensures c.in_ok-result.ensures))

pub returns-in_err-emits : goal.returns-in_err-emits
returns-in_err-emits c =
    let p = c.args.program.now in
    let puts = c.in_ok-puts.ensures in
    whole_fails (IsCallAt p c.args.node c.args.text.now) c.in_err-emits.field-0.0 c.from_residual-in_err-emits.result c.from_residual-in_err-emits.ensures.1
    (on_bad c.in_err-emits.field-0.0 c.in_err-emits.ensures (call_no_emission p c.requires c.args.node c.args.text.now c.in_ok-args.args c.values.new.self.rest.now c.expect.new.self.rest.now c.result.new.self.rest.now c.puts.new.self.rest.now c.in_ok-result.result c.in_ok-puts.puts c.in_ok-args.ensures c.in_ok-expect.ensures c.in_ok-result.ensures puts.0 puts.1))
