use Rattle.flux_journal.proofs.Failing.{on_bad, line_fails}
use Rattle.flux_journal.proofs.Lined.{entry_no_number, entry_no_event, entry_is}
use Rattle.flux_journal.proofs.lines.Reader.entry.Goals as goal

pub returns-in_default-read_number : goal.returns-in_default-read_number
returns-in_default-read_number c =
    let none = rw c.from.ensures at c.in_default-read_number.ensures.none in
    entry_no_number c.args.self.now.program.now c.args.line.now c.in-Some.number.now c.in-Some.text.now c.in-Some.ensures.found none

pub returns-in_err-event : goal.returns-in_err-event
returns-in_err-event c =
    let p = c.args.self.now.program.now in
    line_fails p c.args.line.now c.in_err-event.field-0.0 c.from_residual.result c.from_residual.ensures.1
    (on_bad c.in_err-event.field-0.0 c.in_err-event.ensures (entry_no_event p c.args.line.now c.in-Some.number.now c.in-Some.text.now c.in-Some.ensures.found))

pub returns : goal.returns
returns c =
    let number = rw c.from.ensures at c.in-Some-read_number.ensures.found in
    entry_is c.args.self.now.program.now c.args.line.now c.in-Some.number.now c.in-Some.text.now (record { flow = record { 0 = c.in-Some-read_number.flow }; event = c.in_ok-event.event }) c.in-Some.ensures.found number c.in_ok-event.ensures
