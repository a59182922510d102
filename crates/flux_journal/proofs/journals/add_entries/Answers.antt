use Rattle.flux_journal.proofs.Journaled.{read_more, read_bad}
use Rattle.flux_journal.proofs.journals.add_entries.Goals as goal

pub returns-in-Err-BadLine-clause-bad : goal.returns-in-Err-BadLine-clause-bad
returns-in-Err-BadLine-clause-bad c =
    let none = rw c.in-Err-BadLine.field-0-is at c.in-Err-BadLine.ensures in
    read_bad c.args.reader.now.program.now c.args.text.now c.lines.rest.now c.split_line.result.0.now c.split_line.result.1.now c.lines.entries c.args.first c.lines.number c.lines.invariant c.split_line.ensures none

pub lines-preserved : goal.lines-preserved
lines-preserved c =
    read_more c.args.reader.now.program.now c.args.text.now c.lines.rest.now c.split_line.result.0.now c.split_line.result.1.now c.lines.entries c.add.new.self c.in-Ok.entry c.args.first c.lines.number c.lines.invariant c.split_line.ensures
    c.in-Ok.ensures c.in_ok-add-in-Ok.ensures.added
