use Rattle.flux_journal.proofs.Parted.{value_bad, value_long}
use Rattle.flux_journal.proofs.cursors.Cursor.value.Goals as goal

pub returns-in-Err-BadValue : goal.returns-in-Err-BadValue
returns-in-Err-BadValue c =
    let cause = rw c.in-Err-BadValue.field-0-is at c.in-Err-BadValue.ensures.cause in
    value_bad c.args.self.now.rest.now c.in-Err-BadValue.field-0-0 cause

pub returns-in-Err-TooLong : goal.returns-in-Err-TooLong
returns-in-Err-TooLong c =
    let cause = rw c.in-Err-TooLong.field-0-is at c.in-Err-TooLong.ensures.cause in
    value_long c.args.self.now.rest.now c.in-Err-TooLong.field-0-0 cause
