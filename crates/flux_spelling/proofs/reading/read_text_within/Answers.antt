use Rattle.flux_spelling.proofs.Literals.{text_ok, text_bad, text_long}
use Rattle.flux_spelling.proofs.reading.read_text_within.Goals as goal

pub returns-in-Ok : goal.returns-in-Ok
returns-in-Ok c = rw c.from_vec.ensures (text_ok c.args.bytes.now c.args.limit c.in-Ok.length c.in-Ok.text c.in-Ok.ensures)

pub returns-in-Err-BadValue : goal.returns-in-Err-BadValue
returns-in-Err-BadValue c = let known = rw c.in-Err-BadValue.field-0-is at c.in-Err-BadValue.ensures in text_bad c.args.bytes.now c.args.limit c.in-Err-BadValue.field-0-0 known

pub returns-in-Err-TooLong : goal.returns-in-Err-TooLong
returns-in-Err-TooLong c = let known = rw c.in-Err-TooLong.field-0-is at c.in-Err-TooLong.ensures in text_long c.args.bytes.now c.args.limit c.in-Err-TooLong.field-0-0 known
