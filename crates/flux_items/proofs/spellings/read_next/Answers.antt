use Rattle.std.proofs.lemmas.List.{take_rest}
use Rattle.flux_items.proofs.Valued.{bad_value, too_long, value_read, none_behind}
use Rattle.flux_items.proofs.spellings.read_next.Goals as goal

pub returns-in-Err-BadValue : goal.returns-in-Err-BadValue
returns-in-Err-BadValue c =
    let cause = rw c.in-Err-BadValue.field-0-is at c.in-Err-BadValue.ensures.cause in
    bad_value c.args.text.now c.skip_blanks-front.result.now c.in-Err-BadValue.field-0-0 c.skip_blanks-front.ensures.rest cause

pub returns-in-Err-TooLong : goal.returns-in-Err-TooLong
returns-in-Err-TooLong c =
    let cause = rw c.in-Err-TooLong.field-0-is at c.in-Err-TooLong.ensures.cause in
    too_long c.args.text.now c.skip_blanks-front.result.now c.in-Err-TooLong.field-0-0 c.skip_blanks-front.ensures.rest cause

pub returns-else-ends : goal.returns-else-ends
returns-else-ends c =
    none_behind c.args.text.now c.skip_blanks-front.result.now c.skip_blanks-rest.result.now c.in-Ok.read.0 c.in-Ok.read.1 c.skip_blanks-front.ensures.rest c.in-Ok.ensures.cause
    (rw take_rest at c.skip_blanks-rest.ensures.rest) c.in_default.ensures.none (λ ends. let so = c.if-ends.ensures.1 ends in absurd cc)
