use Rattle.std.proofs.Common.{◌≡◌, ◌≤◌, get_or, arith}
use Rattle.flux_spelling.proofs.Decimals.{decimal_taken, none_with_zero, none_read}
use Rattle.flux_spelling.proofs.reading.read_decimal.Goals.{then-length-gt1+else-bytes-eq48, else-length-gt1}
use Rattle.flux_spelling.proofs.reading.read_decimal.Goals as goal

pub returns-in-Ok : goal.returns-in-Ok
returns-in-Ok c = none_with_zero c.args.bytes.now c.args.limit c.in-Ok.field-0-0 c.in-Ok.length c.ranges.limit.fits c.in-Ok.ensures c.if-length-gt1.true c.if-bytes-eq48.true

pub returns-in-Ok-2 : goal.returns-in-Ok-2
returns-in-Ok-2 c =
    let short : get_or c.args.bytes.now 0 0 ≡ 48 → c.in-Ok.length ≤ 1 = λ zero_. elim c.if-length-gt1.branch [
      | then-length-gt1+else-bytes-eq48 w ↦ absurd (w.if-bytes-eq48.false zero_)
      | else-length-gt1 w ↦ omega (arith, w.if-length-gt1.false)
    ] in
    decimal_taken c.args.bytes.now c.args.limit c.in-Ok.field-0-0 c.in-Ok.length c.ranges.limit.fits c.in-Ok.ensures short

pub returns-in-Err : goal.returns-in-Err
returns-in-Err c = none_read c.args.bytes.now c.args.limit c.in-Err._at c.ranges.limit.fits c.in-Err.ensures
