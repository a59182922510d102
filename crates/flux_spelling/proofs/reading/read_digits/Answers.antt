use Rattle.std.proofs.Common.{inr, sym, arith, get_or}
use Rattle.std.proofs.lemmas.Int.Digits.{digits_value_more}
use Rattle.flux_spelling.proofs.NumbersRead.{digits_more, digit_number, some_before}
use Rattle.flux_spelling.proofs.reading.read_digits.Goals as goal

pub returns-then-number-limit : goal.returns-then-number-limit
returns-then-number-limit c =
    let bytes = c.args.bytes.now in
    let at = c.loop-at.at in
    let digit = digit_number (get_or bytes at 0) (sym c.if-is_ascii_digit.ensures.value) in
    let value = digits_value_more 10 bytes at c.loop-at-test.true in
    inr (record {
      some = some_before bytes at c.loop-at.number c.loop-at.invariant.value (omega (arith, c.if-number-limit.true));
      within = c.loop-at-test.true;
      digits = digits_more bytes at c.loop-at.invariant.digits c.loop-at-test.true digit.0;
      small = omega (arith, c.loop-at.invariant.value, c.loop-at.invariant.small);
      great = omega (arith, value, digit.1, c.loop-at.invariant.value, c.from-digit.ensures, c.if-number-limit.true);
    })

pub loop-at-preserved : goal.loop-at-preserved
loop-at-preserved c =
    let bytes = c.args.bytes.now in
    let at = c.loop-at.at in
    let digit = digit_number (get_or bytes at 0) (sym c.if-is_ascii_digit.ensures.value) in
    let value = digits_value_more 10 bytes at c.loop-at-test.true in
    record {
      within = omega arith;
      digits = digits_more bytes at c.loop-at.invariant.digits c.loop-at-test.true digit.0;
      value = omega (arith, value, digit.1, c.loop-at.invariant.value, c.from-digit.ensures);
      small = omega (arith, c.if-number-limit.false, c.from-digit.ensures, digit.2, c.requires);
    }
