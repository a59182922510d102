use Rattle.flux_spelling.proofs.Pieces.{digit_found}
use Rattle.flux_spelling.proofs.reading.digit_at.Goals as goal

pub returns-clause-value : goal.returns-clause-value
returns-clause-value c =
    let there = c.in_ok-get.ensures.lookup.3 in
    let digit = c.in_ok-digit.ensures.value in
    digit_found c.args.bytes.now c.args.place c.in_ok-get.field-0.now c.from.result c.in_ok-digit.digit there.0 (there.1 c.in_ok-get.field-0.now) c.from.ensures digit.0 digit.1
