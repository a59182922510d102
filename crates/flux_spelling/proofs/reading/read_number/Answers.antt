use Rattle.std.proofs.Common.{ap, ◌+◌}
use Rattle.std.specs.Int.{w64}
use Rattle.std.proofs.lemmas.Int.{to_z-of_z}
use Rattle.std.proofs.lemmas.List.{take_rest}
use Rattle.flux_values.specs.Spellings.{with_sign}
use Rattle.flux_spelling.proofs.NumbersRead.{signed_read, signed_bad, fits_signed}
use Rattle.flux_spelling.proofs.reading.read_number.Goals as goal

pub returns-in-Ok : goal.returns-in-Ok
returns-in-Ok c =
    let digits = rw take_rest at c.in-Ok.ensures in
    let r = signed_read c.args.negative c.args.bytes.now c.from-sign.result _ c.in-Ok.magnitude c.in-Ok.length c.requires c.from-sign.ensures (ap (λ n. 9223372036854775807 + n) c.from.ensures) digits in
    rw (c.signed-number.ensures, to_z-of_z w64 (with_sign c.args.negative c.in-Ok.magnitude) (fits_signed c.args.negative c.in-Ok.magnitude r.1)) r.0

pub returns-in-Err : goal.returns-in-Err
returns-in-Err c =
    let digits = rw take_rest at c.in-Err.ensures in
    signed_bad c.args.negative c.args.bytes.now c.from-sign.result _ c.in-Err.at c.requires c.from-sign.ensures (ap (λ n. 9223372036854775807 + n) c.from.ensures) digits
