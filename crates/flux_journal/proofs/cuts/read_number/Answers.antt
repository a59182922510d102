use Rattle.flux_journal.proofs.Cutting.{number_none, number_part}
use Rattle.flux_journal.proofs.cuts.read_number.Goals as goal

pub returns-in_default-clause-none : goal.returns-in_default-clause-none
returns-in_default-clause-none c =
    number_part c.args.bytes.now c.args.limit c.in-Some.number c.in-Some.length c.ranges.limit.fits c.in-Some.ensures c.if-length-bytes.false

pub returns-in_default-2-clause-none : goal.returns-in_default-2-clause-none
returns-in_default-2-clause-none c =
    let none = rw c.in_default.is at c.read_decimal.ensures in
    number_none c.args.bytes.now c.args.limit none
