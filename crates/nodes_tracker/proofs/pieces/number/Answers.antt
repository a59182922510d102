use Rattle.std.proofs.Common.{arith}
use Rattle.nodes_tracker.proofs.Numbers.{number_read, other_read, nothing_read}
use Rattle.nodes_tracker.proofs.pieces.number.Goals as goal

pub returns-in-Some-clause-same : goal.returns-in-Some-clause-same
returns-in-Some-clause-same c =
    let high = c.ranges.high.fits in
    number_read c.args.low c.args.high c.in-Some.number c.in-Some.length c.args.digits.now c.in-Some.ensures
    c.if-length-digits.true (omega (arith, c.if-low-number.true)) (omega (arith, high))

pub returns-in-Some-2-clause-same : goal.returns-in-Some-2-clause-same
returns-in-Some-2-clause-same c =
    let high = c.ranges.high.fits in
    other_read c.args.low c.args.high c.in-Some.number c.in-Some.length c.args.digits.now c.in-Some.ensures
    (omega (arith, high)) (λ long least. omega (arith, least, c.if-low-number.false))

pub returns-in-Some-2-2-clause-same : goal.returns-in-Some-2-2-clause-same
returns-in-Some-2-2-clause-same c =
    let high = c.ranges.high.fits in
    other_read c.args.low c.args.high c.in-Some.number c.in-Some.length c.args.digits.now c.in-Some.ensures
    (omega (arith, high)) (λ long least. c.if-length-digits.false long)

pub returns-in-None-clause-same : goal.returns-in-None-clause-same
returns-in-None-clause-same c = nothing_read c.args.low c.args.high c.args.digits.now c.in-None.ensures
