use Rattle.std.proofs.Common.{◌≡◌, ◌+◌, ◌-◌, refl, arith, append_assoc}
use Rattle.std.proofs.lemmas.Fmt.{decimal_digit, decimal_step}
use Rattle.std.proofs.lemmas.List.{drop-set}
use Rattle.flux_journal.proofs.Decimals.{length_all, length_one, length_step}
use Rattle.flux_journal.proofs.digits.write_digits.Goals as goal

pub loop-left-init : goal.loop-left-init
loop-left-init c = (omega arith, length_all c.args.number c.ranges.number.fits, refl)

pub overflow_sub-start : goal.overflow_sub-start
overflow_sub-start c = omega (arith, length_step c.loop-left.left c.loop-left-test.true c.loop-left.auto.left-fits.fits)

pub loop-left-preserved : goal.loop-left-preserved
loop-left-preserved c =
    let l = c.loop-left in
    let step = length_step l.left c.loop-left-test.true l.auto.left-fits.fits in
    let e : l.start - 1 + 1 ≡ l.start = omega arith in (
      omega arith,
      omega arith,
      rw (drop-set l.bytes (l.start - 1) _ (omega arith), e) (rw (decimal_step l.left c.loop-left-test.true l.auto.left-fits.fits, append_assoc) at l.invariant.2),
    )

pub overflow_sub-start-2 : goal.overflow_sub-start-2
overflow_sub-start-2 c = omega (arith, length_one c.loop-left.left c.loop-left-test.false)

pub returns-clause-written : goal.returns-clause-written
returns-clause-written c =
    let l = c.loop-left in
    let one = length_one l.left c.loop-left-test.false in
    let e : l.start - 1 + 1 ≡ l.start = omega arith in
    rw (drop-set l.bytes (l.start - 1) _ (omega arith), e) (rw (decimal_digit l.left c.loop-left-test.false) at l.invariant.2)
