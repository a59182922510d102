use Rattle.std.proofs.Common.{◌≡◌, ◌⊎◌, inl, inr, ◌<◌, ◌+◌, ◌*◌, sym, ap, ◌∙◌, subst, arith, get_or, drop}
use Rattle.flux_values.specs.Reading.{NoDigitFirst}
use Rattle.bencoding.specs.steps.Numbers.{Starts}
use Rattle.bencoding.proofs.DigitsRead.{leading_stuck, outgrown_stuck, quiet_stuck, far_more, digit_of, no_first, at_end}
use Rattle.bencoding.proofs.digits.read_digits.Goals.{then-loop-at-test+else-is_ascii_digit, else-loop-at-test, else-at-gt0-via-then-at-gt0+else-number-eq0, else-at-gt0-via-else-at-gt0}
use Rattle.bencoding.proofs.digits.read_digits.Goals as goal

pub returns-then-number-eq0 : goal.returns-then-number-eq0
returns-then-number-eq0 c =
    let digit = digit_of (get_or c.args.bytes.now c.loop-at.at 0) (sym c.if-is_ascii_digit.ensures.value) in
    leading_stuck c.args.bytes.now c.args.low c.args.high c.loop-at.at c.loop-at.number c.ranges.high.fits
    c.loop-at.invariant c.loop-at-test.true digit.0 (omega (arith, c.if-at-gt0.true)) c.if-number-eq0.true

pub returns-in-None : goal.returns-in-None
returns-in-None c =
    let digit = digit_of (get_or c.args.bytes.now c.loop-at.at 0) (sym c.if-is_ascii_digit.ensures.value) in
    outgrown_stuck c.args.bytes.now c.args.low c.args.high c.loop-at.at c.loop-at.number c.ranges.high.fits
    c.loop-at.invariant c.loop-at-test.true digit.0
    (λ starts. c.in-None.ensures (subst (λ n. Starts (c.loop-at.number * 10 + n) c.args.low c.args.high) (sym digit.1)
    starts))

pub loop-at-preserved : goal.loop-at-preserved
loop-at-preserved c =
    let digit = digit_of (get_or c.args.bytes.now c.loop-at.at 0) (sym c.if-is_ascii_digit.ensures.value) in
    let lead : 0 < c.loop-at.at → c.loop-at.number ≡ 0 → ⊥ = λ some none. elim c.else-at-gt0.branch [
      | else-at-gt0-via-then-at-gt0+else-number-eq0 w ↦ w.if-number-eq0.false none
      | else-at-gt0-via-else-at-gt0 w ↦ omega (arith, w.if-at-gt0.false, some)
    ] in
    far_more c.args.bytes.now c.args.low c.args.high c.loop-at.at c.loop-at.number c.in-Some.next c.loop-at.invariant
    c.loop-at-test.true digit.0 lead (omega arith)
    (c.in-Some.ensures.0 ∙ ap (λ n. c.loop-at.number * 10 + n) digit.1)
    (subst (λ n. Starts n c.args.low c.args.high) (sym c.in-Some.ensures.0) c.in-Some.ensures.1)

pub returns-then-number-low : goal.returns-then-number-low
returns-then-number-low c =
    let none : NoDigitFirst (drop c.loop-at.at c.args.bytes.now) = elim c.loop-at-test.branch [
      | then-loop-at-test+else-is_ascii_digit w ↦ no_first c.args.bytes.now c.loop-at.at w.loop-at-test.true
          (sym w.if-is_ascii_digit.ensures.value)
      | else-loop-at-test w ↦ at_end c.args.bytes.now c.loop-at.at (omega (arith, w.loop-at-test.false))
    ] in
    let few : (c.loop-at.at ≡ 0) ⊎ (c.loop-at.number < c.args.low) =
    elim c.if-number-low.either [ inl start ↦ inl start | inr less ↦ inr less.1 ] in
    quiet_stuck c.args.bytes.now c.args.low c.args.high c.loop-at.at c.loop-at.number c.ranges.high.fits
    c.loop-at.invariant none few
