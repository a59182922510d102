use Rattle.std.proofs.Common.{◌≡◌, get_or, true, eqb, sym, arith}
use Rattle.std.proofs.lemmas.Bool.Decides.{nat_tests}
use Rattle.std.proofs.lemmas.List.Sums.{position_or_len_is}
use Rattle.flux_journal.proofs.cuts.length_before.Goals as goal

pub returns-else-text-place-clause-value : goal.returns-else-text-place-clause-value
returns-else-text-place-clause-value c =
    let text = c.args.text.now in
    let at : eqb (get_or text c.loop-place.place 0) c.args.mark ≡ true = grind (arith, nat_tests) in
    sym (position_or_len_is (λ b. eqb b c.args.mark) text c.loop-place.place 0 c.loop-place.invariant.0 c.loop-place.invariant.1 (λ lt. at))

pub returns-after-loop-place-clause-value : goal.returns-after-loop-place-clause-value
returns-after-loop-place-clause-value c =
    let text = c.args.text.now in
    sym (position_or_len_is (λ b. eqb b c.args.mark) text c.loop-place.place 0 c.loop-place.invariant.0 c.loop-place.invariant.1 (λ lt. absurd (omega (arith, lt, c.loop-place-test.false))))
