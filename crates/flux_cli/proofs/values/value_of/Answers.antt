use Rattle.flux_cli.proofs.Numbers.{past_first}
use Rattle.flux_cli.proofs.values.value_of.Goals as goal

pub returns-then-number-from : goal.returns-then-number-from
returns-then-number-from c = λ all small.
    past_first c.args.most c.args.digits.now c.loop-rest.rest.now c.loop-rest.number c.from.result c.loop-rest.invariant
    c.in-len1-up.len_at_least c.from.ensures (rw c.from-in-len1-up.ensures at c.if-number-from.true) small
