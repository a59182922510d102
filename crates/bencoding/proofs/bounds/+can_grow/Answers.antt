use Rattle.std.proofs.Common.{rules, arith}
use Rattle.bencoding.proofs.Growing.{grows_self, grows_more, grows_less}
use Rattle.bencoding.proofs.bounds.+can_grow.Goals as goal

pub returns-then-low-number : goal.returns-then-low-number
returns-then-low-number t c =
    (λ _. grows_self c.args.number c.args.low c.args.high c.if-low-number.true c.if-number-high.true, λ _. search rules)

pub returns-else-low-number : goal.returns-else-low-number
returns-else-low-number t c = (
  λ is. grows_more c.args.number c.args.low c.args.high c.requires (c.can_grow.ensures.0 is),
  λ grows. c.can_grow.ensures.1 (grows_less c.args.number c.args.low c.args.high
      (λ le. omega (arith, le, c.if-low-number.false)) grows),
)
