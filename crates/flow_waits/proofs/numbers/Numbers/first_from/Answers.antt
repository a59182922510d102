use Rattle.std.proofs.Common.{subst}
use Rattle.flow_waits.specs.steps.Waking.{IsEarliest}
use Rattle.flow_waits.proofs.Sets.{earliest-above, earliest-below}
use Rattle.flow_waits.proofs.numbers.Numbers.first_from.Goals as goal

pub returns-in-Some : goal.returns-in-Some
returns-in-Some c =
    subst (λ keys. IsEarliest keys c.args.from c.in-Some.flow.now) c.self.view_is
    (earliest-above c.self.inside.set c.args.from c.range.result (c.range.ensures.in_range tt) c.in-Some.flow.now
    c.next.new.self c.in-Some.ensures.steps)

pub returns-in_ok-first-in-None : goal.returns-in_ok-first-in-None
returns-in_ok-first-in-None c =
    let flow = c.in_ok-first-in-None.field-0.now in
    subst (λ keys. IsEarliest keys c.args.from flow) c.self.view_is
    (earliest-below c.self.inside.set c.args.from c.range.result (c.range.ensures.in_range tt) flow
    c.in-None.ensures.steps.0
    c.in_ok-first-in-None.ensures.member c.in_ok-first-in-None.ensures.least)
