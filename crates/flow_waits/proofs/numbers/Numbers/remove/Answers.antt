use Rattle.std.proofs.Common.{subst, ◌∙◌, ◌≡◌, ◌<◌, true, length}
use Rattle.flow_waits.specs.steps.Waking.{IsLess, has}
use Rattle.flow_waits.proofs.Sets.{less_is, fewer, has_is}
use Rattle.flow_waits.proofs.numbers.Numbers.remove.Goals as goal

pub returns-clause-less : goal.returns-clause-less
returns-clause-less c =
    subst (λ old. IsLess old c.remove.new.self.keys c.args.flow) c.self.view_is
    (less_is c.self.inside.set.keys c.remove.new.self.keys c.args.flow c.remove.ensures.updates.0)

pub returns-clause-fewer : goal.returns-clause-fewer
returns-clause-fewer c =
    subst (λ old. has old c.args.flow ≡ true → length c.remove.new.self.keys < length old) c.self.view_is
    (λ is. fewer (length c.self.inside.set.keys) (length c.remove.new.self.keys) c.remove.result c.remove.ensures.len
    (c.remove.ensures.test ∙ has_is c.self.inside.set.keys c.args.flow ∙ is))
