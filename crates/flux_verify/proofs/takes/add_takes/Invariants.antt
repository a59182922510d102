use Rattle.std.proofs.Common.{◌≡◌, take}
use Rattle.flux_verify.specs.steps.Orders.{with_takes}
use Rattle.flux_verify.proofs.takes.add_takes.Given as goal

abbrev pub invariant-loop-take : goal.invariant-loop-take
invariant-loop-take l = l.takes ≡ with_takes l.fn.takes (take l.take-index l.others)
