use Rattle.std.proofs.Common.{◌≡◌, take}
use Rattle.flux_model.specs.Leading.{handlers_of}
use Rattle.flux_model.specs.Visits.{with_all}
use Rattle.flux_verify.proofs.reaching.visit_handlers.Given as goal

abbrev pub invariant-loop-arm : goal.invariant-loop-arm
invariant-loop-arm l = l.visits ≡ with_all l.fn.visits (handlers_of (take l.arm-index l.arms))
