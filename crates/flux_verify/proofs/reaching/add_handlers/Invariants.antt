use Rattle.std.proofs.Common.{◌≡◌, ◌++◌, take}
use Rattle.flux_model.specs.Leading.{handlers_of}
use Rattle.flux_verify.proofs.reaching.add_handlers.Given as goal

abbrev pub invariant-loop-arm : goal.invariant-loop-arm
invariant-loop-arm l = l.led ≡ l.fn.led ++ handlers_of (take l.arm-index l.arms)
