use Rattle.std.proofs.Common.{take}
use Rattle.flux_hoist.specs.steps.Joining.{AreJoined}
use Rattle.flux_hoist.proofs.hoisting.join_holds.Given as goal

abbrev pub invariant-loop-hold : goal.invariant-loop-hold
invariant-loop-hold l = AreJoined l.fn.set (take l.hold-index l.holds) l.set
