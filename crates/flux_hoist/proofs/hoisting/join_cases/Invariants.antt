use Rattle.std.proofs.Common.{take}
use Rattle.flux_hoist.specs.steps.Joining.{AreJoined, held_by_cases}
use Rattle.flux_hoist.proofs.hoisting.join_cases.Given as goal

abbrev pub invariant-loop-case : goal.invariant-loop-case
invariant-loop-case l = AreJoined l.fn.set (held_by_cases l.table (take l.case-index l.cases)) l.set
