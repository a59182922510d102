use Rattle.std.proofs.Common.{drop}
use Rattle.flux_hoist.proofs.Reached.{IsFilled}
use Rattle.flux_hoist.proofs.hoisting.reached.Given as goal

abbrev pub invariant-loop-number : goal.invariant-loop-number
invariant-loop-number l = IsFilled l.nodes l.order (drop l.number-index l.order) l.table
