use Rattle.std.proofs.Common.{drop}
use Rattle.flux_hoist.proofs.LowestNodes.{IsFilled}
use Rattle.flux_hoist.proofs.declarers.lowest_declaring.Given as goal

abbrev pub invariant-loop-number : goal.invariant-loop-number
invariant-loop-number l = IsFilled l.nodes l.hold l.order (drop l.number-index l.order) l.table
