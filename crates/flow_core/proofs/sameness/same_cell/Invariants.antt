use Rattle.std.proofs.Common.{◌-◌, length}
use Rattle.std.specs.FinMap.{keys}
use Rattle.flow_core.specs.steps.Sameness.{AreSameBelow}
use Rattle.flow_core.proofs.sameness.same_cell.Given as goal

abbrev pub invariant-loop-name : goal.invariant-loop-name
invariant-loop-name l = AreSameBelow l.a l.b l.place

abbrev pub decreases-loop-name : goal.decreases-loop-name
decreases-loop-name l = length (keys l.a) - l.place
