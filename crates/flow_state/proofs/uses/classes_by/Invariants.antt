use Rattle.std.proofs.Common.{◌≡◌, take}
use Rattle.flow_state.specs.steps.Cells.{classes_by}
use Rattle.flow_state.proofs.uses.classes_by.Given as goal

abbrev pub invariant-loop-cell : goal.invariant-loop-cell
invariant-loop-cell l = l.classes ≡ classes_by l.p l.declared (take l.cell-index l.uses)
