use Rattle.std.proofs.Common.{◌≡◌, take}
use Rattle.flux_cells.specs.Kept.{cells_of}
use Rattle.flow_state.specs.steps.Cells.{cells_under}
use Rattle.flow_state.proofs.keys.cells_under.Given as goal

abbrev pub invariant-loop-class : goal.invariant-loop-class
invariant-loop-class l = l.read ≡ cells_under l.p (cells_of l.cells) l.session (take l.class-index l.classes)
