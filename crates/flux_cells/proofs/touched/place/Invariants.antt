use Rattle.std.proofs.Common.{length}
use Rattle.flux_cells.proofs.Settling.{IsPlaced}
use Rattle.flux_cells.proofs.touched.place.Given as goal

abbrev pub invariant-loop-key : goal.invariant-loop-key
invariant-loop-key l = IsPlaced l.fn.cells.entries l.cells.entries l.fn.touched.items l.touched.items

abbrev pub decreases-loop-key : goal.decreases-loop-key
decreases-loop-key l = length l.touched.items
