use Rattle.flux_cells.proofs.Settling.{IsSwept}
use Rattle.flux_cells.proofs.touched.sweep.Given as goal

abbrev pub invariant-loop-key : goal.invariant-loop-key
invariant-loop-key l = IsSwept l.fn.cells.entries l.cells.entries l.keys l.key-index
