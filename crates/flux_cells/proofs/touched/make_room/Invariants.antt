use Rattle.flux_cells.proofs.Settling.{HasRoom}
use Rattle.flux_cells.proofs.touched.make_room.Given as goal

abbrev pub invariant-loop-key : goal.invariant-loop-key
invariant-loop-key l = HasRoom l.fn.cells.entries l.cells.entries l.keys l.key-index
