use Rattle.std.proofs.Common.{◌≡◌, map, take}
use Rattle.flux_cells.specs.Kept.{cells_of}
use Rattle.flux_cells.proofs.touched.copies_under.Given as goal

abbrev pub invariant-loop-key : goal.invariant-loop-key
invariant-loop-key l = l.touched.items ≡ map (λ key. (key, cells_of l.cells.entries key)) (take l.key-index l.keys)
