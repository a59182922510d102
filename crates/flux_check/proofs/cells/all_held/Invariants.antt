use Rattle.std.proofs.Common.{◌≡◌, drop}
use Rattle.std.specs.List.{list_all}
use Rattle.flux_check.specs.steps.Seen.{is_held}
use Rattle.flux_check.proofs.cells.all_held.Given as goal

abbrev pub invariant-loop-cell : goal.invariant-loop-cell
invariant-loop-cell l = list_all (is_held l.modes l.node) l.cells ≡ list_all (is_held l.modes l.node) (drop l.cell-index l.cells)
