use Rattle.std.proofs.Common.{◌≡◌, map, take}
use Rattle.flux_check.specs.steps.Summing.{line_size}
use Rattle.flux_check.proofs.sizing.line_sizes.Given as goal

abbrev pub invariant-loop-line : goal.invariant-loop-line
invariant-loop-line l = l.sizes ≡ map (line_size l.table) (take l.line-index l.lines)
