use Rattle.std.proofs.Common.{◌≡◌, ◌++◌, take}
use Rattle.flux_hoist.specs.Plans.{source_lines}
use Rattle.flux_hoist.specs.Counted.{counted_source}
use Rattle.flux_hoist.proofs.plans.append_sources.Given as goal

abbrev pub invariant-loop-line : goal.invariant-loop-line
invariant-loop-line l = l.out ≡ l.fn.out ++ source_lines l.p (counted_source l.sizes) (take l.line-index l.lines)
