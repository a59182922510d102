use Rattle.std.proofs.Common.{◌≡◌, None, length}
use Rattle.flux_check.specs.steps.Summing.{large_along}
use Rattle.flux_check.proofs.sizing.past_limit.Given as goal

abbrev pub invariant-loop-rest : goal.invariant-loop-rest
invariant-loop-rest l = large_along l.table 0 None l.fn.decls l.fn.lines ≡ large_along l.table l.total l.place l.rest l.left

abbrev pub decreases-loop-rest : goal.decreases-loop-rest
decreases-loop-rest l = length l.rest
