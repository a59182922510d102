use Rattle.std.proofs.Common.{◌≡◌, length}
use Rattle.flux_types.specs.Rows.{have_kinds}
use Rattle.flux_types.proofs.comparing.have_kinds.Given as goal

abbrev pub invariant-loop-rest : goal.invariant-loop-rest
invariant-loop-rest l = have_kinds l.fn.types l.fn.kinds ≡ have_kinds l.rest l.left

abbrev pub decreases-loop-rest : goal.decreases-loop-rest
decreases-loop-rest l = length l.rest
