use Rattle.std.proofs.Common.{◌≡◌, length}
use Rattle.flux_model.specs.Types.{same_types}
use Rattle.flux_model.proofs.signatures.same_types.Given as goal

abbrev pub invariant-loop-rest : goal.invariant-loop-rest
invariant-loop-rest l = same_types l.fn.a l.fn.b ≡ same_types l.rest l.left

abbrev pub decreases-loop-rest : goal.decreases-loop-rest
decreases-loop-rest l = length l.rest
