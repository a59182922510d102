use Rattle.std.proofs.Common.{◌≡◌, None, length}
use Rattle.flux_model.specs.Kinds.{sig_at}
use Rattle.flux_edges.specs.steps.Marking.{arms_along}
use Rattle.flux_edges.proofs.handlers.arms_along.Given as goal

abbrev pub invariant-loop-rest : goal.invariant-loop-rest
invariant-loop-rest l = arms_along (sig_at l.sigs) None l.fn.arms l.fn.sites ≡ arms_along (sig_at l.sigs) l.place l.rest l.left

abbrev pub decreases-loop-rest : goal.decreases-loop-rest
decreases-loop-rest l = length l.rest
