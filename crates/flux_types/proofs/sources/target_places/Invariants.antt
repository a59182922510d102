use Rattle.std.proofs.Common.{◌≡◌, None, length}
use Rattle.flux_model.specs.Kinds.{sig_at}
use Rattle.flux_types.specs.steps.Passing.{target_places}
use Rattle.flux_types.proofs.sources.target_places.Given as goal

abbrev pub invariant-loop-rest : goal.invariant-loop-rest
invariant-loop-rest l = target_places (sig_at l.sigs) None l.fn.lines l.fn.sites ≡ target_places (sig_at l.sigs) l.place l.rest l.left

abbrev pub decreases-loop-rest : goal.decreases-loop-rest
decreases-loop-rest l = length l.rest
