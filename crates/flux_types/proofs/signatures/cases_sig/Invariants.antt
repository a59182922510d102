use Rattle.std.proofs.Common.{◌≡◌, length}
use Rattle.flux_model.specs.Kinds.{sig_at}
use Rattle.flux_types.specs.Signatures.{cases_sig}
use Rattle.flux_types.proofs.signatures.cases_sig.Given as goal

abbrev pub invariant-loop-rest : goal.invariant-loop-rest
invariant-loop-rest l = cases_sig (sig_at l.sigs) l.fn.cases ≡ cases_sig (sig_at l.sigs) l.rest

abbrev pub decreases-loop-rest : goal.decreases-loop-rest
decreases-loop-rest l = length l.rest
