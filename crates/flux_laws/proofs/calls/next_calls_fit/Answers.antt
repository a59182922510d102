use Rattle.flux_laws.proofs.FittingCalls.{next_calls_fit}
use Rattle.flux_laws.proofs.calls.next_calls_fit.Goals as goal

pub returns : goal.returns
returns c = next_calls_fit
