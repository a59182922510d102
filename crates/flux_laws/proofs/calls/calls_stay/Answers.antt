use Rattle.flux_laws.proofs.Untouched.{calls_stay}
use Rattle.flux_laws.proofs.calls.calls_stay.Goals as goal

pub returns : goal.returns
returns c = calls_stay
