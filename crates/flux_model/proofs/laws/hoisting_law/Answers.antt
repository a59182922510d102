use Rattle.flux_model.proofs.Hoisting.{least_closed}
use Rattle.flux_model.proofs.laws.hoisting_law.Goals as goal

pub returns : goal.returns
returns c = least_closed
