use Rattle.flux_headline.proofs.Simulations.{simulations_true}
use Rattle.flux_headline.proofs.laws.simulations_are_true.Goals as goal

pub returns : goal.returns
returns c = simulations_true
